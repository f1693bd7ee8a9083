use Rattle.holding.proofs.Ways.{held_ways}
use Rattle.holding.proofs.laws.held_ways.Goals as goal

pub returns : goal.returns
returns c = held_ways _ c.facts.ensures.rules c.facts.ensures.follows
