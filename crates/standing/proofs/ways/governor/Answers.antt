use Rattle.std.proofs.Common.{rules, refl}
use Rattle.firsts.proofs.Found.{found_map}
use Rattle.standing.proofs.ways.governor.Goals as goal

pub returns : goal.returns
returns c =
    found_map _ _ _ (search rules) (λ i o e. search rules) _ _ _ refl c.signal_count.ensures c.find_map.ensures.runs
