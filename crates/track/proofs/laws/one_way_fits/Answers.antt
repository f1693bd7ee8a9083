use Rattle.track.proofs.Fitting.{leads_out, one_fits}
use Rattle.track.proofs.laws.one_way_fits.Goals as goal

pub returns : goal.returns
returns c = record { one = one_fits _ c.facts.ensures.follows; out = leads_out _ c.facts.ensures.follows }
