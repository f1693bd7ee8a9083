use Rattle.std.proofs.Common.{rules, ◌∙◌}
use Rattle.std.proofs.lemmas.Iterator.{YieldsList-from_slice}
use Rattle.std.proofs.lemmas.Iterator.Consumers.{nth_from_yields_List, YieldsList-from_filter_map}
use Rattle.firsts.proofs.Found.{itself}
use Rattle.station.specs.Paths.{taken}
use borrow.Author.Tests.{tests}
use Rattle.paths.proofs.along.subroute_at.Goals as goal

pub returns : goal.returns
returns c =
    itself c.nth.result
    ∙ nth_from_yields_List c.nth.result c.nth.new.self c.args.k c.nth.ensures.ran (YieldsList-from_filter_map _ taken (YieldsList-from_slice c.args.actions.now cc) c.filter_map.ensures.closure (λ x r q k. search (rules, tests)))
