use Rattle.std.proofs.Common.{rules, None, refl, ◌∙◌, arith}
use Rattle.std.proofs.lemmas.Iterator.{YieldsList-from_range}
use Rattle.std.proofs.lemmas.Iterator.Consumers.{fold_from_yields_List}
use borrow.Author.Tests.{tests}
use Rattle.firsts.specs.Least.{lower}
use Rattle.firsts.proofs.Lowest.{least_folded}
use Rattle.firsts.proofs.searches.least.Goals as goal

pub returns : goal.returns
returns g c =
    let n = c.args.n in
    let f = g.P.Probe.at c.args.p.now in
    fold_from_yields_List _ (λ o i. lower o (f i)) None c.fold.result c.fold.ensures.ran (YieldsList-from_range 0 n n refl (omega arith)) (λ o i r q k. search (rules, tests))
    ∙ least_folded f n
