use Rattle.std.proofs.Common.{rules, tests}
use Rattle.std.proofs.lemmas.Iterator.{items_from_collect}
use Rattle.std.proofs.lemmas.Iterator.Consumers.{YieldsList-from_filter_map}
use Rattle.firsts.proofs.Seen.{YieldsList-from_seen}
use Rattle.rows.specs.Rows.{placed_pair}
use Rattle.naming.specs.Index.{indexed}
use Rattle.reading.proofs.entries.Source.resolve_all.Goals as goal

pub returns : goal.returns
returns g c =
    items_from_collect _ c.collect.ensures.ran
    (YieldsList-from_filter_map _ (g.T.Resolve.meant (indexed c.args.self.now.index.now)) (YieldsList-from_seen placed_pair c.args.pairs.now (cc)) c.filter_map.ensures.closure (λ x r q k. search (rules, tests)))
