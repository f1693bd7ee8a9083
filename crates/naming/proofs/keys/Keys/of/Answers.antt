use Rattle.std.proofs.Common.{map, filter, vec_items, rules, tests, ◌≡◌}
use Rattle.std.proofs.lemmas.Iterator.{YieldsList-from_map_by}
use Rattle.std.proofs.lemmas.Iterator.Consumers.{YieldsList-at, YieldsList-from_filter, map_from_collect}
use Rattle.std.proofs.lemmas.Result.{IfOk-at_ok}
use Rattle.firsts.proofs.Seen.{YieldsList-from_seen}
use Rattle.rows.specs.Filters.{of_head}
use Rattle.rows.specs.Rows.{placed_row}
use Rattle.naming.specs.Keys.{names, names_in, keys_of}
use Rattle.naming.proofs.keys.Keys.of.Goals as goal

pub returns : goal.returns
unfolding keys_of
returns c =
    IfOk-at_ok (λ v. map names (vec_items v) ≡ map names_in (filter (of_head c.args.kind) (map placed_row c.args.rows.now))) c.in_ok-list.was
    (map_from_collect _ c.collect.ensures.ran
    (YieldsList-from_map_by _ names names_in
    (YieldsList-at c.map.ensures.source (YieldsList-from_filter _ (of_head c.args.kind) (YieldsList-from_seen placed_row c.args.rows.now (cc)) c.filter.ensures.closure (λ x b q k. search (rules, tests))))
    c.map.ensures.closure (λ x r q k. search rules)))
