use Rattle.std.proofs.Common.{map, rules, tests}
use Rattle.std.proofs.lemmas.Iterator.Search.{any_from_yields_List}
use Rattle.firsts.proofs.Seen.{YieldsList-from_seen}
use Rattle.rows.specs.Rows.{placed_pair, placed_row}
use Rattle.naming.specs.Missing.{unreleased_pair}
use Rattle.naming.proofs.missing.lacking.Goals as goal

pub returns-else-not-known-2 : goal.returns-else-not-known-2
returns-else-not-known-2 c =
    let some = any_from_yields_List (unreleased_pair (map placed_row c.args.rows.now)) _ _ _ c.any.ensures.ran (YieldsList-from_seen placed_pair c.in-Request.q.actions.items cc) (λ x b q k. search (rules, tests)) in
    search (rules, tests, some)
