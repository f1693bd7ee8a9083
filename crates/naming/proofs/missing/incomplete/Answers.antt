use Rattle.std.proofs.Common.{map, rules, tests}
use Rattle.std.proofs.lemmas.Iterator.Search.{any_from_yields_List}
use Rattle.firsts.proofs.Seen.{YieldsList-from_seen}
use Rattle.rows.specs.Rows.{placed_row}
use Rattle.naming.specs.Missing.{lacking}
use Rattle.naming.proofs.missing.incomplete.Goals as goal

pub returns-else-not-full-2 : goal.returns-else-not-full-2
returns-else-not-full-2 c =
    let some = any_from_yields_List (lacking (map placed_row c.args.rows.now)) _ _ _ c.any.ensures.ran (YieldsList-from_seen placed_row c.args.rows.now cc) (λ x b q k. search (rules, tests)) in
    search (rules, tests, some)
