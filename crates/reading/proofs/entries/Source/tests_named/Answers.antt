use Rattle.std.proofs.Common.{rules, tests}
use Rattle.std.proofs.lemmas.Iterator.Search.{find_from_yields_List}
use Rattle.firsts.proofs.Seen.{YieldsList-from_seen}
use Rattle.rows.specs.Filters.{named}
use Rattle.rows.specs.Rows.{placed_row}
use Rattle.reading.proofs.entries.Source.tests_named.Goals as goal

pub returns : goal.returns
returns c =
    let found = find_from_yields_List (named c.args.kind c.args.key.first.now c.args.key.second.now) _ _ c.find.result c.find.ensures.ran (YieldsList-from_seen placed_row c.args.self.now.rows.now (cc)) (λ x b q k. search (rules, tests)) in
    let cases = c.map.ensures.cases in
    search (rules, tests, found, cases)
