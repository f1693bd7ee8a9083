use Rattle.std.proofs.Common.{rules}
use Rattle.firsts.proofs.Seen.{found_first}
use Rattle.rows.specs.Rows.{placed_row}
use Rattle.naming.specs.Index.{indexed}
use Rattle.naming.specs.Unknown.{unknown_in_row}
use Rattle.naming.proofs.unknown.first_unknown.Goals as goal

pub returns : goal.returns
returns c = found_first placed_row (unknown_in_row (indexed c.args.index.now)) _ _ (λ x o q k. search rules) c.args.rows.now (cc) _ c.find_map.ensures.runs
