use Rattle.std.proofs.Common.{rules}
use Rattle.firsts.proofs.Seen.{found_first}
use Rattle.rows.specs.Rows.{placed_pair}
use Rattle.naming.specs.Index.{indexed}
use Rattle.naming.specs.Unknown.{unknown_pair}
use Rattle.naming.proofs.index.Index.unknown_in.Goals as goal

pub returns : goal.returns
returns c = found_first placed_pair (unknown_pair (indexed c.args.self.now)) _ _ (λ x o q k. search rules) c.args.pairs.now (cc) _ c.find_map.ensures.runs
