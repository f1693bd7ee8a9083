use Rattle.std.proofs.Common.{vec_items}
use Rattle.octets.proofs.Turns.{Along}
use Rattle.octets.proofs.lists.each.Given as goal

abbrev pub invariant-loop-x : goal.invariant-loop-x
invariant-loop-x g l = Along (g.C.Code.code l.code) l.xs (vec_items l.ys) l.x-index
