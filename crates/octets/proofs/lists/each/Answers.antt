use Rattle.std.proofs.Common.{◌+◌, sym, subst}
use Rattle.octets.proofs.Turns.{Along, begun, gone_on, stopped, ended}
use Rattle.octets.proofs.lists.each.Goals as goal

pub loop-x-init : goal.loop-x-init
loop-x-init g c =
    subst (λ ys. Along (g.C.Code.code c.args.code.now) c.args.xs.now ys 0) (sym c.new-ys.ensures.items) (begun _ _)

pub loop-x-preserved : goal.loop-x-preserved
loop-x-preserved g c =
    subst (λ ys. Along (g.C.Code.code c.args.code.now) c.args.xs.now ys (c.loop-x.x-index + 1)) (sym c.in_ok-push.ensures.items)
    (gone_on _ _ _ _ c.loop-x.invariant c.x-item.result c.loop-x-test.true c.x-item.is c.code.result c.code.ensures c.in-Some.y c.in-Some.is)

pub returns-in_default : goal.returns-in_default
returns-in_default g c =
    stopped _ _ _ _ c.loop-x.invariant c.x-item.result c.loop-x-test.true c.x-item.is c.code.result c.code.ensures c.in_default.is

pub returns : goal.returns
returns g c = ended _ _ _ _ c.loop-x.invariant c.loop-x-test.false
