use Rattle.std.proofs.Common.{◌+◌, ◌<◌, List, length, vec_capacity, vec_len, ap, ◌∙◌, arith}
use Rattle.calls.specs.declared.values.Answer.{Answer}
use Rattle.running.proofs.Logs.{grown, one_more}
use Rattle.track.specs.Meaning.{laid}
use Rattle.running.proofs.carrying.carry_out.Goals as goal

pub loop-call-preserved : goal.loop-call-preserved
loop-call-preserved g c =
    let cs = c.args.calls.now in
    let inv = c.loop-call.invariant in
    let l : c.loop-call.call-index < length cs = c.loop-call-test.true in
    let room : vec_len c.loop-call.answers < vec_capacity c.loop-call.answers = omega (arith, l, inv.0, inv.1) in
    let ok = c.push.ensures.succeeds room in (
      grown _ _ _ _ ok c.push.ensures.len ∙ ap (λ n. n + 1) inv.0,
      omega (arith, inv.1, c.push.ensures.capacity),
      one_more (laid c.args.station.now) cs c.loop-call.call-index _ _ _ _ _ _ _ l inv.2 c.call-answer.ensures (grown {X = List Answer} _ _ _ _ ok c.push.ensures.items),
    )
