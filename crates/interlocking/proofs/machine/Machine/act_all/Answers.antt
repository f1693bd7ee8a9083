use Rattle.track.specs.Meaning.{laid}
use Rattle.interlocking.proofs.Acting.{acted_more}
use Rattle.interlocking.proofs.machine.Machine.act_all.Goals as goal

pub loop-a-preserved : goal.loop-a-preserved
loop-a-preserved g c = acted_more (laid c.args.station.now) c.args.actions.now c.loop-a.a-index _ _ _ _ c.loop-a-test.true c.loop-a.invariant c.act.ensures
