use Rattle.std.proofs.Common.{take}
use Rattle.calls.specs.Grants.{AllActed}
use Rattle.interlocking.specs.Machines.{state_of}
use Rattle.track.specs.Meaning.{laid}
use Rattle.interlocking.proofs.machine.Machine.act_all.Given as goal

abbrev pub invariant-loop-a : goal.invariant-loop-a
invariant-loop-a g l =
    AllActed (laid l.station) (take l.a-index l.actions) (state_of g.T.Trackside.meaning l.initial.self) (state_of g.T.Trackside.meaning l.self)
