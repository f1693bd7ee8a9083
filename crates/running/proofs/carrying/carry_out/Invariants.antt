use Rattle.std.proofs.Common.{◌≡◌, ◌≤◌, length, take, vec_capacity, vec_len}
use Rattle.interlocking.specs.Machines.{state_of}
use Rattle.running.specs.Logs.{Log}
use Rattle.track.specs.Meaning.{laid}
use Rattle.running.proofs.carrying.carry_out.Given as goal

abbrev pub invariant-loop-call : goal.invariant-loop-call
invariant-loop-call g l =
    (vec_len l.answers ≡ l.call-index)
    × (length l.calls ≤ vec_capacity l.answers)
    × Log (laid l.station) (state_of g.T.Trackside.meaning l.initial.machine) (take l.call-index l.calls) l.answers.items (state_of g.T.Trackside.meaning l.machine)
