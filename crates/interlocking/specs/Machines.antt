-- What a machine is: the state of an interlocking over its trackside.
use Rattle.conditions.specs.States.{State, a_state}
use Rattle.track.specs.Meaning.{Meaning}
use Rattle.interlocking.specs.declared.machine.Machine.{Machine}

abbrev pub state_of : {T : Type 0} → (T → Meaning) → Machine T → State
state_of meaning m = a_state m.states (meaning m.track)
