-- The state that a view shows.
use Rattle.conditions.specs.States.{State, a_state}
use Rattle.conditions.specs.declared.view.View.{View}
use Rattle.track.specs.Meaning.{Meaning}

abbrev pub seen : {T : Type 0} → (T → Meaning) → View T → State
seen meaning v = a_state v.states.now (meaning v.track.now)
