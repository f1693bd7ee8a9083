-- A route's state, and what each event makes of it.
use Rattle.std.specs.Prelude.{Bool, true, false, Some, None, Option}
use Rattle.states.specs.declared.routes.Event.{Event}
use Rattle.states.specs.declared.routes.Event.TheVariants.{Request, Activation, Passing}
use Rattle.states.specs.declared.routes.RouteState.{RouteState}
use Rattle.states.specs.declared.routes.RouteState.TheVariants.{Unset, Set, Active}

-- the state after the event; none where the event does not fit the state
abbrev pub next_state : RouteState → Event → Option RouteState
next_state Unset Request = Some Set
next_state Unset Activation = None
next_state Unset Passing = None
next_state Set Request = None
next_state Set Activation = Some Active
next_state Set Passing = None
next_state Active Request = None
next_state Active Activation = None
next_state Active Passing = Some Unset

-- neither set nor active
abbrev pub is_unset : RouteState → Bool
is_unset Unset = true
is_unset Set = false
is_unset Active = false

abbrev pub is_active : RouteState → Bool
is_active Unset = false
is_active Set = false
is_active Active = true
