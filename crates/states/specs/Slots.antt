-- The slots of an interlocking: 48 routes, 192 subroutes, 32 zones and the notes of 16 trains, by number.
use Rattle.std.specs.Prelude.{ℕ, ◌+◌, Bool, false, cond, replicate, None, Option, nat_lt, slice_index_or, slice_set}
use Rattle.std.specs.Option.{option_map_or}
use Rattle.station.specs.declared.tests.Lock.{Lock}
use Rattle.station.specs.declared.tests.Lock.TheVariants.{Zone, Subroute}
use Rattle.states.specs.Routes.{next_state}
use Rattle.states.specs.declared.routes.Event.{Event}
use Rattle.states.specs.declared.routes.RouteState.{RouteState}
use Rattle.states.specs.declared.routes.RouteState.TheVariants.{Unset}
use Rattle.states.specs.declared.slots.Note.{Note}
use Rattle.states.specs.declared.slots.States.{States}

-- every route unset, every lock free, no notes
abbrev pub fresh : States
fresh = record { routes = replicate 48 Unset; subroutes = replicate 192 false; zones = replicate 32 false; notes = replicate 16 None }

-- past the last slot a route is unset, a lock free, and nothing is noted
abbrev pub route_state : States → ℕ → RouteState
route_state s r = slice_index_or s.routes r Unset

abbrev pub is_locked : States → Lock → Bool
is_locked s (Zone z) = slice_index_or s.zones z false
is_locked s (Subroute u) = slice_index_or s.subroutes u false

abbrev pub note_at : States → ℕ → Option Note
note_at s t = slice_index_or s.notes t None

abbrev pub with_route : States → ℕ → RouteState → States
with_route s r x = record { routes = slice_set s.routes r x; subroutes = s.subroutes; zones = s.zones; notes = s.notes }

abbrev pub with_next : States → ℕ → Option RouteState → States
with_next s r o = option_map_or (λ x. with_route s r x) o s

-- what the event makes of the route; nothing changes where it does not fit the route's state
abbrev pub moved : States → ℕ → Event → States
moved s r e = with_next s r (next_state (route_state s r) e)

abbrev pub with_lock : States → Lock → Bool → States
with_lock s (Zone z) b = record { routes = s.routes; subroutes = s.subroutes; zones = slice_set s.zones z b; notes = s.notes }
with_lock s (Subroute u) b = record { routes = s.routes; subroutes = slice_set s.subroutes u b; zones = s.zones; notes = s.notes }

abbrev pub with_note : States → ℕ → Option Note → States
with_note s t n = record { routes = s.routes; subroutes = s.subroutes; zones = s.zones; notes = slice_set s.notes t n }

abbrev pub a_note : ℕ → ℕ → Note
a_note r k = record { route = r; place = k }

-- one place further on, up to 255
abbrev pub stepped : Note → Note
stepped n = a_note n.route (cond (nat_lt n.place 255) (n.place + 1) 255)
