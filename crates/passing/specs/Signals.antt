-- The signal of each route, and what becomes of the routes from a signal when a train passes it.
use Rattle.std.specs.Prelude.{ℕ, zero, suc, Bool, false, cond, ◌&&◌, find, length, Option, ◌==◌}
use Rattle.std.specs.List.{range_with_len}
use Rattle.std.specs.Option.{option_map, option_map_or}
use Rattle.station.specs.Paths.{on_path}
use Rattle.station.specs.Station.{Station}
use Rattle.station.specs.Subroutes.{segment_of, start}
use Rattle.track.specs.Ways.{governor}
use Rattle.states.specs.Routes.{is_active}
use Rattle.states.specs.Slots.{a_note, moved, route_state}
use Rattle.states.specs.declared.routes.Event.TheVariants.{Passing}
use Rattle.states.specs.declared.slots.Note.{Note}
use Rattle.states.specs.declared.slots.States.{States}

-- the signal at which the route's path starts
abbrev pub signal_of : Station → ℕ → Option ℕ
signal_of s r = governor s (start s (on_path s r 0)) (segment_of s (on_path s r 0))

-- the route is from the signal
abbrev pub from_signal : Station → ℕ → ℕ → Bool
from_signal s n r = option_map_or (λ k. k == n) (signal_of s r) false

-- an active route from the signal becomes unset
abbrev pub passed_route : Station → ℕ → ℕ → States → States
passed_route s n r own = cond (from_signal s n r) (moved own r Passing) own

-- so does every one of the first k routes
unfoldable pub passed_routes : Station → ℕ → States → ℕ → States
passed_routes s n own zero = own
passed_routes s n own (suc k) = passed_route s n k (passed_routes s n own k)

-- the route is active and from the signal
abbrev pub is_active_from : Station → ℕ → States → ℕ → Bool
is_active_from s n own r = from_signal s n r && is_active (route_state own r)

-- the lowest active route from the signal
abbrev pub lowest_from : Station → ℕ → States → Option ℕ
lowest_from s n own = find (is_active_from s n own) (range_with_len 0 (length s.routes))

-- what is noted of a train that passes the signal: that route, at place 0
abbrev pub note_from : Station → ℕ → States → Option Note
note_from s n own = option_map (λ r. a_note r 0) (lowest_from s n own)
