-- Request, activation and release: when each is refused, and what it leaves.
use Rattle.std.specs.Prelude.{◌≡◌, ℕ, true, false, cond, List, length, Some, None, Option, Result, MatchOption, nat_lt}
use Rattle.std.specs.Option.{option_map_or}
use Rattle.std.specs.List.{FoldsTo}
use Rattle.conditions.specs.Firsts.{first_fails}
use Rattle.conditions.specs.States.{State, a_state}
use Rattle.conditions.specs.Tests.{activation_holds, release_holds, request_holds}
use Rattle.passing.specs.Locks.{is_declared, release_row}
use Rattle.passing.specs.Signals.{signal_of}
use Rattle.states.specs.Denials.{by_test}
use Rattle.states.specs.Routes.{next_state}
use Rattle.states.specs.Slots.{is_locked, moved, route_state, with_lock}
use Rattle.states.specs.declared.denials.Denial.{Denial}
use Rattle.states.specs.declared.denials.Denial.TheVariants.{Unknown, Idle}
use Rattle.states.specs.declared.routes.Event.TheVariants.{Request, Activation}
use Rattle.states.specs.declared.routes.RouteState.{RouteState}
use Rattle.station.specs.Numbers.{route_at}
use Rattle.station.specs.Station.{Station}
use Rattle.station.specs.declared.tests.Action.{Action}
use Rattle.station.specs.declared.tests.Action.TheVariants.{Set, Drive, Take}
use Rattle.station.specs.declared.tests.Lock.{Lock}
use Rattle.station.specs.declared.tests.Position.{Position}
use Rattle.track.specs.Calls.{driven, point_refusal, signal_refusal}
use Rattle.track.specs.Meaning.{Meaning, state_at, with_aspect}
use Rattle.track.specs.Refusals.{after, answer}
use Rattle.track.specs.declared.states.Aspect.{Aspect}
use Rattle.track.specs.declared.states.Aspect.TheVariants.{Proceed}
use Rattle.calls.specs.Matching.{matched}

-- one of the station's routes
abbrev pub on_route : Station → ℕ → Option Denial → Option Denial
on_route s r rest = cond (nat_lt r (length s.routes)) rest (Some Unknown)

-- a point driven as the trackside drives it; the trackside chooses whether it is settled at once
abbrev pub Driven : Station → Meaning → ℕ → Position → Meaning → Type 0
Driven s m p x n = n ≡ after (point_refusal s m p) m (driven m p x (state_at n p).settled)

-- one action of a request row
abbrev pub Acted : Station → Action → State → State → Type 0
Acted s (Set r) v w = w ≡ a_state (moved v.own r Request) v.track
Acted s (Drive p x) v w = (w.own ≡ v.own) × Driven s v.track p x w.track
Acted s (Take l) v w = w ≡ a_state (with_lock v.own l true) v.track

-- the actions one after another, in written order
abbrev pub AllActed : Station → List Action → State → State → Type 0
AllActed s xs v w = FoldsTo (λ x a y. Acted s a x y) v xs w

-- refused: nothing changes; else as the relation says
abbrev pub Leaves : Option Denial → State → Type 0 → State → Type 0
Leaves d v done w = MatchOption d done (λ e. w ≡ v)

abbrev pub request_denial : Station → State → ℕ → Option Denial
request_denial s v r =
    matched s v.track (on_route s r (by_test (first_fails (λ x. request_holds x s v) (route_at s r).tests)))

pub record Requests (s : Station) (v : State) (r : ℕ) (a : Result Unit Denial) (w : State) : Type 0 where
  pub answers : a ≡ answer (request_denial s v r) tt
  pub leaves : Leaves (request_denial s v r) v (AllActed s (route_at s r).actions v w) w

-- 34: the event does not fit the route's state
abbrev pub on_event : Option RouteState → Option Denial → Option Denial
on_event o rest = option_map_or (λ x. rest) o (Some Idle)

abbrev pub activate_denial : Station → State → ℕ → Option Denial
activate_denial s v r =
    matched s v.track (on_route s r (on_event (next_state (route_state v.own r) Activation) (by_test (first_fails (λ x. activation_holds x s v) (route_at s r).activation))))

-- the signal, if any, shows the aspect
abbrev pub shown : Station → Meaning → Option ℕ → Aspect → Meaning
shown s m None x = m
shown s m (Some n) x = after (signal_refusal s m n) m (with_aspect m n x)

-- the route is active, and its first signal shows proceed
abbrev pub activated : Station → State → ℕ → State
activated s v r = a_state (moved v.own r Activation) (shown s v.track (signal_of s r) Proceed)

pub record Activates (s : Station) (v : State) (r : ℕ) (a : Result Unit Denial) (w : State) : Type 0 where
  pub answers : a ≡ answer (activate_denial s v r) tt
  pub leaves : w ≡ after (activate_denial s v r) v (activated s v r)

abbrev pub release_denial : Station → State → Lock → Option Denial
release_denial s v l =
    matched s v.track (cond (is_declared s l) (cond (is_locked v.own l) (by_test (first_fails (λ x. release_holds x s v) (release_row s l))) (Some Idle)) (Some Unknown))

abbrev pub released : State → Lock → State
released v l = a_state (with_lock v.own l false) v.track

pub record Releases (s : Station) (v : State) (l : Lock) (a : Result Unit Denial) (w : State) : Type 0 where
  pub answers : a ≡ answer (release_denial s v l) tt
  pub leaves : w ≡ after (release_denial s v l) v (released v l)
