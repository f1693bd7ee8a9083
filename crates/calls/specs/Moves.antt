-- Settling, entry, front, rear and turn: they go to the trackside, and the interlocking takes note of what comes of them.
use Rattle.std.specs.Prelude.{◌≡◌, ℕ, Bool, false, cond, length, Some, None, Ok, Err, Option, Result}
use Rattle.std.specs.Option.{is_some, option_map, option_map_or}
use Rattle.std.specs.Result.{result_map_both, result_unwrap_or}
use Rattle.conditions.specs.States.{State, a_state}
use Rattle.passing.specs.Signals.{note_from, passed_routes}
use Rattle.states.specs.Slots.{note_at, stepped, with_note}
use Rattle.states.specs.declared.denials.Denial.{Denial}
use Rattle.states.specs.declared.denials.Denial.TheVariants.{Track}
use Rattle.station.specs.Station.{Station}
use Rattle.track.specs.Calls.{place_answer, said, settle_refusal, settled_so}
use Rattle.track.specs.Meaning.{Meaning, put}
use Rattle.track.specs.Refusals.{after, answer, plainly}
use Rattle.track.specs.Steps.{enter_step, front_step, rear_step, refused, turn_step}
use Rattle.track.specs.declared.refusals.Refusal.{Refusal}
use Rattle.track.specs.declared.refusals.Refusal.TheVariants.{Mismatch}
use Rattle.track.specs.declared.states.Aspect.TheVariants.{Stop}
use Rattle.track.specs.declared.states.Step.{Step}
use Rattle.track.specs.Trains.{Train}
use Rattle.calls.specs.Grants.{shown}
use Rattle.calls.specs.Matching.{matches}

-- what the trackside answers is answered
abbrev pub lifted : {A : Type 0} → Result A Refusal → Result A Denial
lifted r = result_map_both (λ x. x) (λ e. Track e) r

abbrev pub settling_refusal : Station → Meaning → ℕ → Option Refusal
settling_refusal s m p = cond (matches s m) (settle_refusal s m p) (Some Mismatch)

-- the trackside chooses whether the point settles, and says which
pub record Settling (s : Station) (v : State) (p : ℕ) (a : Result Bool Denial) (w : State) : Type 0 where
  pub answers : a ≡ lifted (answer (settling_refusal s v.track p) (said a))
  pub leaves : w ≡ a_state v.own (after (settling_refusal s v.track p) v.track (settled_so v.track p (said a)))

-- a step of the trackside, where it matches and the interlocking has slots for the station
abbrev pub guarded : Station → Meaning → Step → Step
guarded s m step = cond (matches s m) step (refused Mismatch)

-- the train's record as the step leaves it, refused or not
abbrev pub carried : State → ℕ → Step → State
carried v t step = a_state v.own (put v.track t step.train)

-- what is left where the trackside answers a refusal, and where it does not
abbrev pub by_answer : {A : Type 0} → Result A Refusal → State → State → State
by_answer (Ok x) denied done = done
by_answer (Err e) denied done = denied

-- a train has passed the signal: every active route from it is unset, it shows stop, and the lowest of those routes is noted
abbrev pub passed : Station → State → ℕ → ℕ → State
passed s v t n =
    a_state (with_note (passed_routes s n v.own (length s.routes)) t (note_from s n v.own)) (shown s v.track (Some n) Stop)

-- the trackside answers that the train's front is in a segment
abbrev pub is_inside : Result Train Refusal → Bool
is_inside r = option_map_or (λ p. is_some p.front) (result_unwrap_or r None) false

-- one place further on, where the front has come into a segment
abbrev pub advanced : Station → State → ℕ → State
advanced s v t =
    a_state (cond (is_inside (place_answer s v.track t)) (with_note v.own t (option_map stepped (note_at v.own t))) v.own) v.track

-- what is noted of a front that went on past the signal, or past none
abbrev pub went_on : Station → State → ℕ → Option ℕ → State
went_on s v t None = advanced s v t
went_on s v t (Some n) = passed s v t n

abbrev pub by_front : Station → State → ℕ → Result (Option ℕ) Refusal → State
by_front s v t (Ok n) = went_on s v t n
by_front s v t (Err e) = v

-- nothing is noted of a train that has turned
abbrev pub turned : State → ℕ → State
turned v t = a_state (with_note v.own t None) v.track

abbrev pub entering : Station → State → ℕ → ℕ → Step
entering s v t n = guarded s v.track (enter_step s v.track t n)

abbrev pub fronting : Station → State → ℕ → Step
fronting s v t = guarded s v.track (front_step s v.track t)

abbrev pub rearing : Station → State → ℕ → Step
rearing s v t = guarded s v.track (rear_step s v.track t)

abbrev pub turning : Station → State → ℕ → Step
turning s v t = guarded s v.track (turn_step s v.track t)

pub record Entering (s : Station) (v : State) (t n : ℕ) (a : Result Unit Denial) (w : State) : Type 0 where
  pub answers : a ≡ lifted (plainly (entering s v t n).answer)
  pub leaves : w ≡ by_answer (entering s v t n).answer (carried v t (entering s v t n)) (passed s (carried v t (entering s v t n)) t n)

pub record Fronting (s : Station) (v : State) (t : ℕ) (a : Result (Option ℕ) Denial) (w : State) : Type 0 where
  pub answers : a ≡ lifted (fronting s v t).answer
  pub leaves : w ≡ by_front s (carried v t (fronting s v t)) t (fronting s v t).answer

pub record Rearing (s : Station) (v : State) (t : ℕ) (a : Result Unit Denial) (w : State) : Type 0 where
  pub answers : a ≡ lifted (plainly (rearing s v t).answer)
  pub leaves : w ≡ carried v t (rearing s v t)

pub record Turning (s : Station) (v : State) (t : ℕ) (a : Result Unit Denial) (w : State) : Type 0 where
  pub answers : a ≡ lifted (plainly (turning s v t).answer)
  pub leaves : w ≡ by_answer (turning s v t).answer (carried v t (turning s v t)) (turned (carried v t (turning s v t)) t)
