-- The eleven calls of a trackside: when each is refused, what it answers, and what it leaves.
use Rattle.std.specs.Prelude.{◌≡◌, ℕ, Bool, true, false, cond, length, Some, None, Option, Result, nat_lt}
use Rattle.std.specs.Result.{result_unwrap_or}
use Rattle.station.specs.Alike.{same_position}
use Rattle.station.specs.Station.{Station}
use Rattle.station.specs.declared.tests.Position.{Position}
use Rattle.track.specs.Meaning.{Meaning, a_point, aspect_at, clear, fits, put, state_at, train_at, with_aspect, with_point}
use Rattle.track.specs.Refusals.{after, answer, plainly}
use Rattle.track.specs.Steps.{enter_step, front_step, rear_step, turn_step}
use Rattle.track.specs.Trains.{Train}
use Rattle.track.specs.declared.refusals.Refusal.{Refusal}
use Rattle.track.specs.declared.refusals.Refusal.TheVariants.{Unknown, AtRest, Mismatch}
use Rattle.track.specs.declared.states.Aspect.{Aspect}
use Rattle.track.specs.declared.states.PointState.{PointState}

-- the track fits the station, and i is one of n numbers
abbrev pub numbered : Station → Meaning → ℕ → ℕ → Option Refusal → Option Refusal
numbered s m i n rest = cond (fits s m) (cond (nat_lt i n) rest (Some Unknown)) (Some Mismatch)

abbrev pub point_refusal : Station → Meaning → ℕ → Option Refusal
point_refusal s m i = numbered s m i (length m.points) None

abbrev pub signal_refusal : Station → Meaning → ℕ → Option Refusal
signal_refusal s m i = numbered s m i (length m.signals) None

abbrev pub train_refusal : Station → Meaning → ℕ → Option Refusal
train_refusal s m i = numbered s m i 16 None

abbrev pub segment_refusal : Station → Meaning → ℕ → Option Refusal
segment_refusal s m t = numbered s m t (length s.segments) None

abbrev pub settle_refusal : Station → Meaning → ℕ → Option Refusal
settle_refusal s m i = numbered s m i (length m.points) (cond (state_at m i).settled (Some AtRest) None)

-- driven to the other position: the target changes, and the point is settled or in motion
abbrev pub driven : Meaning → ℕ → Position → Bool → Meaning
driven m i to b = cond (same_position (state_at m i).target to) m (with_point m i (a_point to b))

-- settled, or not
abbrev pub settled_so : Meaning → ℕ → Bool → Meaning
settled_so m i b = cond b (with_point m i (a_point (state_at m i).target true)) m

-- the truth value that was answered
abbrev pub said : {E : Type 0} → Result Bool E → Bool
said r = result_unwrap_or r false

-- the track chooses whether a driven point is settled at once
pub record Drives (s : Station) (m : Meaning) (i : ℕ) (to : Position) (r : Result Unit Refusal) (n : Meaning) : Type 0 where
  pub answers : r ≡ answer (point_refusal s m i) tt
  pub leaves : n ≡ after (point_refusal s m i) m (driven m i to (state_at n i).settled)

-- the track chooses whether the point settles, and says which
pub record Settles (s : Station) (m : Meaning) (i : ℕ) (r : Result Bool Refusal) (n : Meaning) : Type 0 where
  pub answers : r ≡ answer (settle_refusal s m i) (said r)
  pub leaves : n ≡ after (settle_refusal s m i) m (settled_so m i (said r))

pub record Shows (s : Station) (m : Meaning) (i : ℕ) (a : Aspect) (r : Result Unit Refusal) (n : Meaning) : Type 0 where
  pub answers : r ≡ answer (signal_refusal s m i) tt
  pub leaves : n ≡ after (signal_refusal s m i) m (with_aspect m i a)

pub record Enters (s : Station) (m : Meaning) (i g : ℕ) (r : Result Unit Refusal) (n : Meaning) : Type 0 where
  pub answers : r ≡ plainly (enter_step s m i g).answer
  pub leaves : n ≡ put m i (enter_step s m i g).train

pub record Fronts (s : Station) (m : Meaning) (i : ℕ) (r : Result (Option ℕ) Refusal) (n : Meaning) : Type 0 where
  pub answers : r ≡ (front_step s m i).answer
  pub leaves : n ≡ put m i (front_step s m i).train

pub record Rears (s : Station) (m : Meaning) (i : ℕ) (r : Result Unit Refusal) (n : Meaning) : Type 0 where
  pub answers : r ≡ plainly (rear_step s m i).answer
  pub leaves : n ≡ put m i (rear_step s m i).train

pub record Turns (s : Station) (m : Meaning) (i : ℕ) (r : Result Unit Refusal) (n : Meaning) : Type 0 where
  pub answers : r ≡ plainly (turn_step s m i).answer
  pub leaves : n ≡ put m i (turn_step s m i).train

-- the four questions
abbrev pub point_answer : Station → Meaning → ℕ → Result PointState Refusal
point_answer s m i = answer (point_refusal s m i) (state_at m i)

abbrev pub signal_answer : Station → Meaning → ℕ → Result Aspect Refusal
signal_answer s m i = answer (signal_refusal s m i) (aspect_at m i)

abbrev pub clear_answer : Station → Meaning → ℕ → Result Bool Refusal
clear_answer s m t = answer (segment_refusal s m t) (clear m t)

abbrev pub place_answer : Station → Meaning → ℕ → Result Train Refusal
place_answer s m i = answer (train_refusal s m i) (train_at m i)
