-- What the calls on one train come to, case by case.
use Rattle.std.proofs.Common.{◌≡◌, ℕ, ◌<◌, Bool, true, false, cond, ltb, length, Some, None, Option, sym, refl, ◌∙◌, subst, inl, inr}
use Rattle.std.proofs.lemmas.Bool.{cases_Bool, cond-true, cond-false, ltb-true}
use Rattle.station.specs.Joints.{across, signalled}
use Rattle.station.specs.Numbers.{signal_at}
use Rattle.station.specs.Station.{Station}
use Rattle.station.specs.declared.tables.Beyond.{Beyond}
use Rattle.station.specs.declared.tables.Beyond.TheVariants as beyond
use Rattle.track.specs.Meaning.{Meaning, aspect_at, fits, train_at}
use Rattle.track.specs.Steps.{derailing, done, enter_step, enter_train, front_by, front_over, front_step, front_train, is_outside, on_train, onward, rear_step, rear_train, refused, turn_by, turn_step, turn_train}
use Rattle.track.specs.Trains.{come_in, gone_on, present, Train}
use Rattle.track.specs.Ways.{governor, halts, is_stop, way_out}
use Rattle.track.specs.declared.refusals.Refusal.{Refusal}
use Rattle.track.specs.declared.refusals.Refusal.TheVariants.{Unknown, Presence, StopAhead, Extent, Unsignalled, OffTrack, Mismatch}
use Rattle.track.specs.declared.states.Place.{Place}
use Rattle.track.specs.declared.states.Step.{Step}

-- an entry is refused, or an absent train comes in past a signal that does not show stop
pub data EnterCase (s : Station) (m : Meaning) (t n : ℕ) : Step → Type 0 where
  denied : (e : Refusal) → EnterCase s m t n (refused e)
  enters : t < 16 → n < length m.signals → train_at m t ≡ None → is_stop (aspect_at m n) ≡ false → EnterCase s m t n (done (Some n) (come_in (signal_at s n).segment (signal_at s n).joint))

-- a front is refused, or no way fits, or the train goes outside, or into a segment past a signal that does not show stop, or past none
pub data FrontCase (s : Station) (m : Meaning) (t : ℕ) : Step → Type 0 where
  denied : (e : Refusal) → FrontCase s m t (refused e)
  derails : (x j : ℕ) (p : Place) → train_at m t ≡ come_in x j → way_out s m x j ≡ None → FrontCase s m t (derailing p)
  leaves : (x j k : ℕ) → t < 16 → train_at m t ≡ come_in x j → way_out s m x j ≡ Some k → across s k x ≡ beyond.Outside → FrontCase s m t (done None (gone_on None k x))
  goes : (x j k u : ℕ) (g : Option ℕ) → t < 16 → train_at m t ≡ come_in x j → way_out s m x j ≡ Some k → across s k x ≡ beyond.Segment u → governor s k u ≡ g → halts m g ≡ false → FrontCase s m t (done g (gone_on (Some u) k x))

-- a rear is refused, or the train draws in behind its front, or it is gone
pub data RearCase (m : Meaning) (t : ℕ) : Step → Type 0 where
  denied : (e : Refusal) → RearCase m t (refused e)
  draws : (x j b : ℕ) → t < 16 → train_at m t ≡ present (Some x) j (Some b) false → RearCase m t (done None (come_in x j))
  ends : (j b : ℕ) → t < 16 → train_at m t ≡ present None j (Some b) false → RearCase m t (done None None)

-- a turn is refused, or no way fits, or the train turns before a signal
pub data TurnCase (s : Station) (m : Meaning) (t : ℕ) : Step → Type 0 where
  denied : (e : Refusal) → TurnCase s m t (refused e)
  derails : (x j : ℕ) (p : Place) → train_at m t ≡ come_in x j → way_out s m x j ≡ None → TurnCase s m t (derailing p)
  turns : (x j k y : ℕ) → t < 16 → train_at m t ≡ come_in x j → way_out s m x j ≡ Some k → across s j x ≡ beyond.Segment y → signalled s j y ≡ true → TurnCase s m t (done None (come_in x k))

module _ (s : Station) (m : Meaning) (t : ℕ) (fit : fits s m ≡ true) where
  -- a call on one of the 16 trains is what it comes to for that train
  on_one : (P : Step → Type 0) (step : Step) → P (refused Unknown) → (t < 16 → P step) → P (on_train s m t step)
  on_one P step u f =
      elim (cases_Bool (ltb t 16)) [
        | inl a ↦ subst P (sym (cond-true (fits s m) (cond (ltb t 16) step (refused Unknown)) (refused Mismatch) fit ∙ cond-true (ltb t 16) step (refused Unknown) a)) (f (ltb-true t 16 a))
        | inr a ↦ subst P (sym (cond-true (fits s m) (cond (ltb t 16) step (refused Unknown)) (refused Mismatch) fit ∙ cond-false (ltb t 16) step (refused Unknown) a)) u
      ]

  pub enter_case : (n : ℕ) → EnterCase s m t n (enter_step s m t n)
  enter_case n = on_one (EnterCase s m t n) _ (denied Unknown) (λ ht. by_number ht (ltb n (length m.signals)) refl)
    where
      by_aspect : t < 16 → n < length m.signals → train_at m t ≡ None → (b c : Bool) → is_stop (aspect_at m n) ≡ c → EnterCase s m t n (cond b (cond c (refused StopAhead) (done (Some n) (come_in (signal_at s n).segment (signal_at s n).joint))) (refused StopAhead))
      by_aspect ht hn e false c d = denied StopAhead
      by_aspect ht hn e true true d = denied StopAhead
      by_aspect ht hn e true false d = enters ht hn e d

      by_train : t < 16 → n < length m.signals → (tr : Train) → train_at m t ≡ tr → EnterCase s m t n (enter_train s m n tr)
      by_train ht hn None e = by_aspect ht hn e (is_outside (across s (signal_at s n).joint (signal_at s n).segment)) (is_stop (aspect_at m n)) refl
      by_train ht hn (Some p) e = denied Presence

      by_number : t < 16 → (b : Bool) → ltb n (length m.signals) ≡ b → EnterCase s m t n (cond b (enter_train s m n (train_at m t)) (refused Unknown))
      by_number ht true e = by_train ht (ltb-true n (length m.signals) e) (train_at m t) refl
      by_number ht false e = denied Unknown

  pub front_case : FrontCase s m t (front_step s m t)
  front_case = on_one (FrontCase s m t) _ (denied Unknown) (λ ht. by_train ht (train_at m t) refl)
    where
      by_signal : (x j k u : ℕ) → t < 16 → train_at m t ≡ come_in x j → way_out s m x j ≡ Some k → across s k x ≡ beyond.Segment u → (c : Bool) → halts m (governor s k u) ≡ c → FrontCase s m t (cond c (refused StopAhead) (done (governor s k u) (gone_on (Some u) k x)))
      by_signal x j k u ht e d a true c = denied StopAhead
      by_signal x j k u ht e d a false c = goes x j k u (governor s k u) ht e d a refl c

      by_beyond : (x j k : ℕ) → t < 16 → train_at m t ≡ come_in x j → way_out s m x j ≡ Some k → (b : Beyond) → across s k x ≡ b → FrontCase s m t (front_over s m x k b)
      by_beyond x j k ht e d (beyond.Segment u) a = by_signal x j k u ht e d a (halts m (governor s k u)) refl
      by_beyond x j k ht e d beyond.Outside a = leaves x j k ht e d a
      by_beyond x j k ht e d beyond.BufferStop a = denied Extent

      by_way : (x j : ℕ) → t < 16 → train_at m t ≡ come_in x j → (o : Option ℕ) → way_out s m x j ≡ o → FrontCase s m t (front_by s m (record { front = Some x; joint = j; rear = None; derailed = false }) x o)
      by_way x j ht e None d = derails x j (record { front = Some x; joint = j; rear = None; derailed = false }) e d
      by_way x j ht e (Some k) d = by_beyond x j k ht e d (across s k x) refl

      by_place : t < 16 → (f : Option ℕ) (j : ℕ) (r : Option ℕ) (d : Bool) → train_at m t ≡ present f j r d → FrontCase s m t (front_train s m (present f j r d))
      by_place ht f j r true e = denied OffTrack
      by_place ht (Some x) j None false e = by_way x j ht e (way_out s m x j) refl
      by_place ht (Some x) j (Some u) false e = denied Extent
      by_place ht None j None false e = denied Extent
      by_place ht None j (Some u) false e = denied Extent

      by_train : t < 16 → (tr : Train) → train_at m t ≡ tr → FrontCase s m t (front_train s m tr)
      by_train ht None e = denied Presence
      by_train ht (Some p) e = by_place ht p.front p.joint p.rear p.derailed e

  pub rear_case : RearCase m t (rear_step s m t)
  rear_case = on_one (RearCase m t) _ (denied Unknown) (λ ht. by_train ht (train_at m t) refl)
    where
      by_place : t < 16 → (f : Option ℕ) (j : ℕ) (r : Option ℕ) (d : Bool) → train_at m t ≡ present f j r d → RearCase m t (rear_train (present f j r d))
      by_place ht f j r true e = denied OffTrack
      by_place ht (Some x) j (Some b) false e = draws x j b ht e
      by_place ht None j (Some b) false e = ends j b ht e
      by_place ht f j None false e = denied Extent

      by_train : t < 16 → (tr : Train) → train_at m t ≡ tr → RearCase m t (rear_train tr)
      by_train ht None e = denied Presence
      by_train ht (Some p) e = by_place ht p.front p.joint p.rear p.derailed e

  pub turn_case : TurnCase s m t (turn_step s m t)
  turn_case = on_one (TurnCase s m t) _ (denied Unknown) (λ ht. by_train ht (train_at m t) refl)
    where
      by_signal : (x j k y : ℕ) → t < 16 → train_at m t ≡ come_in x j → way_out s m x j ≡ Some k → across s j x ≡ beyond.Segment y → (c : Bool) → signalled s j y ≡ c → TurnCase s m t (cond c (done None (come_in x k)) (refused Unsignalled))
      by_signal x j k y ht e d a true c = turns x j k y ht e d a c
      by_signal x j k y ht e d a false c = denied Unsignalled

      by_beyond : (x j k : ℕ) → t < 16 → train_at m t ≡ come_in x j → way_out s m x j ≡ Some k → (b : Beyond) → across s j x ≡ b → TurnCase s m t (cond (onward s j b) (done None (come_in x k)) (refused Unsignalled))
      by_beyond x j k ht e d (beyond.Segment y) a = by_signal x j k y ht e d a (signalled s j y) refl
      by_beyond x j k ht e d beyond.Outside a = denied Unsignalled
      by_beyond x j k ht e d beyond.BufferStop a = denied Unsignalled

      by_way : (x j : ℕ) → t < 16 → train_at m t ≡ come_in x j → (o : Option ℕ) → way_out s m x j ≡ o → TurnCase s m t (turn_by s (record { front = Some x; joint = j; rear = None; derailed = false }) x o)
      by_way x j ht e None d = derails x j (record { front = Some x; joint = j; rear = None; derailed = false }) e d
      by_way x j ht e (Some k) d = by_beyond x j k ht e d (across s j x) refl

      by_place : t < 16 → (f : Option ℕ) (j : ℕ) (r : Option ℕ) (d : Bool) → train_at m t ≡ present f j r d → TurnCase s m t (turn_train s m (present f j r d))
      by_place ht f j r true e = denied OffTrack
      by_place ht (Some x) j None false e = by_way x j ht e (way_out s m x j) refl
      by_place ht (Some x) j (Some u) false e = denied Extent
      by_place ht None j None false e = denied Extent
      by_place ht None j (Some u) false e = denied Extent

      by_train : t < 16 → (tr : Train) → train_at m t ≡ tr → TurnCase s m t (turn_train s m tr)
      by_train ht None e = denied Presence
      by_train ht (Some p) e = by_place ht p.front p.joint p.rear p.derailed e
