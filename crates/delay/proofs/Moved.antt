-- A call that moves a train, seen through what a layer keeps: refused below, refused by the layer itself, or gone down.
use Rattle.std.proofs.Common.{◌≡◌, ℕ, Bool, true, false, cond, Option, Some, None, Ok, Err, Result, sym, refl, ap, ◌∙◌, subst, arith}
use Rattle.station.specs.Station.{Station}
use Rattle.track.specs.Calls.{Fronts, Rears, Turns, place_answer, train_refusal}
use Rattle.track.specs.Meaning.{Meaning, train_at}
use Rattle.track.specs.Refusals.{plainly}
use Rattle.track.specs.Steps.{front_train, rear_train, turn_train}
use Rattle.track.specs.Trains.{Train}
use Rattle.track.specs.declared.refusals.Refusal.{Refusal}
use Rattle.track.specs.declared.refusals.Refusal.TheVariants.{OffTrack}
use Rattle.track.specs.declared.states.Step.{Step}
use Rattle.holding.specs.Courses.{HeldWays, course, rear_course}
use Rattle.holding.specs.Seen.{marked, off_at, seen, through}
use Rattle.holding.specs.declared.courses.Course.{Course}
use Rattle.holding.specs.declared.courses.Course.TheVariants.{Down, Off, Derails}
use Rattle.holding.specs.declared.kept.Holding.{Holding}
use Rattle.holding.proofs.Answered.{denied}
use Rattle.holding.proofs.Moves.{Becomes, front_becomes, rear_becomes, turn_becomes}
use Rattle.holding.proofs.Trains.{Moves, derail_move, down_move, off_move, refused_move, train_refusal_same}
use Rattle.delay.specs.Delays.{goes_down, kept_off}

-- giving up the rear derails no train
no_derail : (off : Bool) (t : Train) → Derails ≡ rear_course off t → ⊥
no_derail off None e = grind arith
no_derail true (Some p) e = grind arith
no_derail false (Some p) e = grind arith

-- what following a course answers
abbrev pub followed : Course → Result Unit Refusal
followed k = cond (goes_down k) (Ok tt) (Err OffTrack)

module _ (s : Station) (m : Meaning) (h : Holding) (i : ℕ) where
  module _ {A : Type 0} (value : Result (Option ℕ) Refusal → Result A Refusal) (plain : (e : Refusal) → value (Err e) ≡ Err e) (F : Meaning → Train → Step) where
    abbrev Moved : Meaning → Result A Refusal → Meaning → Type 0
    Moved n r after = Moves s m h.counts h.derailed i value plain F n r after

    below_refuses : (e : Refusal) → Err e ≡ place_answer s m i → Moved (through m h) (Err e) (through m h)
    below_refuses e told =
        refused_move s m h.counts h.derailed i value plain F (through m h) e (train_refusal_same s m h.counts h.derailed i ∙ denied (train_refusal s m i) e (train_at m i) told)

    module _ (t : Train) (ok : Ok t ≡ place_answer s m i) where
      abbrev Comes : Course → Type 0
      Comes k = Becomes k t (off_at h.derailed i) (F (through m h) (marked t (off_at h.derailed i))) (F m t)

      stops : (k : Course) → Comes k → (e : Refusal) → Err e ≡ followed k → Moved (through m h) (Err e) (seen m h.counts (kept_off k h.derailed i))
      stops Down b e f = absurd (grind arith)
      stops Off b e f = subst (λ x. Moved (through m h) (Err x) (through m h)) (grind arith) (off_move s m h.counts h.derailed i value plain F t ok b)
      stops Derails b e f =
          subst (λ x. Moved (through m h) (Err x) (seen m h.counts (kept_off Derails h.derailed i))) (grind arith) (derail_move s m h.counts h.derailed i value plain F t ok h.trains b)

      goes : (k : Course) → Comes k → Ok tt ≡ followed k → (r : Result A Refusal) (n : Meaning) → Moved m r n → Moved (through m h) r (seen n h.counts (kept_off k h.derailed i))
      goes Down b f r n d = down_move s m h.counts h.derailed i value plain F t ok h.trains b r n d
      goes Off b f r n d = absurd (grind arith)
      goes Derails b f r n d = absurd (grind arith)

  pub front_refused : (e : Refusal) → Err e ≡ place_answer s m i → Fronts s (through m h) i (Err e) (through m h)
  front_refused e told = let w = below_refuses (λ a. a) (λ e. refl) (front_train s) e told in record { answers = w.0; leaves = w.1 }

  pub turn_refused : (e : Refusal) → Err e ≡ place_answer s m i → Turns s (through m h) i (Err e) (through m h)
  turn_refused e told = let w = below_refuses plainly (λ e. refl) (turn_train s) e told in record { answers = w.0; leaves = w.1 }

  pub rear_refused : (e : Refusal) → Err e ≡ place_answer s m i → Rears s (through m h) i (Err e) (through m h)
  rear_refused e told = let w = below_refuses plainly (λ e. refl) (λ n. rear_train) e told in record { answers = w.0; leaves = w.1 }

  -- the layer keeps h' once the course k is followed
  module _ (t : Train) (ok : Ok t ≡ place_answer s m i) (k : Course) (h' : Holding) (marks : h'.derailed ≡ kept_off k h.derailed i) (same : h'.counts ≡ h.counts) where
    kept : (n : Meaning) → seen n h.counts (kept_off k h.derailed i) ≡ through n h'
    kept n = sym (ap (λ l. seen n l h'.derailed) same ∙ ap (seen n h.counts) marks)

    module _ (ways : HeldWays s) (is : k ≡ course s h.counts (off_at h.derailed i) t) where
      front_comes : Comes (λ a. a) (λ e. refl) (front_train s) t ok k
      front_comes = subst (Comes (λ a. a) (λ e. refl) (front_train s) t ok) (sym is) (front_becomes s ways m h.counts h.derailed t (off_at h.derailed i))

      turn_comes : Comes plainly (λ e. refl) (turn_train s) t ok k
      turn_comes = subst (Comes plainly (λ e. refl) (turn_train s) t ok) (sym is) (turn_becomes s ways m h.counts h.derailed t (off_at h.derailed i))

      pub front_stops : (e : Refusal) → Err e ≡ followed k → Fronts s (through m h) i (Err e) (through m h')
      front_stops e f =
          let w = stops (λ a. a) (λ e. refl) (front_train s) t ok k front_comes e f in
          subst (Fronts s (through m h) i (Err e)) (kept m) (record { answers = w.0; leaves = w.1 })

      pub turn_stops : (e : Refusal) → Err e ≡ followed k → Turns s (through m h) i (Err e) (through m h')
      turn_stops e f =
          let w = stops plainly (λ e. refl) (turn_train s) t ok k turn_comes e f in
          subst (Turns s (through m h) i (Err e)) (kept m) (record { answers = w.0; leaves = w.1 })

      pub front_goes : Ok tt ≡ followed k → {r : Result (Option ℕ) Refusal} {n : Meaning} → Fronts s m i r n → Fronts s (through m h) i r (through n h')
      front_goes f {r} {n} d =
          let w = goes (λ a. a) (λ e. refl) (front_train s) t ok k front_comes f r n (d.answers, d.leaves) in
          subst (Fronts s (through m h) i r) (kept n) (record { answers = w.0; leaves = w.1 })

      pub turn_goes : Ok tt ≡ followed k → {r : Result Unit Refusal} {n : Meaning} → Turns s m i r n → Turns s (through m h) i r (through n h')
      turn_goes f {r} {n} d =
          let w = goes plainly (λ e. refl) (turn_train s) t ok k turn_comes f r n (d.answers, d.leaves) in
          subst (Turns s (through m h) i r) (kept n) (record { answers = w.0; leaves = w.1 })

  -- rear, which leaves what the layer keeps as it is
  module _ (t : Train) (ok : Ok t ≡ place_answer s m i) where
    rear_comes : (k : Course) → k ≡ rear_course (off_at h.derailed i) t → Comes plainly (λ e. refl) (λ n. rear_train) t ok k
    rear_comes k is = subst (Comes plainly (λ e. refl) (λ n. rear_train) t ok) (sym is) (rear_becomes t (off_at h.derailed i))

    pub rear_stops : (k : Course) → k ≡ rear_course (off_at h.derailed i) t → (k ≡ Down → ⊥) → Rears s (through m h) i (Err OffTrack) (through m h)
    rear_stops Down is up = absurd (up refl)
    rear_stops Off is up =
        let w = stops plainly (λ e. refl) (λ n. rear_train) t ok Off (rear_comes Off is) OffTrack refl in
        record { answers = w.0; leaves = w.1 }
    rear_stops Derails is up = absurd (no_derail (off_at h.derailed i) t is)

    pub rear_goes : Down ≡ rear_course (off_at h.derailed i) t → {r : Result Unit Refusal} {n : Meaning} → Rears s m i r n → Rears s (through m h) i r (through n h)
    rear_goes is {r} {n} d =
        let w = goes plainly (λ e. refl) (λ n. rear_train) t ok Down (rear_comes Down is) refl r n (d.answers, d.leaves) in
        record { answers = w.0; leaves = w.1 }
