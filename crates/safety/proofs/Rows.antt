-- What it says that a row's tests hold.
use Rattle.std.proofs.Common.{◌≡◌, ℕ, ◌<◌, ◌≤◌, Bool, true, false, eqb, ltb, ◌⊎◌, List, ◌++◌, length, Some, None, Contains, Option, sym, ap, ◌∙◌, subst, inl, inr, arith, eq-eqb, eqb-true}
use Rattle.std.proofs.lemmas.Option.{none-some}
use borrow.Author.Tests.{not-true}
use Rattle.std.proofs.lemmas.Bool.{and_parts, cases_lt, lt-ltb, le-ltb, or_cases, or_left, or_right}
use Rattle.firsts.proofs.Below.{decides_any_below}
use Rattle.std.specs.Option.{option_to_list}
use Rattle.std.proofs.lemmas.List.{get_or_past}
use Rattle.std.proofs.lemmas.Bool.Decides.{not_from_Decides}
use Rattle.station.specs.Station.{Station}
use Rattle.station.specs.declared.tests.Position.{Position}
use Rattle.station.proofs.Alike.{decides_position}
use Rattle.track.specs.Calls.{segment_refusal, said}
use Rattle.track.specs.Refusals.{answer}
use Rattle.track.specs.declared.refusals.Refusal.{Refusal}
use Rattle.track.specs.Meaning.{Meaning, no_state, state_at, train_at, clear, fits}
use Rattle.track.specs.Trains.{holds, among, front_part, Train}
use Rattle.conditions.specs.Firsts.{first_fails}
use Rattle.conditions.proofs.Failing.{first_failing}
use Rattle.conditions.specs.Tests.{point_told, lies, is_clear}
use Rattle.safety.proofs.Situation.{Held}

-- where no test fails, each holds
pub row_holds : {X : Type 0} (f : X → Bool) (xs : List X) → first_fails f xs ≡ None → (x : X) → Contains xs x → f x ≡ true
row_holds f xs e = first_failing f xs None (sym e)

-- what a trackside answers of a point is its state, declared or not
pub told_is : (s : Station) (m : Meaning) (p : ℕ) → fits s m ≡ true → point_told s m p ≡ state_at m p
told_is s m p fit = elim (cases_lt p (length m.points)) [ inl a ↦ inside_it a | inr a ↦ past_it a ]
  where
    inside_it : p < length m.points → point_told s m p ≡ state_at m p
    inside_it a = let b : ltb p (length m.points) ≡ true = lt-ltb p (length m.points) a in rw (fit, b)

    past_it : length m.points ≤ p → point_told s m p ≡ state_at m p
    past_it a = let b : ltb p (length m.points) ≡ false = le-ltb p (length m.points) a in rw (fit, b) (sym (get_or_past m.points p no_state a))

-- a point that is tested so lies so
pub lies_is : (s : Station) (m : Meaning) (p : ℕ) (x : Position) → fits s m ≡ true → lies s m p x ≡ true → ((state_at m p).settled ≡ true) × ((state_at m p).target ≡ x)
lies_is s m p x fit e =
    let k = told_is s m p fit in
    let w = and_parts _ _ e in
    (ap (λ y. y.settled) (sym k) ∙ w.0, ap (λ y. y.target) (sym k) ∙ (decides_position _ x).0 w.1)

-- what a train holds
pub held_is : (tr : Train) (x : ℕ) → holds tr x ≡ true → Held tr x
held_is None x e = cc
held_is (Some p) x e = go p.front p.rear e
  where
    go : (f : Option ℕ) (r : Option ℕ) → among (front_part f ++ option_to_list r) x ≡ true → (f ≡ Some x) ⊎ (r ≡ Some x)
    go None None e = cc
    go None (Some y) e = elim (or_cases _ _ e) [ inl a ↦ inr (ap Some (eqb-true y x a)) | inr a ↦ cc ]
    go (Some y) None e = elim (or_cases _ _ e) [ inl a ↦ inl (ap Some (eqb-true y x a)) | inr a ↦ cc ]
    go (Some y) (Some b) e =
        elim (or_cases _ _ e) [
          | inl a ↦ inl (ap Some (eqb-true y x a))
          | inr a ↦ elim (or_cases _ _ a) [ inl c ↦ inr (ap Some (eqb-true b x c)) | inr c ↦ cc ]
        ]

pub holds_it : (tr : Train) (x : ℕ) → Held tr x → holds tr x ≡ true
holds_it None x (inl e) = absurd (none-some _ e)
holds_it None x (inr e) = absurd (none-some _ e)
holds_it (Some p) x h = go p.front p.rear h
  where
    same : (y : ℕ) → ◌≡◌ {A = Option ℕ} (Some y) (Some x) → eqb y x ≡ true
    same y e = eq-eqb y x cc

    go : (f : Option ℕ) (r : Option ℕ) → (f ≡ Some x) ⊎ (r ≡ Some x) → among (front_part f ++ option_to_list r) x ≡ true
    go None r (inl e) = absurd (none-some _ e)
    go (Some y) r (inl e) = or_left _ _ (same y e)
    go f None (inr e) = absurd (none-some _ e)
    go None (Some b) (inr e) = or_left _ _ (same b e)
    go (Some y) (Some b) (inr e) = or_right (eqb y x) _ (or_left _ _ (same b e))

-- a segment that is tested clear is held by no train
pub clear_is : (s : Station) (m : Meaning) (x : ℕ) → length m.trains ≡ 16 → is_clear s m x ≡ true → (t : ℕ) → Held (train_at m t) x → ⊥
clear_is s m x sixteen e t h = elim (cases_lt t 16) [ inl a ↦ none_holds a | inr a ↦ gone a ]
  where
    said_clear : (d : Option Refusal) (b : Bool) → said (answer d b) ≡ true → b ≡ true
    said_clear None b e = e
    said_clear (Some z) b e = cc

    none_holds : t < 16 → ⊥
    none_holds a =
        let c : clear m x ≡ true = said_clear (segment_refusal s m x) (clear m x) e in
        not_from_Decides _ (decides_any_below (λ i. holds (train_at m i) x ≡ true) (λ i. (λ w. w, λ w. w)) 16) (not-true _ c) (t, a, holds_it (train_at m t) x h)

    gone : 16 ≤ t → ⊥
    gone a =
        let n : length m.trains ≤ t = omega arith in
        let w : train_at m t ≡ None = get_or_past m.trains t None n in
        let k : Held None x = subst (λ y. Held y x) w h in
        absent k
      where
        absent : Held None x → ⊥
        absent (inl z) = none-some _ z
        absent (inr z) = none-some _ z
