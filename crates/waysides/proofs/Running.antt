-- The points of a track, as they are seen.
use Rattle.std.proofs.Common.{◌≡◌, ℕ, zero, suc, ◌<◌, Bool, true, false, List, ◌∷◌, map, length, get_or, set, replicate, sym, refl, ap, ◌∙◌}
use Rattle.std.proofs.lemmas.List.{get_or-map, map-set, set-get_or}
use Rattle.station.specs.declared.tests.Position.{Position}
use Rattle.track.specs.Calls.{settled_so}
use Rattle.track.specs.Meaning.{Meaning, a_point, no_state, state_at, with_point}
use Rattle.track.specs.declared.states.PointState.{PointState}

-- a point that is driven there, as it is seen
pub seen_so : (p : PointState) (x : Position) → p.target ≡ x → p ≡ a_point x p.settled
seen_so p x e = ap (λ y. a_point y p.settled) e

module _ {P : Type 0} (seen : P → PointState) where
  pub seen_alike : (n : ℕ) (p : P) (q : PointState) → seen p ≡ q → map seen (replicate n p) ≡ replicate n q
  seen_alike zero p q e = refl
  seen_alike (suc n) p q e = ap (λ x. x ∷ map seen (replicate n p)) e ∙ ap (λ xs. q ∷ xs) (seen_alike n p q e)

  pub seen_at : (ps : List P) (i : ℕ) (d : P) → i < length ps → get_or (map seen ps) i no_state ≡ seen (get_or ps i d)
  seen_at ps i d l = get_or-map seen ps i d no_state l

  -- a point that is written is seen so
  pub seen_set : (ps : List P) (i : ℕ) (p : P) → map seen (set ps i p) ≡ set (map seen ps) i (seen p)
  seen_set ps i p = map-set seen ps i p

-- a point that stays as it was is not settled, and one that comes to lie is
pub settling : (m : Meaning) (i : ℕ) (q : PointState) (b : Bool) → q.settled ≡ b → (state_at m i).settled ≡ false → q.target ≡ (state_at m i).target → with_point m i q ≡ settled_so m i b
settling m i q true e f t = ap (with_point m i) (seen_so q _ t ∙ ap (a_point (state_at m i).target) e)
settling m i q false e f t =
    ap (with_point m i) (seen_so q _ t ∙ ap (a_point (state_at m i).target) (e ∙ sym f))
    ∙ ap (λ ps. record m { points = ps }) (set-get_or m.points i no_state)
