-- Lists whose elements are changed by a second list: their length, their elements, and one element written.
use Rattle.std.proofs.Common.{◌≡◌, ℕ, zero, suc, ◌<◌, Bool, true, false, ◌&&◌, eqb, List, [], ◌∷◌, length, get_or, set, sym, refl, ap, ◌∙◌, le_of_suc-le-suc, not-suc-le-zero, None, Some}
use Rattle.std.proofs.lemmas.List.{set-get_or}
use Rattle.track.specs.Meaning.{Meaning, a_point, no_state, state_at, train_at}
use Rattle.track.specs.Trains.{Train}
use Rattle.holding.specs.Seen.{count_at, each_by, hold, marked, off_at, seen}

module _ {X Y : Type 0} (f : X → Y → X) where
  pub length_each : (xs : List X) (ys : List Y) → length (each_by f xs ys) ≡ length xs
  unfolding each_by
  length_each [] ys = refl
  length_each (x ∷ xs) [] = refl
  length_each (x ∷ xs) (y ∷ ys) = ap suc (length_each xs ys)

  -- the second list ends with e, which changes nothing; past the end of the first stands d, which nothing changes
  pub get_or_each : (d : X) (e : Y) → ((y : Y) → f d y ≡ d) → ((x : X) → f x e ≡ x) → (xs : List X) (ys : List Y) (i : ℕ) → get_or (each_by f xs ys) i d ≡ f (get_or xs i d) (get_or ys i e)
  unfolding each_by
  get_or_each d e past none [] ys i = sym (past (get_or ys i e))
  get_or_each d e past none (x ∷ xs) [] i = sym (none (get_or (x ∷ xs) i d))
  get_or_each d e past none (x ∷ xs) (y ∷ ys) zero = refl
  get_or_each d e past none (x ∷ xs) (y ∷ ys) (suc i) = get_or_each d e past none xs ys i

  pub set_each : (xs : List X) (ys : List Y) (i : ℕ) (x : X) (y : Y) → i < length ys → each_by f (set xs i x) (set ys i y) ≡ set (each_by f xs ys) i (f x y)
  unfolding each_by
  set_each xs [] i x y h = absurd (not-suc-le-zero h)
  set_each [] (b ∷ ys) zero x y h = refl
  set_each [] (b ∷ ys) (suc i) x y h = refl
  set_each (a ∷ xs) (b ∷ ys) zero x y h = refl
  set_each (a ∷ xs) (b ∷ ys) (suc i) x y h = ap (λ l. f a b ∷ l) (set_each xs ys i x y (le_of_suc-le-suc h))

  -- only the first list is written
  pub set_first : (d : X) (e : Y) (xs : List X) (ys : List Y) (i : ℕ) (x : X) → i < length ys → each_by f (set xs i x) ys ≡ set (each_by f xs ys) i (f x (get_or ys i e))
  set_first d e xs ys i x h = ap (each_by f (set xs i x)) (sym (set-get_or ys i e)) ∙ set_each xs ys i x (get_or ys i e) h

  -- only the second list is written
  pub set_second : (d : X) (xs : List X) (ys : List Y) (i : ℕ) (y : Y) → i < length ys → each_by f xs (set ys i y) ≡ set (each_by f xs ys) i (f (get_or xs i d) y)
  set_second d xs ys i y h = ap (λ l. each_by f l (set ys i y)) (sym (set-get_or xs i d)) ∙ set_each xs ys i (get_or xs i d) y h

and_false : (b : Bool) → (b && false) ≡ false
and_false true = refl
and_false false = refl

-- a train that is not kept derailed is seen as it is
pub unmarked : (t : Train) → marked t false ≡ t
unmarked None = refl
unmarked (Some p) = refl

-- a point is seen as its count lets it be
pub state_seen : (m : Meaning) (hs : List ℕ) (offs : List Bool) (i : ℕ) → state_at (seen m hs offs) i ≡ hold (state_at m i) (count_at hs i)
state_seen m hs offs i =
    get_or_each hold no_state 0 (λ h. ap (a_point no_state.target) (and_false (eqb h 0))) (λ p. refl) m.points hs i

pub train_seen : (m : Meaning) (hs : List ℕ) (offs : List Bool) (i : ℕ) → train_at (seen m hs offs) i ≡ marked (train_at m i) (off_at offs i)
train_seen m hs offs i = get_or_each marked None false (λ off. refl) unmarked m.trains offs i
