-- What tests of every number and of some number below a bound tell.
use Rattle.std.proofs.Common.{◌≡◌, ℕ, ◌+◌, ◌<◌, Bool, true, false, ◌||◌, List, [], ◌∷◌, ◌++◌, map-id, refl, ap, length, get_or, Decides, All, sym, ◌∙◌, subst, arith}
use Rattle.std.specs.List.{HoldsAt, list_any, range_with_len}
use Rattle.std.proofs.lemmas.Bool.Decides.{Decides-like}
use Rattle.std.proofs.lemmas.List.FromFn.{length-range_with_len, get_or-range_with_len, map-range_with_len_more}
use Rattle.firsts.specs.Claims.{all_below, any_below}
use Rattle.firsts.proofs.Elements.{decides_all, decides_any}

module _ (n : ℕ) where
  -- the k-th of the numbers below n is k
  at : (k d : ℕ) → k < n → get_or (range_with_len 0 n) k d ≡ k
  at k d l = get_or-range_with_len 0 n k d l ∙ omega arith

  inside : (k : ℕ) → k < length (range_with_len 0 n) → k < n
  inside k l = let e = length-range_with_len 0 n in omega (arith, l, e)

  within : (k : ℕ) → k < n → k < length (range_with_len 0 n)
  within k l = let e = length-range_with_len 0 n in omega (arith, l, e)

  module _ (P : ℕ → Type 0) where
    each_below : All P (range_with_len 0 n) → (k : ℕ) → k < n → P k
    each_below h k l = subst P (at k 0 l) (h k 0 (within k l))

    all_numbers : ((k : ℕ) → k < n → P k) → All P (range_with_len 0 n)
    all_numbers h = λ k d l. subst P (sym (at k d (inside k l))) (h k (inside k l))

    one_below : (k : ℕ) × (k < length (range_with_len 0 n)) × HoldsAt P (range_with_len 0 n) k → (k : ℕ) × (k < n) × P k
    one_below h = (h.0, inside h.0 h.1, subst P (at h.0 0 (inside h.0 h.1)) (h.2 0))

    some_number : (k : ℕ) × (k < n) × P k → (k : ℕ) × (k < length (range_with_len 0 n)) × HoldsAt P (range_with_len 0 n) k
    some_number h = (h.0, within h.0 h.1, λ d. subst P (sym (at h.0 d h.1)) h.2)

-- a test of every number below n tells what its parts tell
pub decides_all_below : {p : ℕ → Bool} (P : ℕ → Type 0) → ((k : ℕ) → Decides (p k) (P k)) → (n : ℕ) → Decides (all_below p n) ((k : ℕ) → k < n → P k)
decides_all_below {p} P each n = Decides-like (all_below p n) (each_below n P) (all_numbers n P) (decides_all P each (range_with_len 0 n))

pub decides_any_below : {p : ℕ → Bool} (P : ℕ → Type 0) → ((k : ℕ) → Decides (p k) (P k)) → (n : ℕ) → Decides (any_below p n) ((k : ℕ) × (k < n) × P k)
decides_any_below {p} P each n = Decides-like (any_below p n) (one_below n P) (some_number n P) (decides_any P each (range_with_len 0 n))

turn : (a b c : Bool) → (a || (b || c)) ≡ (b || (a || c))
turn true true c = refl
turn true false c = refl
turn false b c = refl

one_further : (p : ℕ → Bool) (xs : List ℕ) (x : ℕ) → list_any p (xs ++ x ∷ []) ≡ (p x || list_any p xs)
one_further p [] x = refl
one_further p (y ∷ ys) x = ap (λ b. p y || b) (one_further p ys x) ∙ turn (p y) (p x) (list_any p ys)

-- the step from the numbers below i to those below i + 1
pub any_more : (p : ℕ → Bool) (i : ℕ) → any_below p (i + 1) ≡ (p i || any_below p i)
any_more p i =
    ap (list_any p) (sym (map-id (range_with_len 0 (i + 1))) ∙ map-range_with_len_more (λ k. k) 0 i i (omega arith) ∙ ap (λ xs. xs ++ i ∷ []) (map-id (range_with_len 0 i)))
    ∙ one_further p (range_with_len 0 i) i
