-- The first answer of a question that is asked at 0, 1 and so on.
use Rattle.std.specs.Prelude.{◌≡◌, ℕ, zero, suc, ◌<◌, Some, None, Option, MatchOption}

abbrev pub or_else : {X : Type 0} → Option X → Option X → Option X
or_else None y = y
or_else (Some x) y = Some x

-- n places, from k on
unfoldable pub first_from : {X : Type 0} → (ℕ → Option X) → ℕ → ℕ → Option X
first_from f k zero = None
first_from f k (suc n) = or_else (f k) (first_from f (suc k) n)

-- the places below n
abbrev pub first_below : {X : Type 0} → (ℕ → Option X) → ℕ → Option X
first_below f n = first_from f 0 n

-- where `x` is the answer at a place below n, and no earlier place has one
pub record FoundAt {X : Type 0} (f : ℕ → Option X) (n : ℕ) (x : X) : Type 0 where
  pub place : ℕ
  pub within : place < n
  pub answer : f place ≡ Some x
  pub before : (j : ℕ) → j < place → f j ≡ None

-- r is the first answer: none where no place below n has one
abbrev pub First : {X : Type 0} → (ℕ → Option X) → ℕ → Option X → Type 0
First f n r = MatchOption r ((j : ℕ) → j < n → f j ≡ None) (FoundAt f n)
