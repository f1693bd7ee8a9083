-- The lowest answer of a question that is asked at 0, 1 and so on.
use Rattle.std.specs.Prelude.{◌≡◌, ℕ, zero, suc, ◌<◌, ◌≤◌, min, Some, None, Option, MatchOption}

-- the lower of two answers, where there are two
abbrev pub lower : Option ℕ → Option ℕ → Option ℕ
lower None y = y
lower (Some a) None = Some a
lower (Some a) (Some b) = Some (min a b)

-- the lowest answer at the places below n
unfoldable pub least_below : (ℕ → Option ℕ) → ℕ → Option ℕ
least_below f zero = None
least_below f (suc n) = lower (least_below f n) (f n)

-- x is an answer at a place below n, and none is lower
pub record LowestAt (f : ℕ → Option ℕ) (n x : ℕ) : Type 0 where
  pub place : ℕ
  pub within : place < n
  pub answer : f place ≡ Some x
  pub lowest : (k : ℕ) → k < n → (y : ℕ) → f k ≡ Some y → x ≤ y

-- r is the lowest answer: none where no place below n has one
abbrev pub Lowest : (ℕ → Option ℕ) → ℕ → Option ℕ → Type 0
Lowest f n r = MatchOption r ((k : ℕ) → k < n → f k ≡ None) (LowestAt f n)
