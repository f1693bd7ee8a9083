-- Claims about every number, some number and the first number below a bound.
use Rattle.std.specs.Prelude.{ℕ, ◌<◌, Bool, not, find, Some, None, Option, MatchOption}
use Rattle.std.specs.List.{list_all, list_any, range_with_len}
use Rattle.firsts.specs.Search.{first_below}

-- p holds of every number below n
abbrev pub all_below : (ℕ → Bool) → ℕ → Bool
all_below p n = list_all p (range_with_len 0 n)

-- p holds of some number below n
abbrev pub any_below : (ℕ → Bool) → ℕ → Bool
any_below p n = list_any p (range_with_len 0 n)

-- the first number below n of which p does not hold
abbrev pub first_failing : (ℕ → Bool) → ℕ → Option ℕ
first_failing p n = find (λ i. not (p i)) (range_with_len 0 n)

-- i is the first number below n that does not keep P
pub record Breaks (P : ℕ → Type 0) (n i : ℕ) : Type 0 where
  pub within : i < n
  pub broken : P i → ⊥
  pub before : (j : ℕ) → j < i → P j

-- r is the first number below n that does not keep P: none where all do
abbrev pub FirstBreach : (ℕ → Type 0) → ℕ → Option ℕ → Type 0
FirstBreach P n r = MatchOption r ((i : ℕ) → i < n → P i) (Breaks P n)

abbrev pub paired : ℕ → Option ℕ → Option (ℕ × ℕ)
paired i None = None
paired i (Some j) = Some (i, j)

-- the first pair of a number below n and one below m of which p does not hold, by its first number and then by its second
abbrev pub first_pair : (ℕ × ℕ → Bool) → ℕ → ℕ → Option (ℕ × ℕ)
first_pair p n m = first_below (λ i. paired i (first_failing (λ j. p (i, j)) m)) n

-- q is the first such pair that does not keep P
pub record PairBreaks (P : ℕ → ℕ → Type 0) (n m : ℕ) (q : ℕ × ℕ) : Type 0 where
  pub within : q.0 < n
  pub inside : q.1 < m
  pub broken : P q.0 q.1 → ⊥
  pub beside : (j : ℕ) → j < q.1 → P q.0 j
  pub before : (i j : ℕ) → i < q.0 → j < m → P i j

-- r is the first pair that does not keep P: none where all do
abbrev pub FirstPair : (ℕ → ℕ → Type 0) → ℕ → ℕ → Option (ℕ × ℕ) → Type 0
FirstPair P n m r = MatchOption r ((i j : ℕ) → i < n → j < m → P i j) (PairBreaks P n m)
