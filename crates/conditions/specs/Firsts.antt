-- The first test of a row that fails, by its place from 1.
use Rattle.std.specs.Prelude.{◌≡◌, ℕ, suc, ◌+◌, ◌<◌, Bool, true, false, not, List, length, Contains, Option, MatchOption, position, slice_index_or}
use Rattle.std.specs.Option.{option_map}

abbrev pub first_fails : {X : Type 0} → (X → Bool) → List X → Option ℕ
first_fails holds xs = option_map (λ i. i + 1) (position (λ x. not (holds x)) xs)

-- the test at place k, from 1, fails, and those before it hold
pub record FailsAt {X : Type 0} (holds : X → Bool) (xs : List X) (k : ℕ) : Type 0 where
  pub before : ℕ
  pub place : k ≡ suc before
  pub within : before < length xs
  pub fails : (d : X) → holds (slice_index_or xs before d) ≡ false
  pub hold : (d : X) (i : ℕ) → i < before → holds (slice_index_or xs i d) ≡ true

-- r is the place of the first test that fails: none where all hold
abbrev pub FirstFails : {X : Type 0} → (X → Bool) → List X → Option ℕ → Type 0
FirstFails {X = X} holds xs r = MatchOption r ((x : X) → Contains xs x → holds x ≡ true) (FailsAt holds xs)
