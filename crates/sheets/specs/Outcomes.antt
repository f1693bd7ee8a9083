-- What reading comes to: a value, or a refusal by number and offset.
use Rattle.std.specs.Prelude.{◌≡◌, ℕ, Some, None, Ok, Err, Option, Result}
use Rattle.text.specs.Out.{Out, got, bad}
use Rattle.rows.specs.declared.faults.ReadingFault.{ReadingFault}
use Rattle.rows.specs.Faults.{code}

pub data Outcome (A : Type 0) : Type 0 where
  done : A → Outcome A
  refused : ℕ → ℕ → Outcome A

-- with no thought of what is ahead
abbrev pub outcome : {A : Type 0} → Out A → Outcome A
outcome (got a ts) = done a
outcome (bad n i) = refused n i

-- a refusal is the one that is due; for want of memory nothing is due
abbrev pub Refused : {A : Type 0} → Option (ℕ × ℕ) → Outcome A → Type 0
Refused None o = Unit {0}
Refused (Some p) o = refused p.0 p.1 ≡ o

abbrev pub Answers : {X A : Type 0} → (X → A) → Result X ReadingFault → Outcome A → Type 0
Answers view (Ok x) o = done (view x) ≡ o
Answers view (Err e) o = Refused (code e) o
