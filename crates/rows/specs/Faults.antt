-- The number and the offset of each fault, and what a call that may fail so comes to.
use Rattle.std.specs.Prelude.{◌≡◌, ℕ, Some, None, Ok, Err, Option, Result}
use Rattle.text.specs.Faults.{word_number, word_offset}
use Rattle.text.specs.Ahead.{Ahead}
use Rattle.text.specs.Out.{Out, got, bad}
use Rattle.rows.specs.declared.faults.RowFault.{RowFault}
use Rattle.rows.specs.declared.faults.RowFault.TheVariants.{Word, Form, Limit, Twice}
use Rattle.rows.specs.declared.faults.ReadingFault.{ReadingFault}
use Rattle.rows.specs.declared.faults.ReadingFault.TheVariants.{Size, Row, Undeclared, Incomplete, Memory}

abbrev pub row_number : RowFault → ℕ
row_number (Word e) = word_number e
row_number (Form i) = 3
row_number (Limit i) = 4
row_number (Twice i) = 5

abbrev pub row_offset : RowFault → ℕ
row_offset (Word e) = word_offset e
row_offset (Form i) = i
row_offset (Limit i) = i
row_offset (Twice i) = i

-- the number of the refusal and its offset; want of memory has none
abbrev pub code : ReadingFault → Option (ℕ × ℕ)
code Size = Some (1, 0)
code (Row e) = Some (row_number e, row_offset e)
code (Undeclared i) = Some (6, i)
code (Incomplete i) = Some (7, i)
code Memory = None

-- what a call answered, with the tokens then ahead
abbrev pub row_out : {X A : Type 0} → (X → A) → Result X RowFault → Ahead → Out A
row_out view (Ok x) ts = got (view x) ts
row_out view (Err e) ts = bad (row_number e) (row_offset e)

-- a refusal is the one that is due; for want of memory nothing is due
abbrev pub Refuses : {A : Type 0} → Option (ℕ × ℕ) → Out A → Type 0
Refuses None o = Unit {0}
Refuses (Some p) o = bad p.0 p.1 ≡ o

-- the same of a call that may find no memory
abbrev pub Reads : {X A : Type 0} → (X → A) → Result X ReadingFault → Ahead → Out A → Type 0
Reads view (Ok x) ts o = got (view x) ts ≡ o
Reads view (Err e) ts o = Refuses (code e) o
