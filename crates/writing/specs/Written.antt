-- Which texts are writings of a station.
use Rattle.std.specs.Prelude.{◌≡◌, ℕ, ◌≤◌, false, List, [], ◌++◌, length, None, Ok, Err, Result}
use Rattle.text.specs.Ahead.{Ahead, ends}
use Rattle.forms.specs.Things.{Spot}
use Rattle.rows.specs.declared.faults.ReadingFault.{ReadingFault}
use Rattle.rows.specs.declared.faults.ReadingFault.TheVariants.{Memory}
use Rattle.rows.specs.Rows.{Row}
use Rattle.sheets.specs.Sections.{Layout, Data}
use Rattle.sheets.specs.Outcomes.{done}
use Rattle.naming.specs.Index.{index_of}
use Rattle.naming.specs.Unknown.{first_unknown}
use Rattle.naming.specs.Missing.{incomplete}
use Rattle.station.specs.Station.{Station}
use Rattle.reading.specs.Reading.{reading}
use Rattle.reading.specs.Tables.{tables_of}
use Rattle.writing.specs.Texts.{Sets}
use Rattle.writing.specs.Marks.{Spelt}
use Rattle.writing.specs.Spelling.{whole}
use Rattle.writing.specs.Forms.{Follow}

-- The text is short enough, and is made of blanks and of tokens that spell rows of the layout, `*DATA` and rows
-- of the data, up to its end. Each row is well formed and fresh after those before it, every name that is used is
-- declared, no row is missing, and the station is what the rows say.
pub record Written (t : List ℕ) (s : Station) : Type 0 where
  pub tokens : Ahead
  pub layout : List (Row Spot)
  pub data_rows : List (Row Spot)
  pub few : length t ≤ 32768
  pub set : Sets 0 t tokens
  pub spelt : Spelt (whole layout data_rows) tokens (ends (length t))
  pub laid : Follow Layout [] layout
  pub listed : Follow Data layout data_rows
  pub declared : first_unknown (index_of (layout ++ data_rows)) (layout ++ data_rows) ≡ None
  pub complete : incomplete (layout ++ data_rows) ≡ false
  pub says : s ≡ tables_of (layout ++ data_rows)

-- a text is read as a station exactly when it is a writing of it
abbrev pub ReadingLaw : List ℕ → Station → Type 0
ReadingLaw t s = (reading t ≡ done s → Written t s) × (Written t s → reading t ≡ done s)

-- what is so where an answer is no refusal
abbrev pub WhereRead : {X : Type 0} → Result X ReadingFault → Type 0 → Type 0
WhereRead (Ok x) P = P
WhereRead (Err e) P = Unit {0}

-- what a writing of the station u is answered with: tables that say s, which is u, or want of memory
abbrev pub ReadsAs : {X : Type 0} → Result X ReadingFault → Station → Station → Type 0
ReadsAs (Ok x) s u = s ≡ u
ReadsAs (Err e) s u = e ≡ Memory
