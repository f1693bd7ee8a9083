-- What reading a text comes to: tables, or a refusal by number and offset.
use Rattle.std.specs.Prelude.{◌≡◌, ℕ, cond, List, length, Some, None, Ok, Err, Option, Result}
use Rattle.forms.specs.Things.{Spot}
use Rattle.rows.specs.declared.faults.ReadingFault.{ReadingFault}
use Rattle.rows.specs.Faults.{code}
use Rattle.rows.specs.Rows.{Row}
use Rattle.sheets.specs.Outcomes.{Outcome, done, refused, Refused}
use Rattle.sheets.specs.Sections.{sheet}
use Rattle.naming.specs.Index.{index_of}
use Rattle.naming.specs.Unknown.{first_unknown}
use Rattle.naming.specs.Missing.{incomplete}
use Rattle.station.specs.Station.{Station, empty}
use Rattle.reading.specs.Tables.{tables_of}

-- rows in a text of n octets: the first undeclared name, else a missing row, else tables
abbrev pub judged_by : ℕ → List (Row Spot) → Option ℕ → Outcome Station
judged_by n rows (Some i) = refused 6 i
judged_by n rows None = cond (incomplete rows) (refused 7 n) (done (tables_of rows))

abbrev pub judged : ℕ → Outcome (List (Row Spot)) → Outcome Station
judged n (refused m i) = refused m i
judged n (done rows) = judged_by n rows (first_unknown (index_of rows) rows)

abbrev pub reading : List ℕ → Outcome Station
reading t = judged (length t) (sheet t)

-- the answer of a reading, and what the tables then hold: nothing on a refusal
abbrev pub Settles : {X : Type 0} → Result X ReadingFault → Station → Outcome Station → Type 0
Settles (Ok x) s o = done s ≡ o
Settles (Err e) s o = (s ≡ empty) × Refused (code e) o

-- the same before the tables are emptied
abbrev pub Fills : {X : Type 0} → Result X ReadingFault → Station → Outcome Station → Type 0
Fills (Ok x) s o = done s ≡ o
Fills (Err e) s o = Refused (code e) o
