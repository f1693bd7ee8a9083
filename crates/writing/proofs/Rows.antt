-- The law of rows.
use Rattle.std.proofs.Common.{List, Some}
use Rattle.text.specs.Ahead.{Ahead}
use Rattle.forms.specs.Things.{Spot}
use Rattle.rows.specs.Rows.{Row}
use Rattle.sheets.specs.Sections.{Part}
use Rattle.writing.specs.Laws.{RowsLaw}
use Rattle.writing.proofs.Parts.{closes}
use Rattle.writing.proofs.Turns.{turn_sound}
use Rattle.writing.proofs.Taken.{turn_is}

-- a row is read exactly as it is written
pub rows_law : (part : Part) (rows : List (Row Spot)) (ts : Ahead) (r : Row Spot) (us : Ahead) → RowsLaw part rows ts r us
rows_law part rows ts r us =
    (turn_sound rows ts (Some r) us part, λ c h. turn_is rows ts us part r (closes us c) h.0 h.1)
