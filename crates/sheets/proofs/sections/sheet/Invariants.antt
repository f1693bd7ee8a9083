use Rattle.std.proofs.Common.{length}
use Rattle.text.specs.Ahead.{tokens_ahead}
use Rattle.sheets.specs.Layout.{rows_of}
use Rattle.sheets.specs.Sections.{Layout, Data}
use Rattle.sheets.proofs.Shorter.{size}
use Rattle.sheets.proofs.Turns.{Rest, the_layout, the_sheet}
use Rattle.sheets.proofs.sections.sheet.Given as goal

abbrev pub invariant-loop-sofar : goal.invariant-loop-sofar
invariant-loop-sofar l = Rest (length l.text) Layout (the_layout l.text) (rows_of l.sofar.rows) (tokens_ahead l.reader)

abbrev pub decreases-loop-sofar : goal.decreases-loop-sofar
decreases-loop-sofar l = size (tokens_ahead l.reader)

abbrev pub invariant-loop-sofar-2 : goal.invariant-loop-sofar-2
invariant-loop-sofar-2 l = Rest (length l.text) Data (the_sheet l.text) (rows_of l.sofar.rows) (tokens_ahead l.reader)

abbrev pub decreases-loop-sofar-2 : goal.decreases-loop-sofar-2
decreases-loop-sofar-2 l = size (tokens_ahead l.reader)
