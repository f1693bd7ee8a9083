use Rattle.std.proofs.Common.{map, length, ap, ◌∙◌, subst}
use Rattle.rows.specs.Rows.{placed_row}
use Rattle.sheets.specs.Layout.{Sofar}
use Rattle.sheets.specs.Outcomes.{Outcome, done}
use Rattle.station.specs.Station.{station}
use Rattle.reading.specs.Reading.{judged, Fills}
use Rattle.reading.proofs.whole.fill.Goals as goal

pub returns : goal.returns
returns c =
    let P : Outcome Sofar → Type 0 = λ o. Fills c.judge.result (station c.judge.new.tables) (judged (length c.args.text.now) o) in
    subst P (ap (λ xs. done (map placed_row xs)) c.as_slice.ensures.value ∙ c.in_ok-rows.ensures) c.judge.ensures
