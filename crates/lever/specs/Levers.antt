-- What a lever track means.
use Rattle.std.specs.Prelude.{true}
use Rattle.station.specs.declared.tests.Position.{Position}
use Rattle.track.specs.Meaning.{Meaning, a_point}
use Rattle.track.specs.declared.states.PointState.{PointState}
use Rattle.waysides.specs.Waysides.{of_wayside}
use Rattle.waysides.specs.declared.kept.Wayside.{Wayside}
use Rattle.lever.specs.declared.points.LeverPoint.{LeverPoint}

abbrev pub Lever : Type 0
Lever = Wayside LeverPoint

abbrev pub seen : LeverPoint → PointState
seen p = p.state

-- a point that lies there
abbrev pub lever_at : Position → LeverPoint
lever_at x = record { state = a_point x true }

-- a settling leaves the point where it is driven to
abbrev pub settled : LeverPoint → LeverPoint
settled p = lever_at p.state.target

abbrev pub of_lever : Lever → Meaning
of_lever t = of_wayside seen t
