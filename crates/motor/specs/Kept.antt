-- What a motor track keeps: how its motors run, what its signals show, and its trains.
use Rattle.std.specs.Prelude.{Bool, List}
use Rattle.track.specs.Trains.{Train}
use Rattle.track.specs.declared.states.Aspect.{Aspect}
use Rattle.waysides.specs.Waysides as waysides
use Rattle.motor.specs.Motors.{Motor}
use Rattle.motor.specs.declared.runs.Run.{Run}

abbrev pub Kept : Type 0
Kept = waysides.Parts Run

abbrev pub keeping : List Run → List Aspect → List Train → Kept
keeping rs ss ts = waysides.keeping rs ss ts

abbrev pub kept : Motor → Kept
kept t = waysides.kept t

-- a track has at most 32 points, and 16 trains
abbrev pub may_keep : Kept → Bool
may_keep k = waysides.may_keep k
