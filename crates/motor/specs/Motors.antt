-- What a motor track means, and how its motors run.
use Rattle.std.specs.Prelude.{ℕ, ◌-◌, cond, List, ◌==◌, slice_index_or, slice_set}
use Rattle.station.specs.Alike.{same_position}
use Rattle.station.specs.declared.tests.Position.{Position}
use Rattle.station.specs.declared.tests.Position.TheVariants.{Normal}
use Rattle.track.specs.Meaning.{Meaning, a_point}
use Rattle.track.specs.declared.states.PointState.{PointState}
use Rattle.waysides.specs.Waysides as waysides
use Rattle.waysides.specs.declared.kept.Wayside.{Wayside}
use Rattle.motor.specs.declared.runs.Run.{Run}

abbrev pub Motor : Type 0
Motor = Wayside Run

abbrev pub a_run : Position → ℕ → Run
a_run to n = record { target = to; left = n }

-- a motor with no settlings left has its point settled
abbrev pub state_of : Run → PointState
state_of p = a_point p.target (p.left == 0)

abbrev pub at_rest : Position → Run
at_rest to = a_run to 0

abbrev pub no_run : Run
no_run = at_rest Normal

abbrev pub run_at : List Run → ℕ → Run
run_at ps i = slice_index_or ps i no_run

abbrev pub runs : Motor → List Run
runs t = waysides.runs t

abbrev pub of_motor : Motor → Meaning
of_motor t = waysides.of_wayside state_of t

-- a throw takes 8 settlings
abbrev pub started : Position → Run
started to = a_run to 8

-- a drive that changes the target starts a throw, wherever the point was
abbrev pub thrown : List Run → ℕ → Position → List Run
thrown ps i to = cond (same_position (run_at ps i).target to) ps (slice_set ps i (started to))

-- a settling takes one off
abbrev pub less_left : ℕ → ℕ
less_left n = n - 1

abbrev pub on : Run → Run
on p = a_run p.target (less_left p.left)

abbrev pub run_on : List Run → ℕ → List Run
run_on ps i = slice_set ps i (on (run_at ps i))
