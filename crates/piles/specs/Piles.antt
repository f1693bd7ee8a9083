-- A point is driven to the side at which it is not.
use Rattle.std.specs.Prelude.{ℕ, Result}
use Rattle.station.specs.Station.{Station}
use Rattle.station.specs.declared.tests.Position.{Position}
use Rattle.station.specs.declared.tests.Position.TheVariants.{Normal, Reverse}
use Rattle.track.specs.Calls.{Drives}
use Rattle.track.specs.Meaning.{Meaning, state_at}
use Rattle.track.specs.declared.refusals.Refusal.{Refusal}

abbrev pub other_side : Position → Position
other_side Normal = Reverse
other_side Reverse = Normal

abbrev pub Throws : Station → Meaning → ℕ → Result Unit Refusal → Meaning → Type 0
Throws s m i r n = Drives s m i (other_side (state_at m i).target) r n
