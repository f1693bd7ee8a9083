-- The refusal that comes before all others: the trackside and the interlocking must match the station.
use Rattle.std.specs.Prelude.{Bool, cond, ◌&&◌, Some, Option}
use Rattle.passing.specs.Locks.{has_slots}
use Rattle.states.specs.declared.denials.Denial.{Denial}
use Rattle.states.specs.declared.denials.Denial.TheVariants.{Track}
use Rattle.station.specs.Station.{Station}
use Rattle.track.specs.Meaning.{Meaning, fits}
use Rattle.track.specs.declared.refusals.Refusal.TheVariants.{Mismatch}

-- the trackside has as many points and signals as the station, and the interlocking has slots for it
abbrev pub matches : Station → Meaning → Bool
matches s m = fits s m && has_slots s

-- 40, where they do not match
abbrev pub matched : Station → Meaning → Option Denial → Option Denial
matched s m rest = cond (matches s m) rest (Some (Track Mismatch))
