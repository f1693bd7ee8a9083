-- Opening: no train may be present; all signals are put to stop, all routes are unset, all locks free, and nothing is noted.
use Rattle.std.specs.Prelude.{Bool, cond, length, replicate, Some, None, Option, Result}
use Rattle.std.specs.Option.{is_some}
use Rattle.std.specs.Result.{result_unwrap_or}
use Rattle.firsts.specs.Claims.{any_below}
use Rattle.conditions.specs.States.{State, a_state}
use Rattle.states.specs.Slots.{fresh}
use Rattle.states.specs.declared.denials.Denial.{Denial}
use Rattle.states.specs.declared.denials.Denial.TheVariants.{Occupied}
use Rattle.station.specs.Station.{Station}
use Rattle.track.specs.Calls.{place_answer}
use Rattle.track.specs.Meaning.{Meaning}
use Rattle.track.specs.declared.refusals.Refusal.{Refusal}
use Rattle.track.specs.declared.states.Aspect.TheVariants.{Stop}
use Rattle.track.specs.Trains.{Train}
use Rattle.calls.specs.Matching.{matched}

-- the trackside answers that the train is present
abbrev pub told_present : Result Train Refusal → Bool
told_present r = is_some (result_unwrap_or r None)

abbrev pub some_present : Station → Meaning → Bool
some_present s m = any_below (λ i. told_present (place_answer s m i)) 16

abbrev pub open_denial : Station → Meaning → Option Denial
open_denial s m = matched s m (cond (some_present s m) (Some Occupied) None)

-- every signal at stop, and all else as it was
abbrev pub all_stop : Meaning → Meaning
all_stop m = record { points = m.points; signals = replicate (length m.signals) Stop; trains = m.trains }

abbrev pub opened : Meaning → State
opened m = a_state fresh (all_stop m)
