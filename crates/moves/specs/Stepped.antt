-- What an attempt at a move comes to, and what a train must be that is to move.
use Rattle.std.specs.Prelude.{ℕ, cond, Some, None, Ok, Err, Option, Result}
use Rattle.track.specs.Steps.{refused}
use Rattle.track.specs.Trains.{Train}
use Rattle.track.specs.declared.refusals.Refusal.{Refusal}
use Rattle.track.specs.declared.refusals.Refusal.TheVariants.{Presence, Extent, OffTrack}
use Rattle.track.specs.declared.states.Place.{Place}
use Rattle.track.specs.declared.states.Step.{Step}

-- a step, or a refusal that changes nothing
abbrev pub stepped : Result Step Refusal → Step
stepped (Ok x) = x
stepped (Err e) = refused e

-- present, and not derailed
abbrev pub movable : Train → Result Place Refusal
movable None = Err Presence
movable (Some p) = cond p.derailed (Err OffTrack) (Ok p)

-- wholly in one segment
abbrev pub in_one : Option ℕ → Option ℕ → Result ℕ Refusal
in_one (Some t) None = Ok t
in_one (Some t) (Some u) = Err Extent
in_one None None = Err Extent
in_one None (Some u) = Err Extent
