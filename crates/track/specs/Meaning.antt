-- What a trackside means: the state of each point, signal and train, by number. There are 16 trains.
use Rattle.std.specs.Prelude.{ℕ, Bool, true, false, not, ◌&&◌, List, length, replicate, Some, None, Option, ◌==◌, slice_index_or, slice_set}
use Rattle.firsts.specs.Claims.{any_below}
use Rattle.acceptance.specs.declared.accepted.Accepted.{Accepted}
use Rattle.station.specs.declared.tests.Position.{Position}
use Rattle.station.specs.declared.tests.Position.TheVariants.{Normal}
use Rattle.station.specs.Station.{Station, station}
use Rattle.track.specs.Trains.{holds, Train}
use Rattle.track.specs.declared.states.Aspect.{Aspect}
use Rattle.track.specs.declared.states.Aspect.TheVariants.{Stop}
use Rattle.track.specs.declared.states.PointState.{PointState}

pub record Meaning : Type 0 where
  pub points : List PointState
  pub signals : List Aspect
  pub trains : List Train

-- the station that was accepted
abbrev pub laid : Accepted → Station
laid a = station a.tables.now

abbrev pub a_point : Position → Bool → PointState
a_point to b = record { target = to; settled = b }

-- past the end of a list nothing is settled, no signal shows proceed and no train is present
abbrev pub no_state : PointState
no_state = a_point Normal false

abbrev pub state_at : Meaning → ℕ → PointState
state_at m i = slice_index_or m.points i no_state

abbrev pub aspect_at : Meaning → ℕ → Aspect
aspect_at m i = slice_index_or m.signals i Stop

abbrev pub train_at : Meaning → ℕ → Train
train_at m i = slice_index_or m.trains i None

abbrev pub with_point : Meaning → ℕ → PointState → Meaning
with_point m i p = record { points = slice_set m.points i p; signals = m.signals; trains = m.trains }

abbrev pub with_aspect : Meaning → ℕ → Aspect → Meaning
with_aspect m i a = record { points = m.points; signals = slice_set m.signals i a; trains = m.trains }

abbrev pub with_train : Meaning → ℕ → Train → Meaning
with_train m i t = record { points = m.points; signals = m.signals; trains = slice_set m.trains i t }

-- a train's record changed, or not
abbrev pub put : Meaning → ℕ → Option Train → Meaning
put m i None = m
put m i (Some t) = with_train m i t

-- the track has as many points and signals as the station
abbrev pub fits : Station → Meaning → Bool
fits s m = length s.points == length m.points && length s.signals == length m.signals

-- no train holds the segment
abbrev pub clear : Meaning → ℕ → Bool
clear m t = not (any_below (λ i. holds (train_at m i) t) 16)

-- every point normal and settled, every signal at stop, no train
abbrev pub at_rest : Station → Meaning
at_rest s = record {
  points = replicate (length s.points) (a_point Normal true);
  signals = replicate (length s.signals) Stop;
  trains = replicate 16 None;
}
