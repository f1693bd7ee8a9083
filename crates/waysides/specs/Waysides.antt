-- What a track means that keeps its own points, signals and trains; and what a drive and a settling make of its points.
use Rattle.std.specs.Prelude.{ℕ, Bool, cond, ◌&&◌, List, length, map, vec_items, ◌==◌, nat_le, slice_index_or, slice_set}
use Rattle.station.specs.Alike.{same_position}
use Rattle.station.specs.declared.tests.Position.{Position}
use Rattle.track.specs.Meaning.{Meaning}
use Rattle.track.specs.Trains.{Train}
use Rattle.track.specs.declared.states.Aspect.{Aspect}
use Rattle.track.specs.declared.states.PointState.{PointState}
use Rattle.waysides.specs.declared.kept.Wayside.{Wayside}

module _ {P : Type 0} where
  -- how its points run
  abbrev pub runs : Wayside P → List P
  runs t = vec_items t.points

  -- what it means, where each point is seen so
  abbrev pub of_wayside : (P → PointState) → Wayside P → Meaning
  of_wayside seen t = record { points = map seen (runs t); signals = vec_items t.signals; trains = vec_items t.trains }

  -- a drive to the other side starts the point, wherever it was
  abbrev pub driven_run : (P → PointState) → (Position → P) → P → List P → ℕ → Position → List P
  driven_run seen started none ps i to = cond (same_position (seen (slice_index_or ps i none)).target to) ps (slice_set ps i (started to))

  -- a settling
  abbrev pub settled_run : (P → P) → P → List P → ℕ → List P
  settled_run on none ps i = slice_set ps i (on (slice_index_or ps i none))

-- all that a track keeps
pub record Parts (P : Type 0) : Type 0 where
  pub runs : List P
  pub signals : List Aspect
  pub trains : List Train

module _ {P : Type 0} where
  abbrev pub keeping : List P → List Aspect → List Train → Parts P
  keeping rs ss ts = record { runs = rs; signals = ss; trains = ts }

  abbrev pub kept : Wayside P → Parts P
  kept t = keeping (runs t) (vec_items t.signals) (vec_items t.trains)

  -- a track has at most 32 points, and 16 trains
  abbrev pub may_keep : Parts P → Bool
  may_keep k = nat_le (length k.runs) 32 && length k.trains == 16
