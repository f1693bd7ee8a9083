-- A track seen through a layer that holds points in motion and keeps trains derailed.
use Rattle.std.specs.Prelude.{ℕ, ◌-◌, Bool, false, cond, not, ◌&&◌, ◌||◌, List, [], ◌∷◌, ◌==◌, slice_index, slice_index_or, slice_set, None, Some}
use Rattle.station.specs.Alike.{same_position}
use Rattle.station.specs.declared.tests.Position.{Position}
use Rattle.holding.specs.declared.kept.Holding.{Holding}
use Rattle.track.specs.Meaning.{Meaning, a_point}
use Rattle.track.specs.Trains.{present, Train}
use Rattle.track.specs.declared.states.PointState.{PointState}

-- each element changed by what stands at its place in a second list, and left as it is where that list has ended
unfoldable pub each_by : {X Y : Type 0} → (X → Y → X) → List X → List Y → List X
each_by f [] ys = []
each_by f (x ∷ xs) [] = x ∷ xs
each_by f (x ∷ xs) (y ∷ ys) = f x y ∷ each_by f xs ys

-- a point is in motion while settlings of it are held back
abbrev pub hold : PointState → ℕ → PointState
hold p h = a_point p.target (h == 0 && p.settled)

-- a train is derailed where it is kept so
abbrev pub marked : Train → Bool → Train
marked None off = None
marked (Some p) off = present p.front p.joint p.rear (off || p.derailed)

abbrev pub seen : Meaning → List ℕ → List Bool → Meaning
seen m hs offs =
    record { points = each_by hold m.points hs; signals = m.signals; trains = each_by marked m.trains offs }

-- a track as it is seen through what a layer keeps
abbrev pub through : Meaning → Holding → Meaning
through m h = seen m h.counts h.derailed

-- how many settlings of a point are held back
abbrev pub count_at : List ℕ → ℕ → ℕ
count_at hs i = slice_index hs i

abbrev pub holds_back : List ℕ → ℕ → Bool
holds_back hs i = not (count_at hs i == 0)

-- whether a train is kept derailed
abbrev pub off_at : List Bool → ℕ → Bool
off_at offs i = slice_index_or offs i false

-- a drive that changes the target of the point i starts its n settlings anew
abbrev pub started : List ℕ → ℕ → ℕ → Position → Position → List ℕ
started hs i n was to = cond (same_position was to) hs (slice_set hs i n)

-- a settling that is held back takes one off
abbrev pub one_fewer : List ℕ → ℕ → List ℕ
one_fewer hs i = cond (count_at hs i == 0) hs (slice_set hs i (count_at hs i - 1))
