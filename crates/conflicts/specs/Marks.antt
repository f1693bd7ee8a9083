-- Segments marked on a board of 64 octets.
use Rattle.std.specs.Prelude.{◌≡◌, ℕ, ◌<◌, Bool, cond, not, ◌&&◌, List, Some, None, Option, ◌==◌, nat_lt, slice_index}
use Rattle.firsts.specs.Least.{least_below}
use Rattle.station.specs.Station.{Station}
use Rattle.station.specs.Numbers.{route_at}
use Rattle.station.specs.Subroutes.{segment_of}
use Rattle.station.specs.Paths.{path_length, on_path}
use Rattle.station.specs.Covers.{request_guards}
use Rattle.conflicts.specs.Conflicts.{meets}

-- the board has 1 at the segments that the route's path comes into, and 0 at the others
abbrev pub Shows : List ℕ → Station → ℕ → Type 0
Shows b s r = (t : ℕ) → t < 64 → slice_index b t ≡ cond (meets s r t) 1 0

-- the segment is marked; one past the board is looked for along the path
abbrev pub marked : List ℕ → Station → ℕ → ℕ → Bool
marked b s r t = cond (nat_lt t 64) (not (slice_index b t == 0)) (meets s r t)

-- what a board shows of the k-th subroute of o
abbrev pub open_on : List ℕ → Station → ℕ → ℕ → ℕ → Option ℕ
open_on b s r o k =
    cond (marked b s r (segment_of s (on_path s o k)) && not (request_guards s (route_at s r).tests (on_path s o k)))
    (Some (segment_of s (on_path s o k))) None

abbrev pub lowest_on : List ℕ → Station → ℕ → ℕ → Option ℕ
lowest_on b s r o = least_below (open_on b s r o) (path_length s o)
