-- Rule 26: each row of a point tests free every used subroute of its home segment, or a zone that covers it.
use Rattle.std.specs.Prelude.{◌≡◌, ℕ, Bool, true, cond, ◌&&◌, length, Option, ◌==◌}
use Rattle.firsts.specs.Claims.{first_failing, paired, first_pair, FirstPair}
use Rattle.station.specs.Station.{Station}
use Rattle.station.specs.Numbers.{point_at}
use Rattle.station.specs.Subroutes.{subroutes, segment_of}
use Rattle.station.specs.Paths.{used, Used}
use Rattle.station.specs.Covers.{point_guards, PointGuards}

-- both rows of the point keep the subroute free
pub record RowsGuard (s : Station) (p u : ℕ) : Type 0 where
  pub normal : PointGuards s (point_at s p).normal u
  pub reverse : PointGuards s (point_at s p).reverse u

abbrev pub rows_guard : Station → ℕ → ℕ → Bool
rows_guard s p u = point_guards s (point_at s p).normal u && point_guards s (point_at s p).reverse u

abbrev pub Kept26 : Station → ℕ → ℕ → Type 0
Kept26 s p u = segment_of s u ≡ (point_at s p).home → Used s u → RowsGuard s p u

abbrev pub kept_26 : Station → ℕ × ℕ → Bool
kept_26 s q = cond (segment_of s q.1 == (point_at s q.0).home) (cond (used s q.1) (rows_guard s q.0 q.1) true) true

-- a point, and the first subroute that a row of it leaves open
abbrev pub breach_of : Station → ℕ → Option (ℕ × ℕ)
breach_of s p = paired p (first_failing (λ u. kept_26 s (p, u)) (subroutes s))

-- the first point and subroute that break the rule
abbrev pub breach_26 : Station → Option (ℕ × ℕ)
breach_26 s = first_pair (kept_26 s) (length s.points) (subroutes s)

abbrev pub Breach26 : Station → Option (ℕ × ℕ) → Type 0
Breach26 s = FirstPair (Kept26 s) (length s.points) (subroutes s)
