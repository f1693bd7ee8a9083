-- Rule 25: the release row of a used subroute tests its segment clear, `xs` of every route that it starts, and free every subroute just before it on a path.
use Rattle.std.specs.Prelude.{◌≡◌, ℕ, ◌-◌, ◌<◌, Bool, true, cond, ◌&&◌, List, length, Contains, Option, ◌==◌, nat_lt}
use Rattle.firsts.specs.Claims.{all_below, first_failing, FirstBreach}
use Rattle.firsts.specs.Lists.{any}
use Rattle.station.specs.declared.tests.ReleaseTest.{ReleaseTest}
use Rattle.station.specs.declared.tests.ReleaseTest.TheVariants.{Unset, Free, Clear}
use Rattle.station.specs.Station.{Station}
use Rattle.station.specs.Numbers.{release_at}
use Rattle.station.specs.Alike.{same_release}
use Rattle.station.specs.Subroutes.{subroutes, segment_of}
use Rattle.station.specs.Paths.{path_length, on_path, uses, used, Used}

pub record SoundRelease (s : Station) (u : ℕ) : Type 0 where
  pub clear : Contains (release_at s u) (Clear (segment_of s u))
  pub starts : (r : ℕ) → r < length s.routes → 0 < path_length s r → on_path s r 0 ≡ u → Contains (release_at s u) (Unset r)
  pub follows : (r : ℕ) → r < length s.routes → (k : ℕ) → k < path_length s r → 0 < k → on_path s r k ≡ u → Contains (release_at s u) (Free (on_path s r (k - 1)))

-- the tests ask for what stands before the k-th place of the route's path: at the first, the route itself
abbrev pub asks_before : Station → List ReleaseTest → ℕ → ℕ → Bool
asks_before s ts r k = cond (nat_lt 0 k) (any (same_release (Free (on_path s r (k - 1)))) ts) (any (same_release (Unset r)) ts)

-- they do wherever the route's path has the subroute
abbrev pub asks_along : Station → List ReleaseTest → ℕ → ℕ → Bool
asks_along s ts u r =
    cond (uses s r u) (all_below (λ k. cond (on_path s r k == u) (asks_before s ts r k) true) (path_length s r)) true

abbrev pub sound_release : Station → ℕ → Bool
sound_release s u =
    any (same_release (Clear (segment_of s u))) (release_at s u) && all_below (asks_along s (release_at s u) u) (length s.routes)

-- it is asked of used subroutes
abbrev pub Kept25 : Station → ℕ → Type 0
Kept25 s u = Used s u → SoundRelease s u

abbrev pub kept_25 : Station → ℕ → Bool
kept_25 s u = cond (used s u) (sound_release s u) true

-- the first subroute that breaks the rule
abbrev pub breach_25 : Station → Option ℕ
breach_25 s = first_failing (kept_25 s) (subroutes s)

abbrev pub Breach25 : Station → Option ℕ → Type 0
Breach25 s = FirstBreach (Kept25 s) (subroutes s)
