-- When a zone covers a subroute, and when a row's tests keep a subroute free.
use Rattle.std.specs.Prelude.{◌≡◌, ℕ, ◌<◌, Bool, true, false, cond, ◌&&◌, List, length, Contains, ◌==◌}
use Rattle.firsts.specs.Claims.{all_below}
use Rattle.firsts.specs.Lists.{any}
use Rattle.station.specs.declared.tests.Lock.{Lock}
use Rattle.station.specs.declared.tests.Lock.TheVariants.{Zone, Subroute}
use Rattle.station.specs.declared.tests.RequestTest.{RequestTest}
use Rattle.station.specs.declared.tests.RequestTest.TheVariants as request
use Rattle.station.specs.declared.tests.PointTest.{PointTest}
use Rattle.station.specs.declared.tests.ReleaseTest.TheVariants as release
use Rattle.station.specs.Station.{Station}
use Rattle.station.specs.Numbers.{zone_at}
use Rattle.station.specs.Alike.{same_release}
use Rattle.station.specs.Paths.{uses, Uses, locks, Locks}

-- every route that uses the subroute locks the zone
abbrev pub users_lock : Station → ℕ → ℕ → Bool
users_lock s z u = all_below (λ r. cond (uses s r u) (locks s r z) true) (length s.routes)

-- the zone's row tests the subroute free, and every route that uses it locks the zone
abbrev pub covers : Station → ℕ → ℕ → Bool
covers s z u = any (same_release (release.Free u)) (zone_at s z).tests && users_lock s z u

pub record Covers (s : Station) (z u : ℕ) : Type 0 where
  pub tested : Contains (zone_at s z).tests (release.Free u)
  pub locked : (r : ℕ) → r < length s.routes → Uses s r u → Locks s r z

-- where the lock is free, so is the subroute: it is the subroute's own, or a zone that covers it
abbrev pub guards : Station → ℕ → Lock → Bool
guards s u (Zone z) = covers s z u
guards s u (Subroute v) = v == u

abbrev pub Guards : Station → ℕ → Lock → Type 0
Guards s u (Zone z) = Covers s z u
Guards s u (Subroute v) = v ≡ u

abbrev pub test_guards : Station → ℕ → RequestTest → Bool
test_guards s u (request.Unset r) = false
test_guards s u (request.Movable p x) = false
test_guards s u (request.Free l) = guards s u l

-- a request row tests the subroute free, or a zone that covers it
abbrev pub request_guards : Station → List RequestTest → ℕ → Bool
request_guards s ts u = any (test_guards s u) ts

pub record RequestGuards (s : Station) (ts : List RequestTest) (u : ℕ) : Type 0 where
  pub lock : Lock
  pub tested : Contains ts (request.Free lock)
  pub guard : Guards s u lock

-- a point's row tests the subroute free, or a zone that covers it
abbrev pub point_guards : Station → List PointTest → ℕ → Bool
point_guards s ts u = any (λ t. guards s u t.free) ts

pub record PointGuards (s : Station) (ts : List PointTest) (u : ℕ) : Type 0 where
  pub test : PointTest
  pub tested : Contains ts test
  pub guard : Guards s u test.free
