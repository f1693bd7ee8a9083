-- The tests of cover tell it.
use Rattle.std.proofs.Common.{◌≡◌, ℕ, Bool, true, false, cond, List, length, Decides, Contains, refl, arith}
use Rattle.std.proofs.lemmas.Bool.Decides.{Decides-eqb, Decides-and, Decides-like}
use Rattle.firsts.proofs.Below.{decides_all_below}
use Rattle.firsts.proofs.Elements.{decides_has, decides_some}
use Rattle.station.specs.declared.tests.Lock.{Lock}
use Rattle.station.specs.declared.tests.Lock.TheVariants.{Zone, Subroute}
use Rattle.station.specs.declared.tests.RequestTest.{RequestTest}
use Rattle.station.specs.declared.tests.RequestTest.TheVariants as request
use Rattle.station.specs.declared.tests.PointTest.{PointTest}
use Rattle.station.specs.declared.tests.ReleaseTest.TheVariants as release
use Rattle.station.specs.Station.{Station}
use Rattle.station.specs.Numbers.{zone_at}
use Rattle.station.specs.Paths.{uses, Uses, locks, Locks}
use Rattle.station.specs.Covers.{covers, Covers, guards, Guards, test_guards, request_guards, RequestGuards, point_guards, PointGuards}
use Rattle.station.proofs.Alike.{decides_release}
use Rattle.station.proofs.Paths.{decides_uses, decides_locks}

-- a test that is asked only where another holds
pub decides_where : {P Q : Type 0} (x y : Bool) → Decides x P → Decides y Q → Decides (cond x y true) (P → Q)
decides_where true y p q = (λ e _. q.0 e, λ h. q.1 (h (p.0 refl)))
decides_where false y p q = (λ e h. absurd (let z : ◌≡◌ {A = Bool} false true = p.1 h in let w : ◌≡◌ {A = ℕ} 0 1 = cc in omega arith), λ _. refl)

pub decides_covers : (s : Station) (z u : ℕ) → Decides (covers s z u) (Covers s z u)
decides_covers s z u =
    Decides-like (covers s z u) (λ p. record { tested = p.0; locked = p.1 }) (λ c. (c.tested, c.locked)) (Decides-and _ _
    (decides_has decides_release (zone_at s z).tests (release.Free u))
    (decides_all_below (λ r. Uses s r u → Locks s r z) (λ r. decides_where (uses s r u) (locks s r z) (decides_uses s r u) (decides_locks s r z)) (length s.routes)))

pub decides_guards : (s : Station) (u : ℕ) (l : Lock) → Decides (guards s u l) (Guards s u l)
decides_guards s u (Zone z) = decides_covers s z u
decides_guards s u (Subroute v) = Decides-eqb v u

-- what one test of a request row keeps free
abbrev TestGuards : Station → ℕ → RequestTest → Type 0
TestGuards s u (request.Unset r) = ⊥
TestGuards s u (request.Movable p x) = ⊥
TestGuards s u (request.Free l) = Guards s u l

decides_test : (s : Station) (u : ℕ) (t : RequestTest) → Decides (test_guards s u t) (TestGuards s u t)
decides_test s u (request.Unset r) = (λ e. let w : ◌≡◌ {A = ℕ} 0 1 = cc in omega arith, λ h. absurd h)
decides_test s u (request.Movable p x) = (λ e. let w : ◌≡◌ {A = ℕ} 0 1 = cc in omega arith, λ h. absurd h)
decides_test s u (request.Free l) = decides_guards s u l

by_test : (s : Station) (ts : List RequestTest) (u : ℕ) (t : RequestTest) → Contains ts t → TestGuards s u t → RequestGuards s ts u
by_test s ts u (request.Unset r) h g = absurd g
by_test s ts u (request.Movable p x) h g = absurd g
by_test s ts u (request.Free l) h g = record { lock = l; tested = h; guard = g }

pub decides_request_guards : (s : Station) (ts : List RequestTest) (u : ℕ) → Decides (request_guards s ts u) (RequestGuards s ts u)
decides_request_guards s ts u =
    Decides-like (request_guards s ts u) (λ p. by_test s ts u p.0 p.1 p.2) (λ h. (request.Free h.lock, h.tested, h.guard))
    (decides_some (TestGuards s u) (request.Unset 0) (decides_test s u) ts)

pub decides_point_guards : (s : Station) (ts : List PointTest) (u : ℕ) → Decides (point_guards s ts u) (PointGuards s ts u)
decides_point_guards s ts u =
    Decides-like (point_guards s ts u) (λ p. record { test = p.0; tested = p.1; guard = p.2 }) (λ h. (h.test, h.tested, h.guard))
    (decides_some (λ t. Guards s u t.free) (record { free = Zone 0 }) (λ t. decides_guards s u t.free) ts)
