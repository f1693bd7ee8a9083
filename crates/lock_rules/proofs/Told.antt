-- The test of each rule of locks tells what the rule says.
use Rattle.std.proofs.Common.{◌≡◌, ℕ, zero, suc, ◌-◌, ◌<◌, ◌≤◌, Bool, true, false, cond, ltb, List, length, Decides, Contains, Option, sym, refl, ap, ◌∙◌, subst, ⊎_elim, arith}
use Rattle.std.proofs.lemmas.List.Elements.{Contains-get_or}
use Rattle.std.proofs.lemmas.Bool.{both_ways, cases_lt}
use Rattle.std.proofs.lemmas.Bool.Decides.{Decides-eqb, Decides-ltb, Decides-and, Decides-like}
use Rattle.firsts.proofs.Below.{decides_all_below}
use Rattle.firsts.proofs.Elements.{decides_has}
use Rattle.firsts.proofs.Firsts.{breach_is, pair_is}
use Rattle.firsts.specs.Lists.{any}
use Rattle.station.specs.Alike.{same_release}
use Rattle.station.specs.declared.tests.ReleaseTest.{ReleaseTest}
use Rattle.station.specs.declared.tests.ReleaseTest.TheVariants.{Unset, Free, Clear}
use Rattle.station.specs.Station.{Station}
use Rattle.station.specs.Numbers.{release_at, point_at}
use Rattle.station.specs.Subroutes.{subroutes, segment_of}
use Rattle.station.specs.Paths.{path, path_length, on_path, Uses}
use Rattle.station.proofs.Alike.{decides_release}
use Rattle.station.proofs.Paths.{decides_uses, decides_used}
use Rattle.station.proofs.Covers.{decides_where, decides_point_guards}
use Rattle.lock_rules.specs.Release.{SoundRelease, asks_before, asks_along, sound_release, Kept25, kept_25, breach_25, Breach25}
use Rattle.lock_rules.specs.Points.{RowsGuard, rows_guard, Kept26, kept_26, breach_26, Breach26}

-- what is asked before the k-th place
record Asked (s : Station) (ts : List ReleaseTest) (r k : ℕ) : Type 0 where
  first : k ≡ 0 → Contains ts (Unset r)
  later : 0 < k → Contains ts (Free (on_path s r (k - 1)))

zero_else : (k : ℕ) → (0 < k → ⊥) → k ≡ 0
zero_else k h = ⊎_elim (λ l. absurd (h l)) (λ l. omega arith) (cases_lt 0 k)

decides_asked : (s : Station) (ts : List ReleaseTest) (r k : ℕ) (b x y : Bool) → Decides b (0 < k) → Decides x (Contains ts (Free (on_path s r (k - 1)))) → Decides y (Contains ts (Unset r)) → Decides (cond b x y) (Asked s ts r k)
decides_asked s ts r k true x y d f g =
    (λ e. record { first = λ z. absurd (omega (arith, d.0 refl)); later = λ _. f.0 e }, λ h. f.1 (h.later (d.0 refl)))
decides_asked s ts r k false x y d f g = (
  λ e. record { first = λ _. g.0 e; later = λ l. absurd (both_ways false refl (d.1 l)) },
  λ h. g.1 (h.first (zero_else k (λ l. both_ways false refl (d.1 l)))),
)

decides_before : (s : Station) (ts : List ReleaseTest) (r k : ℕ) → Decides (asks_before s ts r k) (Asked s ts r k)
decides_before s ts r k =
    decides_asked s ts r k (ltb 0 k) _ _ (Decides-ltb 0 k) (decides_has decides_release ts (Free (on_path s r (k - 1)))) (decides_has decides_release ts (Unset r))

abbrev Along : Station → List ReleaseTest → ℕ → ℕ → Type 0
Along s ts u r = Uses s r u → (k : ℕ) → k < path_length s r → on_path s r k ≡ u → Asked s ts r k

decides_along : (s : Station) (ts : List ReleaseTest) (u r : ℕ) → Decides (asks_along s ts u r) (Along s ts u r)
decides_along s ts u r =
    decides_where _ _ (decides_uses s r u)
    (decides_all_below (λ k. on_path s r k ≡ u → Asked s ts r k) (λ k. decides_where _ _ (Decides-eqb (on_path s r k) u) (decides_before s ts r k)) (path_length s r))

-- what stands on a route's path is used by it
pub used_at : (s : Station) (r k u : ℕ) → k < path_length s r → on_path s r k ≡ u → Uses s r u
used_at s r k u l e = subst (Contains (path s r)) e (Contains-get_or (path s r) k 0 l)

-- at the first place the tests ask for the route itself
pub asks_first : (s : Station) (ts : List ReleaseTest) (r k : ℕ) → k ≤ 0 → any (same_release (Unset r)) ts ≡ asks_before s ts r k
asks_first s ts r zero h = refl
asks_first s ts r (suc k) h = absurd (omega (arith, h))

pub decides_sound_release : (s : Station) (u : ℕ) → Decides (sound_release s u) (SoundRelease s u)
decides_sound_release s u =
    let ts = release_at s u in
    Decides-like (sound_release s u)
    (λ p. record {
      clear = p.0;
      starts = λ r l n e. (p.1 r l (used_at s r 0 u n e) 0 n e).first refl;
      follows = λ r l k n z e. (p.1 r l (used_at s r k u n e) k n e).later z;
    })
    (λ h. (
      h.clear,
      λ r l _ k n e. record {
        first = λ z. h.starts r l (omega arith) (ap (on_path s r) (sym z) ∙ e);
        later = λ z. h.follows r l k n z e;
      },
    ))
    (Decides-and _ _ (decides_has decides_release ts (Clear (segment_of s u))) (decides_all_below (Along s ts u) (decides_along s ts u) (length s.routes)))

pub decides_25 : (s : Station) (u : ℕ) → Decides (kept_25 s u) (Kept25 s u)
decides_25 s u = decides_where _ _ (decides_used s u) (decides_sound_release s u)

decides_rows : (s : Station) (p u : ℕ) → Decides (rows_guard s p u) (RowsGuard s p u)
decides_rows s p u =
    Decides-like (rows_guard s p u) (λ q. record { normal = q.0; reverse = q.1 }) (λ h. (h.normal, h.reverse)) (Decides-and _ _
    (decides_point_guards s (point_at s p).normal u)
    (decides_point_guards s (point_at s p).reverse u))

pub decides_26 : (s : Station) (p u : ℕ) → Decides (kept_26 s (p, u)) (Kept26 s p u)
decides_26 s p u =
    decides_where _ _ (Decides-eqb (segment_of s u) (point_at s p).home) (decides_where _ _ (decides_used s u) (decides_rows s p u))

-- so what is the first thing of which the test fails is the first that breaks the rule
pub first_25 : (s : Station) (r : Option ℕ) → r ≡ breach_25 s → Breach25 s r
first_25 s r e = subst (Breach25 s) (sym e) (breach_is (kept_25 s) (Kept25 s) (decides_25 s) (subroutes s))

pub first_26 : (s : Station) (r : Option (ℕ × ℕ)) → r ≡ breach_26 s → Breach26 s r
first_26 s r e = subst (Breach26 s) (sym e) (pair_is (kept_26 s) (Kept26 s) (decides_26 s) (length s.points) (subroutes s))
