-- The test of rule 27 tells what the rule says.
use Rattle.std.proofs.Common.{◌≡◌, ℕ, ◌<◌, Bool, true, false, cond, not, ◌&&◌, length, Some, None, Decides, Option, sym, refl, ap, ◌∙◌, subst, arith, MatchOption}
use Rattle.std.proofs.lemmas.Bool.Decides.{Decides-eqb}
use Rattle.firsts.specs.Claims.{paired}
use Rattle.firsts.specs.Least.{Lowest}
use Rattle.firsts.specs.Search.{First}
use Rattle.firsts.proofs.Below.{decides_any_below}
use Rattle.firsts.proofs.Firsts.{first_is}
use Rattle.firsts.proofs.Lowest.{lowest_is}
use Rattle.station.specs.Station.{Station}
use Rattle.station.specs.Numbers.{route_at}
use Rattle.station.specs.Subroutes.{segment_of}
use Rattle.station.specs.Paths.{path_length, on_path}
use Rattle.station.specs.Covers.{request_guards, RequestGuards}
use Rattle.station.proofs.Covers.{decides_request_guards}
use Rattle.conflicts.specs.Conflicts.{Meets, meets, Kept27, ExposedAt, Exposed, FirstConflict, Breach27, open_at, lowest_open, first_other, tripled, breach_27}

never : {X : Type 0} (x : X) → None ≡ Some x → ⊥
never x e = let z : ◌≡◌ {A = ℕ} 0 1 = cc in omega arith

decides_meets : (s : Station) (r t : ℕ) → Decides (meets s r t) (Meets s r t)
decides_meets s r t =
    decides_any_below (λ k. segment_of s (on_path s r k) ≡ t) (λ k. Decides-eqb (segment_of s (on_path s r k)) t) (path_length s r)

-- what stands open, by the two tests
open_some : (m g : Bool) (t x : ℕ) → cond (m && not g) (Some t) None ≡ Some x → (m ≡ true) × (g ≡ false) × (t ≡ x)
open_some true true t x e = absurd (never x e)
open_some true false t x e = (refl, refl, cc)
open_some false g t x e = absurd (never x e)

open_none : (m g : Bool) (t : ℕ) → cond (m && not g) (Some t) None ≡ None → m ≡ true → g ≡ true
open_none true true t e h = refl
open_none true false t e h = absurd (never t (sym e))
open_none false g t e h = cc

open_made : (m g : Bool) (t : ℕ) → m ≡ true → (g ≡ true → ⊥) → cond (m && not g) (Some t) None ≡ Some t
open_made true true t h n = absurd (n refl)
open_made true false t h n = refl
open_made false g t h n = cc

module _ (s : Station) (r o : ℕ) where
  guard_at : (k : ℕ) → Decides (request_guards s (route_at s r).tests (on_path s o k)) (RequestGuards s (route_at s r).tests (on_path s o k))
  guard_at k = decides_request_guards s (route_at s r).tests (on_path s o k)

  meet_at : (k : ℕ) → Decides (meets s r (segment_of s (on_path s o k))) (Meets s r (segment_of s (on_path s o k)))
  meet_at k = decides_meets s r (segment_of s (on_path s o k))

  exposed_at : (k t : ℕ) → open_at s r o k ≡ Some t → ExposedAt s r o k t
  exposed_at k t e =
      let p = open_some (meets s r (segment_of s (on_path s o k))) (request_guards s (route_at s r).tests (on_path s o k)) (segment_of s (on_path s o k)) t e in
      record {
        here = p.2;
        common = subst (Meets s r) p.2 ((meet_at k).0 p.0);
        unguarded = λ h. let a = (guard_at k).1 h in let z : ◌≡◌ {A = ℕ} 0 1 = cc in omega arith;
      }

  open_from : (k t : ℕ) → ExposedAt s r o k t → open_at s r o k ≡ Some t
  open_from k t h =
      open_made (meets s r (segment_of s (on_path s o k))) (request_guards s (route_at s r).tests (on_path s o k)) (segment_of s (on_path s o k))
      ((meet_at k).1 (subst (Meets s r) (sym h.here) h.common)) (λ g. h.unguarded ((guard_at k).0 g))
      ∙ ap Some h.here

  -- what the lowest open segment tells
  abbrev Told : Option ℕ → Type 0
  Told x = MatchOption x (Kept27 s r o) (λ t. Exposed s r o t × ((u : ℕ) → u < t → Exposed s r o u → ⊥))

  told_from : (x : Option ℕ) → Lowest (open_at s r o) (path_length s o) x → Told x
  told_from None h = λ k l m. (guard_at k).0 (open_none _ _ _ (h k l) ((meet_at k).1 m))
  told_from (Some t) h = (
    (h.place, h.within, exposed_at h.place t h.answer),
    λ u l e. let a = h.lowest e.0 e.1 u (open_from e.0 u e.2) in omega arith,
  )

  told : Told (lowest_open s r o)
  told = told_from (lowest_open s r o) (lowest_is (open_at s r o) (path_length s o))

  told_none : (x : Option ℕ) → Told x → paired o x ≡ None → Kept27 s r o
  told_none None h e = h
  told_none (Some t) h e = absurd (never (o, t) (sym e))

-- of one route and every other
record FirstOther (s : Station) (r : ℕ) (q : ℕ × ℕ) : Type 0 where
  inside : q.0 < length s.routes
  exposed : Exposed s r q.0 q.1
  lowest : (t : ℕ) → t < q.1 → Exposed s r q.0 t → ⊥
  beside : (o : ℕ) → o < q.0 → Kept27 s r o

module _ (s : Station) (r : ℕ) where
  abbrev OtherTold : Option (ℕ × ℕ) → Type 0
  OtherTold x = MatchOption x ((o : ℕ) → o < length s.routes → Kept27 s r o) (FirstOther s r)

  kept : (o : ℕ) → paired o (lowest_open s r o) ≡ None → Kept27 s r o
  kept o e = told_none s r o (lowest_open s r o) (told s r o) e

  here : (o : ℕ) (x : Option ℕ) (q : ℕ × ℕ) → o < length s.routes → ((i : ℕ) → i < o → Kept27 s r i) → Told s r o x → paired o x ≡ Some q → FirstOther s r q
  here o None q l before h e = absurd (never q e)
  here o (Some t) q l before h e =
      let p : (o, t) ≡ q = cc in
      subst (FirstOther s r) p (record { inside = l; exposed = h.0; lowest = h.1; beside = before })

  other_from : (x : Option (ℕ × ℕ)) → First (λ o. paired o (lowest_open s r o)) (length s.routes) x → OtherTold x
  other_from None h = λ o l. kept o (h o l)
  other_from (Some q) h =
      here h.place (lowest_open s r h.place) q h.within (λ i l. kept i (h.before i l)) (told s r h.place) h.answer

  other_told : OtherTold (first_other s r)
  other_told = other_from (first_other s r) (first_is (λ o. paired o (lowest_open s r o)) (length s.routes))

module _ (s : Station) where
  row_none : (r : ℕ) (x : Option (ℕ × ℕ)) → OtherTold s r x → tripled r x ≡ None → (o : ℕ) → o < length s.routes → Kept27 s r o
  row_none r None h e = h
  row_none r (Some q) h e = absurd (never (r, q.0, q.1) (sym e))

  row_some : (r : ℕ) (x : Option (ℕ × ℕ)) (q : ℕ × ℕ × ℕ) → r < length s.routes → ((i o : ℕ) → i < r → o < length s.routes → Kept27 s i o) → OtherTold s r x → tripled r x ≡ Some q → FirstConflict s q
  row_some r None q l before h e = absurd (never q e)
  row_some r (Some p) q l before h e =
      let c : (r, p.0, p.1) ≡ q = cc in
      subst (FirstConflict s) c (record {
        within = l;
        inside = h.inside;
        exposed = h.exposed;
        lowest = h.lowest;
        beside = h.beside;
        before = before;
      })

  breach_from : (x : Option (ℕ × ℕ × ℕ)) → First (λ r. tripled r (first_other s r)) (length s.routes) x → Breach27 s x
  breach_from None h = λ r o l m. row_none r (first_other s r) (other_told s r) (h r l) o m
  breach_from (Some q) h =
      row_some h.place (first_other s h.place) q h.within (λ i o l m. row_none i (first_other s i) (other_told s i) (h.before i l) o m) (other_told s h.place) h.answer

-- so what the search finds is the first conflict
pub first_27 : (s : Station) → Breach27 s (breach_27 s)
first_27 s = breach_from s (breach_27 s) (first_is (λ r. tripled r (first_other s r)) (length s.routes))
