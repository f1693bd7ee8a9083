-- A board that shows the segments of a path's first places.
use Rattle.std.proofs.Common.{◌≡◌, ℕ, ◌+◌, ◌<◌, ◌≤◌, Bool, cond, ◌||◌, eqb, List, length, get_or, set, replicate, sym, refl, ap, ◌∙◌, ⊎_elim, arith, length-set}
use Rattle.std.proofs.lemmas.List.{get_or-replicate, get_or-set_same, get_or-set_other}
use Rattle.std.proofs.lemmas.Bool.{cases_eq, eq-eqb, ne_eqb}
use Rattle.firsts.specs.Claims.{any_below}
use Rattle.firsts.proofs.Below.{any_more}
use Rattle.station.specs.Station.{Station}
use Rattle.station.specs.Subroutes.{segment_of}
use Rattle.station.specs.Paths.{path_length, on_path}
use Rattle.conflicts.specs.Marks.{Shows}

-- the path comes into the segment at one of its first k places
abbrev pub met : Station → ℕ → ℕ → ℕ → Bool
met s r k t = any_below (λ i. eqb (segment_of s (on_path s r i)) t) k

pub record ShowsTo (b : List ℕ) (s : Station) (r k : ℕ) : Type 0 where
  pub long : length b ≡ 64
  pub cell : (t : ℕ) → t < 64 → get_or b t 0 ≡ cond (met s r k t) 1 0

pub shows_none : (s : Station) (r : ℕ) → ShowsTo (replicate 64 0) s r 0
shows_none s r = record { long = refl; cell = λ t l. get_or-replicate 64 t 0 0 l }

met_more : (s : Station) (r k t : ℕ) → met s r (k + 1) t ≡ (eqb (segment_of s (on_path s r k)) t || met s r k t)
met_more s r k t = any_more (λ i. eqb (segment_of s (on_path s r i)) t) k

pub shows_more : (b : List ℕ) (s : Station) (r k v : ℕ) → v ≡ segment_of s (on_path s r k) → v < 64 → ShowsTo b s r k → ShowsTo (set b v 1) s r (k + 1)
shows_more b s r k v e in' h =
    let long = h.long in
    record {
      long = length-set b v 1 ∙ long;
      cell = λ t l.
          let more = ap (λ x. cond x 1 0) (met_more s r k t ∙ ap (λ u. eqb u t || met s r k t) (sym e)) in
          ⊎_elim
          (λ q. ap (λ j. get_or (set b v 1) j 0) (sym q) ∙ get_or-set_same b v 1 0 (omega arith) ∙ sym (more ∙ ap (λ x. cond (x || met s r k t) 1 0) (eq-eqb v t q)))
          (λ q. get_or-set_other b v t 1 0 (λ f. q (sym f)) ∙ h.cell t l ∙ sym (more ∙ ap (λ x. cond (x || met s r k t) 1 0) (ne_eqb v t q)))
          (cases_eq v t);
    }

-- a segment past the board leaves it as it was
pub shows_past : (b : List ℕ) (s : Station) (r k v : ℕ) → v ≡ segment_of s (on_path s r k) → 64 ≤ v → ShowsTo b s r k → ShowsTo b s r (k + 1)
shows_past b s r k v e out h =
    record {
      long = h.long;
      cell = λ t l.
          let ne : v ≡ t → ⊥ = λ q. omega arith in
          h.cell t l
          ∙ sym (ap (λ x. cond x 1 0) (met_more s r k t ∙ ap (λ u. eqb u t || met s r k t) (sym e)) ∙ ap (λ x. cond (x || met s r k t) 1 0) (ne_eqb v t ne));
    }

pub shows_all : (b : List ℕ) (s : Station) (r k : ℕ) → k ≡ path_length s r → ShowsTo b s r k → Shows b s r
shows_all b s r k e h t l = h.cell t l ∙ ap (λ n. cond (met s r n t) 1 0) e
