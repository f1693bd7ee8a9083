-- Over a held point no way fits; elsewhere the way that fits is that of the track below.
use Rattle.std.proofs.Common.{◌≡◌, ℕ, ◌<◌, Bool, true, false, cond, ◌&&◌, eqb, List, length, Some, None, Decides, Contains, Option, sym, refl, ap, ◌∙◌, ⊎_elim, arith, MatchOption}
use Rattle.std.proofs.lemmas.Bool.Decides.{Decides-and, Decides-eqb, Decides-not, eqb_tells, nat_tests}
use Rattle.std.proofs.lemmas.Bool.{both_ways}
use Rattle.firsts.proofs.Below.{decides_any_below}
use Rattle.acceptance.specs.Consequences.{Consequences}
use Rattle.acceptance.specs.Soundness.{Sound}
use Rattle.station.specs.Numbers.{point_at, way_at}
use Rattle.station.specs.Station.{Station}
use Rattle.station.specs.declared.tables.Setting.{Setting}
use Rattle.track.specs.Meaning.{Meaning, state_at}
use Rattle.track.specs.Ways.{Fits, LeadsOut, WaysLeadOut, other_end, way_out}
use Rattle.track.proofs.Fitting.{leads_out}
use Rattle.holding.specs.Courses.{HeldWays, some_held}
use Rattle.holding.specs.Seen.{count_at, hold, seen}
use Rattle.holding.proofs.Eaches.{state_seen}

-- settlings of a home point of the segment are held back
abbrev Held : Station → List ℕ → ℕ → Type 0
Held s hs t = (p : ℕ) × (p < length s.points) × (((point_at s p).home ≡ t) × (count_at hs p ≡ 0 → ⊥))

decides_held : (s : Station) (hs : List ℕ) (t : ℕ) → Decides (some_held s hs t) (Held s hs t)
decides_held s hs t =
    decides_any_below (λ p. ((point_at s p).home ≡ t) × (count_at hs p ≡ 0 → ⊥))
    (λ p. Decides-and _ _ (Decides-eqb (point_at s p).home t) (Decides-not _ (Decides-eqb (count_at hs p) 0)))
    (length s.points)

moving : (n : ℕ) → (n ≡ 0 → ⊥) → eqb n 0 ≡ false
moving n h = grind (arith, nat_tests)

module _ (s : Station) (rules : Sound s) (m : Meaning) (hs : List ℕ) (offs : List Bool) (t j : ℕ) where
  abbrev M : Meaning
  M = seen m hs offs

  -- over a held point no way fits, since a way names every home point of its segment
  unfit : Held s hs t → (w : ℕ) → Fits s M t j w → ⊥
  unfit (p, l, (home, held)) w f =
      let n = (rules.layout.rule_12 w f.declared).each p l (home ∙ sym f.inside) in
      let q = n.0.point in
      let b = (state_at m q).settled in
      let off : eqb (count_at hs q) 0 ≡ false = ap (λ k. eqb (count_at hs k) 0) n.2 ∙ moving (count_at hs p) held in
      let lies : (eqb (count_at hs q) 0 && b) ≡ true = sym (ap (λ x. x.settled) (state_seen m hs offs q)) ∙ (f.settled n.0 n.1).0 in
      both_ways (eqb (count_at hs q) 0 && b) (ap (λ x. x && b) off) lies

  -- where none is held, the points of a way lie as below, since it names home points of its segment only
  as_below : (Held s hs t → ⊥) → (w : ℕ) → w < length s.ways → (way_at s w).segment ≡ t → (x : Setting) → Contains (way_at s w).settings x → state_at M x.point ≡ state_at m x.point
  as_below free w l inside x h =
      let own = (rules.layout.rule_12 w l).own x h in
      let p = x.point in
      let none : count_at hs p ≡ 0 = ⊎_elim (λ y. y.1) (λ n. absurd (free (p, own.0, (own.1 ∙ inside, n.1)))) (eqb_tells (count_at hs p) 0) in
      state_seen m hs offs p ∙ ap (hold (state_at m p)) none

  module _ (free : Held s hs t → ⊥) where
    up : (w : ℕ) → Fits s m t j w → Fits s M t j w
    up w f =
        let same = as_below free w f.declared f.inside in
        record {
          declared = f.declared;
          inside = f.inside;
          at_joint = f.at_joint;
          settled = λ x h. (ap (λ q. q.settled) (same x h) ∙ (f.settled x h).0, ap (λ q. q.target) (same x h) ∙ (f.settled x h).1);
        }

    down : (w : ℕ) → Fits s M t j w → Fits s m t j w
    down w f =
        let same = as_below free w f.declared f.inside in
        record {
          declared = f.declared;
          inside = f.inside;
          at_joint = f.at_joint;
          settled = λ x h. (sym (ap (λ q. q.settled) (same x h)) ∙ (f.settled x h).0, sym (ap (λ q. q.target) (same x h)) ∙ (f.settled x h).1);
        }

    joined : (a b : Option ℕ) → MatchOption a ((w : ℕ) → Fits s M t j w → ⊥) (LeadsOut s M t j) → MatchOption b ((w : ℕ) → Fits s m t j w → ⊥) (LeadsOut s m t j) → a ≡ b
    joined None None x y = refl
    joined None (Some k) x y = absurd (x y.way (up y.way y.fit))
    joined (Some k) None x y = absurd (y x.way (down x.way x.fit))
    joined (Some k) (Some l) x y =
        ap Some (sym x.onto ∙ ap (λ w. other_end (way_at s w) j) (y.only x.way (down x.way x.fit)) ∙ y.onto)

  stuck : Held s hs t → (a : Option ℕ) → MatchOption a ((w : ℕ) → Fits s M t j w → ⊥) (LeadsOut s M t j) → a ≡ None
  stuck h None x = refl
  stuck h (Some k) x = absurd (unfit h x.way x.fit)

  by_held : (b : Bool) → Decides b (Held s hs t) → WaysLeadOut s → way_out s M t j ≡ cond b None (way_out s m t j)
  by_held true d out = stuck (d.0 refl) (way_out s M t j) (out M t j)
  by_held false d out = joined (λ h. both_ways false refl (d.1 h)) (way_out s M t j) (way_out s m t j) (out M t j) (out m t j)

pub held_ways : (s : Station) → Sound s → Consequences s → HeldWays s
held_ways s rules facts m hs offs t j =
    by_held s rules m hs offs t j (some_held s hs t) (decides_held s hs t) (leads_out s facts)
