-- On an accepted station at most one way fits, and a train leaves by it.
use Rattle.std.proofs.Common.{◌≡◌, ℕ, Bool, true, false, cond, ◌⊎◌, length, Some, None, Decides, Contains, Option, sym, refl, ◌∙◌, inl, inr, arith, MatchOption}
use Rattle.std.proofs.lemmas.Bool.Decides.{Decides-and, Decides-eqb, Decides-or, not_from_Decides}
use Rattle.firsts.specs.Search.{First}
use Rattle.firsts.proofs.Elements.{decides_every}
use Rattle.firsts.proofs.Firsts.{first_is}
use Rattle.station.specs.declared.tables.Setting.{Setting}
use Rattle.station.proofs.Alike.{decides_position}
use Rattle.layout_rules.specs.WayPairs.{ShareJoint}
use Rattle.acceptance.specs.Consequences.{Consequences}
use Rattle.station.specs.Station.{Station, WayEntry}
use Rattle.station.specs.Numbers.{way_at}
use Rattle.track.specs.Meaning.{Meaning, state_at}
use Rattle.track.specs.Ways.{Fits, LeadsOut, WaysLeadOut, OneFits, lies, other_end, out_by, way_fits, way_out}

-- two ways at one joint share it
shared : (v w : WayEntry) (j : ℕ) → (v.from ≡ j) ⊎ (v.to ≡ j) → (w.from ≡ j) ⊎ (w.to ≡ j) → ShareJoint v w
shared v w j (inl a) (inl b) = inl (inl (a ∙ sym b))
shared v w j (inl a) (inr b) = inl (inr (a ∙ sym b))
shared v w j (inr a) (inl b) = inr (inl (a ∙ sym b))
shared v w j (inr a) (inr b) = inr (inr (a ∙ sym b))

pub one_fits : (s : Station) → Consequences s → OneFits s
one_fits s c m t j v w f g =
    c.ways.one_way v w f.declared g.declared (f.inside ∙ sym g.inside)
    (shared (way_at s v) (way_at s w) j f.at_joint g.at_joint)
    (λ p. (state_at m p).target)
    (λ x h. (f.settled x h).1)
    (λ x h. (g.settled x h).1)

-- the point is settled as the setting says
abbrev Lies : Meaning → Setting → Type 0
Lies m x = ((state_at m x.point).settled ≡ true) × ((state_at m x.point).target ≡ x.position)

itself : (b : Bool) → Decides b (b ≡ true)
itself b = (λ e. e, λ e. e)

decides_lies : (m : Meaning) (x : Setting) → Decides (lies m x) (Lies m x)
decides_lies m x = Decides-and _ _ (itself _) (decides_position (state_at m x.point).target x.position)

abbrev Fitting : Meaning → ℕ → ℕ → WayEntry → Type 0
Fitting m t j w = (w.segment ≡ t) × (((w.from ≡ j) ⊎ (w.to ≡ j)) × ((x : Setting) → Contains w.settings x → Lies m x))

decides_fitting : (m : Meaning) (t j : ℕ) (w : WayEntry) → Decides (way_fits m t j w) (Fitting m t j w)
decides_fitting m t j w =
    Decides-and _ _ (Decides-eqb w.segment t)
    (Decides-and _ _ (Decides-or _ _ (Decides-eqb w.from j) (Decides-eqb w.to j)) (decides_every (Lies m) (decides_lies m) w.settings))

no_answer : (b : Bool) (k : ℕ) → cond b (Some k) None ≡ None → b ≡ false
no_answer true k e = let z : ◌≡◌ {A = ℕ} 0 1 = cc in absurd (omega arith)
no_answer false k e = refl

answered : (b : Bool) (k l : ℕ) → cond b (Some k) None ≡ Some l → (b ≡ true) × (k ≡ l)
answered true k l e = (refl, cc)
answered false k l e = let z : ◌≡◌ {A = ℕ} 0 1 = cc in absurd (omega arith)

module _ (s : Station) (c : Consequences s) (m : Meaning) (t j : ℕ) where
  found : (r : Option ℕ) → First (out_by s m t j) (length s.ways) r → MatchOption r ((w : ℕ) → Fits s m t j w → ⊥) (LeadsOut s m t j)
  found None h = λ w f.
      not_from_Decides (way_fits m t j (way_at s w)) (decides_fitting m t j (way_at s w)) (no_answer _ _ (h w f.declared)) (f.inside, (f.at_joint, f.settled))
  found (Some k) h =
      let w = h.place in
      let a = answered (way_fits m t j (way_at s w)) (other_end (way_at s w) j) k h.answer in
      let p = (decides_fitting m t j (way_at s w)).0 a.0 in
      let fit : Fits s m t j w = record { declared = h.within; inside = p.0; at_joint = p.1.0; settled = p.1.1 } in
      record { way = w; fit = fit; onto = a.1; only = λ v f. one_fits s c m t j v w f fit }

pub leads_out : (s : Station) → Consequences s → WaysLeadOut s
leads_out s c m t j = found s c m t j (way_out s m t j) (first_is (out_by s m t j) (length s.ways))
