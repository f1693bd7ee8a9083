-- The way that fits a train, as a subroute that starts where the train came in.
use Rattle.std.proofs.Common.{◌≡◌, ℕ, ◌+◌, ◌*◌, ◌/◌, ◌%◌, ◌<◌, Bool, true, false, cond, ◌≢◌, ◌⊎◌, length, Some, None, Option, sym, ◌∙◌, subst, inl, inr, arith, eq-eqb, ne_eqb, MatchOption}
use Rattle.std.proofs.lemmas.Option.{none-some}
use native.Mathlib.Decide.{ℕ_discrete}
use Rattle.station.specs.Station.{Station}
use Rattle.station.specs.Numbers.{way_at}
use Rattle.station.specs.Subroutes.{against, end, start, way_of}
use Rattle.acceptance.specs.Consequences.{Consequences}
use Rattle.track.specs.Ways.{Fits, LeadsOut, other_end, way_out}
use Rattle.track.proofs.Fitting.{leads_out}
use Rattle.conditions.specs.States.{State}
use Rattle.safety.proofs.Moves.{Fitting}
use Rattle.safety.proofs.Kept.{view}
use Rattle.safety.proofs.Stations.{plan}

module _ (s : Station) (v : State) (x j w k : ℕ) (f : Fits s v.track x j w) (onto : other_end (way_at s w) j ≡ k) where
  -- the way runs as written, where it is from the joint
  forward : (way_at s w).from ≡ j → (u : ℕ) × Fitting (plan s) (view v) x j u × (end s u ≡ k)
  forward d =
      let h : (2 * w) / 2 ≡ w = omega arith in
      let o : (2 * w) % 2 ≢ 1 = omega arith in
      let a : against (2 * w) ≡ false = ne_eqb ((2 * w) % 2) 1 o in
      let hw = f.declared in
      let c : other_end (way_at s w) j ≡ (way_at s w).to = rw (eq-eqb (way_at s w).from j d) in (
        2 * w,
        record {
          known = omega arith;
          in_it = rw h f.inside;
          at_it = rw (a, h) d;
          points = rw h f.settled;
        },
        rw (a, h) (sym c ∙ onto),
      )

  -- and against that, where it is to the joint
  backward : (way_at s w).from ≢ j → (way_at s w).to ≡ j → (u : ℕ) × Fitting (plan s) (view v) x j u × (end s u ≡ k)
  backward ne d =
      let h : (2 * w + 1) / 2 ≡ w = omega arith in
      let o : (2 * w + 1) % 2 ≡ 1 = omega arith in
      let a : against (2 * w + 1) ≡ true = eq-eqb ((2 * w + 1) % 2) 1 o in
      let hw = f.declared in
      let c : other_end (way_at s w) j ≡ (way_at s w).from = rw (ne_eqb (way_at s w).from j ne) in (
        2 * w + 1,
        record {
          known = omega arith;
          in_it = rw h f.inside;
          at_it = rw (a, h) d;
          points = rw h f.settled;
        },
        rw (a, h) (sym c ∙ onto),
      )

  pub runs_so : (u : ℕ) × Fitting (plan s) (view v) x j u × (end s u ≡ k)
  runs_so =
      elim (ℕ_discrete (way_at s w).from j) [
        | yes d ↦ forward d
        | no d ↦ elim f.at_joint [ inl e ↦ absurd (d e) | inr e ↦ backward d e ]
      ]

module _ (s : Station) (facts : Consequences s) (v : State) (x j : ℕ) where
  found : (o : Option ℕ) (k : ℕ) → MatchOption o ((w : ℕ) → Fits s v.track x j w → ⊥) (LeadsOut s v.track x j) → o ≡ Some k → LeadsOut s v.track x j k
  found None k h e = absurd (none-some _ e)
  found (Some i) k h e = let d : i ≡ k = cc in subst (LeadsOut s v.track x j) d h

  missed : (o : Option ℕ) → MatchOption o ((w : ℕ) → Fits s v.track x j w → ⊥) (LeadsOut s v.track x j) → o ≡ None → (w : ℕ) → Fits s v.track x j w → ⊥
  missed None h e = h
  missed (Some i) h e = absurd (none-some _ (sym e))

  -- A train that leads out by a joint has a subroute that fits and ends there.
  pub leads_by : (k : ℕ) → way_out s v.track x j ≡ Some k → (u : ℕ) × Fitting (plan s) (view v) x j u × (end s u ≡ k)
  leads_by k e =
      let l = found (way_out s v.track x j) k (leads_out s facts v.track x j) e in
      runs_so s v x j l.way k l.fit l.onto

  at_either : (u : ℕ) → start s u ≡ j → ((way_of s u).from ≡ j) ⊎ ((way_of s u).to ≡ j)
  at_either u e = go (against u) e
    where
      go : (b : Bool) → cond b (way_of s u).to (way_of s u).from ≡ j → ((way_of s u).from ≡ j) ⊎ ((way_of s u).to ≡ j)
      go true d = inr d
      go false d = inl d

  -- Where no way leads out, no subroute fits.
  pub leads_nowhere : way_out s v.track x j ≡ None → (u : ℕ) → Fitting (plan s) (view v) x j u → ⊥
  leads_nowhere e u f =
      let hu = f.known in
      let half : u / 2 < length s.ways = omega arith in
      missed (way_out s v.track x j) (leads_out s facts v.track x j) e (u / 2) (record { declared = half; inside = f.in_it; at_joint = at_either u f.at_it; settled = f.points })
