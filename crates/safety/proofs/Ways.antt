-- The way that fits a train, and where it leads.
use Rattle.std.proofs.Common.{◌≡◌, ℕ, suc, ◌<◌, ◌≢◌, ◌⊎◌, Some, None, sym, refl, ap, ◌∙◌, inl, inr, le_refl, arith}
use native.Mathlib.Decide.{ℕ_discrete}
use Rattle.station.specs.declared.tables.Beyond.TheVariants.{Segment}
use Rattle.track.specs.Trains.{come_in}
use Rattle.safety.proofs.Plan.{Plan, Ending, Facts}
use Rattle.safety.proofs.Situation.{Situation, Told, front_of, joint_of}
use Rattle.safety.proofs.Invariant.{Owner, Progress, none, on, Ghost, OnRoute, Facing, Invariant}
use Rattle.safety.proofs.Moves.{Fitting}

module _ (S : Plan) (ok : Facts S) (st : Situation) where
  -- only one way fits
  pub one_fits : (f j v w : ℕ) → Fitting S st f j v → Fitting S st f j w → v ≡ w
  one_fits f j v w a b =
      ok.one_way v w a.known b.known (a.in_it ∙ sym b.in_it) (a.at_it ∙ sym b.at_it) (λ p. (st.points p).target) (λ x h. (a.points x h).1) (λ x h. (b.points x h).1)

  -- a train on its route has the way of its place
  pub route_fits : (owner : ℕ → Owner) (t f j r k : ℕ) → st.trains t ≡ come_in f j → OnRoute S st owner t r k → Fitting S st f j (S.sub r k)
  route_fits owner t f j r k e o =
      let a : Some (S.seg (S.sub r k)) ≡ Some f = sym o.in_it ∙ ap front_of e in
      record { known = ok.known r k o.r_known o.k_in; in_it = cc; at_it = sym o.by_it ∙ ap joint_of e; points = o.points k (le_refl k) o.k_in }

  pub facing_fits : (t f j : ℕ) → st.trains t ≡ come_in f j → (o : Facing S st t f) → Fitting S st f j o.v
  facing_fits t f j e o = record { known = o.v_known; in_it = o.here; at_it = sym o.by_it ∙ ap joint_of e; points = o.points }

  -- beyond a place of a path lies the next, or the path's end
  place_ends : (r k : ℕ) → r < S.routes → k < S.len r → (suc k < S.len r) ⊎ Ending S (S.sub r k)
  place_ends r k hr hk = elim (ℕ_discrete (suc k) (S.len r)) [ yes e ↦ inr (ok.ends r k hr e) | no n ↦ inl (omega arith) ]

  -- a train that turned faces a signal
  pub faces : (t f j v x : ℕ) → st.trains t ≡ come_in f j → Facing S st t f → Fitting S st f j v → S.beyond (S.to v) f ≡ Segment x → S.signal (S.to v) x ≢ None
  faces t f j v x e o a b c =
      let w = one_fits f j v o.v a (facing_fits t f j e o) in
      let d : Segment o.x ≡ Segment x = sym o.over ∙ ap (λ y. S.beyond (S.to y) f) (sym w) ∙ b in
      let g : S.signal (S.to v) x ≡ Some o.n = cc o.signal in
      cc

  -- one on its route that passes no signal comes into the next place
  pub next_place : (owner : ℕ → Owner) (t f j v x r k : ℕ) → st.trains t ≡ come_in f j → OnRoute S st owner t r k → Fitting S st f j v → S.beyond (S.to v) f ≡ Segment x → S.signal (S.to v) x ≡ None → (suc k < S.len r) × (x ≡ S.seg (S.sub r (suc k))) × (S.to v ≡ S.from (S.sub r (suc k)))
  next_place owner t f j v x r k e o a b c = go (place_ends r k o.r_known o.k_in)
    where
      w : v ≡ S.sub r k
      w = one_fits f j v (S.sub r k) a (route_fits owner t f j r k e o)

      fs : f ≡ S.seg (S.sub r k)
      fs = sym (route_fits owner t f j r k e o).in_it

      bs : S.beyond (S.to (S.sub r k)) (S.seg (S.sub r k)) ≡ Segment x
      bs = let w' = w in let fs' = fs in cc

      cs : S.signal (S.to (S.sub r k)) x ≡ None
      cs = let w' = w in cc

      go : (suc k < S.len r) ⊎ Ending S (S.sub r k) → (suc k < S.len r) × (x ≡ S.seg (S.sub r (suc k))) × (S.to v ≡ S.from (S.sub r (suc k)))
      go (inl h) =
          let n = ok.next_segment r k o.r_known h in
          let jn = ok.joined r k o.r_known h in
          let bs' = bs in
          let w' = w in
          (h, cc, cc)
      go (inr (inl z)) = absurd (let bs' = bs in cc)
      go (inr (inr (inl z))) = absurd (let bs' = bs in cc)
      go (inr (inr (inr z))) = absurd (let bs' = bs in let cs' = cs in let q : Segment x ≡ Segment z.0 = sym bs ∙ z.2 in cc z.3)

  -- a way fits every train that stands in one segment, so none derails
  pub has_way : (T : Told) (g : Ghost) → Invariant S st T g → (t f j : ℕ) → st.trains t ≡ come_in f j → (v : ℕ) × Fitting S st f j v
  has_way T g inv t f j e = go (g.progress t) refl
    where
      go : (n : Progress) → g.progress t ≡ n → (v : ℕ) × Fitting S st f j v
      go none d = ((inv.resting t f (ap front_of e) d).v, facing_fits t f j e (inv.resting t f (ap front_of e) d))
      go (on r k) d = (S.sub r k, route_fits g.owner t f j r k e (inv.moving t f r k (ap front_of e) d))
