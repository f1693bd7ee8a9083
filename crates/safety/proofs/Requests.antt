-- A granted request keeps the invariant, and changes no point under a train.
use Rattle.std.proofs.Common.{◌≡◌, ℕ, zero, suc, ◌<◌, true, cond, eqb, ◌≢◌, ◌⊎◌, Some, sym, refl, ap, ◌∙◌, subst, inl, inr, arith}
use Rattle.std.proofs.lemmas.Bool.{both_ways}
use Rattle.std.proofs.lemmas.Bool.Decides.{eqb_tells}
use native.Mathlib.Decide.{ℕ_discrete}
use Rattle.safety.proofs.Plan.{Plan, Home, Facts}
use Rattle.safety.proofs.Situation.{Situation, Told, Held, Lying, front_of}
use Rattle.safety.proofs.Invariant.{Owner, route, Ghost, Guarded, OnRoute, Facing, Granted, Open, Invariant}
use Rattle.safety.proofs.Grants.{Request, requested}

-- the owners once the route r claims the first n segments of its path
claim : Plan → ℕ → (ℕ → Owner) → ℕ → ℕ → Owner
claim S r owner zero x = owner x
claim S r owner (suc n) x = cond (eqb (S.seg (S.sub r n)) x) (route r) (claim S r owner n x)

-- the route claims just these, and the other segments keep their owner
claimed : (S : Plan) (r : ℕ) (owner : ℕ → Owner) (n x : ℕ) → ((i : ℕ) × (i < n) × (S.seg (S.sub r i) ≡ x) × (claim S r owner n x ≡ route r)) ⊎ (((i : ℕ) → i < n → S.seg (S.sub r i) ≢ x) × (claim S r owner n x ≡ owner x))
unfolding claim
claimed S r owner zero x = inr (λ i h. absurd (omega arith), refl)
claimed S r owner (suc n) x =
    elim (eqb_tells (S.seg (S.sub r n)) x) [
      | inl e ↦ inl (n, omega arith, e.1, rw e.0)
      | inr ne ↦
          elim (claimed S r owner n x) [
            | inl c ↦ inl (c.0, (let hh : c.0 < n = c.1 in omega arith), c.2, rw ne.0 c.3)
            | inr c ↦ inr (λ i h e. elim (ℕ_discrete i n) [ yes w ↦ ne.1 (subst (λ k. S.seg (S.sub r k) ≡ x) w e) | no w ↦ c.0 i (omega arith) e ], rw ne.0 c.1)
          ]
    ]

module _ (S : Plan) (ok : Facts S) (st : Situation) (T : Told) (g : Ghost) (inv : Invariant S st T g) (r : ℕ) (m : Request S st r) where
  owner' : ℕ → Owner
  owner' = claim S r g.owner (S.len r)

  lock_kept : (u : ℕ) → st.locked u ≡ true → m.locked u ≡ true
  lock_kept u l = elim (m.locked_is u) [ inl a ↦ a.3 | inr a ↦ a.1 ∙ l ]

  -- a segment with a locked used subroute keeps its owner: it is none of the route's path
  owner_kept : (q j : ℕ) → q < S.routes → j < S.len q → st.locked (S.sub q j) ≡ true → owner' (S.seg (S.sub q j)) ≡ g.owner (S.seg (S.sub q j))
  unfolding owner'
  owner_kept q j hq hj l =
      elim (claimed S r g.owner (S.len r) (S.seg (S.sub q j))) [ inl a ↦ absurd (both_ways _ (m.free a.0 q j a.1 hq hj (sym a.2)) l) | inr a ↦ a.1 ]

  -- and no point at home in it changes
  point_kept : (q j p : ℕ) → q < S.routes → j < S.len q → Home S p (S.seg (S.sub q j)) → st.locked (S.sub q j) ≡ true → m.points p ≡ st.points p
  point_kept q j p hq hj e l = elim (m.points_are p) [ inl a ↦ a | inr a ↦ absurd (both_ways _ (a q j hq hj e) l) ]

  lying_kept : (v q j : ℕ) → v < S.subs → q < S.routes → j < S.len q → S.seg v ≡ S.seg (S.sub q j) → st.locked (S.sub q j) ≡ true → Lying S st v → Lying S (requested m) v
  lying_kept v q j hv hq hj e l ps x hx =
      let home = ok.own v x hv hx in
      let k = point_kept q j x.point hq hj (home.0, home.1 ∙ e) l in
      let o = ps x hx in
      (ap (λ y. y.settled) k ∙ o.0, ap (λ y. y.target) k ∙ o.1)

  keep_granted : (q : ℕ) → m.live q ≡ true → Granted S (requested m) owner' q
  unfolding owner'
  keep_granted q on = elim (m.live_is q) [ inl a ↦ subst (λ x. Granted S (requested m) owner' x) (sym a.0) new | inr a ↦ old (inv.granted q (sym a.1 ∙ on)) ]
    where
      new : Granted S (requested m) owner' r
      new =
          record {
            r_known = m.known;
            locked = λ i hi. elim (m.locked_is (S.sub r i)) [ inl w ↦ w.3 | inr w ↦ absurd (w.0 i hi refl) ];
            owned = λ i hi. elim (claimed S r g.owner (S.len r) (S.seg (S.sub r i))) [ inl w ↦ w.3 | inr w ↦ absurd (w.0 i hi refl) ];
          }

      old : Granted S st g.owner q → Granted S (requested m) owner' q
      old o =
          record {
            r_known = o.r_known;
            locked = λ i hi. lock_kept (S.sub q i) (o.locked i hi);
            owned = λ i hi. owner_kept q i o.r_known hi (o.locked i hi) ∙ o.owned i hi;
          }

  keep_open : (q : ℕ) → st.active q ≡ true → Open S (requested m) T q
  keep_open q e =
      let o = inv.open_way q e in
      let w = inv.granted q o.live in
      record {
        live = elim (m.live_is q) [ inl a ↦ a.1 | inr a ↦ a.1 ∙ o.live ];
        points = λ i hi. lying_kept (S.sub q i) q i (ok.known q i w.r_known hi) w.r_known hi refl (w.locked i hi) (o.points i hi);
        latest = o.latest;
      }

  keep_guarded : (t x : ℕ) → Guarded S st g.owner t x → Guarded S (requested m) owner' t x
  keep_guarded t x o =
      record {
        q = o.q;
        i = o.i;
        q_known = o.q_known;
        i_in = o.i_in;
        here = o.here;
        locked = lock_kept _ o.locked;
        points = lying_kept _ o.q o.i (ok.known o.q o.i o.q_known o.i_in) o.q_known o.i_in refl o.locked o.points;
        owned = let k = owner_kept o.q o.i o.q_known o.i_in o.locked in subst (λ y. owner' y ≡ g.owner y) o.here k ∙ o.owned;
      }

  keep_on_route : (t q k : ℕ) → OnRoute S st g.owner t q k → OnRoute S (requested m) owner' t q k
  keep_on_route t q k o =
      record {
        r_known = o.r_known;
        k_in = o.k_in;
        in_it = o.in_it;
        by_it = o.by_it;
        locked = λ i a b. lock_kept _ (o.locked i a b);
        points = λ i a b. lying_kept _ q i (ok.known q i o.r_known b) o.r_known b refl (o.locked i a b) (o.points i a b);
        owned = λ i a b. owner_kept q i o.r_known b (o.locked i a b) ∙ o.owned i a b;
      }

  keep_facing : (t f : ℕ) → front_of (st.trains t) ≡ Some f → Facing S st t f → Facing S (requested m) t f
  keep_facing t f e o =
      let w = inv.held t f (inl e) in
      record {
        one = o.one;
        v = o.v;
        x = o.x;
        n = o.n;
        v_known = o.v_known;
        here = o.here;
        by_it = o.by_it;
        points = lying_kept _ w.q w.i o.v_known w.q_known w.i_in (o.here ∙ sym w.here) w.locked o.points;
        over = o.over;
        signal = o.signal;
      }

  -- A granted request keeps the invariant: its path shares no segment with what is claimed, and drives no point there.
  pub request_keeps : (g' : Ghost) × Invariant S (requested m) T g'
  request_keeps = (
    record { owner = owner'; progress = g.progress },
    record {
      granted = keep_granted;
      open_way = keep_open;
      signal = inv.signal;
      held = λ t x h. keep_guarded t x (inv.held t x h);
      on_track = inv.on_track;
      moving = λ t f q k a b. keep_on_route t q k (inv.moving t f q k a b);
      resting = λ t f a b. keep_facing t f a (inv.resting t f a b);
      following = inv.following;
      idle = inv.idle;
    },
  )

  -- no point under a train changes
  pub request_points : (t p : ℕ) → p < S.points → Held (st.trains t) (S.home p) → m.points p ≡ st.points p
  request_points t p hp x = let o = inv.held t (S.home p) x in point_kept o.q o.i p o.q_known o.i_in (hp, sym o.here) o.locked
