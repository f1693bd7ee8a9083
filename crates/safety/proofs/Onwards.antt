-- A front past no signal keeps the invariant.
use Rattle.std.proofs.Common.{◌≡◌, ℕ, suc, ◌<◌, [], Some, None, sym, refl, ap, ◌∙◌, subst, inl, inr, arith, eq-eqb, ne_eqb}
use Rattle.track.specs.Trains.{gone_on}
use Rattle.safety.proofs.Plan.{Plan, Facts}
use Rattle.safety.specs.Safety.{is_derailed}
use Rattle.safety.proofs.Situation.{Situation, Told, told_entering, Held, front_of, joint_of, put, put_is, with_trains}
use Rattle.safety.proofs.Invariant.{train, Progress, none, on, Ghost, Guarded, OnRoute, Facing, Following, Invariant}
use Rattle.safety.proofs.Moves.{Onward}
use Rattle.safety.proofs.Ways.{faces, next_place}
use Rattle.safety.proofs.Frames.{frame_route, frame_facing}

module _ (S : Plan) (ok : Facts S) (st : Situation) (T : Told) (g : Ghost) (inv : Invariant S st T g) (t x : ℕ) (m : Onward S st t x) where
  st' : Situation
  st' = with_trains st m.trains

  T' : Told
  T' = told_entering T t x

  -- a train that passes no signal is on its route
  on_route : (r : ℕ) × (k : ℕ) × (g.progress t ≡ on r k) × OnRoute S st g.owner t r k
  on_route = go (g.progress t) refl
    where
      go : (n : Progress) → g.progress t ≡ n → (r : ℕ) × (k : ℕ) × (g.progress t ≡ on r k) × OnRoute S st g.owner t r k
      go none d = absurd (faces S ok st t m.f m.j m.v x m.was (inv.resting t m.f (ap front_of m.was) d) m.fits m.into m.unsignalled)
      go (on r k) d = (r, k, d, inv.moving t m.f r k (ap front_of m.was) d)

  module _ (r k : ℕ) (d : g.progress t ≡ on r k) (o : OnRoute S st g.owner t r k) where
    progress' : ℕ → Progress
    progress' = put g.progress t (on r (suc k))

    place : (suc k < S.len r) × (x ≡ S.seg (S.sub r (suc k))) × (S.to m.v ≡ S.from (S.sub r (suc k)))
    place = next_place S ok st g.owner t m.f m.j m.v x r k m.was o m.fits m.into m.unsignalled

    at_place : (u : ℕ) → u ≡ t → m.trains u ≡ gone_on (Some x) (S.to m.v) m.f → OnRoute S st' g.owner u r (suc k)
    unfolding st'
    at_place u e w =
        let pl = place in
        record {
          r_known = o.r_known;
          k_in = pl.0;
          in_it = ap front_of w ∙ ap Some pl.1;
          by_it = ap joint_of w ∙ pl.2;
          locked = λ i a b. o.locked i (omega arith) b;
          points = λ i a b. o.points i (omega arith) b;
          owned = λ i a b. o.owned i (omega arith) b ∙ ap train (sym e);
        }

    new_held : (y : ℕ) → Held (gone_on (Some x) (S.to m.v) m.f) y → Guarded S st g.owner t y
    new_held y (inl e) =
        let pl = place in
        let es : S.seg (S.sub r (suc k)) ≡ y = cc in
        record {
          q = r;
          i = suc k;
          q_known = o.r_known;
          i_in = pl.0;
          here = es;
          locked = o.locked (suc k) (omega arith) pl.0;
          points = o.points (suc k) (omega arith) pl.0;
          owned = ap g.owner (sym es) ∙ o.owned (suc k) (omega arith) pl.0;
        }
    new_held y (inr e) =
        let es : m.f ≡ y = cc in
        subst (λ z. Guarded S st g.owner t z) es (inv.held t m.f (inl (ap front_of m.was)))

    keep_held : (u y : ℕ) → Held (m.trains u) y → Guarded S st g.owner u y
    keep_held u y h =
        elim (m.trains_are u) [ inl a ↦ subst (λ z. Guarded S st g.owner z y) (sym a.0) (new_held y (subst (λ z. Held z y) a.1 h)) | inr a ↦ inv.held u y (subst (λ z. Held z y) a.1 h) ]

    keep_moving : (u f r' k' : ℕ) → front_of (m.trains u) ≡ Some f → progress' u ≡ on r' k' → OnRoute S st' g.owner u r' k'
    unfolding st' progress'
    keep_moving u f r' k' h n =
        elim (m.trains_are u) [
          | inl a ↦ elim (put_is g.progress t (on r (suc k)) u) [
            | inl b ↦
                let c : on r (suc k) ≡ on r' k' = sym b.1 ∙ n in
                let er : r ≡ r' = cc in
                let ek : suc k ≡ k' = cc in
                subst (λ y. OnRoute S st' g.owner u y k') er (subst (λ y. OnRoute S st' g.owner u r y) ek (at_place u a.0 a.1))
            | inr b ↦ absurd (b.0 a.0)
          ]
          | inr a ↦ elim (put_is g.progress t (on r (suc k)) u) [
            | inl b ↦ absurd (a.0 b.0)
            | inr b ↦ frame_route S st m.trains u a.1 g.owner r' k' (inv.moving u f r' k' (ap front_of (sym a.1) ∙ h) (sym b.1 ∙ n))
          ]
        ]

    keep_resting : (u f : ℕ) → front_of (m.trains u) ≡ Some f → progress' u ≡ none → Facing S st' u f
    unfolding st' progress'
    keep_resting u f h n =
        elim (put_is g.progress t (on r (suc k)) u) [
          | inl b ↦ absurd (let c : on r (suc k) ≡ none = sym b.1 ∙ n in cc)
          | inr b ↦ elim (m.trains_are u) [
            | inl a ↦ absurd (b.0 a.0)
            | inr a ↦ frame_facing S st m.trains u a.1 f (inv.resting u f (ap front_of (sym a.1) ∙ h) (sym b.1 ∙ n))
          ]
        ]

    -- the segment is added to those that the train entered, and is the next of its path
    new_following : Following S T' t r (suc k)
    unfolding T'
    new_following =
        let old = inv.following t r k d in
        record { r_known = o.r_known; k_in = place.0; came = rw (eq-eqb t t refl, place.1, old.came); its = old.its }

    keep_following : (u r' k' : ℕ) → progress' u ≡ on r' k' → Following S T' u r' k'
    unfolding progress' T'
    keep_following u r' k' n =
        elim (put_is g.progress t (on r (suc k)) u) [
          | inl b ↦
              let c : on r (suc k) ≡ on r' k' = sym b.1 ∙ n in
              let er : r ≡ r' = cc in
              let ek : suc k ≡ k' = cc in
              subst (λ y. Following S T' y r' k') (sym b.0) (subst (λ y. Following S T' t y k') er (subst (λ y. Following S T' t r y) ek new_following))
          | inr b ↦
              let old = inv.following u r' k' (sym b.1 ∙ n) in
              record { r_known = old.r_known; k_in = old.k_in; came = rw (ne_eqb u t b.0) old.came; its = old.its }
        ]

    keep_idle : (u : ℕ) → progress' u ≡ none → (T'.since u ≡ []) × (T'.route u ≡ None)
    unfolding progress' T'
    keep_idle u n =
        elim (put_is g.progress t (on r (suc k)) u) [
          | inl b ↦ absurd (let c : on r (suc k) ≡ none = sym b.1 ∙ n in cc)
          | inr b ↦ let old = inv.idle u (sym b.1 ∙ n) in (rw (ne_eqb u t b.0) old.0, old.1)
        ]

    keeps : Invariant S st' T' (record { owner = g.owner; progress = progress' })
    unfolding st' T'
    keeps =
        record {
          granted = inv.granted;
          open_way = inv.open_way;
          signal = inv.signal;
          held = keep_held;
          on_track = λ u. elim (m.trains_are u) [ inl a ↦ ap is_derailed a.1 | inr a ↦ ap is_derailed a.1 ∙ inv.on_track u ];
          moving = keep_moving;
          resting = keep_resting;
          following = keep_following;
          idle = keep_idle;
        }

  -- A front past no signal keeps the invariant: it leads into the next segment of the train's path.
  pub onward_keeps : (g' : Ghost) × Invariant S (with_trains st m.trains) (told_entering T t x) g'
  unfolding st' T'
  onward_keeps =
      let w = on_route in
      (record { owner = g.owner; progress = progress' w.0 w.1 w.2 w.3 }, keeps w.0 w.1 w.2 w.3)
