-- A front to the outside, a rear and a turn keep the invariant.
use Rattle.std.proofs.Common.{◌≡◌, ℕ, [], Some, None, sym, ap, ◌∙◌, subst, inl, inr, eq-eqb, ne_eqb}
use Rattle.track.specs.Trains.{come_in}
use Rattle.safety.proofs.Plan.{Plan, Facts}
use Rattle.safety.specs.Safety.{is_derailed}
use Rattle.safety.proofs.Situation.{Situation, Told, told_turning, Held, front_of, rear_of, joint_of, put, put_is, with_trains}
use Rattle.safety.proofs.Invariant.{Progress, none, on, Ghost, Guarded, OnRoute, Facing, Following, Invariant}
use Rattle.safety.proofs.Moves.{Shrinking, Turning}
use Rattle.safety.proofs.Frames.{frame_route, frame_facing}

module _ (S : Plan) (ok : Facts S) (st : Situation) (T : Told) (g : Ghost) (inv : Invariant S st T g) (t : ℕ) (m : Shrinking st t) where
  shrink_held : (u y : ℕ) → Held (m.trains u) y → Guarded S st g.owner u y
  shrink_held u y w =
      inv.held u y (elim (m.trains_are u) [ inl a ↦ subst (λ z. Held (st.trains z) y) (sym a.0) (m.less y (subst (λ z. Held z y) a.1 w)) | inr a ↦ subst (λ z. Held z y) a.1 w ])

  shrink_moving : (u f r k : ℕ) → front_of (m.trains u) ≡ Some f → g.progress u ≡ on r k → OnRoute S (with_trains st m.trains) g.owner u r k
  shrink_moving u f r k w n =
      elim (m.trains_are u) [
        | inl a ↦
            let fw : front_of m.new ≡ Some f = ap front_of (sym a.1) ∙ w in
            let ft : front_of (st.trains u) ≡ Some f = ap (λ z. front_of (st.trains z)) a.0 ∙ m.front_was f fw in
            let q = inv.moving u f r k ft n in
            record {
              r_known = q.r_known;
              k_in = q.k_in;
              in_it = w ∙ sym ft ∙ q.in_it;
              by_it = ap joint_of a.1 ∙ m.joint_was f fw ∙ ap (λ z. joint_of (st.trains z)) (sym a.0) ∙ q.by_it;
              locked = q.locked;
              points = q.points;
              owned = q.owned;
            }
        | inr a ↦ frame_route S st m.trains u a.1 g.owner r k (inv.moving u f r k (ap front_of (sym a.1) ∙ w) n)
      ]

  shrink_resting : (u f : ℕ) → front_of (m.trains u) ≡ Some f → g.progress u ≡ none → Facing S (with_trains st m.trains) u f
  shrink_resting u f w n =
      elim (m.trains_are u) [
        | inl a ↦
            let fw : front_of m.new ≡ Some f = ap front_of (sym a.1) ∙ w in
            let ft : front_of (st.trains u) ≡ Some f = ap (λ z. front_of (st.trains z)) a.0 ∙ m.front_was f fw in
            absurd (m.rear_was f fw (ap (λ z. rear_of (st.trains z)) (sym a.0) ∙ (inv.resting u f ft n).one))
        | inr a ↦ frame_facing S st m.trains u a.1 f (inv.resting u f (ap front_of (sym a.1) ∙ w) n)
      ]

  -- A front to the outside or a rear keeps the invariant: what the train claims shrinks.
  pub shrinking_keeps : Invariant S (with_trains st m.trains) T g
  shrinking_keeps =
      record {
        granted = inv.granted;
        open_way = inv.open_way;
        signal = inv.signal;
        held = shrink_held;
        on_track = λ u. elim (m.trains_are u) [ inl a ↦ ap is_derailed a.1 ∙ m.sound | inr a ↦ ap is_derailed a.1 ∙ inv.on_track u ];
        moving = shrink_moving;
        resting = shrink_resting;
        following = inv.following;
        idle = inv.idle;
      }

module _ (S : Plan) (ok : Facts S) (st : Situation) (T : Told) (g : Ghost) (inv : Invariant S st T g) (t : ℕ) (m : Turning S st t) where
  progress' : ℕ → Progress
  progress' = put g.progress t none

  turn_held : (u y : ℕ) → Held (m.trains u) y → Guarded S st g.owner u y
  turn_held u y w =
      inv.held u y (elim (m.trains_are u) [ inl a ↦ subst (λ z. Held (st.trains z) y) (sym a.0) (back y (subst (λ z. Held z y) a.1 w)) | inr a ↦ subst (λ z. Held z y) a.1 w ])
    where
      back : (y : ℕ) → Held (come_in m.f (S.to m.v)) y → Held (st.trains t) y
      back y (inl e) = inl (ap front_of m.was ∙ e)
      back y (inr e) = cc

  -- the turned train faces the signal that the call asked for, along the way by which it came in
  turn_facing : (u f : ℕ) → m.trains u ≡ come_in m.f (S.to m.v) → front_of (m.trains u) ≡ Some f → Facing S (with_trains st m.trains) u f
  turn_facing u f a w =
      let v = m.v in
      let k = m.fits.known in
      let w' : Some m.f ≡ Some f = sym (ap front_of a) ∙ w in
      let ef : m.f ≡ f = cc in
      record {
        one = ap rear_of a;
        v = S.back v;
        x = m.x;
        n = m.n;
        v_known = ok.back_known v k;
        here = ok.back_seg v ∙ m.fits.in_it ∙ ef;
        by_it = ap joint_of a ∙ sym (ok.back_from v);
        points = rw (ok.back_settings v) m.fits.points;
        over = let b = ok.back_to v in let c = m.fits.at_it in cc m.behind;
        signal = let b = ok.back_to v in let c = m.fits.at_it in cc m.signal;
      }

  turn_moving : (u f r k : ℕ) → front_of (m.trains u) ≡ Some f → progress' u ≡ on r k → OnRoute S (with_trains st m.trains) g.owner u r k
  unfolding progress'
  turn_moving u f r k w n =
      elim (put_is g.progress t none u) [
        | inl b ↦ absurd (let c : none ≡ on r k = sym b.1 ∙ n in cc)
        | inr b ↦ elim (m.trains_are u) [ inl a ↦ absurd (b.0 a.0) | inr a ↦ frame_route S st m.trains u a.1 g.owner r k (inv.moving u f r k (ap front_of (sym a.1) ∙ w) (sym b.1 ∙ n)) ]
      ]

  turn_resting : (u f : ℕ) → front_of (m.trains u) ≡ Some f → progress' u ≡ none → Facing S (with_trains st m.trains) u f
  unfolding progress'
  turn_resting u f w n =
      elim (m.trains_are u) [
        | inl a ↦ turn_facing u f a.1 w
        | inr a ↦ elim (put_is g.progress t none u) [ inl b ↦ absurd (a.0 b.0) | inr b ↦ frame_facing S st m.trains u a.1 f (inv.resting u f (ap front_of (sym a.1) ∙ w) (sym b.1 ∙ n)) ]
      ]

  turn_following : (u r k : ℕ) → progress' u ≡ on r k → Following S (told_turning T t) u r k
  unfolding progress'
  turn_following u r k n =
      elim (put_is g.progress t none u) [
        | inl b ↦ absurd (let c : none ≡ on r k = sym b.1 ∙ n in cc)
        | inr b ↦
            let old = inv.following u r k (sym b.1 ∙ n) in
            record { r_known = old.r_known; k_in = old.k_in; came = rw (ne_eqb u t b.0) old.came; its = rw (ne_eqb u t b.0) old.its }
      ]

  turn_idle : (u : ℕ) → progress' u ≡ none → ((told_turning T t).since u ≡ []) × ((told_turning T t).route u ≡ None)
  unfolding progress'
  turn_idle u n =
      elim (put_is g.progress t none u) [
        | inl b ↦ (rw (eq-eqb u t b.0), rw (eq-eqb u t b.0))
        | inr b ↦ let old = inv.idle u (sym b.1 ∙ n) in (rw (ne_eqb u t b.0) old.0, rw (ne_eqb u t b.0) old.1)
      ]

  -- A turn keeps the invariant: what the train claims shrinks to the segment that it holds.
  pub turning_keeps : (g' : Ghost) × Invariant S (with_trains st m.trains) (told_turning T t) g'
  turning_keeps = (
    record { owner = g.owner; progress = progress' },
    record {
      granted = inv.granted;
      open_way = inv.open_way;
      signal = inv.signal;
      held = turn_held;
      on_track = λ u. elim (m.trains_are u) [ inl a ↦ ap is_derailed a.1 | inr a ↦ ap is_derailed a.1 ∙ inv.on_track u ];
      moving = turn_moving;
      resting = turn_resting;
      following = turn_following;
      idle = turn_idle;
    },
  )
