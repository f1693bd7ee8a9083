-- A passing of a signal, by entry or front, keeps the invariant.
use Rattle.std.proofs.Common.{◌≡◌, ℕ, ◌<◌, true, cond, eqb, ◌≢◌, [], Some, None, sym, refl, ap, ◌∙◌, subst, inl, inr, eq-eqb, ne_eqb}
use Rattle.std.proofs.lemmas.Bool.{both_ways}
use Rattle.safety.proofs.Plan.{Plan, Facts}
use Rattle.safety.specs.Safety.{is_derailed}
use Rattle.safety.proofs.Situation.{Situation, Told, told_passing, Held, front_of, joint_of, put, put_is}
use Rattle.safety.proofs.Invariant.{Owner, nobody, route, train, Progress, none, on, Ghost, Guarded, OnRoute, Facing, Granted, Open, Following, Invariant}
use Rattle.safety.proofs.Moves.{Passing, with_passing}
use Rattle.safety.proofs.Frames.{frame_route, frame_facing}

-- the train t takes over what the route r claims
takes : ℕ → ℕ → Owner → Owner
takes r t nobody = nobody
takes r t (train u) = train u
takes r t (route q) = cond (eqb q r) (train t) (route q)

takes_it : (r t : ℕ) → takes r t (route r) ≡ train t
unfolding takes
takes_it r t = rw (eq-eqb r r refl)

takes_not : (r t q : ℕ) → q ≢ r → takes r t (route q) ≡ route q
unfolding takes
takes_not r t q ne = rw (ne_eqb q r ne)

takes_train : (r t u : ℕ) → takes r t (train u) ≡ train u
unfolding takes
takes_train r t u = refl

module _ (S : Plan) (ok : Facts S) (st : Situation) (T : Told) (g : Ghost) (inv : Invariant S st T g) (t n x : ℕ) (m : Passing S st t n x) where
  st' : Situation
  st' = with_passing st m.passed m.trains

  T' : Told
  T' = told_passing T t n x

  -- the signal shows proceed, so a route from it is active
  module _ (r : ℕ) (ac : st.active r ≡ true) (sg : S.starts r n ≡ true) where
    owner' : ℕ → Owner
    owner' y = takes r t (g.owner y)

    progress' : ℕ → Progress
    progress' = put g.progress t (on r 0)

    live : st.live r ≡ true
    live = (inv.open_way r ac).live

    hr : r < S.routes
    hr = (inv.granted r live).r_known

    -- the train comes in where the route's path begins
    first : (m.j ≡ S.from (S.sub r 0)) × (x ≡ S.seg (S.sub r 0))
    first = ok.one_signal _ _ _ _ n m.there (ok.first_signal r n hr sg)

    owned_new : (i : ℕ) → i < S.len r → owner' (S.seg (S.sub r i)) ≡ train t
    unfolding owner'
    owned_new i hi = ap (takes r t) ((inv.granted r live).owned i hi) ∙ takes_it r t

    owned_train : (y u : ℕ) → g.owner y ≡ train u → owner' y ≡ train u
    unfolding owner'
    owned_train y u e = ap (takes r t) e ∙ takes_train r t u

    keep_guarded : (u y : ℕ) → Guarded S st g.owner u y → Guarded S st owner' u y
    keep_guarded u y o =
        record { q = o.q; i = o.i; q_known = o.q_known; i_in = o.i_in; here = o.here; locked = o.locked; points = o.points; owned = owned_train y u o.owned }

    keep_granted : (q : ℕ) → m.passed.live q ≡ true → Granted S st' owner' q
    unfolding st' owner'
    keep_granted q l =
        elim (m.passed.routes_are q) [
          | inl a ↦ absurd (both_ways _ a.3 l)
          | inr a ↦
              let o = inv.granted q (sym a.2 ∙ l) in
              let ne : q ≢ r = λ e. a.0 (ap st.active e ∙ ac) (ap (λ y. S.starts y n) e ∙ sg) in
              record { r_known = o.r_known; locked = o.locked; owned = λ i hi. ap (takes r t) (o.owned i hi) ∙ takes_not r t q ne }
        ]

    keep_open : (q : ℕ) → m.passed.active q ≡ true → Open S st' T' q
    unfolding st' T'
    keep_open q e =
        elim (m.passed.routes_are q) [
          | inl a ↦ absurd (both_ways _ a.2 e)
          | inr a ↦ let o = inv.open_way q (sym a.1 ∙ e) in record { live = a.2 ∙ o.live; points = o.points; latest = o.latest }
        ]

    keep_signal : (n' : ℕ) → m.passed.proceed n' ≡ true → (q : ℕ) × (m.passed.active q ≡ true) × (S.starts q n' ≡ true)
    keep_signal n' l =
        elim (m.passed.proceed_is n') [
          | inl a ↦ absurd (both_ways _ a.1 l)
          | inr a ↦
              let w = inv.signal n' (sym a.1 ∙ l) in
              elim (m.passed.routes_are w.0) [ inl b ↦ absurd (a.0 (other w.0 n' b.0 b.1 w.2)) | inr b ↦ (w.0, b.1 ∙ w.1, w.2) ]
        ]
      where
        -- a route starts at one signal only
        other : (q n' : ℕ) → st.active q ≡ true → S.starts q n ≡ true → S.starts q n' ≡ true → n' ≡ n
        other q n' a b c =
            let hq = (inv.granted q (inv.open_way q a).live).r_known in
            let e : Some n ≡ Some n' = sym (ok.first_signal q n hq b) ∙ ok.first_signal q n' hq c in
            cc

    new_held : (y : ℕ) → Held m.new y → Guarded S st owner' t y
    new_held y (inl e) =
        let f = first in
        let o = inv.granted r live in
        let hi = ok.some_path r hr in
        let nf = m.new_front in
        let s : Some x ≡ Some y = sym nf ∙ e in
        let es : S.seg (S.sub r 0) ≡ y = cc in
        record {
          q = r;
          i = 0;
          q_known = hr;
          i_in = hi;
          here = es;
          locked = o.locked 0 hi;
          points = (inv.open_way r ac).points 0 hi;
          owned = subst (λ z. owner' z ≡ train t) es (owned_new 0 hi);
        }
    new_held y (inr e) = keep_guarded t y (inv.held t y (m.new_rear y e))

    keep_held : (u y : ℕ) → Held (m.trains u) y → Guarded S st owner' u y
    keep_held u y w =
        elim (m.trains_are u) [ inl a ↦ subst (λ z. Guarded S st owner' z y) (sym a.0) (new_held y (subst (λ z. Held z y) a.1 w)) | inr a ↦ keep_guarded u y (inv.held u y (subst (λ z. Held z y) a.1 w)) ]

    at_first : (u : ℕ) → u ≡ t → m.trains u ≡ m.new → OnRoute S st' owner' u r 0
    unfolding st'
    at_first u e w =
        let f = first in
        record {
          r_known = hr;
          k_in = ok.some_path r hr;
          in_it = ap front_of w ∙ m.new_front ∙ ap Some f.1;
          by_it = ap joint_of w ∙ m.new_joint ∙ f.0;
          locked = λ i a b. (inv.granted r live).locked i b;
          points = λ i a b. (inv.open_way r ac).points i b;
          owned = λ i a b. owned_new i b ∙ ap train (sym e);
        }

    old_route : (u r' k' : ℕ) → m.trains u ≡ st.trains u → OnRoute S st g.owner u r' k' → OnRoute S st' owner' u r' k'
    unfolding st'
    old_route u r' k' e o =
        let w = frame_route S st m.trains u e g.owner r' k' o in
        record {
          r_known = w.r_known;
          k_in = w.k_in;
          in_it = w.in_it;
          by_it = w.by_it;
          locked = w.locked;
          points = w.points;
          owned = λ i c d. owned_train _ u (w.owned i c d);
        }

    keep_moving : (u f r' k' : ℕ) → front_of (m.trains u) ≡ Some f → progress' u ≡ on r' k' → OnRoute S st' owner' u r' k'
    unfolding progress'
    keep_moving u f r' k' w h =
        elim (m.trains_are u) [
          | inl a ↦ elim (put_is g.progress t (on r 0) u) [
            | inl b ↦
                let c : on r 0 ≡ on r' k' = sym b.1 ∙ h in
                let er : r ≡ r' = cc in
                let ek : 0 ≡ k' = cc in
                subst (λ y. OnRoute S st' owner' u y k') er (subst (λ y. OnRoute S st' owner' u r y) ek (at_first u a.0 a.1))
            | inr b ↦ absurd (b.0 a.0)
          ]
          | inr a ↦ elim (put_is g.progress t (on r 0) u) [
            | inl b ↦ absurd (a.0 b.0)
            | inr b ↦ old_route u r' k' a.1 (inv.moving u f r' k' (ap front_of (sym a.1) ∙ w) (sym b.1 ∙ h))
          ]
        ]

    keep_resting : (u f : ℕ) → front_of (m.trains u) ≡ Some f → progress' u ≡ none → Facing S st' u f
    unfolding st' progress'
    keep_resting u f w h =
        elim (put_is g.progress t (on r 0) u) [
          | inl b ↦ absurd (let c : on r 0 ≡ none = sym b.1 ∙ h in cc)
          | inr b ↦ elim (m.trains_are u) [ inl a ↦ absurd (b.0 a.0) | inr a ↦ frame_facing S st m.trains u a.1 f (inv.resting u f (ap front_of (sym a.1) ∙ w) (sym b.1 ∙ h)) ]
        ]

    -- the segment is the first of the route's path, and the route the last from the signal to become active
    new_following : Following S T' t r 0
    unfolding T'
    new_following =
        let f = first in
        record {
          r_known = hr;
          k_in = ok.some_path r hr;
          came = rw (eq-eqb t t refl, f.1);
          its = rw (eq-eqb t t refl) ((inv.open_way r ac).latest n sg);
        }

    keep_following : (u r' k' : ℕ) → progress' u ≡ on r' k' → Following S T' u r' k'
    unfolding progress' T'
    keep_following u r' k' h =
        elim (put_is g.progress t (on r 0) u) [
          | inl b ↦
              let c : on r 0 ≡ on r' k' = sym b.1 ∙ h in
              let er : r ≡ r' = cc in
              let ek : 0 ≡ k' = cc in
              subst (λ y. Following S T' y r' k') (sym b.0) (subst (λ y. Following S T' t y k') er (subst (λ y. Following S T' t r y) ek new_following))
          | inr b ↦
              let old = inv.following u r' k' (sym b.1 ∙ h) in
              record { r_known = old.r_known; k_in = old.k_in; came = rw (ne_eqb u t b.0) old.came; its = rw (ne_eqb u t b.0) old.its }
        ]

    keep_idle : (u : ℕ) → progress' u ≡ none → (T'.since u ≡ []) × (T'.route u ≡ None)
    unfolding progress' T'
    keep_idle u h =
        elim (put_is g.progress t (on r 0) u) [
          | inl b ↦ absurd (let c : on r 0 ≡ none = sym b.1 ∙ h in cc)
          | inr b ↦ let old = inv.idle u (sym b.1 ∙ h) in (rw (ne_eqb u t b.0) old.0, rw (ne_eqb u t b.0) old.1)
        ]

    keeps : Invariant S st' T' (record { owner = owner'; progress = progress' })
    unfolding st'
    keeps =
        record {
          granted = keep_granted;
          open_way = keep_open;
          signal = keep_signal;
          held = keep_held;
          on_track = λ u. elim (m.trains_are u) [ inl a ↦ ap is_derailed a.1 ∙ m.new_sound | inr a ↦ ap is_derailed a.1 ∙ inv.on_track u ];
          moving = keep_moving;
          resting = keep_resting;
          following = keep_following;
          idle = keep_idle;
        }

  -- A passing keeps the invariant: the one active route from the signal hands its claim to the train, which is then at its first place.
  pub passing_keeps : (g' : Ghost) × Invariant S (with_passing st m.passed m.trains) (told_passing T t n x) g'
  unfolding st' T'
  passing_keeps =
      let w = inv.signal n m.proceed in
      (record { owner = owner' w.0 w.1 w.2; progress = progress' w.0 w.1 w.2 }, keeps w.0 w.1 w.2)
