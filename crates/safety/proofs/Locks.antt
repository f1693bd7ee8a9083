-- An activation, a release and a settling keep the invariant.
use Rattle.std.proofs.Common.{◌≡◌, ℕ, zero, suc, ◌<◌, ◌≤◌, true, ◌≢◌, ◌⊎◌, sym, refl, ap, ◌∙◌, subst, inl, inr, arith}
use native.Mathlib.Decide.{ℕ_discrete}
use Rattle.std.proofs.lemmas.Bool.{cases_Bool, both_ways}
use Rattle.safety.proofs.Plan.{Plan, Facts}
use Rattle.safety.proofs.Situation.{Situation, Told, told_activation, Held, Lying, with_locks, with_points}
use Rattle.safety.proofs.Invariant.{route, Ghost, OnRoute, Open, Invariant}
use Rattle.safety.proofs.Grants.{Activation, activated, Release, Settling}

module _ (S : Plan) (ok : Facts S) (st : Situation) (T : Told) (g : Ghost) (inv : Invariant S st T g) where
  -- two routes from one signal are not set or active at once: they would claim one segment
  pub one_route : (q r n : ℕ) → st.live q ≡ true → st.live r ≡ true → S.starts q n ≡ true → S.starts r n ≡ true → q ≡ r
  one_route q r n lq lr sq sr =
      let gq = inv.granted q lq in
      let gr = inv.granted r lr in
      let same = ok.one_signal _ _ _ _ n (ok.first_signal q n gq.r_known sq) (ok.first_signal r n gr.r_known sr) in
      let oq = gq.owned 0 (ok.some_path q gq.r_known) in
      let or = gr.owned 0 (ok.some_path r gr.r_known) in
      let c : S.seg (S.sub q 0) ≡ S.seg (S.sub r 0) = same.1 in
      let d : route q ≡ route r = cc in
      cc

module _ (S : Plan) (ok : Facts S) (st : Situation) (T : Told) (g : Ghost) (inv : Invariant S st T g) (r : ℕ) (m : Activation S st r) where
  new_open : Open S (activated m) (told_activation S T r) r
  new_open = record { live = m.was; points = m.points; latest = λ n e. rw e }

  old_open : (q : ℕ) → q ≢ r → st.active q ≡ true → Open S (activated m) (told_activation S T r) q
  old_open q ne w =
      let o = inv.open_way q w in
      record {
        live = o.live;
        points = o.points;
        latest = λ n e. elim (cases_Bool (S.starts r n)) [ inl a ↦ absurd (ne (one_route S ok st T g inv q r n o.live m.was e a)) | inr a ↦ rw a (o.latest n e) ];
      }

  keep_open : (q : ℕ) → m.active q ≡ true → Open S (activated m) (told_activation S T r) q
  keep_open q e =
      elim (m.active_is q) [ inl a ↦ subst (λ y. Open S (activated m) (told_activation S T r) y) (sym a.0) new_open | inr a ↦ old_open q a.0 (sym a.1 ∙ e) ]

  stays : (q : ℕ) → ((q ≡ r) ⊎ (st.active q ≡ true)) → m.active q ≡ true
  stays q (inl e) = elim (m.active_is q) [ inl a ↦ a.1 | inr a ↦ absurd (a.0 e) ]
  stays q (inr e) = elim (m.active_is q) [ inl a ↦ a.1 | inr a ↦ a.1 ∙ e ]

  keep_signal : (n : ℕ) → m.proceed n ≡ true → (q : ℕ) × (m.active q ≡ true) × (S.starts q n ≡ true)
  keep_signal n l =
      elim (m.proceed_is n) [ inl a ↦ (r, stays r (inl refl), subst (λ y. S.starts r y ≡ true) (sym a.0) m.starts) | inr a ↦ let w = inv.signal n (sym a.1 ∙ l) in (w.0, stays w.0 (inr w.1), w.2) ]

  -- An activation keeps the invariant: its tests say that the points of the path lie, and no other route from its signal is set or active.
  pub activation_keeps : Invariant S (activated m) (told_activation S T r) g
  activation_keeps =
      record {
        granted = inv.granted;
        open_way = keep_open;
        signal = keep_signal;
        held = inv.held;
        on_track = inv.on_track;
        moving = inv.moving;
        resting = inv.resting;
        following = inv.following;
        idle = inv.idle;
      }

module _ (S : Plan) (ok : Facts S) (st : Situation) (T : Told) (g : Ghost) (inv : Invariant S st T g) (u : ℕ) (m : Release S st u) where
  lock_stays : (w : ℕ) → (w ≡ u → ⊥) → st.locked w ≡ true → m.locked w ≡ true
  lock_stays w ne l = elim (m.locked_is w) [ inl a ↦ absurd (ne a.0) | inr a ↦ a.1 ∙ l ]

  -- the released one is no place of a path that is set or active: the route or the place before it would be in the way
  not_granted : (q i : ℕ) → st.live q ≡ true → i < S.len q → S.sub q i ≡ u → ⊥
  not_granted q zero live hi e = both_ways _ (m.starts q (inv.granted q live).r_known e) live
  not_granted q (suc i) live hi e =
      let o = inv.granted q live in
      both_ways _ (m.follows q i o.r_known hi e) (o.locked i (omega arith))

  not_held : (t x q i : ℕ) → q < S.routes → i < S.len q → S.seg (S.sub q i) ≡ x → Held (st.trains t) x → S.sub q i ≡ u → ⊥
  not_held t x q i hq hi e h d = m.clear q i hq hi d t (subst (λ y. Held (st.trains t) y) (sym e ∙ ap S.seg d) h)

  -- nor a place ahead of a train: its own segment is not clear, and later places have a locked one before them
  not_ahead : (t q k i : ℕ) → OnRoute S st g.owner t q k → k ≤ i → i < S.len q → S.sub q i ≡ u → ⊥
  not_ahead t q k i o a b e =
      elim (ℕ_discrete i k) [ yes w ↦ not_held t (S.seg (S.sub q k)) q i o.r_known b (ap (λ y. S.seg (S.sub q y)) w) (inl o.in_it) e | no w ↦ later i e a b w ]
    where
      later : (j : ℕ) → S.sub q j ≡ u → k ≤ j → j < S.len q → j ≢ k → ⊥
      later zero e a b w = w (omega arith)
      later (suc j) e a b w = both_ways _ (m.follows q j o.r_known b e) (o.locked j (omega arith) (omega arith))

  -- A release keeps the invariant: nothing that is claimed is released.
  pub release_keeps : Invariant S (with_locks st m.locked) T g
  release_keeps =
      record {
        granted = λ q live.
            let o = inv.granted q live in
            record { r_known = o.r_known; locked = λ i hi. lock_stays _ (not_granted q i live hi) (o.locked i hi); owned = o.owned };
        open_way = inv.open_way;
        signal = inv.signal;
        held = λ t x h.
            let o = inv.held t x h in
            record {
              q = o.q;
              i = o.i;
              q_known = o.q_known;
              i_in = o.i_in;
              here = o.here;
              locked = lock_stays _ (not_held t x o.q o.i o.q_known o.i_in o.here h) o.locked;
              points = o.points;
              owned = o.owned;
            };
        on_track = inv.on_track;
        moving = λ t f q k a b.
            let o = inv.moving t f q k a b in
            record {
              r_known = o.r_known;
              k_in = o.k_in;
              in_it = o.in_it;
              by_it = o.by_it;
              locked = λ i c d. lock_stays _ (not_ahead t q k i o c d) (o.locked i c d);
              points = o.points;
              owned = o.owned;
            };
        resting = inv.resting;
        following = inv.following;
        idle = inv.idle;
      }

module _ (S : Plan) (ok : Facts S) (st : Situation) (T : Told) (g : Ghost) (inv : Invariant S st T g) (p : ℕ) (m : Settling st p) where
  point_stays : (q : ℕ) → (st.points q).settled ≡ true → m.points q ≡ st.points q
  point_stays q e = elim (m.points_are q) [ inl a ↦ absurd (both_ways _ (ap (λ y. (st.points y).settled) a ∙ m.was) e) | inr a ↦ a ]

  lying_stays : (v : ℕ) → Lying S st v → Lying S (with_points st m.points) v
  lying_stays v ps x hx =
      let o = ps x hx in
      let k = point_stays x.point o.0 in
      (ap (λ y. y.settled) k ∙ o.0, ap (λ y. y.target) k ∙ o.1)

  -- A settling keeps the invariant: the point was in motion, so no claim rests on it.
  pub settling_keeps : Invariant S (with_points st m.points) T g
  settling_keeps =
      record {
        granted = inv.granted;
        open_way = λ q e.
            let o = inv.open_way q e in
            record { live = o.live; points = λ i hi. lying_stays _ (o.points i hi); latest = o.latest };
        signal = inv.signal;
        held = λ t x h.
            let o = inv.held t x h in
            record { q = o.q; i = o.i; q_known = o.q_known; i_in = o.i_in; here = o.here; locked = o.locked; points = lying_stays _ o.points; owned = o.owned };
        on_track = inv.on_track;
        moving = λ t f q k a b.
            let o = inv.moving t f q k a b in
            record {
              r_known = o.r_known;
              k_in = o.k_in;
              in_it = o.in_it;
              by_it = o.by_it;
              locked = o.locked;
              points = λ i c d. lying_stays _ (o.points i c d);
              owned = o.owned;
            };
        resting = λ t f a b.
            let o = inv.resting t f a b in
            record { one = o.one; v = o.v; x = o.x; n = o.n; v_known = o.v_known; here = o.here; by_it = o.by_it; points = lying_stays _ o.points; over = o.over; signal = o.signal };
        following = inv.following;
        idle = inv.idle;
      }
