-- The opening gives the invariant, and the invariant what is promised of trains.
use Rattle.std.proofs.Common.{◌≡◌, ℕ, suc, ◌<◌, ◌≤◌, true, false, [], Some, None, sym, refl, ap, ◌∙◌, subst, inl, inr}
use Rattle.std.proofs.lemmas.Bool.{both_ways}
use Rattle.safety.proofs.Plan.{Plan, Facts}
use Rattle.safety.specs.Safety.{is_derailed}
use Rattle.safety.proofs.Situation.{Situation, Told, Held, firsts, front_of, rear_of}
use Rattle.safety.proofs.Invariant.{nobody, train, Progress, none, on, Ghost, Invariant}

-- nothing is claimed, and nothing has been told
abbrev pub nothing : Ghost
nothing = record { owner = λ x. nobody; progress = λ t. none }

abbrev pub untold : Told
untold = record { since = λ t. []; latest = λ n. None; route = λ t. None }

-- all unset and free, all signals at stop, no train
pub record Opened (st : Situation) : Type 0 where
  pub live : (r : ℕ) → st.live r ≡ false
  pub active : (r : ℕ) → st.active r ≡ false
  pub proceed : (n : ℕ) → st.proceed n ≡ false
  pub trains : (t : ℕ) → st.trains t ≡ None

module _ (S : Plan) (st : Situation) (o : Opened st) where
  none_held : (t x : ℕ) → Held (st.trains t) x → ⊥
  none_held t x (inl e) = let w : None ≡ Some x = sym (ap front_of (o.trains t)) ∙ e in cc
  none_held t x (inr e) = let w : None ≡ Some x = sym (ap rear_of (o.trains t)) ∙ e in cc

  pub opening_keeps : Invariant S st untold nothing
  opening_keeps =
      record {
        granted = λ r e. absurd (both_ways _ (o.live r) e);
        open_way = λ r e. absurd (both_ways _ (o.active r) e);
        signal = λ n e. absurd (both_ways _ (o.proceed n) e);
        held = λ t x h. absurd (none_held t x h);
        on_track = λ t. ap is_derailed (o.trains t);
        moving = λ t f r k e n. absurd (none_held t f (inl e));
        resting = λ t f e n. absurd (none_held t f (inl e));
        following = λ t r k n. cc;
        idle = λ t n. (refl, refl);
      }

module _ (S : Plan) (ok : Facts S) (st : Situation) (T : Told) (g : Ghost) (inv : Invariant S st T g) where
  -- no two trains hold one segment: both would claim it
  pub alone : (t u x : ℕ) → Held (st.trains t) x → Held (st.trains u) x → t ≡ u
  alone t u x a b =
      let p = (inv.held t x a).owned in
      let q = (inv.held u x b).owned in
      let z : train t ≡ train u = sym p ∙ q in
      cc

  -- the home points of a held segment are settled
  pub settled : (t p : ℕ) → p < S.points → Held (st.trains t) (S.home p) → (st.points p).settled ≡ true
  settled t p hp a =
      let o = inv.held t (S.home p) a in
      let n = ok.names _ p (ok.known o.q o.i o.q_known o.i_in) (hp, sym o.here) in
      subst (λ y. (st.points y).settled ≡ true) n.2 (o.points n.0 n.1).0

  -- a train has entered the first segments of its route's path
  pub along : (t r : ℕ) → T.route t ≡ Some r → (n : ℕ) × (n ≤ S.len r) × (T.since t ≡ firsts S r n)
  along t r e = go (g.progress t) refl
    where
      go : (n : Progress) → g.progress t ≡ n → (n : ℕ) × (n ≤ S.len r) × (T.since t ≡ firsts S r n)
      go none d = absurd (let w : None ≡ Some r = sym (inv.idle t d).1 ∙ e in cc)
      go (on q k) d =
          let w = inv.following t q k d in
          let i : Some q ≡ Some r = sym w.its ∙ e in
          let eq : q ≡ r = cc in
          subst (λ y. (n : ℕ) × (n ≤ S.len y) × (T.since t ≡ firsts S y n)) eq (suc k, w.k_in, w.came)

  -- one without a route has entered none
  pub still : (t : ℕ) → T.route t ≡ None → T.since t ≡ []
  still t e = go (g.progress t) refl
    where
      go : (n : Progress) → g.progress t ≡ n → T.since t ≡ []
      go none d = (inv.idle t d).0
      go (on q k) d = absurd (let w : Some q ≡ None = sym (inv.following t q k d).its ∙ e in cc)
