-- A release and a settling on a state are such by number.
use Rattle.std.proofs.Common.{◌≡◌, ℕ, suc, ◌-◌, ◌<◌, Bool, true, false, ◌&&◌, ltb, [], length, get_or, set, Some, None, Contains, Option, Result, sym, refl, ap, ◌∙◌, subst, inl, inr, arith, length-set, get_or-set_other}
use native.Mathlib.Decide.{ℕ_discrete}
use borrow.Author.Tests.{not-true}
use Rattle.std.proofs.lemmas.Bool.{ltb-true, not_from_false, not_from_true, both_ways}
use Rattle.station.specs.Station.{Station}
use Rattle.station.specs.Numbers.{point_at, release_at, zone_at}
use Rattle.station.specs.Subroutes.{subroutes, segment_of}
use Rattle.station.specs.Paths.{path_length, on_path, Used}
use Rattle.station.specs.declared.tests.Lock.{Lock}
use Rattle.station.specs.declared.tests.Lock.TheVariants.{Zone, Subroute}
use Rattle.station.specs.declared.tests.ReleaseTest.{ReleaseTest}
use Rattle.station.specs.declared.tests.ReleaseTest.TheVariants as release
use Rattle.acceptance.specs.Soundness.{Sound}
use Rattle.acceptance.specs.Consequences.{Consequences, Covering}
use Rattle.track.specs.Calls.{said, settled_so}
use Rattle.track.specs.Meaning.{a_point, fits, no_state, state_at, train_at, with_point}
use Rattle.track.specs.declared.refusals.Refusal.{Refusal}
use Rattle.track.specs.declared.states.PointState.{PointState}
use Rattle.track.specs.Refusals.{after}
use Rattle.states.specs.Slots.{is_locked, with_lock}
use Rattle.states.specs.declared.denials.Denial.{Denial}
use Rattle.conditions.specs.States.{State, a_state}
use Rattle.conditions.specs.Tests.{is_free, release_holds}
use Rattle.passing.specs.Locks.{has_slots, is_declared}
use Rattle.calls.specs.Grants.{Releases, release_denial, released}
use Rattle.calls.specs.Moves as moves
use Rattle.calls.specs.Moves.{settling_refusal}
use Rattle.safety.specs.Histories.{History}
use Rattle.safety.specs.Safety.{Undisturbed}
use Rattle.safety.proofs.Situation.{Held}
use Rattle.safety.proofs.Grants.{Release, Settling}
use Rattle.safety.proofs.Locks.{release_keeps, settling_keeps}
use Rattle.safety.proofs.Safe.{settled}
use Rattle.safety.proofs.Stations.{plan, known_facts}
use Rattle.safety.proofs.Kept.{Kept, Next, view, told, unchanged}
use Rattle.safety.proofs.Rows.{row_holds, clear_is, held_is}
use Rattle.safety.proofs.Denied.{passed_test, failed_test, no_test_fails}
use Rattle.safety.proofs.Requesting.{used_on, few_subroutes}
use Rattle.safety.proofs.Granting.{written}

module _ (s : Station) (keeps : Sound s) (facts : Consequences s) (v : State) (h : History) (kept : Kept s v h) where
  -- a subroute that is released
  module _ (u : ℕ) (hu : u < subroutes s) (tests : (t : ReleaseTest) → Contains (release_at s u) t → release_holds t s v ≡ true) where
    slot : u < length v.own.subroutes
    slot = let c = few_subroutes s kept.slots in let d = kept.sized.subroutes in omega arith

    used : (q i : ℕ) → q < length s.routes → i < path_length s q → on_path s q i ≡ u → Used s u
    used q i hq hi e = subst (λ y. Used s y) e (used_on s q i hq hi)

    free_before : (q i : ℕ) → q < length s.routes → suc i < path_length s q → on_path s q (suc i) ≡ u → is_locked v.own (Subroute (on_path s q i)) ≡ false
    free_before q i hq hi e =
        let k : suc i - 1 ≡ i = omega arith in
        let t = tests _ ((facts.releases u (used q (suc i) hq hi e)).follows q hq (suc i) hi (omega arith) e) in
        subst (λ y. is_locked v.own (Subroute (on_path s q y)) ≡ false) k (not-true _ t)

    by_number : Release (plan s) (view v) u
    by_number =
        record {
          clear = λ q i hq hi e t x. clear_is s v.track (segment_of s u) kept.sixteen (tests _ (facts.releases u (used q i hq hi e)).clear) t x;
          starts = λ q hq e.
              let some = (facts.paths q hq).some in
              not_from_true _ (tests _ ((facts.releases u (used q 0 hq some e)).starts q hq some e));
          follows = free_before;
          locked = λ y. get_or (set v.own.subroutes u false) y false;
          locked_is = written (λ b. b) v.own.subroutes u false false slot;
        }

    covers_after : Covering s (is_free (with_lock v.own (Subroute u) false))
    covers_after z y c e =
        elim (written (λ b. b) v.own.subroutes u false false slot y) [ inl k ↦ not_from_false _ k.1 | inr k ↦ not_from_false _ (k.1 ∙ not-true _ (kept.covering z y c e)) ]

    subroute_released : Next s v (released v (Subroute u)) h
    unfolding by_number
    subroute_released = (
      record {
        sized = record { routes = kept.sized.routes; subroutes = simp length-set kept.sized.subroutes; zones = kept.sized.zones };
        sixteen = kept.sixteen;
        fitting = kept.fitting;
        slots = kept.slots;
        covering = covers_after;
        ghost = kept.ghost;
        inv = release_keeps (plan s) (known_facts s keeps facts) (view v) (told s h) kept.ghost kept.inv u by_number;
      },
      λ t p hp x. refl,
    )

  -- a zone that is released covers no locked subroute
  module _ (z : ℕ) (tests : (t : ReleaseTest) → Contains (zone_at s z).tests t → release_holds t s v ≡ true) where
    covers_still : Covering s (is_free (with_lock v.own (Zone z) false))
    covers_still y u c e =
        elim (ℕ_discrete y z) [
          | yes d ↦ tests (release.Free u) (subst (λ k. Contains (zone_at s k).tests (release.Free u)) d c.tested)
          | no d ↦ kept.covering y u c (not_from_false _ (sym (get_or-set_other v.own.zones z y false false d) ∙ not-true _ e))
        ]

    zone_released : Next s v (released v (Zone z)) h
    zone_released = (
      record {
        sized = record { routes = kept.sized.routes; subroutes = kept.sized.subroutes; zones = simp length-set kept.sized.zones };
        sixteen = kept.sixteen;
        fitting = kept.fitting;
        slots = kept.slots;
        covering = covers_still;
        ghost = kept.ghost;
        inv = kept.inv;
      },
      λ t p hp x. refl,
    )

  lock_released : (l : Lock) → release_denial s v l ≡ None → Next s v (released v l) h
  lock_released (Subroute u) e =
      let a = passed_test (fits s v.track && has_slots s) _ _ e in
      let b = passed_test (is_declared s (Subroute u)) _ _ a.1 in
      let c = passed_test (is_locked v.own (Subroute u)) _ _ b.1 in
      subroute_released u (ltb-true u (subroutes s) b.0) (row_holds (λ t. release_holds t s v) (release_at s u) (no_test_fails _ c.1))
  lock_released (Zone z) e =
      let a = passed_test (fits s v.track && has_slots s) _ _ e in
      let b = passed_test (is_declared s (Zone z)) _ _ a.1 in
      let c = passed_test (is_locked v.own (Zone z)) _ _ b.1 in
      zone_released z (row_holds (λ t. release_holds t s v) (zone_at s z).tests (no_test_fails _ c.1))

  -- A release keeps what is kept, granted or refused.
  pub release_next : (l : Lock) (x : Result Unit Denial) (w : State) → Releases s v l x w → Next s v w h
  release_next l x w m = go (release_denial s v l) refl m.leaves
    where
      go : (d : Option Denial) → release_denial s v l ≡ d → w ≡ after d v (released v l) → Next s v w h
      go (Some z) e k = unchanged s v w h [] kept k refl
      go None e k = subst (λ y. Next s v y h) (sym k) (lock_released l e)

  -- a point in motion settles
  module _ (p : ℕ) (moving : (state_at v.track p).settled ≡ false) where
    new : PointState
    new = a_point (state_at v.track p).target true

    settling : Settling (view v) p
    settling =
        record {
          was = moving;
          points = λ q. get_or (set v.track.points p new) q no_state;
          points_are = λ q. elim (ℕ_discrete q p) [ yes d ↦ inl d | no d ↦ inr (get_or-set_other v.track.points p q new no_state d) ];
        }

    still_point : (t q : ℕ) → q < length s.points → Held (train_at v.track t) (point_at s q).home → get_or (set v.track.points p new) q no_state ≡ state_at v.track q
    still_point t q hq k =
        elim (ℕ_discrete q p) [
          | yes d ↦ absurd (both_ways _ (ap (λ y. (state_at v.track y).settled) d ∙ moving) (settled (plan s) (known_facts s keeps facts) (view v) (told s h) kept.ghost kept.inv t q hq k))
          | no d ↦ get_or-set_other v.track.points p q new no_state d
        ]

    undisturbed : Undisturbed s v (a_state v.own (with_point v.track p new))
    undisturbed t q hq (inl k) = still_point t q hq (held_is (train_at v.track t) (point_at s q).home k)
    undisturbed t q hq (inr k) = still_point t q hq (held_is (train_at v.track t) (point_at s q).home k)

    point_settled : Next s v (a_state v.own (with_point v.track p new)) h
    unfolding settling
    point_settled = (
      record {
        sized = kept.sized;
        sixteen = kept.sixteen;
        fitting = simp length-set kept.fitting;
        slots = kept.slots;
        covering = kept.covering;
        ghost = kept.ghost;
        inv = settling_keeps (plan s) (known_facts s keeps facts) (view v) (told s h) kept.ghost kept.inv p settling;
      },
      undisturbed,
    )

  -- A settling keeps what is kept, whatever the track chooses, and where it is refused.
  pub settling_next : (p : ℕ) (x : Result Bool Denial) (w : State) → moves.Settling s v p x w → Next s v w h
  unfolding new
  settling_next p x w m = go (settling_refusal s v.track p) refl m.leaves
    where
      chosen : (b : Bool) → (state_at v.track p).settled ≡ false → w ≡ a_state v.own (settled_so v.track p b) → Next s v w h
      chosen true e k = subst (λ y. Next s v y h) (sym k) (point_settled p e)
      chosen false e k = unchanged s v w h [] kept k refl

      go : (d : Option Refusal) → settling_refusal s v.track p ≡ d → w ≡ a_state v.own (after d v.track (settled_so v.track p (said x))) → Next s v w h
      go (Some z) e k = unchanged s v w h [] kept k refl
      go None e k =
          let a = passed_test (fits s v.track && has_slots s) _ _ e in
          let b = passed_test (fits s v.track) _ _ a.1 in
          let c = passed_test (ltb p (length v.track.points)) _ _ b.1 in
          chosen (said x) (failed_test (state_at v.track p).settled _ _ c.1).0 k
