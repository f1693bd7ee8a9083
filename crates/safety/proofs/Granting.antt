-- An activation, a release and a settling on a state are such by number.
use Rattle.std.proofs.Common.{◌≡◌, ℕ, ◌<◌, true, not, eqb, ltb, List, [], ◌∷◌, ◌++◌, length, get_or, set, Some, None, Err, Contains, Option, Result, sym, refl, ap, ◌∙◌, subst, inl, inr, arith, length-set, get_or-set_other, get_or-set_same, eq-eqb, eqb-true}
use Rattle.std.proofs.lemmas.Option.{none-some}
use native.Mathlib.Decide.{ℕ_discrete}
use Rattle.std.proofs.lemmas.Bool.{and_parts, lt-ltb, ltb-true}
use Rattle.station.specs.Station.{Station}
use Rattle.station.specs.Numbers.{route_at}
use Rattle.station.specs.Paths.{path_length, on_path}
use Rattle.station.specs.declared.tests.ActivationTest.{ActivationTest}
use Rattle.station.specs.declared.tests.ActivationTest.TheVariants as activation
use Rattle.station.specs.declared.tests.Lock.TheVariants.{Subroute}
use Rattle.acceptance.specs.Soundness.{Sound}
use Rattle.acceptance.specs.Consequences.{Consequences}
use Rattle.track.specs.Meaning.{state_at, train_at, with_aspect}
use Rattle.track.specs.Ways.{is_stop}
use Rattle.track.specs.declared.states.Aspect.{Aspect}
use Rattle.track.specs.declared.states.Aspect.TheVariants.{Stop, Proceed}
use Rattle.track.specs.Refusals.{after, answer}
use Rattle.states.specs.Routes.{is_unset, is_active, next_state}
use Rattle.states.specs.Slots.{route_state, is_locked, with_route}
use Rattle.states.specs.declared.denials.Denial.{Denial}
use Rattle.states.specs.declared.routes.Event.TheVariants as event
use Rattle.states.specs.declared.routes.RouteState.{RouteState}
use Rattle.states.specs.declared.routes.RouteState.TheVariants as routes
use Rattle.conditions.specs.States.{State, a_state}
use Rattle.conditions.specs.Tests.{activation_holds}
use Rattle.passing.specs.Signals.{signal_of}
use Rattle.calls.specs.Grants.{Activates, activate_denial, activated, on_event, shown}
use Rattle.calls.specs.Steps.{done_answer}
use Rattle.calls.specs.declared.values.Answer.{Answer}
use Rattle.safety.specs.Histories as histories
use Rattle.safety.specs.Histories.{History, where_done}
use Rattle.safety.proofs.Situation.{Lying, Upd}
use Rattle.safety.proofs.Invariant.{Invariant}
use Rattle.safety.proofs.Grants as by_numbers
use Rattle.safety.proofs.Grants.{Activation}
use Rattle.safety.proofs.Locks.{activation_keeps}
use Rattle.safety.proofs.Stations.{plan, known_facts, governor_is, governed}
use Rattle.safety.proofs.Kept.{Kept, Next, view, told, unchanged}
use Rattle.safety.proofs.Rows.{row_holds, lies_is}
use Rattle.safety.proofs.Denied.{passed_test, no_test_fails}
use Rattle.safety.proofs.Requesting.{few_routes}

-- one place of a list is written
pub written : {A B : Type 0} (f : A → B) (l : List A) (i : ℕ) (x d : A) → i < length l → Upd (λ j. f (get_or l j d)) (λ j. f (get_or (set l i x) j d)) i (f x)
written f l i x d h j =
    elim (ℕ_discrete j i) [ yes e ↦ inl (e, ap f (ap (λ k. get_or (set l i x) k d) e ∙ get_or-set_same l i x d h)) | no e ↦ inr (e, ap f (get_or-set_other l i j x d e)) ]

-- what a refused call answers
pub refused_told : (d : Denial) (a : Answer) (k : History) → a ≡ done_answer (Err d) → where_done a k ≡ []
refused_told d a k e = ap (λ y. where_done y k) e

module _ (s : Station) (keeps : Sound s) (facts : Consequences s) (v : State) (h : History) (kept : Kept s v h) where
  -- a signal of the station is one of the track's
  pub signal_known : (n : ℕ) → n < length s.signals → n < length v.track.signals
  signal_known n hn =
      let e : length s.signals ≡ length v.track.signals = eqb-true (length s.signals) (length v.track.signals) (and_parts (eqb (length s.points) (length v.track.points)) (eqb (length s.signals) (length v.track.signals)) kept.fitting).1 in
      omega arith

  pub shown_is : (n : ℕ) (x : Aspect) → n < length s.signals → shown s v.track (Some n) x ≡ with_aspect v.track n x
  shown_is n x hn = let k : ltb n (length v.track.signals) ≡ true = lt-ltb n (length v.track.signals) (signal_known n hn) in rw (kept.fitting, k)

  -- the station's route r, which is set, becomes active by its signal n
  module _ (r : ℕ) (hr : r < length s.routes) (set_was : route_state v.own r ≡ routes.Set) (tests : (t : ActivationTest) → Contains (route_at s r).activation t → activation_holds t s v ≡ true) (n : ℕ) (starts : signal_of s r ≡ Some n) where
    hn : n < length s.signals
    hn = (governor_is s _ _ n starts).0

    slot : r < length v.own.routes
    slot = let c = few_routes s kept.slots in let d = kept.sized.routes in omega arith

    lying : (i : ℕ) → i < path_length s r → Lying (plan s) (view v) (on_path s r i)
    lying i hi x k = lies_is s v.track x.point x.position kept.fitting (tests (activation.Lies x.point x.position) (((facts.rows r hr).activation i hi).lie x k))

    was_live : not (is_unset (route_state v.own r)) ≡ true
    was_live = rw set_was

    by_number : Activation (plan s) (view v) r
    by_number =
        record {
          n = n;
          known = hr;
          was = was_live;
          points = lying;
          starts = rw (starts, eq-eqb n n refl);
          active = λ q. is_active (get_or (set v.own.routes r routes.Active) q routes.Unset);
          proceed = λ k. not (is_stop (get_or (set v.track.signals n Proceed) k Stop));
          active_is = written is_active v.own.routes r routes.Active routes.Unset slot;
          proceed_is = written (λ y. not (is_stop y)) v.track.signals n Proceed Stop (signal_known n hn);
        }

    live_same : (q : ℕ) → not (is_unset (get_or v.own.routes q routes.Unset)) ≡ not (is_unset (get_or (set v.own.routes r routes.Active) q routes.Unset))
    live_same q =
        elim (written (λ y. not (is_unset y)) v.own.routes r routes.Active routes.Unset slot q) [ inl k ↦ ap (λ y. not (is_unset (route_state v.own y))) k.0 ∙ was_live ∙ sym k.1 | inr k ↦ sym k.1 ]

    active_state : State
    active_state = a_state (with_route v.own r routes.Active) (with_aspect v.track n Proceed)

    view_is : by_numbers.activated by_number ≡ view active_state
    unfolding by_number active_state
    view_is = λ i. record {
      live = λ q. live_same q i;
      active = λ q. is_active (get_or (set v.own.routes r routes.Active) q routes.Unset);
      locked = λ u. is_locked v.own (Subroute u);
      points = λ p. state_at v.track p;
      proceed = λ k. not (is_stop (get_or (set v.track.signals n Proceed) k Stop));
      trains = λ t. train_at v.track t;
    }

    activation_granted : Next s v active_state (histories.activated r ∷ h)
    unfolding active_state
    activation_granted = (
      record {
        sized = record { routes = simp length-set kept.sized.routes; subroutes = kept.sized.subroutes; zones = kept.sized.zones };
        sixteen = kept.sixteen;
        fitting = simp length-set kept.fitting;
        slots = kept.slots;
        covering = kept.covering;
        ghost = kept.ghost;
        inv = subst (λ y. Invariant (plan s) y (told s (histories.activated r ∷ h)) kept.ghost) view_is (activation_keeps (plan s) (known_facts s keeps facts) (view v) (told s h) kept.ghost kept.inv r by_number);
      },
      λ t p hp x. refl,
    )

    active_is : active_state ≡ activated s v r
    unfolding active_state
    active_is = rw (set_was, starts, shown_is n Proceed hn)

  event_fits : (x : RouteState) (rest : Option Denial) → on_event (next_state x event.Activation) rest ≡ None → (x ≡ routes.Set) × (rest ≡ None)
  event_fits routes.Unset rest e = absurd (none-some _ (sym e))
  event_fits routes.Set rest e = (refl, e)
  event_fits routes.Active rest e = absurd (none-some _ (sym e))

  -- An activation keeps what is kept, granted or refused.
  pub activation_next : (r : ℕ) (x : Result Unit Denial) (w : State) → Activates s v r x w → (a : Answer) → a ≡ done_answer x → Next s v w (where_done a (histories.activated r ∷ []) ++ h)
  activation_next r x w m a ea = go (activate_denial s v r) refl m.leaves (ea ∙ ap done_answer m.answers)
    where
      go : (d : Option Denial) → activate_denial s v r ≡ d → w ≡ after d v (activated s v r) → a ≡ done_answer (answer d tt) → Next s v w (where_done a (histories.activated r ∷ []) ++ h)
      go (Some z) e l k = unchanged s v w h _ kept l (refused_told z a _ k)
      go None e l k =
          let b = passed_test _ _ _ e in
          let c = passed_test _ _ _ b.1 in
          let f = event_fits (route_state v.own r) _ c.1 in
          let g = no_test_fails _ f.1 in
          let hr = ltb-true r (length s.routes) c.0 in
          let n = governed s _ _ (facts.signals r hr).entry in
          let tests = row_holds (λ t. activation_holds t s v) (route_at s r).activation g in
          let o = activation_granted r hr f.0 tests n.0 n.1 in
          let is = active_is r hr f.0 tests n.0 n.1 ∙ sym l in
          subst (λ y. Next s v w (where_done y (histories.activated r ∷ []) ++ h)) (sym k) (subst (λ y. Next s v y (histories.activated r ∷ h)) is o)
