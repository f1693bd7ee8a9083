-- The calls that move a train, on a state, are such by number.
use Rattle.std.proofs.Common.{◌≡◌, ℕ, ◌<◌, false, not, ◌≢◌, List, ◌∷◌, length, get_or, set, Some, None, Option, sym, refl, ap, ◌∙◌, subst, inl, inr, arith, length-set, get_or-set_same}
use Rattle.std.proofs.lemmas.Bool.{not_from_false}
use Rattle.station.specs.Station.{Station}
use Rattle.station.specs.Joints.{across}
use Rattle.station.specs.declared.tables.Beyond.TheVariants as beyond
use Rattle.station.specs.declared.tests.Lock.{Lock}
use Rattle.station.specs.declared.tests.Lock.TheVariants.{Zone, Subroute}
use Rattle.acceptance.specs.Soundness.{Sound}
use Rattle.acceptance.specs.Consequences.{Consequences, Covering}
use Rattle.track.specs.Meaning.{aspect_at, state_at, train_at, with_aspect, with_train}
use Rattle.track.specs.Trains.{come_in, gone_on, Train}
use Rattle.track.specs.Ways.{governor, is_stop, way_out}
use Rattle.track.specs.declared.states.Aspect.TheVariants.{Stop}
use Rattle.states.specs.Routes.{is_active, is_unset}
use Rattle.states.specs.Slots.{is_locked, route_state}
use Rattle.states.specs.declared.slots.Note.{Note}
use Rattle.states.specs.declared.slots.States.{States}
use Rattle.conditions.specs.States.{State, a_state}
use Rattle.conditions.specs.Tests.{is_free}
use Rattle.passing.specs.Signals.{passed_routes}
use Rattle.safety.specs.Histories.{History, entered, passed, turned}
use Rattle.safety.specs.Safety.{is_derailed}
use Rattle.safety.proofs.Situation.{Held, Upd, front_of, joint_of, rear_of}
use Rattle.safety.proofs.Invariant.{Invariant}
use Rattle.safety.proofs.Moves.{Onward, Passed, Passing, Shrinking, Turning, with_passing}
use Rattle.safety.proofs.Onwards.{onward_keeps}
use Rattle.safety.proofs.Passings.{passing_keeps}
use Rattle.safety.proofs.Turns.{shrinking_keeps, turning_keeps}
use Rattle.safety.proofs.Ways.{has_way}
use Rattle.safety.proofs.Stations.{plan, known_facts, governor_is}
use Rattle.safety.proofs.Kept.{Kept, Next, view, told}
use Rattle.safety.proofs.Requesting.{few_routes}
use Rattle.safety.proofs.Granting.{signal_known, written}
use Rattle.safety.proofs.Leading.{leads_by, leads_nowhere}
use Rattle.safety.proofs.Ended.{Ended, routes_ended}

module _ (s : Station) (keeps : Sound s) (facts : Consequences s) (v : State) (h : History) (kept : Kept s v h) where
  -- no train derails: a way fits
  pub no_derailing : (t x j : ℕ) → train_at v.track t ≡ come_in x j → way_out s v.track x j ≡ None → ⊥
  no_derailing t x j e d =
      let w = has_way (plan s) (known_facts s keeps facts) (view v) (told s h) kept.ghost kept.inv t x j e in
      leads_nowhere s facts v x j d w.0 w.1

  module _ (t : ℕ) (ht : t < 16) (new : Train) where
    in_table : t < length v.track.trains
    in_table = let c = kept.sixteen in omega arith

    trains_are : Upd (view v).trains (λ u. get_or (set v.track.trains t new) u None) t new
    trains_are = written (λ y. y) v.track.trains t new None in_table

    -- the train's new record
    pub record_is : train_at (with_train v.track t new) t ≡ new
    record_is = get_or-set_same v.track.trains t new None in_table

    -- the train's record changes, and of the machine's own only what is noted
    abbrev pub changed : List (Option Note) → State
    changed notes = a_state (record { routes = v.own.routes; subroutes = v.own.subroutes; zones = v.own.zones; notes = notes }) (with_train v.track t new)

    -- a front to the outside, or a rear
    module _ (notes : List (Option Note)) (sound : is_derailed new ≡ false) (less : (x : ℕ) → Held new x → Held (train_at v.track t) x) (front_was : (f : ℕ) → front_of new ≡ Some f → front_of (train_at v.track t) ≡ Some f) (joint_was : (f : ℕ) → front_of new ≡ Some f → joint_of new ≡ joint_of (train_at v.track t)) (rear_was : (f : ℕ) → front_of new ≡ Some f → rear_of (train_at v.track t) ≢ None) where
      shrinking : Shrinking (view v) t
      shrinking =
          record {
            new = new;
            sound = sound;
            less = less;
            front_was = front_was;
            joint_was = joint_was;
            rear_was = rear_was;
            trains = λ u. get_or (set v.track.trains t new) u None;
            trains_are = trains_are;
          }

      pub shrinks : Next s v (changed notes) h
      unfolding shrinking
      shrinks = (
        record {
          sized = record { routes = kept.sized.routes; subroutes = kept.sized.subroutes; zones = kept.sized.zones };
          sixteen = simp length-set kept.sixteen;
          fitting = kept.fitting;
          slots = kept.slots;
          covering = kept.covering;
          ghost = kept.ghost;
          inv = shrinking_keeps (plan s) (known_facts s keeps facts) (view v) (told s h) kept.ghost kept.inv t shrinking;
        },
        λ u p hp x. refl,
      )

  -- a front into a segment, past no signal
  module _ (t : ℕ) (ht : t < 16) (x j k u : ℕ) (was : train_at v.track t ≡ come_in x j) (out : way_out s v.track x j ≡ Some k) (over : across s k x ≡ beyond.Segment u) (none : governor s k u ≡ None) (notes : List (Option Note)) where
    onward : Onward (plan s) (view v) t u
    onward =
        let l = leads_by s facts v x j k out in
        record {
          f = x;
          j = j;
          v = l.0;
          was = was;
          fits = l.1;
          into = ap (λ y. across s y x) l.2 ∙ over;
          unsignalled = ap (λ y. governor s y u) l.2 ∙ none;
          trains = λ y. get_or (set v.track.trains t (gone_on (Some u) k x)) y None;
          trains_are = subst (λ y. Upd (view v).trains (λ i. get_or (set v.track.trains t (gone_on (Some u) k x)) i None) t (gone_on (Some u) y x)) (sym l.2) (trains_are t ht (gone_on (Some u) k x));
        }

    pub goes_on : Next s v (changed t ht (gone_on (Some u) k x) notes) (entered t u ∷ h)
    unfolding onward
    goes_on =
        let n = onward_keeps (plan s) (known_facts s keeps facts) (view v) (told s h) kept.ghost kept.inv t u onward in (
          record {
            sized = record { routes = kept.sized.routes; subroutes = kept.sized.subroutes; zones = kept.sized.zones };
            sixteen = simp length-set kept.sixteen;
            fitting = kept.fitting;
            slots = kept.slots;
            covering = kept.covering;
            ghost = n.0;
            inv = n.1;
          },
          λ y p hp z. refl,
        )

  -- a turn
  module _ (t : ℕ) (ht : t < 16) (x j k y n : ℕ) (was : train_at v.track t ≡ come_in x j) (out : way_out s v.track x j ≡ Some k) (behind : across s j x ≡ beyond.Segment y) (signal : governor s j y ≡ Some n) (notes : List (Option Note)) where
    turning : Turning (plan s) (view v) t
    turning =
        let l = leads_by s facts v x j k out in
        record {
          f = x;
          j = j;
          v = l.0;
          x = y;
          n = n;
          was = was;
          fits = l.1;
          behind = behind;
          signal = signal;
          trains = λ i. get_or (set v.track.trains t (come_in x k)) i None;
          trains_are = subst (λ z. Upd (view v).trains (λ i. get_or (set v.track.trains t (come_in x k)) i None) t (come_in x z)) (sym l.2) (trains_are t ht (come_in x k));
        }

    pub turns_round : Next s v (changed t ht (come_in x k) notes) (turned t ∷ h)
    unfolding turning
    turns_round =
        let g = turning_keeps (plan s) (known_facts s keeps facts) (view v) (told s h) kept.ghost kept.inv t turning in (
          record {
            sized = record { routes = kept.sized.routes; subroutes = kept.sized.subroutes; zones = kept.sized.zones };
            sixteen = simp length-set kept.sixteen;
            fitting = kept.fitting;
            slots = kept.slots;
            covering = kept.covering;
            ghost = g.0;
            inv = g.1;
          },
          λ u p hp z. refl,
        )

  -- a passing of the signal n into the segment x
  module _ (t : ℕ) (ht : t < 16) (n j x : ℕ) (new : Train) (there : governor s j x ≡ Some n) (proceeds : is_stop (aspect_at v.track n) ≡ false) (new_front : front_of new ≡ Some x) (new_joint : joint_of new ≡ j) (new_sound : is_derailed new ≡ false) (new_rear : (b : ℕ) → rear_of new ≡ Some b → Held (train_at v.track t) b) (notes : List (Option Note)) where
    abbrev own' : States
    own' = passed_routes s n v.own (length s.routes)

    ended : Ended s n v.own (length s.routes) own'
    ended = routes_ended s n v.own (length s.routes) (let c = few_routes s kept.slots in let d = kept.sized.routes in omega arith)

    by_passing : Passed (plan s) (view v) n
    by_passing =
        record {
          live = λ r. not (is_unset (route_state own' r));
          active = λ r. is_active (route_state own' r);
          proceed = λ k. not (is_stop (get_or (set v.track.signals n Stop) k Stop));
          routes_are = λ r. elim (ended.routes r) [
            | inl a ↦ inl (a.2, a.1, ap is_active a.3, ap (λ y. not (is_unset y)) a.3)
            | inr a ↦ inr (λ g f. a.0 (kept.inv.granted r (kept.inv.open_way r g).live).r_known f g, ap is_active a.1, ap (λ y. not (is_unset y)) a.1)
          ];
          proceed_is = written (λ y. not (is_stop y)) v.track.signals n Stop Stop (signal_known s keeps facts v h kept n (governor_is s j x n there).0);
        }

    passing : Passing (plan s) (view v) t n x
    passing =
        record {
          j = j;
          there = there;
          proceed = not_from_false _ proceeds;
          passed = by_passing;
          new = new;
          new_front = new_front;
          new_joint = new_joint;
          new_sound = new_sound;
          new_rear = new_rear;
          trains = λ u. get_or (set v.track.trains t new) u None;
          trains_are = trains_are t ht new;
        }

    abbrev pub after_passing : State
    after_passing =
        a_state (record { routes = own'.routes; subroutes = own'.subroutes; zones = own'.zones; notes = notes }) (with_aspect (with_train v.track t new) n Stop)

    locks_same : (l : Lock) → is_locked own' l ≡ is_locked v.own l
    locks_same (Zone z) = ap (λ y. get_or y z false) ended.zones
    locks_same (Subroute u) = ap (λ y. get_or y u false) ended.subroutes

    view_is : with_passing (view v) by_passing (λ u. get_or (set v.track.trains t new) u None) ≡ view after_passing
    unfolding by_passing
    view_is = λ i. record {
      live = λ r. not (is_unset (route_state own' r));
      active = λ r. is_active (route_state own' r);
      locked = λ u. sym (locks_same (Subroute u)) i;
      points = λ p. state_at v.track p;
      proceed = λ k. not (is_stop (get_or (set v.track.signals n Stop) k Stop));
      trains = λ u. get_or (set v.track.trains t new) u None;
    }

    covers_after : Covering s (is_free after_passing.own)
    covers_after z u c e = same_free (Subroute u) ∙ kept.covering z u c (sym (same_free (Zone z)) ∙ e)
      where
        same_free : (l : Lock) → is_free after_passing.own l ≡ is_free v.own l
        same_free (Zone z) = ap not (locks_same (Zone z))
        same_free (Subroute u) = ap not (locks_same (Subroute u))

    pub passes : Next s v after_passing (entered t x ∷ passed t n ∷ h)
    unfolding passing
    passes =
        let g = passing_keeps (plan s) (known_facts s keeps facts) (view v) (told s h) kept.ghost kept.inv t n x passing in (
          record {
            sized = record { routes = ended.slots ∙ kept.sized.routes; subroutes = ap length ended.subroutes ∙ kept.sized.subroutes; zones = ap length ended.zones ∙ kept.sized.zones };
            sixteen = simp length-set kept.sixteen;
            fitting = simp length-set kept.fitting;
            slots = kept.slots;
            covering = covers_after;
            ghost = g.0;
            inv = subst (λ y. Invariant (plan s) y (told s (entered t x ∷ passed t n ∷ h)) g.0) view_is g.1;
          },
          λ u p hp z. refl,
        )
