-- What is kept of a machine through its calls: its slots, the numbers of its track, the covering of its locks, and the invariant.
use Rattle.std.proofs.Common.{◌≡◌, true, not, [], ◌++◌, length, sym, refl, subst}
use Rattle.station.specs.Station.{Station}
use Rattle.station.specs.declared.tests.Lock.TheVariants.{Subroute}
use Rattle.acceptance.specs.Consequences.{Covering}
use Rattle.track.specs.Meaning.{state_at, aspect_at, train_at, fits}
use Rattle.track.specs.Ways.{is_stop}
use Rattle.states.specs.Routes.{is_unset, is_active}
use Rattle.states.specs.Slots.{route_state, is_locked}
use Rattle.states.specs.declared.slots.States.{States}
use Rattle.conditions.specs.States.{State}
use Rattle.conditions.specs.Tests.{is_free}
use Rattle.passing.specs.Locks.{has_slots}
use Rattle.safety.specs.Histories.{History, since, latest, route_of}
use Rattle.safety.specs.Safety.{Undisturbed}
use Rattle.safety.proofs.Situation.{Situation, Told}
use Rattle.safety.proofs.Invariant.{Ghost, Invariant}
use Rattle.safety.proofs.Stations.{plan}

-- a state by number
abbrev pub view : State → Situation
view v =
    record {
      live = λ r. not (is_unset (route_state v.own r));
      active = λ r. is_active (route_state v.own r);
      locked = λ u. is_locked v.own (Subroute u);
      points = λ p. state_at v.track p;
      proceed = λ n. not (is_stop (aspect_at v.track n));
      trains = λ t. train_at v.track t;
    }

-- what a history tells
abbrev pub told : Station → History → Told
told s h = record { since = λ t. since t h; latest = λ n. latest s n h; route = λ t. route_of s t h }

-- the slots of a machine
pub record Sized (own : States) : Type 0 where
  pub routes : length own.routes ≡ 48
  pub subroutes : length own.subroutes ≡ 192
  pub zones : length own.zones ≡ 32

pub record Kept (s : Station) (v : State) (h : History) : Type 0 where
  pub sized : Sized v.own
  pub sixteen : length v.track.trains ≡ 16
  pub fitting : fits s v.track ≡ true
  pub slots : has_slots s ≡ true
  pub covering : Covering s (is_free v.own)
  pub ghost : Ghost
  pub inv : Invariant (plan s) (view v) (told s h) ghost

-- after a call: all that is kept, and no point under a train has changed
abbrev pub Next : Station → State → State → History → Type 0
Next s v w h = Kept s w h × Undisturbed s v w

-- a call that is refused changes nothing, and nothing happened
pub unchanged : (s : Station) (v w : State) (h k : History) → Kept s v h → w ≡ v → k ≡ [] → Next s v w (k ++ h)
unchanged s v w h k kept e n =
    subst (λ y. Next s v y (k ++ h)) (sym e) (rw n (kept, λ t p hp x. refl))
