-- What one action of a request row does to a state.
use Rattle.std.proofs.Common.{◌≡◌, ℕ, ◌<◌, ◌≤◌, Bool, true, false, cond, not, ◌≢◌, ◌⊎◌, length, get_or, set, Some, None, Option, sym, refl, ap, ◌∙◌, subst, inl, inr, arith, length-set, get_or-set_other, get_or-set_same}
use native.Mathlib.Decide.{ℕ_discrete}
use Rattle.std.proofs.lemmas.List.{get_or_past}
use Rattle.std.proofs.lemmas.Bool.{cases_lt}
use Rattle.station.specs.Alike.{same_position}
use Rattle.station.specs.Station.{Station}
use Rattle.station.specs.declared.tests.Action.{Action}
use Rattle.station.specs.declared.tests.Action.TheVariants.{Set, Drive, Take}
use Rattle.station.specs.declared.tests.Lock.{Lock}
use Rattle.station.specs.declared.tests.Lock.TheVariants.{Zone, Subroute}
use Rattle.station.specs.declared.tests.Position.{Position}
use Rattle.station.proofs.Alike.{decides_position}
use Rattle.track.specs.Calls.{driven, point_refusal}
use Rattle.track.specs.Meaning.{Meaning, a_point, no_state, state_at, with_point}
use Rattle.track.specs.Refusals as refusals
use Rattle.track.specs.declared.refusals.Refusal.{Refusal}
use Rattle.states.specs.Routes.{is_active, is_unset, next_state}
use Rattle.states.specs.Slots.{route_state, is_locked, with_next, with_route, with_lock}
use Rattle.states.specs.declared.routes.Event.TheVariants.{Request}
use Rattle.states.specs.declared.routes.RouteState.{RouteState}
use Rattle.states.specs.declared.routes.RouteState.TheVariants as routes
use Rattle.conditions.specs.States.{State, a_state}
use Rattle.calls.specs.Grants.{Driven, Acted}
use Rattle.safety.proofs.Kept.{Sized}

-- the lock has a slot
abbrev pub Slot : Lock → Type 0
Slot (Zone z) = z < 32
Slot (Subroute u) = u < 192

-- the route is set or active
abbrev pub live : State → ℕ → Bool
live v r = not (is_unset (route_state v.own r))

-- one action leaves trains and signals, and changes at most the route, the point or the lock that it names
pub record Effect (a : Action) (v w : State) : Type 0 where
  pub trains : w.track.trains ≡ v.track.trains
  pub signals : w.track.signals ≡ v.track.signals
  pub count : length w.track.points ≡ length v.track.points
  pub sized : Sized w.own
  pub route : (q : ℕ) → (a ≡ Set q → ⊥) → route_state w.own q ≡ route_state v.own q
  pub active : (q : ℕ) → is_active (route_state w.own q) ≡ is_active (route_state v.own q)
  pub stays : (q : ℕ) → live v q ≡ true → live w q ≡ true
  pub sets : (q : ℕ) → a ≡ Set q → q < 48 → live w q ≡ true
  pub point : (p : ℕ) → (state_at w.track p ≡ state_at v.track p) ⊎ ((x : Position) × (a ≡ Drive p x) × ((state_at v.track p).target ≢ x))
  pub lock : (l : Lock) → ((a ≡ Take l) × (Slot l → is_locked w.own l ≡ true)) ⊎ ((a ≡ Take l → ⊥) × (is_locked w.own l ≡ is_locked v.own l))

module _ (v : State) (sz : Sized v.own) where
  -- a route that was set or active stays so
  same_effect : (q : ℕ) → live v q ≡ true → Effect (Set q) v v
  same_effect q l =
      record {
        trains = refl;
        signals = refl;
        count = refl;
        sized = sz;
        route = λ p ne. refl;
        active = λ p. refl;
        stays = λ p k. k;
        sets = λ p d h. let e : q ≡ p = cc in subst (λ y. live v y ≡ true) e l;
        point = λ p. inl refl;
        lock = λ k. inr (λ d. cc, refl);
      }

  -- one that was unset comes to be set
  new_effect : (q : ℕ) → route_state v.own q ≡ routes.Unset → Effect (Set q) v (a_state (with_route v.own q routes.Set) v.track)
  new_effect q e =
      record {
        trains = refl;
        signals = refl;
        count = refl;
        sized = record { routes = simp length-set sz.routes; subroutes = sz.subroutes; zones = sz.zones };
        route = λ p ne. get_or-set_other v.own.routes q p routes.Set routes.Unset (λ d. ne (ap Set (sym d)));
        active = λ p. elim (ℕ_discrete p q) [ yes d ↦ not_active p d | no d ↦ ap is_active (get_or-set_other v.own.routes q p routes.Set routes.Unset d) ];
        stays = λ p l. elim (ℕ_discrete p q) [ yes d ↦ absurd (was p d l) | no d ↦ rw (get_or-set_other v.own.routes q p routes.Set routes.Unset d) l ];
        sets = λ p d h. let k : q ≡ p = cc in written p k h;
        point = λ p. inl refl;
        lock = λ l. inr (λ d. cc, refl);
      }
    where
      was : (p : ℕ) → p ≡ q → live v p ≡ true → ⊥
      was p d l =
          let w : route_state v.own p ≡ routes.Unset = ap (route_state v.own) d ∙ e in
          let k : not (is_unset routes.Unset) ≡ true = rw w at l in
          cc

      not_active : (p : ℕ) → p ≡ q → is_active (get_or (set v.own.routes q routes.Set) p routes.Unset) ≡ is_active (route_state v.own p)
      not_active p d =
          let w : route_state v.own p ≡ routes.Unset = ap (route_state v.own) d ∙ e in
          elim (cases_lt q (length v.own.routes)) [
            | inl h ↦ ap is_active (ap (λ y. get_or (set v.own.routes q routes.Set) y routes.Unset) d ∙ get_or-set_same v.own.routes q routes.Set routes.Unset h) ∙ sym (ap is_active w)
            | inr h ↦
                let k : length (set v.own.routes q routes.Set) ≤ p = simp length-set (omega arith) in
                ap is_active (get_or_past (set v.own.routes q routes.Set) p routes.Unset k) ∙ sym (ap is_active w)
          ]

      written : (p : ℕ) → q ≡ p → p < 48 → not (is_unset (get_or (set v.own.routes q routes.Set) p routes.Unset)) ≡ true
      written p d h =
          let c = sz.routes in
          let n : q < length v.own.routes = omega arith in
          let w : get_or (set v.own.routes q routes.Set) p routes.Unset ≡ routes.Set = ap (λ y. get_or (set v.own.routes q routes.Set) y routes.Unset) (sym d) ∙ get_or-set_same v.own.routes q routes.Set routes.Unset n in
          rw w

  set_effect : (q : ℕ) (x : RouteState) → route_state v.own q ≡ x → Effect (Set q) v (a_state (with_next v.own q (next_state x Request)) v.track)
  set_effect q routes.Unset e = new_effect q e
  set_effect q routes.Set e = same_effect q (rw e)
  set_effect q routes.Active e = same_effect q (rw e)

  take_effect : (l : Lock) → Effect (Take l) v (a_state (with_lock v.own l true) v.track)
  take_effect (Zone z) =
      record {
        trains = refl;
        signals = refl;
        count = refl;
        sized = record { routes = sz.routes; subroutes = sz.subroutes; zones = simp length-set sz.zones };
        route = λ p ne. refl;
        active = λ p. refl;
        stays = λ p l. l;
        sets = λ p d h. cc;
        point = λ p. inl refl;
        lock = locks;
      }
    where
      locks : (l : Lock) → ((Take (Zone z) ≡ Take l) × (Slot l → is_locked (with_lock v.own (Zone z) true) l ≡ true)) ⊎ ((Take (Zone z) ≡ Take l → ⊥) × (is_locked (with_lock v.own (Zone z) true) l ≡ is_locked v.own l))
      locks (Subroute u) = inr (λ d. cc, refl)
      locks (Zone y) = elim (ℕ_discrete y z) [ yes d ↦ inl (ap (λ k. Take (Zone k)) (sym d), λ h. written y d h) | no d ↦ inr (λ e. d cc, get_or-set_other v.own.zones z y true false d) ]
        where
          written : (y : ℕ) → y ≡ z → y < 32 → get_or (set v.own.zones z true) y false ≡ true
          written y d h =
              let c = sz.zones in
              let n : z < length v.own.zones = omega arith in
              ap (λ k. get_or (set v.own.zones z true) k false) d ∙ get_or-set_same v.own.zones z true false n
  take_effect (Subroute u) =
      record {
        trains = refl;
        signals = refl;
        count = refl;
        sized = record { routes = sz.routes; subroutes = simp length-set sz.subroutes; zones = sz.zones };
        route = λ p ne. refl;
        active = λ p. refl;
        stays = λ p l. l;
        sets = λ p d h. cc;
        point = λ p. inl refl;
        lock = locks;
      }
    where
      locks : (l : Lock) → ((Take (Subroute u) ≡ Take l) × (Slot l → is_locked (with_lock v.own (Subroute u) true) l ≡ true)) ⊎ ((Take (Subroute u) ≡ Take l → ⊥) × (is_locked (with_lock v.own (Subroute u) true) l ≡ is_locked v.own l))
      locks (Zone y) = inr (λ d. cc, refl)
      locks (Subroute y) = elim (ℕ_discrete y u) [ yes d ↦ inl (ap (λ k. Take (Subroute k)) (sym d), λ h. written y d h) | no d ↦ inr (λ e. d cc, get_or-set_other v.own.subroutes u y true false d) ]
        where
          written : (y : ℕ) → y ≡ u → y < 192 → get_or (set v.own.subroutes u true) y false ≡ true
          written y d h =
              let c = sz.subroutes in
              let n : u < length v.own.subroutes = omega arith in
              ap (λ k. get_or (set v.own.subroutes u true) k false) d ∙ get_or-set_same v.own.subroutes u true false n

-- a drive changes nothing, or brings the point another target
driven_cases : (s : Station) (m : Meaning) (p : ℕ) (x : Position) (n : Meaning) → Driven s m p x n → (n ≡ m) ⊎ ((b : Bool) × ((state_at m p).target ≢ x) × (n ≡ with_point m p (a_point x b)))
driven_cases s m p x n e = go (point_refusal s m p) e
  where
    by_side : (c : Bool) → same_position (state_at m p).target x ≡ c → n ≡ cond c m (with_point m p (a_point x (state_at n p).settled)) → (n ≡ m) ⊎ ((b : Bool) × ((state_at m p).target ≢ x) × (n ≡ with_point m p (a_point x b)))
    by_side true d k = inl k
    by_side false d k =
        inr ((state_at n p).settled, (λ w. let z : true ≡ false = sym ((decides_position (state_at m p).target x).1 w) ∙ d in cc), k)

    go : (d : Option Refusal) → n ≡ refusals.after d m (driven m p x (state_at n p).settled) → (n ≡ m) ⊎ ((b : Bool) × ((state_at m p).target ≢ x) × (n ≡ with_point m p (a_point x b)))
    go None k = by_side (same_position (state_at m p).target x) refl k
    go (Some r) k = inl k

module _ (v w : State) (sz : Sized v.own) (p : ℕ) (x : Position) (own : w.own ≡ v.own) where
  still_effect : w.track ≡ v.track → Effect (Drive p x) v w
  still_effect e =
      record {
        trains = ap (λ y. y.trains) e;
        signals = ap (λ y. y.signals) e;
        count = ap (λ y. length y.points) e;
        sized = subst Sized (sym own) sz;
        route = λ q ne. ap (λ y. route_state y q) own;
        active = λ q. ap (λ y. is_active (route_state y q)) own;
        stays = λ q l. ap (λ y. not (is_unset (route_state y q))) own ∙ l;
        sets = λ q d h. cc;
        point = λ q. inl (ap (λ y. state_at y q) e);
        lock = λ l. inr (λ d. cc, ap (λ y. is_locked y l) own);
      }

  moved_effect : (b : Bool) → (state_at v.track p).target ≢ x → w.track ≡ with_point v.track p (a_point x b) → Effect (Drive p x) v w
  moved_effect b ne e =
      record {
        trains = ap (λ y. y.trains) e;
        signals = ap (λ y. y.signals) e;
        count = ap (λ y. length y.points) e ∙ simp length-set;
        sized = subst Sized (sym own) sz;
        route = λ q d. ap (λ y. route_state y q) own;
        active = λ q. ap (λ y. is_active (route_state y q)) own;
        stays = λ q l. ap (λ y. not (is_unset (route_state y q))) own ∙ l;
        sets = λ q d h. cc;
        point = λ q. elim (ℕ_discrete q p) [ yes d ↦ inr (x, ap (λ y. Drive y x) (sym d), subst (λ y. (state_at v.track y).target ≢ x) (sym d) ne) | no d ↦ inl (ap (λ y. state_at y q) e ∙ get_or-set_other v.track.points p q (a_point x b) no_state d) ];
        lock = λ l. inr (λ d. cc, ap (λ y. is_locked y l) own);
      }

-- Each action has such an effect.
pub effect : (s : Station) (a : Action) (v w : State) → Sized v.own → Acted s a v w → Effect a v w
effect s (Set q) v w sz e = subst (λ y. Effect (Set q) v y) (sym e) (set_effect v sz q (route_state v.own q) refl)
effect s (Take l) v w sz e = subst (λ y. Effect (Take l) v y) (sym e) (take_effect v sz l)
effect s (Drive p x) v w sz e =
    elim (driven_cases s v.track p x w.track e.1) [ inl k ↦ still_effect v w sz p x e.0 k | inr k ↦ moved_effect v w sz p x e.0 k.0 k.1 k.2 ]
