-- Which routes a passing ends.
use Rattle.std.proofs.Common.{◌≡◌, ℕ, zero, suc, ◌<◌, ◌≤◌, Bool, true, false, cond, ◌≢◌, ◌⊎◌, length, get_or, set, sym, refl, ap, ◌∙◌, subst, inl, inr, arith, length-set, get_or-set_other, get_or-set_same}
use Rattle.std.proofs.lemmas.Bool.{both_ways}
use native.Mathlib.Decide.{ℕ_discrete}
use Rattle.station.specs.Station.{Station}
use Rattle.states.specs.Routes.{is_active, next_state}
use Rattle.states.specs.Slots.{route_state, with_next, with_route}
use Rattle.states.specs.declared.routes.Event.TheVariants as event
use Rattle.states.specs.declared.routes.RouteState.{RouteState}
use Rattle.states.specs.declared.routes.RouteState.TheVariants as routes
use Rattle.states.specs.declared.slots.States.{States}
use Rattle.passing.specs.Signals.{from_signal, passed_routes}

-- one of the first k routes, active and from the signal, is unset; any other route keeps its state
abbrev pub RouteAfter : Station → ℕ → States → ℕ → States → ℕ → Type 0
RouteAfter s n own k new r =
    ((r < k) × (from_signal s n r ≡ true) × (is_active (route_state own r) ≡ true) × (route_state new r ≡ routes.Unset)) ⊎ ((r < k → from_signal s n r ≡ true → is_active (route_state own r) ≡ true → ⊥) × (route_state new r ≡ route_state own r))

-- and all else of the machine's own is as it was
pub record Ended (s : Station) (n : ℕ) (own : States) (k : ℕ) (new : States) : Type 0 where
  pub subroutes : new.subroutes ≡ own.subroutes
  pub zones : new.zones ≡ own.zones
  pub slots : length new.routes ≡ length own.routes
  pub routes : (r : ℕ) → RouteAfter s n own k new r

module _ (s : Station) (n : ℕ) (own : States) (k : ℕ) (old : States) (d : Ended s n own k old) where
  -- the route k is not from the signal, or not active
  skips : (from_signal s n k ≡ true → is_active (route_state own k) ≡ true → ⊥) → Ended s n own (suc k) old
  skips none = record { subroutes = d.subroutes; zones = d.zones; slots = d.slots; routes = λ r. go r (d.routes r) }
    where
      go : (r : ℕ) → RouteAfter s n own k old r → RouteAfter s n own (suc k) old r
      go r (inl a) = inl ((let h : r < k = a.0 in omega arith), a.1, a.2, a.3)
      go r (inr a) =
          inr (λ h f g. elim (ℕ_discrete r k) [ yes e ↦ none (subst (λ y. from_signal s n y ≡ true) e f) (subst (λ y. is_active (route_state own y) ≡ true) e g) | no e ↦ a.0 (omega arith) f g ], a.1)

  -- it is both
  ends : k < length own.routes → from_signal s n k ≡ true → is_active (route_state own k) ≡ true → Ended s n own (suc k) (with_route old k routes.Unset)
  ends hk f g =
      record {
        subroutes = d.subroutes;
        zones = d.zones;
        slots = simp length-set d.slots;
        routes = λ r. elim (ℕ_discrete r k) [ yes e ↦ inl (omega arith, subst (λ y. from_signal s n y ≡ true) (sym e) f, subst (λ y. is_active (route_state own y) ≡ true) (sym e) g, unset_at r e) | no e ↦ other r e (d.routes r) ];
      }
    where
      unset_at : (r : ℕ) → r ≡ k → get_or (set old.routes k routes.Unset) r routes.Unset ≡ routes.Unset
      unset_at r e =
          let l = d.slots in
          let h : k < length old.routes = omega arith in
          ap (λ y. get_or (set old.routes k routes.Unset) y routes.Unset) e ∙ get_or-set_same old.routes k routes.Unset routes.Unset h

      other : (r : ℕ) → (r ≡ k → ⊥) → RouteAfter s n own k old r → RouteAfter s n own (suc k) (with_route old k routes.Unset) r
      other r e (inl a) = inl ((let h : r < k = a.0 in omega arith), a.1, a.2, get_or-set_other old.routes k r routes.Unset routes.Unset e ∙ a.3)
      other r e (inr a) = inr (λ h f g. a.0 (let ne : r ≢ k = e in omega arith) f g, get_or-set_other old.routes k r routes.Unset routes.Unset e ∙ a.1)

  -- the route k has still the state that it had
  not_yet : route_state old k ≡ route_state own k
  not_yet = elim (d.routes k) [ inl a ↦ absurd (let h : k < k = a.0 in omega arith) | inr a ↦ a.1 ]

  -- one more route
  next_route : k < length own.routes → (b : Bool) → from_signal s n k ≡ b → (x : RouteState) → route_state old k ≡ x → Ended s n own (suc k) (cond b (with_next old k (next_state x event.Passing)) old)
  next_route hk false f x e = skips (λ g h. both_ways _ f g)
  next_route hk true f routes.Unset e = skips (λ g h. both_ways _ (ap is_active (sym not_yet ∙ e)) h)
  next_route hk true f routes.Set e = skips (λ g h. both_ways _ (ap is_active (sym not_yet ∙ e)) h)
  next_route hk true f routes.Active e = ends hk f (ap is_active (sym not_yet ∙ e))

-- A passing ends the active routes from the signal, and no others.
pub routes_ended : (s : Station) (n : ℕ) (own : States) (k : ℕ) → k ≤ length own.routes → Ended s n own k (passed_routes s n own k)
unfolding passed_routes
routes_ended s n own zero h =
    record { subroutes = refl; zones = refl; slots = refl; routes = λ r. inr (λ l f g. omega arith, refl) }
routes_ended s n own (suc k) h =
    next_route s n own k (passed_routes s n own k) (routes_ended s n own k (omega arith)) (omega arith) (from_signal s n k) refl (route_state (passed_routes s n own k) k) refl
