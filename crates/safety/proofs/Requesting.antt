-- A request on a state is a request by number.
use Rattle.std.proofs.Common.{◌≡◌, ℕ, ◌<◌, ◌≤◌, Bool, true, false, not, ◌&&◌, leb, ◌≢◌, ◌⊎◌, [], length, get_or, Some, None, Contains, Option, Result, sym, refl, ap, ◌∙◌, subst, inl, inr, arith}
use native.Mathlib.Decide.{ℕ_discrete}
use borrow.Author.Tests.{not-true}
use Rattle.std.proofs.lemmas.List.Elements.{Contains-get_or}
use Rattle.std.proofs.lemmas.List.{get_or_past}
use Rattle.std.proofs.lemmas.Bool.{and_parts, cases_Bool, cases_lt, leb-true, ltb-true, not_from_false, not_from_true, or_cases, both_ways}
use Rattle.firsts.specs.Lists.{all}
use Rattle.firsts.proofs.Elements.{decides_every, decides_has}
use Rattle.firsts.proofs.Elements.{found_at}
use Rattle.station.specs.Station.{Station}
use Rattle.station.specs.Numbers.{point_at, route_at, zone_at, no_zone}
use Rattle.station.specs.Subroutes.{subroutes, segment_of}
use Rattle.station.specs.Paths.{path, path_length, on_path, Used, Uses}
use Rattle.station.specs.Covers.{Covers, PointGuards}
use Rattle.station.specs.declared.tests.Action.TheVariants.{Drive, Take}
use Rattle.station.specs.declared.tests.Lock.TheVariants.{Zone, Subroute}
use Rattle.station.specs.declared.tests.PointTest.{PointTest}
use Rattle.station.specs.declared.tests.Position.{Position}
use Rattle.station.specs.declared.tests.Position.TheVariants.{Normal, Reverse}
use Rattle.station.specs.declared.tests.RequestTest.{RequestTest}
use Rattle.station.specs.declared.tests.RequestTest.TheVariants as request
use Rattle.station.proofs.Alike.{decides_action}
use Rattle.station.proofs.Paths.{decides_uses}
use Rattle.acceptance.specs.Soundness.{Sound}
use Rattle.acceptance.specs.Consequences.{Consequences, Covering}
use Rattle.track.specs.Meaning.{state_at, train_at, fits}
use Rattle.track.specs.Trains.{holds}
use Rattle.track.specs.Ways.{is_stop}
use Rattle.track.specs.declared.states.Aspect.TheVariants.{Stop}
use Rattle.states.specs.Routes.{is_unset}
use Rattle.states.specs.Slots.{is_locked}
use Rattle.states.specs.declared.denials.Denial.{Denial}
use Rattle.conditions.specs.States.{State}
use Rattle.conditions.specs.Tests.{is_free, point_holds, request_holds, row_for}
use Rattle.passing.specs.Locks.{has_slots}
use Rattle.calls.specs.Grants.{AllActed, Leaves, Requests, request_denial}
use Rattle.safety.specs.Histories.{History}
use Rattle.safety.specs.Safety.{Undisturbed}
use Rattle.safety.proofs.Plan.{Home}
use Rattle.safety.proofs.Invariant.{Invariant}
use Rattle.safety.proofs.Grants.{Request, requested}
use Rattle.safety.proofs.Requests.{request_keeps, request_points}
use Rattle.safety.proofs.Stations.{plan, known_facts}
use Rattle.safety.proofs.Kept.{Kept, Next, view, told, unchanged}
use Rattle.station.proofs.Alike.{decides_position}
use Rattle.safety.proofs.Rows.{row_holds, told_is, held_is}
use Rattle.safety.proofs.Denied.{passed_test, no_test_fails}
use Rattle.safety.proofs.Actions.{live}
use Rattle.safety.proofs.Acting.{Stayed, acts_stay, acts_route, acts_set, acts_lock, acts_point}

-- a subroute of a path is used
pub used_on : (s : Station) (q j : ℕ) → q < length s.routes → j < path_length s q → Used s (on_path s q j)
used_on s q j hq hj = (q, hq, Contains-get_or (path s q) j 0 hj)

-- a route uses what its request takes
takes_used : (s : Station) (r u : ℕ) → Contains (route_at s r).actions (Take (Subroute u)) → Uses s r u
takes_used s r u h = (decides_uses s r u).0 ((decides_has decides_action (route_at s r).actions (Take (Subroute u))).1 h)

used_taken : (s : Station) (r u : ℕ) → Uses s r u → Contains (route_at s r).actions (Take (Subroute u))
used_taken s r u h = (decides_has decides_action (route_at s r).actions (Take (Subroute u))).0 ((decides_uses s r u).1 h)

-- a zone that covers is declared
covers_known : (s : Station) (z u : ℕ) → Covers s z u → z < length s.zones
covers_known s z u c = elim (cases_lt z (length s.zones)) [ inl h ↦ h | inr h ↦ absurd (no_row h) ]
  where
    no_row : length s.zones ≤ z → ⊥
    no_row h =
        let e : length (zone_at s z).tests ≡ 0 = ap (λ y. length y.tests) (get_or_past s.zones z no_zone h) in
        let k : c.tested.0 < length (zone_at s z).tests = c.tested.1 in
        omega arith

module _ (s : Station) (slots : has_slots s ≡ true) where
  abbrev routes_fit : Bool
  routes_fit = leb (length s.routes) 48

  abbrev ways_fit : Bool
  ways_fit = leb (length s.ways) 96

  abbrev zones_fit : Bool
  zones_fit = leb (length s.zones) 32

  pub few_routes : length s.routes ≤ 48
  few_routes = leb-true (length s.routes) 48 (and_parts routes_fit (ways_fit && zones_fit) slots).0

  pub few_subroutes : subroutes s ≤ 192
  few_subroutes =
      let k : length s.ways ≤ 96 = leb-true (length s.ways) 96 (and_parts ways_fit zones_fit (and_parts routes_fit (ways_fit && zones_fit) slots).1).0 in
      omega arith

  pub few_zones : length s.zones ≤ 32
  few_zones = leb-true (length s.zones) 32 (and_parts ways_fit zones_fit (and_parts routes_fit (ways_fit && zones_fit) slots).1).1

module _ (s : Station) (keeps : Sound s) (facts : Consequences s) (v : State) (h : History) (kept : Kept s v h) where
  -- where all tests of a point's row hold, every used subroute at home with it is free
  row_frees : (p : ℕ) (x : Position) → p < length s.points → all (λ t. point_holds t s v) (row_for s p x) ≡ true → (q j : ℕ) → q < length s.routes → j < path_length s q → (point_at s p).home ≡ segment_of s (on_path s q j) → is_locked v.own (Subroute (on_path s q j)) ≡ false
  row_frees p x hp e q j hq hj home = not-true _ (facts.point_frees (is_free v.own) kept.covering (row_for s p x) tests (on_path s q j) (guard x))
    where
      tests : (t : PointTest) → Contains (row_for s p x) t → is_free v.own t.free ≡ true
      tests = (decides_every (λ t. is_free v.own t.free ≡ true) (λ t. (λ w. w, λ w. w)) (row_for s p x)).0 e

      guard : (y : Position) → PointGuards s (row_for s p y) (on_path s q j)
      guard Normal = (facts.points p (on_path s q j) hp (used_on s q j hq hj) (sym home)).normal
      guard Reverse = (facts.points p (on_path s q j) hp (used_on s q j hq hj) (sym home)).reverse

  module _ (r : ℕ) (hr : r < length s.routes) (tests : (t : RequestTest) → Contains (route_at s r).tests t → request_holds t s v ≡ true) (w : State) (acted : AllActed s (route_at s r).actions v w) where
    -- every used subroute in a segment of the path was free
    path_free : (i q j : ℕ) → i < path_length s r → q < length s.routes → j < path_length s q → segment_of s (on_path s q j) ≡ segment_of s (on_path s r i) → is_locked v.own (Subroute (on_path s q j)) ≡ false
    path_free i q j hi hq hj e =
        not-true _ (facts.request_frees (is_free v.own) kept.covering (route_at s r).tests (λ l k. tests (request.Free l) k) (on_path s q j) ((facts.rows r hr).guarded (on_path s q j) (used_on s q j hq hj) (i, hi, sym e)))

    -- the used subroutes at home with a point were free
    FreeHome : ℕ → Type 0
    FreeHome p = (q j : ℕ) → q < length s.routes → j < path_length s q → Home (plan s) p (segment_of s (on_path s q j)) → is_locked v.own (Subroute (on_path s q j)) ≡ false

    -- a point is driven to its target, or they were free
    leave : (p : ℕ) (x : Position) → Contains (route_at s r).actions (Drive p x) → ((state_at v.track p).target ≡ x) ⊎ FreeHome p
    unfolding FreeHome
    leave p x k =
        elim (or_cases _ _ (tests (request.Movable p x) ((facts.rows r hr).request.tested p x k))) [
          | inl a ↦ inl (ap (λ y. y.target) (sym (told_is s v.track p kept.fitting)) ∙ (decides_position _ x).0 a)
          | inr a ↦ inr (λ q j hq hj home. row_frees p x home.0 a q j hq hj home.1)
        ]

    stayed : Stayed v w
    stayed = acts_stay s (route_at s r).actions v w kept.sized acted

    sets_only : (q : ℕ) → (live w q ≡ live v q) ⊎ (q ≡ r)
    sets_only q = elim (ℕ_discrete q r) [ yes d ↦ inr d | no d ↦ inl (ap (λ y. not (is_unset y)) (acts_route s (route_at s r).actions v w kept.sized acted q (λ k. d ((facts.rows r hr).request.only q k)))) ]

    live_at : live w r ≡ true
    live_at =
        let n = few_routes s kept.slots in
        acts_set s (route_at s r).actions v w kept.sized acted r (omega arith) (facts.rows r hr).request.sets

    locked_at : (u : ℕ) → ((i : ℕ) × (i < path_length s r) × (on_path s r i ≡ u) × (is_locked w.own (Subroute u) ≡ true)) ⊎ (((i : ℕ) → i < path_length s r → on_path s r i ≢ u) × (is_locked w.own (Subroute u) ≡ is_locked v.own (Subroute u)))
    locked_at u = elim (acts_lock s (route_at s r).actions v w kept.sized acted (Subroute u)) [ inl k ↦ inl (on_it (takes_used s r u k.0) k.1) | inr k ↦ inr (off_it k.0, k.1) ]
      where
        on_it : Uses s r u → (u < 192 → is_locked w.own (Subroute u) ≡ true) → (i : ℕ) × (i < path_length s r) × (on_path s r i ≡ u) × (is_locked w.own (Subroute u) ≡ true)
        on_it k locked =
            let i = k.0 in
            let e : on_path s r i ≡ u = found_at (path s r) u k 0 in
            let n = few_subroutes s kept.slots in
            let m : on_path s r i < subroutes s = (facts.paths r hr).runs i k.1 in
            (i, k.1, e, locked (omega arith))

        off_it : (Contains (route_at s r).actions (Take (Subroute u)) → ⊥) → (i : ℕ) → i < path_length s r → on_path s r i ≢ u
        off_it none i hi e = none (used_taken s r u (subst (λ y. Uses s r y) e (Contains-get_or (path s r) i 0 hi)))

    was : live v r ≡ false
    was = not_from_true _ (tests (request.Unset r) (facts.rows r hr).request.own)

    granted : Request (plan s) (view v) r
    unfolding FreeHome
    granted =
        record {
          known = hr;
          was = was;
          free = path_free;
          live = λ q. live w q;
          locked = λ u. is_locked w.own (Subroute u);
          points = λ p. state_at w.track p;
          live_is = λ q. elim (ℕ_discrete q r) [ yes d ↦ inl (d, ap (live w) d ∙ live_at) | no d ↦ inr (d, elim (sets_only q) [ inl k ↦ k | inr k ↦ absurd (d k) ]) ];
          locked_is = locked_at;
          points_are = acts_point s (λ p. state_at v.track p) FreeHome (route_at s r).actions leave v w kept.sized acted (λ p. inl refl);
        }

    -- the state after the actions, by number
    view_is : requested granted ≡ view w
    unfolding granted
    view_is = λ i. record {
      live = λ q. live w q;
      active = λ q. sym (stayed.active q) i;
      locked = λ u. is_locked w.own (Subroute u);
      points = λ p. state_at w.track p;
      proceed = λ n. ap (λ y. not (is_stop (get_or y n Stop))) (sym stayed.signals) i;
      trains = λ t. ap (λ y. get_or y t None) (sym stayed.trains) i;
    }

    -- zones that cover what is locked are locked: the route locks those of its path
    covers_after : Covering s (is_free w.own)
    covers_after z u c e =
        elim (locked_at u) [
          | inl k ↦ absurd (both_ways _ (not-true _ e) (zone_locked (facts_locked k.0 k.1 k.2)))
          | inr k ↦ not_from_false _ (elim (cases_Bool (is_locked v.own (Subroute u))) [ inl l ↦ absurd (both_ways _ (not-true _ e) (stayed.locks (Zone z) (zone_was l))) | inr l ↦ k.1 ∙ l ])
        ]
      where
        facts_locked : (i : ℕ) → i < path_length s r → on_path s r i ≡ u → Contains (route_at s r).actions (Take (Zone z))
        facts_locked i hi d = c.locked r hr (subst (λ y. Uses s r y) d (Contains-get_or (path s r) i 0 hi))

        zone_locked : Contains (route_at s r).actions (Take (Zone z)) → is_locked w.own (Zone z) ≡ true
        zone_locked k =
            let n = few_zones s kept.slots in
            let m = covers_known s z u c in
            elim (acts_lock s (route_at s r).actions v w kept.sized acted (Zone z)) [ inl j ↦ j.1 (omega arith) | inr j ↦ absurd (j.0 k) ]

        zone_was : is_locked v.own (Subroute u) ≡ true → is_locked v.own (Zone z) ≡ true
        zone_was l = elim (cases_Bool (is_locked v.own (Zone z))) [ inl j ↦ j | inr j ↦ absurd (both_ways _ (not-true _ (kept.covering z u c (not_from_false _ j))) l) ]

    fits_after : fits s w.track ≡ true
    fits_after = rw (stayed.count, stayed.signals) kept.fitting

    undisturbed : Undisturbed s v w
    unfolding granted
    undisturbed t p hp (inl k) =
        request_points (plan s) (known_facts s keeps facts) (view v) (told s h) kept.ghost kept.inv r granted t p hp (held_is (train_at v.track t) (point_at s p).home k)
    undisturbed t p hp (inr k) =
        let e : train_at w.track t ≡ train_at v.track t = ap (λ y. get_or y t None) stayed.trains in
        request_points (plan s) (known_facts s keeps facts) (view v) (told s h) kept.ghost kept.inv r granted t p hp (held_is (train_at v.track t) (point_at s p).home (subst (λ y. holds y (point_at s p).home ≡ true) e k))

    request_granted : Next s v w h
    request_granted =
        let n = request_keeps (plan s) (known_facts s keeps facts) (view v) (told s h) kept.ghost kept.inv r granted in (
          record {
            sized = stayed.sized;
            sixteen = ap length stayed.trains ∙ kept.sixteen;
            fitting = fits_after;
            slots = kept.slots;
            covering = covers_after;
            ghost = n.0;
            inv = subst (λ y. Invariant (plan s) y (told s h) n.0) view_is n.1;
          },
          undisturbed,
        )

  -- A request keeps what is kept, granted or refused.
  pub request_next : (r : ℕ) (x : Result Unit Denial) (w : State) → Requests s v r x w → Next s v w h
  request_next r x w m = go (request_denial s v r) refl m.leaves
    where
      go : (d : Option Denial) → request_denial s v r ≡ d → Leaves d v (AllActed s (route_at s r).actions v w) w → Next s v w h
      go (Some z) e l = unchanged s v w h [] kept l refl
      go None e l =
          let a = passed_test _ _ _ e in
          let b = passed_test _ _ _ a.1 in
          let c = no_test_fails _ b.1 in
          request_granted r (ltb-true r (length s.routes) b.0) (row_holds (λ t. request_holds t s v) (route_at s r).tests c) w l
