-- What a request row's actions do, one after another.
use Rattle.std.proofs.Common.{◌≡◌, ℕ, zero, suc, ◌<◌, true, false, ◌≢◌, ◌⊎◌, List, [], ◌∷◌, length, get_or, Contains, sym, refl, ap, ◌∙◌, subst, inl, inr, arith}
use Rattle.std.proofs.lemmas.List.{get_or_past}
use Rattle.std.proofs.lemmas.Bool.{cases_lt, both_ways}
use Rattle.station.specs.Station.{Station}
use Rattle.station.specs.declared.tests.Action.{Action}
use Rattle.station.specs.declared.tests.Action.TheVariants.{Set, Drive, Take}
use Rattle.station.specs.declared.tests.Lock.{Lock}
use Rattle.station.specs.declared.tests.Lock.TheVariants.{Zone, Subroute}
use Rattle.station.specs.declared.tests.Position.{Position}
use Rattle.track.specs.Meaning.{state_at}
use Rattle.track.specs.declared.states.PointState.{PointState}
use Rattle.states.specs.Routes.{is_active}
use Rattle.states.specs.Slots.{route_state, is_locked}
use Rattle.states.specs.declared.slots.States.{States}
use Rattle.conditions.specs.States.{State}
use Rattle.calls.specs.Grants.{AllActed}
use Rattle.safety.proofs.Kept.{Sized}
use Rattle.safety.proofs.Actions.{Slot, live, Effect, effect}

-- an element of a list is its first or one of the rest
has_first : {X : Type 0} (x : X) (xs : List X) → Contains (x ∷ xs) x
has_first x xs = (0, omega arith, refl)

has_more : {X : Type 0} (x y : X) (xs : List X) → Contains xs y → Contains (x ∷ xs) y
has_more x y xs h = (suc h.0, (let k : h.0 < length xs = h.1 in omega arith), h.2)

has_cases : {X : Type 0} (x y : X) (xs : List X) → Contains (x ∷ xs) y → (x ≡ y) ⊎ Contains xs y
has_cases x y xs h = go h.0 h.1 h.2
  where
    go : (k : ℕ) → k < suc (length xs) → get_or (x ∷ xs) k y ≡ y → (x ≡ y) ⊎ Contains xs y
    go zero l at = inl at
    go (suc k) l at = inr (k, omega arith, at)

-- a lock that is taken has a slot
locked_slot : (own : States) → Sized own → (l : Lock) → is_locked own l ≡ true → Slot l
locked_slot own sz (Zone z) e =
    let c = sz.zones in
    elim (cases_lt z (length own.zones)) [ inl h ↦ omega arith | inr h ↦ absurd (both_ways _ (get_or_past own.zones z false h) e) ]
locked_slot own sz (Subroute u) e =
    let c = sz.subroutes in
    elim (cases_lt u (length own.subroutes)) [ inl h ↦ omega arith | inr h ↦ absurd (both_ways _ (get_or_past own.subroutes u false h) e) ]

-- a lock that is taken stays so through an action
lock_stays : (a : Action) (v w : State) → Sized v.own → Effect a v w → (l : Lock) → is_locked v.own l ≡ true → is_locked w.own l ≡ true
lock_stays a v w sz f l e = elim (f.lock l) [ inl k ↦ k.1 (locked_slot v.own sz l e) | inr k ↦ k.1 ∙ e ]

-- what all actions leave as it was
pub record Stayed (v w : State) : Type 0 where
  pub trains : w.track.trains ≡ v.track.trains
  pub signals : w.track.signals ≡ v.track.signals
  pub count : length w.track.points ≡ length v.track.points
  pub sized : Sized w.own
  pub active : (q : ℕ) → is_active (route_state w.own q) ≡ is_active (route_state v.own q)
  pub stays : (q : ℕ) → live v q ≡ true → live w q ≡ true
  pub locks : (l : Lock) → is_locked v.own l ≡ true → is_locked w.own l ≡ true

-- a lock is taken by some action, or stays as it was
abbrev pub LockAfter : List Action → State → State → Lock → Type 0
LockAfter acts v w l = (Contains acts (Take l) × (Slot l → is_locked w.own l ≡ true)) ⊎ ((Contains acts (Take l) → ⊥) × (is_locked w.own l ≡ is_locked v.own l))

module _ (s : Station) where
  -- Trains, signals and active routes stay, and so does all that was set or locked.
  pub acts_stay : (acts : List Action) (v w : State) → Sized v.own → AllActed s acts v w → Stayed v w
  acts_stay [] v w sz e =
      subst (λ y. Stayed v y) e (record { trains = refl; signals = refl; count = refl; sized = sz; active = λ q. refl; stays = λ q l. l; locks = λ l k. k })
  acts_stay (a ∷ acts) v w sz e =
      let u = e.0 in
      let f = effect s a v u sz e.1 in
      let m = acts_stay acts u w f.sized e.2 in
      record {
        trains = m.trains ∙ f.trains;
        signals = m.signals ∙ f.signals;
        count = m.count ∙ f.count;
        sized = m.sized;
        active = λ q. m.active q ∙ f.active q;
        stays = λ q l. m.stays q (f.stays q l);
        locks = λ l k. m.locks l (lock_stays a v u sz f l k);
      }

  -- A route that no action sets keeps its state.
  pub acts_route : (acts : List Action) (v w : State) → Sized v.own → AllActed s acts v w → (q : ℕ) → (Contains acts (Set q) → ⊥) → route_state w.own q ≡ route_state v.own q
  acts_route [] v w sz e q ne = ap (λ y. route_state y.own q) (sym e)
  acts_route (a ∷ acts) v w sz e q ne =
      let u = e.0 in
      let f = effect s a v u sz e.1 in
      acts_route acts u w f.sized e.2 q (λ h. ne (has_more a (Set q) acts h)) ∙ f.route q (λ d. ne (subst (λ y. Contains (y ∷ acts) (Set q)) (sym d) (has_first (Set q) acts)))

  -- A route that some action sets is set.
  pub acts_set : (acts : List Action) (v w : State) → Sized v.own → AllActed s acts v w → (q : ℕ) → q < 48 → Contains acts (Set q) → live w q ≡ true
  acts_set [] v w sz e q hq h = absurd (let k : h.0 < 0 = h.1 in omega arith)
  acts_set (a ∷ acts) v w sz e q hq h =
      let u = e.0 in
      let f = effect s a v u sz e.1 in
      elim (has_cases a (Set q) acts h) [ inl d ↦ (acts_stay acts u w f.sized e.2).stays q (f.sets q d hq) | inr k ↦ acts_set acts u w f.sized e.2 q hq k ]

  pub acts_lock : (acts : List Action) (v w : State) → Sized v.own → AllActed s acts v w → (l : Lock) → LockAfter acts v w l
  acts_lock [] v w sz e l = inr (λ h. (let k : h.0 < 0 = h.1 in omega arith), ap (λ y. is_locked y.own l) (sym e))
  acts_lock (a ∷ acts) v w sz e l =
      let u = e.0 in
      let f = effect s a v u sz e.1 in
      go u f e.2 (f.lock l) (acts_lock acts u w f.sized e.2 l)
    where
      go : (u : State) → Effect a v u → AllActed s acts u w → ((a ≡ Take l) × (Slot l → is_locked u.own l ≡ true)) ⊎ ((a ≡ Take l → ⊥) × (is_locked u.own l ≡ is_locked v.own l)) → LockAfter acts u w l → LockAfter (a ∷ acts) v w l
      go u f more (inl k) rest = inl (subst (λ y. Contains (y ∷ acts) (Take l)) (sym k.0) (has_first (Take l) acts), λ h. (acts_stay acts u w f.sized more).locks l (k.1 h))
      go u f more (inr k) (inl j) = inl (has_more a (Take l) acts j.0, j.1)
      go u f more (inr k) (inr j) = inr (λ h. elim (has_cases a (Take l) acts h) [ inl d ↦ k.0 d | inr d ↦ j.0 d ], j.1 ∙ k.1)

  -- A point keeps its state, where every drive to another target needs a leave F that the point then has.
  pub acts_point : (old : ℕ → PointState) (F : ℕ → Type 0) (acts : List Action) → ((p : ℕ) (x : Position) → Contains acts (Drive p x) → ((old p).target ≡ x) ⊎ F p) → (v w : State) → Sized v.own → AllActed s acts v w → ((p : ℕ) → (state_at v.track p ≡ old p) ⊎ F p) → (p : ℕ) → (state_at w.track p ≡ old p) ⊎ F p
  acts_point old F [] leave v w sz e known p = elim (known p) [ inl k ↦ inl (ap (λ y. state_at y.track p) (sym e) ∙ k) | inr k ↦ inr k ]
  acts_point old F (a ∷ acts) leave v w sz e known p =
      let u = e.0 in
      let f = effect s a v u sz e.1 in
      acts_point old F acts (λ q x h. leave q x (has_more a (Drive q x) acts h)) u w f.sized e.2 (λ q. go u q (f.point q) (known q)) p
    where
      go : (u : State) (q : ℕ) → (state_at u.track q ≡ state_at v.track q) ⊎ ((x : Position) × (a ≡ Drive q x) × ((state_at v.track q).target ≢ x)) → (state_at v.track q ≡ old q) ⊎ F q → (state_at u.track q ≡ old q) ⊎ F q
      go u q (inl k) (inl j) = inl (k ∙ j)
      go u q k (inr j) = inr j
      go u q (inr k) (inl j) =
          elim (leave q k.0 (subst (λ y. Contains (y ∷ acts) (Drive q k.0)) (sym k.1) (has_first (Drive q k.0) acts))) [ inl t ↦ absurd (k.2 (ap (λ y. y.target) j ∙ t)) | inr t ↦ inr t ]
