-- A machine over its track, by number; what was told of its calls; and what one table's change is.
use Rattle.std.proofs.Common.{◌≡◌, ℕ, zero, suc, Bool, true, cond, eqb, ◌≢◌, ◌⊎◌, List, [], ◌∷◌, ◌++◌, Some, None, Contains, Option, inl, inr}
use Rattle.std.specs.Option.{option_and_then, option_map_or}
use Rattle.std.proofs.lemmas.Bool.Decides.{eqb_tells}
use Rattle.station.specs.declared.tables.Setting.{Setting}
use Rattle.track.specs.declared.states.PointState.{PointState}
use Rattle.track.specs.Trains.{Train}
use Rattle.safety.proofs.Plan.{Plan}

-- `live` routes are set or active
pub record Situation : Type 0 where
  pub live : ℕ → Bool
  pub active : ℕ → Bool
  pub locked : ℕ → Bool
  pub points : ℕ → PointState
  pub proceed : ℕ → Bool
  pub trains : ℕ → Train

-- the parts of a train's record
abbrev pub front_of : Train → Option ℕ
front_of t = option_and_then (λ p. p.front) t

abbrev pub rear_of : Train → Option ℕ
rear_of t = option_and_then (λ p. p.rear) t

abbrev pub joint_of : Train → ℕ
joint_of t = option_map_or (λ p. p.joint) t 0

-- the train holds the segment
abbrev pub Held : Train → ℕ → Type 0
Held tr x = (front_of tr ≡ Some x) ⊎ (rear_of tr ≡ Some x)

-- the points of a subroute are settled as its way says
abbrev pub Lying : Plan → Situation → ℕ → Type 0
Lying S st v = (x : Setting) → Contains (S.settings v) x → ((st.points x.point).settled ≡ true) × ((st.points x.point).target ≡ x.position)

-- what the calls so far tell: the segments that a train entered since it passed a signal or turned,
-- the route from a signal that became active last, and a train's route
pub record Told : Type 0 where
  pub since : ℕ → List ℕ
  pub latest : ℕ → Option ℕ
  pub route : ℕ → Option ℕ

abbrev pub told_activation : Plan → Told → ℕ → Told
told_activation S T r =
    record { since = T.since; latest = λ n. cond (S.starts r n) (Some r) (T.latest n); route = T.route }

abbrev pub told_signal : Told → ℕ → ℕ → Told
told_signal T t n =
    record { since = λ u. cond (eqb u t) [] (T.since u); latest = T.latest; route = λ u. cond (eqb u t) (T.latest n) (T.route u) }

abbrev pub told_entering : Told → ℕ → ℕ → Told
told_entering T t x =
    record { since = λ u. cond (eqb u t) (T.since u ++ (x ∷ [])) (T.since u); latest = T.latest; route = T.route }

-- a signal is passed into a segment
abbrev pub told_passing : Told → ℕ → ℕ → ℕ → Told
told_passing T t n x = told_entering (told_signal T t n) t x

abbrev pub told_turning : Told → ℕ → Told
told_turning T t =
    record { since = λ u. cond (eqb u t) [] (T.since u); latest = T.latest; route = λ u. cond (eqb u t) None (T.route u) }

-- the first n segments of a route's path
abbrev pub firsts : Plan → ℕ → ℕ → List ℕ
firsts S r zero = []
firsts S r (suc n) = firsts S r n ++ (S.seg (S.sub r n) ∷ [])

-- one place of a table changes
abbrev pub Upd : {A : Type 0} → (ℕ → A) → (ℕ → A) → ℕ → A → Type 0
Upd f g i v = (j : ℕ) → ((j ≡ i) × (g j ≡ v)) ⊎ ((j ≢ i) × (g j ≡ f j))

abbrev pub put : {A : Type 0} → (ℕ → A) → ℕ → A → ℕ → A
put f i v j = cond (eqb j i) v (f j)

pub put_is : {A : Type 0} (f : ℕ → A) (i : ℕ) (v : A) → Upd f (put f i v) i v
put_is f i v j = elim (eqb_tells j i) [ inl a ↦ inl (a.1, rw a.0) | inr a ↦ inr (a.1, rw a.0) ]

-- what changes by a call, where the rest stays
abbrev pub with_trains : Situation → (ℕ → Train) → Situation
with_trains st trains =
    record { live = st.live; active = st.active; locked = st.locked; points = st.points; proceed = st.proceed; trains = trains }

abbrev pub with_points : Situation → (ℕ → PointState) → Situation
with_points st points =
    record { live = st.live; active = st.active; locked = st.locked; points = points; proceed = st.proceed; trains = st.trains }

abbrev pub with_locks : Situation → (ℕ → Bool) → Situation
with_locks st locked =
    record { live = st.live; active = st.active; locked = locked; points = st.points; proceed = st.proceed; trains = st.trains }
