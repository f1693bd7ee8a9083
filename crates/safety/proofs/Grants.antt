-- What a granted request, activation, release and settling come to.
use Rattle.std.proofs.Common.{◌≡◌, ℕ, suc, ◌<◌, Bool, true, false, ◌≢◌, ◌⊎◌}
use Rattle.track.specs.declared.states.PointState.{PointState}
use Rattle.safety.proofs.Plan.{Plan, Home}
use Rattle.safety.proofs.Situation.{Situation, Held, Lying, Upd}

-- A request of r: in the segments of its path every used subroute was free, and so was every used subroute at home with a point that changes.
pub record Request (S : Plan) (st : Situation) (r : ℕ) : Type 0 where
  pub known : r < S.routes
  pub was : st.live r ≡ false
  pub free : (i q j : ℕ) → i < S.len r → q < S.routes → j < S.len q → S.seg (S.sub q j) ≡ S.seg (S.sub r i) → st.locked (S.sub q j) ≡ false
  pub live : ℕ → Bool
  pub locked : ℕ → Bool
  pub points : ℕ → PointState
  pub live_is : Upd st.live live r true
  pub locked_is : (u : ℕ) → ((i : ℕ) × (i < S.len r) × (S.sub r i ≡ u) × (locked u ≡ true)) ⊎ (((i : ℕ) → i < S.len r → S.sub r i ≢ u) × (locked u ≡ st.locked u))
  pub points_are : (p : ℕ) → (points p ≡ st.points p) ⊎ ((q j : ℕ) → q < S.routes → j < S.len q → Home S p (S.seg (S.sub q j)) → st.locked (S.sub q j) ≡ false)

abbrev pub requested : {S : Plan} {st : Situation} {r : ℕ} → Request S st r → Situation
requested {st = st} m =
    record { live = m.live; active = st.active; locked = m.locked; points = m.points; proceed = st.proceed; trains = st.trains }

-- An activation of r, which was set: the points of its path lie as its ways say, and its signal n comes to show proceed.
pub record Activation (S : Plan) (st : Situation) (r : ℕ) : Type 0 where
  pub n : ℕ
  pub known : r < S.routes
  pub was : st.live r ≡ true
  pub points : (i : ℕ) → i < S.len r → Lying S st (S.sub r i)
  pub starts : S.starts r n ≡ true
  pub active : ℕ → Bool
  pub proceed : ℕ → Bool
  pub active_is : Upd st.active active r true
  pub proceed_is : Upd st.proceed proceed n true

abbrev pub activated : {S : Plan} {st : Situation} {r : ℕ} → Activation S st r → Situation
activated {st = st} m =
    record { live = st.live; active = m.active; locked = st.locked; points = st.points; proceed = m.proceed; trains = st.trains }

-- A release of u: wherever a path has it, its segment is clear, the route that it starts is unset, and what stands just before it is free.
pub record Release (S : Plan) (st : Situation) (u : ℕ) : Type 0 where
  pub clear : (q i : ℕ) → q < S.routes → i < S.len q → S.sub q i ≡ u → (t : ℕ) → Held (st.trains t) (S.seg u) → ⊥
  pub starts : (q : ℕ) → q < S.routes → S.sub q 0 ≡ u → st.live q ≡ false
  pub follows : (q i : ℕ) → q < S.routes → suc i < S.len q → S.sub q (suc i) ≡ u → st.locked (S.sub q i) ≡ false
  pub locked : ℕ → Bool
  pub locked_is : Upd st.locked locked u false

-- A settling of p, which was in motion: no other point changes.
pub record Settling (st : Situation) (p : ℕ) : Type 0 where
  pub was : (st.points p).settled ≡ false
  pub points : ℕ → PointState
  pub points_are : (q : ℕ) → (q ≡ p) ⊎ (points q ≡ st.points q)
