-- What the calls that move a train come to.
use Rattle.std.proofs.Common.{◌≡◌, ℕ, ◌<◌, Bool, true, false, ◌≢◌, ◌⊎◌, Some, None}
use Rattle.station.specs.declared.tables.Beyond.TheVariants.{Segment}
use Rattle.track.specs.Trains.{come_in, gone_on, Train}
use Rattle.safety.proofs.Plan.{Plan}
use Rattle.safety.specs.Safety.{is_derailed}
use Rattle.safety.proofs.Situation.{Situation, Held, Lying, Upd, front_of, rear_of, joint_of}

-- the way that fits, as a subroute that starts at the joint
pub record Fitting (S : Plan) (st : Situation) (f j v : ℕ) : Type 0 where
  pub known : v < S.subs
  pub in_it : S.seg v ≡ f
  pub at_it : S.from v ≡ j
  pub points : Lying S st v

-- The routes and the signals once the signal n is passed: every active route from it is unset, and it shows stop.
pub record Passed (S : Plan) (st : Situation) (n : ℕ) : Type 0 where
  pub live : ℕ → Bool
  pub active : ℕ → Bool
  pub proceed : ℕ → Bool
  pub routes_are : (r : ℕ) → ((st.active r ≡ true) × (S.starts r n ≡ true) × (active r ≡ false) × (live r ≡ false)) ⊎ ((st.active r ≡ true → S.starts r n ≡ true → ⊥) × (active r ≡ st.active r) × (live r ≡ st.live r))
  pub proceed_is : Upd st.proceed proceed n false

abbrev pub with_passing : {S : Plan} {n : ℕ} (st : Situation) → Passed S st n → (ℕ → Train) → Situation
with_passing st p trains =
    record { live = p.live; active = p.active; locked = st.locked; points = st.points; proceed = p.proceed; trains = trains }

-- An entry or a front past a signal: the train comes into x over j, and what it holds behind it held before.
pub record Passing (S : Plan) (st : Situation) (t n x : ℕ) : Type 0 where
  pub j : ℕ
  pub there : S.signal j x ≡ Some n
  pub proceed : st.proceed n ≡ true
  pub passed : Passed S st n
  pub new : Train
  pub new_front : front_of new ≡ Some x
  pub new_joint : joint_of new ≡ j
  pub new_sound : is_derailed new ≡ false
  pub new_rear : (b : ℕ) → rear_of new ≡ Some b → Held (st.trains t) b
  pub trains : ℕ → Train
  pub trains_are : Upd st.trains trains t new

-- A front into the segment x, past no signal.
pub record Onward (S : Plan) (st : Situation) (t x : ℕ) : Type 0 where
  pub f : ℕ
  pub j : ℕ
  pub v : ℕ
  pub was : st.trains t ≡ come_in f j
  pub fits : Fitting S st f j v
  pub into : S.beyond (S.to v) f ≡ Segment x
  pub unsignalled : S.signal (S.to v) x ≡ None
  pub trains : ℕ → Train
  pub trains_are : Upd st.trains trains t (gone_on (Some x) (S.to v) f)

-- A front to the outside, or a rear: the train holds no more than before, and where its front is in a segment it gave up a rear.
pub record Shrinking (st : Situation) (t : ℕ) : Type 0 where
  pub new : Train
  pub sound : is_derailed new ≡ false
  pub less : (x : ℕ) → Held new x → Held (st.trains t) x
  pub front_was : (f : ℕ) → front_of new ≡ Some f → front_of (st.trains t) ≡ Some f
  pub joint_was : (f : ℕ) → front_of new ≡ Some f → joint_of new ≡ joint_of (st.trains t)
  pub rear_was : (f : ℕ) → front_of new ≡ Some f → rear_of (st.trains t) ≢ None
  pub trains : ℕ → Train
  pub trains_are : Upd st.trains trains t new

-- A turn: a signal stands onward over the joint by which the train came in.
pub record Turning (S : Plan) (st : Situation) (t : ℕ) : Type 0 where
  pub f : ℕ
  pub j : ℕ
  pub v : ℕ
  pub x : ℕ
  pub n : ℕ
  pub was : st.trains t ≡ come_in f j
  pub fits : Fitting S st f j v
  pub behind : S.beyond j f ≡ Segment x
  pub signal : S.signal j x ≡ Some n
  pub trains : ℕ → Train
  pub trains_are : Upd st.trains trains t (come_in f (S.to v))
