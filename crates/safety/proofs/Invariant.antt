-- What holds at the opening and after each call.
use Rattle.std.proofs.Common.{◌≡◌, ℕ, suc, ◌<◌, ◌≤◌, true, false, [], Some, None}
use Rattle.station.specs.declared.tables.Beyond.TheVariants.{Segment}
use Rattle.safety.proofs.Plan.{Plan}
use Rattle.safety.specs.Safety.{is_derailed}
use Rattle.safety.proofs.Situation.{Situation, Told, Held, Lying, front_of, rear_of, joint_of, firsts}

-- who claims a segment: a route that is set or active claims its whole path,
-- a train the segments that it holds and those ahead on its path
pub data Owner : Type 0 where
  nobody : Owner
  route : ℕ → Owner
  train : ℕ → Owner

-- a train's route and its place on the path: none before it first passes a signal and after it turns
pub data Progress : Type 0 where
  none : Progress
  on : ℕ → ℕ → Progress

-- what no table keeps, and the proof carries along
pub record Ghost : Type 0 where
  pub owner : ℕ → Owner
  pub progress : ℕ → Progress

-- a held segment: some used subroute of it is locked, its points lie as that one's way says, and the train claims it
abbrev pub Guarded : Plan → Situation → (ℕ → Owner) → ℕ → ℕ → Type 0
Guarded S st owner t x =
    record {
      q : ℕ;
      i : ℕ;
      q_known : q < S.routes;
      i_in : i < S.len q;
      here : S.seg (S.sub q i) ≡ x;
      locked : st.locked (S.sub q i) ≡ true;
      points : Lying S st (S.sub q i);
      owned : owner x ≡ train t;
    }

-- a train on its route r at place k: from there on the path is locked, its points lie, and the train claims it
abbrev pub OnRoute : Plan → Situation → (ℕ → Owner) → ℕ → ℕ → ℕ → Type 0
OnRoute S st owner t r k =
    record {
      r_known : r < S.routes;
      k_in : k < S.len r;
      in_it : front_of (st.trains t) ≡ Some (S.seg (S.sub r k));
      by_it : joint_of (st.trains t) ≡ S.from (S.sub r k);
      locked : (i : ℕ) → k ≤ i → i < S.len r → st.locked (S.sub r i) ≡ true;
      points : (i : ℕ) → k ≤ i → i < S.len r → Lying S st (S.sub r i);
      owned : (i : ℕ) → k ≤ i → i < S.len r → owner (S.seg (S.sub r i)) ≡ train t;
    }

-- a train that turned and has passed no signal since: it stands in one segment, and faces a signal along a way that fits
abbrev pub Facing : Plan → Situation → ℕ → ℕ → Type 0
Facing S st t f =
    record {
      one : rear_of (st.trains t) ≡ None;
      v : ℕ;
      x : ℕ;
      n : ℕ;
      v_known : v < S.subs;
      here : S.seg v ≡ f;
      by_it : joint_of (st.trains t) ≡ S.from v;
      points : Lying S st v;
      over : S.beyond (S.to v) f ≡ Segment x;
      signal : S.signal (S.to v) x ≡ Some n;
    }

-- a route that is set or active: its path is locked, and it claims it
abbrev pub Granted : Plan → Situation → (ℕ → Owner) → ℕ → Type 0
Granted S st owner r =
    record {
      r_known : r < S.routes;
      locked : (i : ℕ) → i < S.len r → st.locked (S.sub r i) ≡ true;
      owned : (i : ℕ) → i < S.len r → owner (S.seg (S.sub r i)) ≡ route r;
    }

-- an active route: the points of its path lie, and it became active last of those from its signal
abbrev pub Open : Plan → Situation → Told → ℕ → Type 0
Open S st T r =
    record {
      live : st.live r ≡ true;
      points : (i : ℕ) → i < S.len r → Lying S st (S.sub r i);
      latest : (n : ℕ) → S.starts r n ≡ true → T.latest n ≡ Some r;
    }

-- what is told of a train on a route
abbrev pub Following : Plan → Told → ℕ → ℕ → ℕ → Type 0
Following S T t r k =
    record {
      r_known : r < S.routes;
      k_in : k < S.len r;
      came : T.since t ≡ firsts S r (suc k);
      its : T.route t ≡ Some r;
    }

pub record Invariant (S : Plan) (st : Situation) (T : Told) (g : Ghost) : Type 0 where
  pub granted : (r : ℕ) → st.live r ≡ true → Granted S st g.owner r
  pub open_way : (r : ℕ) → st.active r ≡ true → Open S st T r
  pub signal : (n : ℕ) → st.proceed n ≡ true → (r : ℕ) × (st.active r ≡ true) × (S.starts r n ≡ true)
  pub held : (t x : ℕ) → Held (st.trains t) x → Guarded S st g.owner t x
  pub on_track : (t : ℕ) → is_derailed (st.trains t) ≡ false
  pub moving : (t f r k : ℕ) → front_of (st.trains t) ≡ Some f → g.progress t ≡ on r k → OnRoute S st g.owner t r k
  pub resting : (t f : ℕ) → front_of (st.trains t) ≡ Some f → g.progress t ≡ none → Facing S st t f
  pub following : (t r k : ℕ) → g.progress t ≡ on r k → Following S T t r k
  pub idle : (t : ℕ) → g.progress t ≡ none → (T.since t ≡ []) × (T.route t ≡ None)
