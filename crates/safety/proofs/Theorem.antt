-- After every list of calls all that is kept holds, and from it what is promised.
use Rattle.std.proofs.Common.{◌≡◌, ℕ, zero, suc, ◌<◌, ◌≤◌, true, false, not, ◌&&◌, ltb, List, [], ◌∷◌, ◌++◌, length, get_or, take, replicate, Some, None, Option, refl, ap, ◌∙◌, inl, inr, arith, take-suc, MatchOption}
use lib.ListN.{length-replicate}
use Rattle.std.specs.Option.{is_some}
use Rattle.std.proofs.lemmas.List.{get_or-map, get_or_past, get_or-replicate, length-map}
use Rattle.std.proofs.lemmas.Bool.{and_parts, cases_lt, lt-ltb}
use Rattle.std.proofs.lemmas.Bool.Decides.{not_from_Decides}
use Rattle.firsts.proofs.Below.{decides_any_below}
use Rattle.station.specs.Station.{Station}
use Rattle.station.specs.Numbers.{point_at}
use Rattle.station.specs.Paths.{path, path_length}
use Rattle.station.specs.Subroutes.{segment_of}
use Rattle.acceptance.specs.Soundness.{Sound}
use Rattle.acceptance.specs.Consequences.{Consequences}
use Rattle.acceptance.proofs.Consequences.{consequences}
use Rattle.acceptance.proofs.Verdicts.{sound_keeps}
use Rattle.track.specs.Calls.{place_answer}
use Rattle.track.specs.Meaning.{Meaning, fits, train_at}
use Rattle.track.specs.Ways.{is_stop}
use Rattle.track.specs.declared.states.Aspect.TheVariants.{Stop}
use Rattle.track.specs.Trains.{Train}
use Rattle.states.specs.Routes.{is_active, is_unset}
use Rattle.states.specs.declared.routes.RouteState.TheVariants as routes
use Rattle.conditions.specs.States.{State}
use Rattle.passing.specs.Locks.{has_slots}
use Rattle.calls.specs.Opening.{open_denial, opened, some_present, told_present}
use Rattle.calls.specs.Steps.{Steps}
use Rattle.calls.specs.declared.values.Answer.{Answer}
use Rattle.calls.specs.declared.values.Call.{Call}
use Rattle.calls.specs.declared.values.Call.TheVariants as calls
use Rattle.safety.specs.Histories.{History, happened, route_of, since}
use Rattle.safety.specs.Safety.{Carried, Follows, Logged, Safe, SafeRuns, SafeThrough, segments}
use Rattle.safety.proofs.Situation.{firsts}
use Rattle.safety.proofs.Safe.{Opened, nothing, opening_keeps, alone, settled, along, still}
use Rattle.safety.proofs.Stations.{plan, known_facts}
use Rattle.safety.proofs.Kept.{Kept, Next, view, told}
use Rattle.safety.proofs.Rows.{held_is}
use Rattle.safety.proofs.Denied.{passed_test, failed_test}
use Rattle.safety.proofs.Requesting.{request_next}
use Rattle.safety.proofs.Granting.{activation_next}
use Rattle.safety.proofs.Releasing.{release_next, settling_next}
use Rattle.safety.proofs.Trains.{enter_next, front_next, rear_next, turn_next}

-- a list of one value, and that value past its end
all_same : {A : Type 0} (n i : ℕ) (x : A) → get_or (replicate n x) i x ≡ x
all_same n i x = elim (cases_lt i n) [ inl h ↦ get_or-replicate n i x x h | inr h ↦ get_or_past (replicate n x) i x (simp length-replicate h) ]

-- a newly opened machine
module _ (s : Station) (m : Meaning) (sixteen : length m.trains ≡ 16) (granted : open_denial s m ≡ None) where
  matching : (fits s m && has_slots s) ≡ true
  matching = (passed_test (fits s m && has_slots s) _ _ granted).0

  fitting : fits s m ≡ true
  fitting = (and_parts (fits s m) (has_slots s) matching).0

  none_present : some_present s m ≡ false
  none_present = (failed_test (some_present s m) _ _ (passed_test (fits s m && has_slots s) _ _ granted).1).0

  -- a present train would be told
  tells : (t : ℕ) → t < 16 → is_some (train_at m t) ≡ true → told_present (place_answer s m t) ≡ true
  tells t h e = let k : ltb t 16 ≡ true = lt-ltb t 16 h in rw (fitting, k) e

  absent : (t : ℕ) → train_at m t ≡ None
  absent t = elim (cases_lt t 16) [ inl h ↦ by_train (train_at m t) refl h | inr h ↦ get_or_past m.trains t None (omega arith) ]
    where
      by_train : (tr : Train) → train_at m t ≡ tr → t < 16 → tr ≡ None
      by_train None e h = refl
      by_train (Some p) e h =
          absurd (not_from_Decides _ (decides_any_below (λ i. told_present (place_answer s m i) ≡ true) (λ i. (λ w. w, λ w. w)) 16) none_present (t, h, tells t h (ap is_some e)))

  fresh_view : Opened (view (opened m))
  fresh_view =
      record {
        live = λ r. ap (λ y. not (is_unset y)) (all_same 48 r routes.Unset);
        active = λ r. ap is_active (all_same 48 r routes.Unset);
        proceed = λ n. ap (λ y. not (is_stop y)) (all_same (length m.signals) n Stop);
        trains = absent;
      }

  pub kept_opening : Kept s (opened m) []
  kept_opening =
      record {
        sized = record { routes = length-replicate 48 routes.Unset; subroutes = length-replicate 192 false; zones = length-replicate 32 false };
        sixteen = sixteen;
        fitting = simp length-replicate fitting;
        slots = (and_parts (fits s m) (has_slots s) matching).1;
        covering = λ z u c e. ap not (all_same 192 u false);
        ghost = nothing;
        inv = opening_keeps (plan s) (view (opened m)) fresh_view;
      }

module _ (s : Station) (keeps : Sound s) (facts : Consequences s) where
  -- each call keeps it, and disturbs no point under a train
  pub step_next : (v w : State) (h : History) → Kept s v h → (c : Call) (a : Answer) → Steps s v c a w → Next s v w (happened c a w.track ++ h)
  step_next v w h k (calls.Request r) a e = request_next s keeps facts v h k r e.0 w e.1.0
  step_next v w h k (calls.Activate r) a e = activation_next s keeps facts v h k r e.0 w e.1.0 a e.1.1
  step_next v w h k (calls.Release l) a e = release_next s keeps facts v h k l e.0 w e.1.0
  step_next v w h k (calls.Settle p) a e = settling_next s keeps facts v h k p e.0 w e.1.0
  step_next v w h k (calls.Enter t n) a e = enter_next s keeps facts v h k t n e.0 w e.1.0 a e.1.1
  step_next v w h k (calls.Front t) a e = front_next s keeps facts v h k t e.0 w e.1.0 a e.1.1
  step_next v w h k (calls.Rear t) a e = rear_next s keeps facts v h k t e.0 w e.1.0
  step_next v w h k (calls.Turn t) a e = turn_next s keeps facts v h k t e.0 w e.1.0 a e.1.1

  -- the first segments of a path, as a part of its list
  firsts_are : (r n : ℕ) → n ≤ path_length s r → firsts (plan s) r n ≡ take n (segments s r)
  firsts_are r zero h = refl
  firsts_are r (suc n) h =
      let l : n < path_length s r = omega arith in
      let m : n < length (segments s r) = simp length-map (omega arith) in
      let a = firsts_are r n (omega arith) in
      let b = get_or-map (segment_of s) (path s r) n 0 0 l in
      let c = take-suc (segments s r) n 0 m in
      rw (a, c, b)

  module _ (v : State) (h : History) (k : Kept s v h) where
    follows : (t : ℕ) → Follows s h t
    follows t = go (route_of s t h) refl
      where
        go : (o : Option ℕ) → route_of s t h ≡ o → MatchOption o (since t h ≡ []) (λ r. (n : ℕ) × (n ≤ length (segments s r)) × (since t h ≡ take n (segments s r)))
        go None e = still (plan s) (known_facts s keeps facts) (view v) (told s h) k.ghost k.inv t e
        go (Some r) e =
            let w = along (plan s) (known_facts s keeps facts) (view v) (told s h) k.ghost k.inv t r e in
            let n = w.1 in
            (w.0, simp length-map w.1, w.2 ∙ firsts_are r w.0 w.1)

    pub safe : Safe s v h
    safe =
        record {
          apart = λ t u x a b. alone (plan s) (known_facts s keeps facts) (view v) (told s h) k.ghost k.inv t u x (held_is (train_at v.track t) x a) (held_is (train_at v.track u) x b);
          settled = λ t p hp a. settled (plan s) (known_facts s keeps facts) (view v) (told s h) k.ghost k.inv t p hp (held_is (train_at v.track t) (point_at s p).home a);
          on_track = k.inv.on_track;
          follows = follows;
        }

  -- from a state where all that is kept holds
  pub log_safe : (v : State) (h : History) (log : List Logged) → Kept s v h → Carried s v log → SafeThrough s v h log
  log_safe v h [] k c = safe v h k
  log_safe v h (e ∷ log) k c =
      let n = step_next v e.left h k e.call e.answer c.0 in
      (safe v h k, (n.1, log_safe e.left (happened e.call e.answer e.left.track ++ h) log n.0 c.1))

-- The theorem.
pub safe_runs : SafeRuns
safe_runs s ok m sixteen granted log c =
    log_safe s (sound_keeps s ok) (consequences s ok) (opened m) [] log (kept_opening s m sixteen granted) c
