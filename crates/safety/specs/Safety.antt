-- What holds of trains after every list of calls at an accepted station.
use Rattle.std.specs.Prelude.{◌≡◌, ℕ, ◌<◌, ◌≤◌, Bool, true, false, ◌⊎◌, List, [], ◌∷◌, ◌++◌, map, length, take, None, MatchOption}
use Rattle.std.specs.Option.{option_map_or}
use Rattle.acceptance.specs.Soundness.{sound}
use Rattle.conditions.specs.States.{State}
use Rattle.calls.specs.Opening.{open_denial, opened}
use Rattle.calls.specs.Steps.{Steps}
use Rattle.calls.specs.declared.values.Answer.{Answer}
use Rattle.calls.specs.declared.values.Call.{Call}
use Rattle.station.specs.Numbers.{point_at}
use Rattle.station.specs.Paths.{path}
use Rattle.station.specs.Station.{Station}
use Rattle.station.specs.Subroutes.{segment_of}
use Rattle.track.specs.Meaning.{Meaning, state_at, train_at}
use Rattle.track.specs.Trains.{holds, Train}
use Rattle.safety.specs.Histories.{History, happened, route_of, since}

-- a call, what was answered to it, and the state that it left
pub record Logged : Type 0 where
  pub call : Call
  pub answer : Answer
  pub left : State

-- a list of calls, refused ones among them: each leads by the step rules from the state before it to the one that it left
abbrev pub Carried : Station → State → List Logged → Type 0
Carried s v [] = Unit {0}
Carried s v (e ∷ log) = Steps s v e.call e.answer e.left × Carried s e.left log

-- the train holds the segment
abbrev pub Holds : State → ℕ → ℕ → Type 0
Holds v t x = holds (train_at v.track t) x ≡ true

abbrev pub is_derailed : Train → Bool
is_derailed t = option_map_or (λ p. p.derailed) t false

-- the segments of a route's path, in order
abbrev pub segments : Station → ℕ → List ℕ
segments s r = map (segment_of s) (path s r)

-- a train that has a route has entered the first segments of its path; one that has none has entered none
abbrev pub Follows : Station → History → ℕ → Type 0
Follows s h t = MatchOption (route_of s t h) (since t h ≡ []) (λ r. (n : ℕ) × (n ≤ length (segments s r)) × (since t h ≡ take n (segments s r)))

pub record Safe (s : Station) (v : State) (h : History) : Type 0 where
  -- no two trains hold one segment
  pub apart : (t u x : ℕ) → Holds v t x → Holds v u x → t ≡ u
  -- every home point of a held segment is settled
  pub settled : (t p : ℕ) → p < length s.points → Holds v t (point_at s p).home → (state_at v.track p).settled ≡ true
  -- no train is derailed
  pub on_track : (t : ℕ) → is_derailed (train_at v.track t) ≡ false
  -- since it last passed a signal or turned, each train has entered the first segments of its route's path, in order
  pub follows : (t : ℕ) → Follows s h t

-- a point whose home segment a train holds before the call or after it has the same target after it, and is settled as before
abbrev pub Undisturbed : Station → State → State → Type 0
Undisturbed s v w =
    (t p : ℕ) → p < length s.points → Holds v t (point_at s p).home ⊎ Holds w t (point_at s p).home → state_at w.track p ≡ state_at v.track p

-- trains are safe in the state v and after each call of the log, and no call disturbs a point under a train
abbrev pub SafeThrough : Station → State → History → List Logged → Type 0
SafeThrough s v h [] = Safe s v h
SafeThrough s v h (e ∷ log) =
    Safe s v h × (Undisturbed s v e.left × SafeThrough s e.left (happened e.call e.answer e.left.track ++ h) log)

-- At every accepted station, on every trackside of 16 trains on which a machine is opened, trains are safe at the opening and after each call of every list of calls.
abbrev pub SafeRuns : Type 0
SafeRuns =
    (s : Station) → sound s ≡ true → (m : Meaning) → length m.trains ≡ 16 → open_denial s m ≡ None → (log : List Logged) → Carried s (opened m) log → SafeThrough s (opened m) [] log
