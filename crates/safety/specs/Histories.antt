-- What happened in a list of calls: which routes became active, which signals trains passed, which segments they entered, and who turned.
use Rattle.std.specs.Prelude.{ℕ, cond, List, [], ◌∷◌, ◌++◌, map, Some, None, Option, ◌==◌}
use Rattle.calls.specs.declared.values.Answer.{Answer}
use Rattle.calls.specs.declared.values.Answer.TheVariants.{Done, Settled, Passed, Refused}
use Rattle.calls.specs.declared.values.Call.{Call}
use Rattle.calls.specs.declared.values.Call.TheVariants.{Request, Activate, Release, Settle, Enter, Front, Rear, Turn}
use Rattle.passing.specs.Signals.{from_signal}
use Rattle.station.specs.Station.{Station}
use Rattle.track.specs.Meaning.{Meaning, train_at}
use Rattle.track.specs.Trains.{front_part, Train}

-- a route became active; a train passed a signal; a segment became a train's front; a train turned
pub data Event : Type 0 where
  activated : ℕ → Event
  passed : ℕ → ℕ → Event
  entered : ℕ → ℕ → Event
  turned : ℕ → Event

-- the latest event comes first
abbrev pub History : Type 0
History = List Event

-- the segment that the train's front came into, if any
abbrev pub arrival : ℕ → Train → History
arrival t None = []
arrival t (Some p) = map (entered t) (front_part p.front)

-- a train passed the signal, or none, and its front came into a segment, or went outside
abbrev pub moved_on : ℕ → Option ℕ → Train → History
moved_on t None train = arrival t train
moved_on t (Some n) train = arrival t train ++ passed t n ∷ []

-- what an answer tells of a call
abbrev pub where_done : Answer → History → History
where_done Done h = h
where_done (Settled b) h = []
where_done (Passed n) h = []
where_done (Refused e) h = []

abbrev pub where_passed : Answer → (Option ℕ → History) → History
where_passed Done f = []
where_passed (Settled b) f = []
where_passed (Passed n) f = f n
where_passed (Refused e) f = []

-- what happened in a call that was answered so and left the trackside so
abbrev pub happened : Call → Answer → Meaning → History
happened (Request r) a m = []
happened (Activate r) a m = where_done a (activated r ∷ [])
happened (Release l) a m = []
happened (Settle p) a m = []
happened (Enter t n) a m = where_done a (moved_on t (Some n) (train_at m t))
happened (Front t) a m = where_passed a (λ n. moved_on t n (train_at m t))
happened (Rear t) a m = []
happened (Turn t) a m = where_done a (turned t ∷ [])

-- the segments that a train entered since it last passed a signal or turned, in order; the one that it enters in passing counts
abbrev pub since : ℕ → History → List ℕ
since t [] = []
since t (activated r ∷ h) = since t h
since t (passed u n ∷ h) = let l = since t h in cond (t == u) [] l
since t (entered u x ∷ h) = let l = since t h in cond (t == u) (l ++ (x ∷ [])) l
since t (turned u ∷ h) = let l = since t h in cond (t == u) [] l

-- of the routes from a signal, the last to become active
abbrev pub latest : Station → ℕ → History → Option ℕ
latest s n [] = None
latest s n (activated r ∷ h) = let l = latest s n h in cond (from_signal s n r) (Some r) l
latest s n (passed u k ∷ h) = latest s n h
latest s n (entered u x ∷ h) = latest s n h
latest s n (turned u ∷ h) = latest s n h

-- a train's route: of those from the signal that it last passed, the last to become active before that passing;
-- none before its first passing, and from a turn to the next passing
abbrev pub route_of : Station → ℕ → History → Option ℕ
route_of s t [] = None
route_of s t (activated r ∷ h) = route_of s t h
route_of s t (passed u n ∷ h) = let l = route_of s t h in cond (t == u) (latest s n h) l
route_of s t (entered u x ∷ h) = route_of s t h
route_of s t (turned u ∷ h) = let l = route_of s t h in cond (t == u) None l
