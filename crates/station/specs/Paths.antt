-- A route's path, the routes that use a subroute, and the zones that a route locks.
use Rattle.std.specs.Prelude.{ℕ, ◌<◌, Bool, List, length, Some, None, Contains, Option, slice_index, filter_map}
use Rattle.firsts.specs.Claims.{any_below}
use Rattle.firsts.specs.Lists.{any}
use Rattle.station.specs.declared.tests.Action.{Action}
use Rattle.station.specs.declared.tests.Action.TheVariants.{Set, Drive, Take}
use Rattle.station.specs.declared.tests.Lock.TheVariants.{Zone, Subroute}
use Rattle.station.specs.Station.{Station}
use Rattle.station.specs.Numbers.{route_at}
use Rattle.station.specs.Alike.{same_action}

-- the subroute that an action locks
abbrev pub taken : Action → Option ℕ
taken (Set r) = None
taken (Drive p x) = None
taken (Take (Zone z)) = None
taken (Take (Subroute u)) = Some u

-- the subroutes that the actions lock, in written order
abbrev pub path_of : List Action → List ℕ
path_of actions = filter_map taken actions

-- a route's path
abbrev pub path : Station → ℕ → List ℕ
path s r = path_of (route_at s r).actions

-- the k-th subroute of a route's path
abbrev pub on_path : Station → ℕ → ℕ → ℕ
on_path s r k = slice_index (path s r) k

abbrev pub path_length : Station → ℕ → ℕ
path_length s r = length (path s r)

-- the route's path has the subroute
abbrev pub uses : Station → ℕ → ℕ → Bool
uses s r u = any (same_action (Take (Subroute u))) (route_at s r).actions

abbrev pub Uses : Station → ℕ → ℕ → Type 0
Uses s r u = Contains (path s r) u

-- some route's path has the subroute
abbrev pub used : Station → ℕ → Bool
used s u = any_below (λ r. uses s r u) (length s.routes)

abbrev pub Used : Station → ℕ → Type 0
Used s u = (r : ℕ) × (r < length s.routes) × Uses s r u

-- the route's request locks the zone
abbrev pub locks : Station → ℕ → ℕ → Bool
locks s r z = any (same_action (Take (Zone z))) (route_at s r).actions

abbrev pub Locks : Station → ℕ → ℕ → Type 0
Locks s r z = Contains (route_at s r).actions (Take (Zone z))
