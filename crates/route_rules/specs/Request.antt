-- Rule 23: a route's request tests its own `xs`, sets just itself, drives no point twice and each under the `cf` test of that side, and drives the points of its path as its ways say.
use Rattle.std.specs.Prelude.{◌≡◌, ℕ, ◌<◌, Bool, true, false, not, ◌&&◌, List, length, Contains, Option, ◌==◌, slice_index_or}
use Rattle.firsts.specs.Claims.{all_below, first_failing, FirstBreach}
use Rattle.firsts.specs.Lists.{all, any}
use Rattle.station.specs.declared.tests.Position.{Position}
use Rattle.station.specs.declared.tests.RequestTest.{RequestTest}
use Rattle.station.specs.declared.tests.RequestTest.TheVariants.{Unset, Movable}
use Rattle.station.specs.declared.tests.Action.{Action}
use Rattle.station.specs.declared.tests.Action.TheVariants.{Set, Drive, Take}
use Rattle.station.specs.declared.tables.Setting.{Setting}
use Rattle.station.specs.Station.{Station}
use Rattle.station.specs.Numbers.{route_at}
use Rattle.station.specs.Alike.{same_request, same_action}
use Rattle.station.specs.Subroutes.{settings_of}
use Rattle.station.specs.Paths.{path_length, on_path}

abbrev pub action_at : List Action → ℕ → Action
action_at acts i = slice_index_or acts i (Set 0)

-- the action drives the point, to either side
abbrev pub Drives : Action → ℕ → Type 0
Drives (Set r) p = ⊥
Drives (Drive q x) p = q ≡ p
Drives (Take l) p = ⊥

abbrev pub drives : Action → ℕ → Bool
drives (Set r) p = false
drives (Drive q x) p = q == p
drives (Take l) p = false

pub record SoundRequest (s : Station) (r : ℕ) : Type 0 where
  pub own : Contains (route_at s r).tests (Unset r)
  pub sets : Contains (route_at s r).actions (Set r)
  pub only : (x : ℕ) → Contains (route_at s r).actions (Set x) → x ≡ r
  pub tested : (p : ℕ) (x : Position) → Contains (route_at s r).actions (Drive p x) → Contains (route_at s r).tests (Movable p x)
  pub once : (k : ℕ) → k < length (route_at s r).actions → (i : ℕ) → i < k → (p : ℕ) → Drives (action_at (route_at s r).actions k) p → Drives (action_at (route_at s r).actions i) p → ⊥
  pub driven : (k : ℕ) → k < path_length s r → (x : Setting) → Contains (settings_of s (on_path s r k)) x → Contains (route_at s r).actions (Drive x.point x.position)

-- it sets the route r or drives a point under its test
abbrev pub fits : ℕ → List RequestTest → Action → Bool
fits r ts (Set x) = x == r
fits r ts (Drive p x) = any (same_request (Movable p x)) ts
fits r ts (Take l) = true

-- no action before the k-th drives the point that the action drives
abbrev pub first_drive : List Action → ℕ → Action → Bool
first_drive acts k (Set r) = true
first_drive acts k (Drive p x) = all_below (λ i. not (drives (action_at acts i) p)) k
first_drive acts k (Take l) = true

-- no point is driven twice
abbrev pub driven_once : List Action → Bool
driven_once acts = all_below (λ k. first_drive acts k (action_at acts k)) (length acts)

-- the settings are driven
abbrev pub drives_all : List Action → List Setting → Bool
drives_all acts xs = all (λ x. any (same_action (Drive x.point x.position)) acts) xs

-- the points of the path are driven as its ways say
abbrev pub path_driven : Station → ℕ → Bool
path_driven s r = all_below (λ k. drives_all (route_at s r).actions (settings_of s (on_path s r k))) (path_length s r)

-- the tests and the actions of the row fit each other
abbrev pub row_fits : ℕ → List RequestTest → List Action → Bool
row_fits r ts acts =
    any (same_request (Unset r)) ts && (any (same_action (Set r)) acts && (all (fits r ts) acts && driven_once acts))

abbrev pub sound_request : Station → ℕ → Bool
sound_request s r = row_fits r (route_at s r).tests (route_at s r).actions && path_driven s r

-- the first route that breaks the rule
abbrev pub breach_23 : Station → Option ℕ
breach_23 s = first_failing (sound_request s) (length s.routes)

abbrev pub Breach23 : Station → Option ℕ → Type 0
Breach23 s = FirstBreach (SoundRequest s) (length s.routes)
