-- What a path has, told by the actions that make it.
use Rattle.std.proofs.Common.{◌≡◌, ℕ, Bool, ◌||◌, eqb, List, [], ◌∷◌, length, Decides, refl, ap}
use Rattle.std.proofs.lemmas.Bool.Decides.{Decides-eqb, Decides-at}
use Rattle.std.specs.List.{cons_option}
use Rattle.firsts.specs.Lists.{any}
use Rattle.firsts.proofs.Below.{decides_any_below}
use Rattle.firsts.proofs.Elements.{decides_has}
use Rattle.station.specs.declared.tests.Action.{Action}
use Rattle.station.specs.declared.tests.Action.TheVariants.{Set, Drive, Take}
use Rattle.station.specs.declared.tests.Lock.TheVariants.{Zone, Subroute}
use Rattle.station.specs.Station.{Station}
use Rattle.station.specs.Numbers.{route_at}
use Rattle.station.specs.Alike.{same_action}
use Rattle.station.specs.Paths.{taken, path_of, path, uses, Uses, used, Used, locks, Locks}
use Rattle.station.proofs.Alike.{decides_action}

step : (u : ℕ) (a : Action) (us : List ℕ) (b : Bool) → b ≡ any (eqb u) us → (same_action (Take (Subroute u)) a || b) ≡ any (eqb u) (cons_option (taken a) us)
step u (Set r) us b e = e
step u (Drive p x) us b e = e
step u (Take (Zone z)) us b e = e
step u (Take (Subroute v)) us b e = ap (λ t. eqb u v || t) e

in_path : (u : ℕ) (xs : List Action) → any (same_action (Take (Subroute u))) xs ≡ any (eqb u) (path_of xs)
in_path u [] = refl
in_path u (a ∷ more) = step u a (path_of more) (any (same_action (Take (Subroute u))) more) (in_path u more)

pub decides_uses : (s : Station) (r u : ℕ) → Decides (uses s r u) (Uses s r u)
decides_uses s r u = Decides-at (uses s r u) (any (eqb u) (path s r)) (in_path u (route_at s r).actions) (decides_has Decides-eqb (path s r) u)

pub decides_used : (s : Station) (u : ℕ) → Decides (used s u) (Used s u)
decides_used s u = decides_any_below (λ r. Uses s r u) (λ r. decides_uses s r u) (length s.routes)

pub decides_locks : (s : Station) (r z : ℕ) → Decides (locks s r z) (Locks s r z)
decides_locks s r z = decides_has decides_action (route_at s r).actions (Take (Zone z))
