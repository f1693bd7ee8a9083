-- Actions one after another, one more at the end.
use Rattle.std.proofs.Common.{ℕ, ◌+◌, ◌<◌, List, length, get_or, take, sym, subst}
use Rattle.std.proofs.lemmas.Fn.{FoldsTo-push}
use Rattle.std.proofs.lemmas.List.{take_more}
use Rattle.calls.specs.Grants.{Acted, AllActed}
use Rattle.conditions.specs.States.{State}
use Rattle.station.specs.Station.{Station}
use Rattle.station.specs.declared.tests.Action.{Action}

pub acted_more : (s : Station) (xs : List Action) (i : ℕ) (d : Action) (v u w : State) → i < length xs → AllActed s (take i xs) v u → Acted s (get_or xs i d) u w → AllActed s (take (i + 1) xs) v w
acted_more s xs i d v u w l h one =
    subst (λ ys. AllActed s ys v w) (sym (take_more xs i d l)) (FoldsTo-push (λ x a y. Acted s a x y) v (take i xs) u (get_or xs i d) w h one)
