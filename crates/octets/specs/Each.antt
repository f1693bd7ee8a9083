-- What every element of a list is read or written as, where each of them can be.
use Rattle.std.specs.Prelude.{◌≡◌, List, [], ◌∷◌, Some, None, vec_items, Option, Vec, MatchOption}
use Rattle.std.specs.declared.alloc.Global.{Global}

abbrev pub both : {Y : Type 0} → Option Y → Option (List Y) → Option (List Y)
both None r = None
both (Some y) None = None
both (Some y) (Some ys) = Some (y ∷ ys)

unfoldable pub each : {X Y : Type 0} → (X → Option Y) → List X → Option (List Y)
each f [] = Some []
each f (x ∷ xs) = both (f x) (each f xs)

-- the answer is the list, or none where there is none
abbrev pub Told : {Y : Type 0} → Option (Vec Y Global) → Option (List Y) → Type 0
Told o l = MatchOption o (l ≡ None) (λ v. l ≡ Some (vec_items v))
