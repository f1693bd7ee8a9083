-- What a question gives over a list: its first answer.
use Rattle.std.specs.Prelude.{List, [], ◌∷◌, None, Option}
use Rattle.firsts.specs.Search.{or_else}

-- the answer at the first element that has one
unfoldable pub first_in : {X Y : Type 0} → (X → Option Y) → List X → Option Y
first_in f [] = None
first_in f (x ∷ xs) = or_else (f x) (first_in f xs)
