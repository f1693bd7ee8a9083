-- Claims about every element and some element of a list.
use Rattle.std.specs.Prelude.{Bool, List}
use Rattle.std.specs.List.{list_all, list_any}

abbrev pub all : {X : Type 0} → (X → Bool) → List X → Bool
all p xs = list_all p xs

abbrev pub any : {X : Type 0} → (X → Bool) → List X → Bool
any p xs = list_any p xs
