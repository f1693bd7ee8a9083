-- The image of what a motor track keeps: version, length of the rest, and the octets of its points, signals and trains.
use Rattle.std.specs.Prelude.{ℕ, List, ◌++◌, length, Some, Option, map, option_and_then}
use Rattle.std.specs.List.{flat_map}
use Rattle.motor.specs.Kept.{Kept}
use Rattle.octets.specs.Each.{each}
use Rattle.octets.specs.Frames.{head, rest}
use Rattle.octets.specs.Writes.{aspect_octet, run_octet, train_octets}

-- what comes of a value, where there is one
abbrev pub then : {A B : Type 0} → Option A → (A → Option B) → Option B
then o f = option_and_then f o

-- one after another
abbrev pub flat : {X : Type 0} → List (List X) → List X
flat qs = flat_map (λ q. q) qs

abbrev pub whole : List ℕ → List ℕ → List (List ℕ) → Option (List ℕ)
whole ps ss ts = then (rest (length ps) (length ss)) (λ n. Some (head n ++ (ps ++ (ss ++ flat ts))))

abbrev pub image : Kept → Option (List ℕ)
image k =
    then (each run_octet k.runs)
    (λ ps. then (each train_octets k.trains)
    (λ ts. whole ps (map aspect_octet k.signals) ts))
