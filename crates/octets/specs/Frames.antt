-- The first three octets of an image: its version, and how many octets follow.
use Rattle.std.specs.Prelude.{ℕ, ◌+◌, ◌/◌, ◌%◌, Bool, cond, ◌&&◌, List, [], ◌∷◌, length, Some, None, Option, ◌==◌, nat_lt, slice_index}

-- an octet for each point and signal and four for each of 16 trains, where two octets can say how many
abbrev pub rest : ℕ → ℕ → Option ℕ
rest points signals = cond (nat_lt (points + signals + 64) 65536) (Some (points + signals + 64)) None

-- the version, and the length of the rest, the higher octet first
abbrev pub head : ℕ → List ℕ
head n = 1 ∷ n / 256 ∷ n % 256 ∷ []

-- the octets begin so, and n follow
abbrev pub framed : ℕ → List ℕ → Bool
framed n xs =
    (length xs == 3 + n) && (slice_index xs 0 == 1 && (slice_index xs 1 == n / 256 && slice_index xs 2 == n % 256))
