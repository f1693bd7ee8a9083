-- How tokens are set in a text: as many blanks before each as one likes, and behind a word a blank, a mark or the end.
use Rattle.std.specs.Prelude.{◌≡◌, ℕ, ◌+◌, ◌<◌, ◌≤◌, Bool, true, false, List, [], ◌∷◌, ◌++◌, length, codes}
use Rattle.std.specs.List.{list_all}
use Rattle.text.specs.Octets.{blank, allowed, inner}
use Rattle.text.specs.Tokens.{Item, star, comma, word}
use Rattle.text.specs.Ahead.{Ahead, ends, spoilt, token}

-- all octets pass
abbrev pub only : (ℕ → Bool) → List ℕ → Bool
only p xs = list_all p xs

-- nothing, or first an octet that does not pass
abbrev pub Stops : (ℕ → Bool) → List ℕ → Type 0
Stops p [] = Unit {0}
Stops p (x ∷ xs) = p x ≡ false

abbrev pub octets_of : Item → List ℕ
octets_of (star i) = codes "*"
octets_of (comma i) = codes ","
octets_of (word i w) = w

abbrev pub offset_of : Item → ℕ
offset_of (star i) = i
offset_of (comma i) = i
offset_of (word i w) = i

-- a word has 1 to 16 letters, digits, `_`, `(` or `)`, and what is behind it parts it from other words
abbrev pub Whole : Item → List ℕ → Type 0
Whole (star i) behind = Unit {0}
Whole (comma i) behind = Unit {0}
Whole (word i w) behind = (0 < length w) × (length w ≤ 16) × (only allowed w ≡ true) × Stops inner behind

-- a text that begins at an offset is made of these tokens, in order, and of blanks
abbrev pub Sets : ℕ → List ℕ → Ahead → Type 0
Sets at t (ends n) = (only blank t ≡ true) × (n ≡ at + length t)
Sets at t (spoilt n i) = ⊥
Sets at t (token x ts) =
    (gap : List ℕ) × (behind : List ℕ) × (t ≡ gap ++ (octets_of x ++ behind)) × (only blank gap ≡ true) × (offset_of x ≡ at + length gap) × Whole x behind × Sets (offset_of x + length (octets_of x)) behind ts

-- no fault of a word among the tokens
abbrev pub Sound : Ahead → Type 0
Sound (ends n) = Unit {0}
Sound (spoilt n i) = ⊥
Sound (token x ts) = Sound ts
