-- Tokens as a text is to have them, and the texts that have them.
use Rattle.std.specs.Prelude.{◌≡◌, ℕ, List, [], ◌∷◌}
use Rattle.text.specs.Tokens.{Item, star, comma, word}
use Rattle.text.specs.Ahead.{Ahead, token}

-- a star, a comma or a word, wherever it stands, or a word that stands at an offset
pub data Mark : Type 0 where
  the_star : Mark
  the_comma : Mark
  says : List ℕ → Mark
  says_at : ℕ → List ℕ → Mark

-- the token that a mark is where it stands at offset i
abbrev pub token_of : Mark → ℕ → Item
token_of the_star i = star i
token_of the_comma i = comma i
token_of (says w) i = word i w
token_of (says_at at w) i = word at w

-- the tokens ts begin with these marks, and us are left
abbrev pub Spelt : List Mark → Ahead → Ahead → Type 0
Spelt [] ts us = ts ≡ us
Spelt (m ∷ ms) ts us = (i : ℕ) × (rest : Ahead) × (ts ≡ token (token_of m i) rest) × Spelt ms rest us
