-- All the tokens that a reader has ahead of it.
use Rattle.std.specs.Prelude.{ℕ, zero, suc, ◌-◌, List, length, Some, None, Ok, Err, Option, Result}
use Rattle.text.specs.declared.faults.WordFault.{WordFault}
use Rattle.text.specs.declared.reader.Reader.{Reader}
use Rattle.text.specs.Faults.{word_number, word_offset}
use Rattle.text.specs.Tokens.{Item, next_token, next_place}

-- tokens up to the end of the text, whose length is given, or up to a word's fault, by number and offset
pub data Ahead : Type 0 where
  ends : ℕ → Ahead
  spoilt : ℕ → ℕ → Ahead
  token : Item → Ahead → Ahead

-- one token, and then the rest; n is the text's length
abbrev pub follow : Result (Option Item) WordFault → ℕ → Ahead → Ahead
follow (Ok None) n rest = ends n
follow (Ok (Some i)) n rest = token i rest
follow (Err e) n rest = spoilt (word_number e) (word_offset e)

-- at most k tokens from a place on
unfoldable pub tokens_within : ℕ → List ℕ → ℕ → Ahead
tokens_within zero t at = ends (length t)
tokens_within (suc k) t at = follow (next_token t at) (length t) (tokens_within k t (next_place t at))

-- the tokens of a text from a place on: each takes an octet at least
unfoldable pub tokens_from : List ℕ → ℕ → Ahead
tokens_from t at = tokens_within (length t - at) t at

-- a reader's text, and how far it has been read
abbrev pub text_of : Reader → List ℕ
text_of r = r.text.now

abbrev pub place_of : Reader → ℕ
place_of r = r.at

unfoldable pub tokens_ahead : Reader → Ahead
tokens_ahead r = tokens_from (text_of r) (place_of r)
