-- The token that a text has next from a place on, and where it ends.
use Rattle.std.specs.Prelude.{ℕ, ◌+◌, cond, List, length, Some, None, Ok, Err, Option, Result, ◌==◌, nat_le, nat_lt, slice_index, slice_range}
use Rattle.std.specs.List.{list_all}
use Rattle.text.specs.declared.faults.WordFault.{WordFault}
use Rattle.text.specs.declared.faults.WordFault.TheVariants.{Octet, Long}
use Rattle.text.specs.declared.octets.Class.TheVariants.{Blank, Inner}
use Rattle.text.specs.declared.tokens.Token.{Token}
use Rattle.text.specs.declared.tokens.Token.TheVariants.{Star, Comma, Word}
use Rattle.text.specs.Octets.{allowed, past}

-- a token with its offset: a mark, or a word's octets
pub data Item : Type 0 where
  star : ℕ → Item
  comma : ℕ → Item
  word : ℕ → List ℕ → Item

abbrev pub item : Token → Item
item (Star i) = star i
item (Comma i) = comma i
item (Word w) = word w.at w.octets.now

-- what the reader yields, with its borrowed octets as a list
abbrev pub yielded : Result (Option Token) WordFault → Result (Option Item) WordFault
yielded (Ok None) = Ok None
yielded (Ok (Some t)) = Ok (Some (item t))
yielded (Err e) = Err e

-- a word's octets that begin at i: one that is not allowed comes before too great a length
abbrev pub checked : ℕ → List ℕ → Result (List ℕ) WordFault
checked i w = cond (list_all allowed w) (cond (nat_lt 16 (length w)) (Err (Long i)) (Ok w)) (Err (Octet i))

abbrev pub as_item : ℕ → Result (List ℕ) WordFault → Result (Option Item) WordFault
as_item i (Ok w) = Ok (Some (word i w))
as_item i (Err e) = Err e

-- the token that begins at i
abbrev pub token_at : List ℕ → ℕ → Result (Option Item) WordFault
token_at t i =
    cond (nat_le (length t) i) (Ok None)
    (cond (slice_index t i == 42) (Ok (Some (star i)))
    (cond (slice_index t i == 44) (Ok (Some (comma i)))
    (as_item i (checked i (slice_range t i (past Inner t i))))))

-- where the token that begins at i ends
abbrev pub end_at : List ℕ → ℕ → ℕ
end_at t i =
    cond (nat_le (length t) i) i
    (cond (slice_index t i == 42) (i + 1)
    (cond (slice_index t i == 44) (i + 1)
    (past Inner t i)))

-- the first token from a place on, and the place after it
abbrev pub next_token : List ℕ → ℕ → Result (Option Item) WordFault
next_token t at = token_at t (past Blank t at)

abbrev pub next_place : List ℕ → ℕ → ℕ
next_place t at = end_at t (past Blank t at)
