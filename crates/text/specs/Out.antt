-- What a step over the tokens ahead comes to: a value and the tokens then ahead, or a fault by number and offset.
use Rattle.std.specs.Prelude.{ℕ, Bool, true, false, Some, None, Ok, Err, Option, Result}
use Rattle.text.specs.declared.faults.WordFault.{WordFault}
use Rattle.text.specs.Faults.{word_number, word_offset}
use Rattle.text.specs.Tokens.{Item, star, comma, word}
use Rattle.text.specs.Ahead.{Ahead, ends, spoilt, token}

pub data Out (A : Type 0) : Type 0 where
  got : A → Ahead → Out A
  bad : ℕ → ℕ → Out A

-- one step after another
abbrev pub bind : {A B : Type 0} → Out A → (A → Ahead → Out B) → Out B
bind (got a ts) f = f a ts
bind (bad n i) f = bad n i

-- what a call answered, with the tokens then ahead
abbrev pub word_out : {X A : Type 0} → (X → A) → Result X WordFault → Ahead → Out A
word_out view (Ok x) ts = got (view x) ts
word_out view (Err e) ts = bad (word_number e) (word_offset e)

-- the next token, which stays ahead
abbrev pub a_peek : Ahead → Out (Option Item)
a_peek (ends n) = got None (ends n)
a_peek (spoilt n i) = bad n i
a_peek (token t ts) = got (Some t) (token t ts)

-- passes over a comma, and over nothing else
abbrev pub a_comma : Ahead → Out Bool
a_comma (ends n) = got false (ends n)
a_comma (spoilt n i) = bad n i
a_comma (token (star i) ts) = got false (token (star i) ts)
a_comma (token (comma i) ts) = got true ts
a_comma (token (word i w) ts) = got false (token (word i w) ts)
