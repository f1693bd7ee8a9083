-- The laws of reading's parts: what is read is written so, and what is written so is read.
use Rattle.std.specs.Prelude.{◌≡◌, ℕ, List, Some, codes}
use Rattle.text.specs.Tokens.{star, comma, word}
use Rattle.text.specs.Ahead.{Ahead, ends, spoilt, token, tokens_from}
use Rattle.text.specs.Out.{got}
use Rattle.forms.specs.declared.lists.Listing.{Listing}
use Rattle.forms.specs.Heads.{Head, head}
use Rattle.forms.specs.Things.{Spot, Thing, thing_of}
use Rattle.rows.specs.Rows.{Pair, Row}
use Rattle.steps.specs.Pairs.{a_list}
use Rattle.sheets.specs.Sections.{Part, a_turn}
use Rattle.naming.specs.Unknown.{thing_at}
use Rattle.writing.specs.Words.{thing_word, Named, head_word, Heads}
use Rattle.writing.specs.Texts.{Sets, Sound}
use Rattle.writing.specs.Marks.{Spelt}
use Rattle.writing.specs.Spelling.{pairs, spelling}
use Rattle.writing.specs.Forms.{Listed, May}

-- tokens without a fault are those of a text exactly when it is made of them and of blanks
abbrev pub TokensLaw : List ℕ → Ahead → Type 0
TokensLaw t ts = (tokens_from t 0 ≡ ts → Sound ts → Sets 0 t ts) × (Sets 0 t ts → tokens_from t 0 ≡ ts)

-- a word is read as a thing exactly when it is the word that writes the thing
abbrev pub ThingsLaw : Spot → Thing Spot → Type 0
ThingsLaw w th =
    (thing_of w ≡ Some th → (w ≡ (thing_at th, thing_word th)) × Named th)
    × ((w ≡ (thing_at th, thing_word th)) × Named th → thing_of w ≡ Some th)

-- a word is read as the head of a row exactly when it is the word that writes the head
abbrev pub HeadsLaw : Spot → Head → Type 0
HeadsLaw w h =
    (head w ≡ Some h → (w.1 ≡ head_word h) × Heads w.0 h)
    × ((w.1 ≡ head_word h) × Heads w.0 h → head w ≡ Some h)

-- the end of the text, a star or `then`: nothing that goes on with a list
abbrev pub Closes : Ahead → Type 0
Closes (ends n) = Unit {0}
Closes (spoilt n i) = ⊥
Closes (token (star i) ts) = Unit {0}
Closes (token (comma i) ts) = ⊥
Closes (token (word i w) ts) = w ≡ codes "then"

-- a list of pairs is read exactly as it is written, where what follows does not go on with it
abbrev pub ListsLaw : Listing → Ahead → List (Pair Spot) → Ahead → Type 0
ListsLaw list ts ps us =
    (a_list list ts ≡ got ps us → Spelt (pairs ps) ts us × Listed list ps)
    × (Closes us → Spelt (pairs ps) ts us × Listed list ps → a_list list ts ≡ got ps us)

-- so is a row of a part, after the rows before it
abbrev pub RowsLaw : Part → List (Row Spot) → Ahead → Row Spot → Ahead → Type 0
RowsLaw part rows ts r us =
    (a_turn part rows ts ≡ got (Some r) us → Spelt (spelling r) ts us × May part rows r)
    × (Closes us → Spelt (spelling r) ts us × May part rows r → a_turn part rows ts ≡ got (Some r) us)
