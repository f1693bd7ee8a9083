-- A text's tokens end at its length, and marks take as many tokens.
use Rattle.std.proofs.Common.{◌≡◌, ℕ, zero, suc, ◌+◌, ◌-◌, ◌≤◌, List, [], ◌∷◌, length, Some, None, Ok, Err, Option, Result, sym, refl, ap, subst, arith}
use Rattle.text.specs.declared.faults.WordFault.{WordFault}
use Rattle.text.specs.Tokens.{Item, next_token, next_place}
use Rattle.text.specs.Ahead.{Ahead, ends, spoilt, token, follow, tokens_within, tokens_from}
use Rattle.forms.specs.Things.{Spot}
use Rattle.rows.specs.Rows.{Row}
use Rattle.sheets.proofs.Shorter.{size}
use Rattle.writing.specs.Texts.{Sound}
use Rattle.writing.specs.Marks.{Mark, Spelt}
use Rattle.writing.specs.Spelling.{spelling, spellings}
use Rattle.std.proofs.lemmas.List.{length-append}

-- where the tokens end, if no fault spoils them
abbrev pub Finishes : ℕ → Ahead → Type 0
Finishes n (ends m) = m ≡ n
Finishes n (spoilt m i) = Unit {0}
Finishes n (token t ts) = Finishes n ts

-- tokens that follow a token end where they would without it
follow_finishes : (o : Result (Option Item) WordFault) (n : ℕ) (ts : Ahead) → Finishes n ts → Finishes n (follow o n ts)
follow_finishes (Ok None) n ts h = refl
follow_finishes (Ok (Some i)) n ts h = h
follow_finishes (Err e) n ts h = tt

-- however many turns there are, the tokens end at the length
within_finishes : (k : ℕ) (t : List ℕ) (at : ℕ) → Finishes (length t) (tokens_within k t at)
unfolding tokens_within
within_finishes zero t at = refl
within_finishes (suc k) t at = follow_finishes (next_token t at) (length t) (tokens_within k t (next_place t at)) (within_finishes k t (next_place t at))

-- a text's tokens end at its length
tokens_finish : (t : List ℕ) → Finishes (length t) (tokens_from t 0)
unfolding tokens_from
tokens_finish t = within_finishes (length t - 0) t 0

-- marks take as many tokens
pub spelt_size : (ms : List Mark) (ts us : Ahead) → Spelt ms ts us → size ts ≡ length ms + size us
spelt_size [] ts us s = let e = ap size s in omega arith
spelt_size (m ∷ ms) ts us s =
    let e : size ts ≡ suc (size s.1) = ap size s.2 in
    let f = spelt_size ms s.1 us s.3 in
    omega arith

-- what marks leave ends where all the tokens end
spelt_finishes : (n : ℕ) (ms : List Mark) (ts us : Ahead) → Spelt ms ts us → Finishes n ts → Finishes n us
spelt_finishes n [] ts us s f = subst (Finishes n) s f
spelt_finishes n (m ∷ ms) ts us s f = spelt_finishes n ms s.1 us s.3 (subst (Finishes n) s.2 f)

-- what is left at the end of a text's tokens is the end at its length
pub spelt_end : (t : List ℕ) (ms : List Mark) (n : ℕ) → Spelt ms (tokens_from t 0) (ends n) → Spelt ms (tokens_from t 0) (ends (length t))
spelt_end t ms n s =
    let e : n ≡ length t = spelt_finishes (length t) ms (tokens_from t 0) (ends n) s (tokens_finish t) in
    subst (λ m. Spelt ms (tokens_from t 0) (ends m)) e s

-- each row takes a token at least
pub rows_size : (rs : List (Row Spot)) → length rs ≤ length (spellings rs)
rows_size [] = omega arith
rows_size (r ∷ rs) =
    let h = rows_size rs in
    let e = length-append (spelling r) (spellings rs) in
    omega arith

-- tokens that marks spell up to the end have no fault
pub spelt_whole : (ms : List Mark) (ts : Ahead) (n : ℕ) → Spelt ms ts (ends n) → Sound ts
spelt_whole [] ts n s = subst Sound (sym s) tt
spelt_whole (m ∷ ms) ts n s = subst Sound (sym s.2) (spelt_whole ms s.1 n s.3)
