-- The laws of tokens, words and lists of pairs.
use Rattle.std.proofs.Common.{ℕ, not, List, codes, refl, ap, ◌∙◌, arith}
use Rattle.std.proofs.lemmas.Slice.Eq.{bytes_eq-Decides}
use Rattle.text.specs.Tokens.{star, comma, word}
use Rattle.text.specs.Ahead.{Ahead, ends, spoilt, token}
use Rattle.text.specs.Out.{got}
use Rattle.forms.specs.declared.lists.Listing.{Listing}
use Rattle.forms.specs.Heads.{Head, head}
use Rattle.forms.specs.Things.{Spot, Thing, thing_of}
use Rattle.rows.specs.Rows.{Pair}
use Rattle.writing.specs.Laws.{TokensLaw, ThingsLaw, HeadsLaw, Closes, ListsLaw}
use Rattle.writing.proofs.Lexing.{sets_sound, sets_is}
use Rattle.writing.proofs.Things.{thing_sound, thing_is}
use Rattle.writing.proofs.Heads.{head_sound, head_is}
use Rattle.writing.proofs.Lists.{Closed, list_sound}
use Rattle.writing.proofs.Listed.{list_is}

-- the law of tokens
pub tokens_law : (t : List ℕ) (ts : Ahead) → TokensLaw t ts
tokens_law t ts = (λ e s. sets_sound t ts 0 t refl (omega arith) e s, λ s. sets_is t ts 0 t refl (omega arith) s)

-- the law of things
pub things_law : (w : Spot) (th : Thing Spot) → ThingsLaw w th
things_law w th = (thing_sound w th, λ h. ap thing_of h.0 ∙ thing_is th h.1)

-- the law of heads
pub heads_law : (w : Spot) (h : Head) → HeadsLaw w h
heads_law w h = (head_sound w h, λ e. ap (λ v. head (w.0, v)) e.0 ∙ head_is w.0 h e.1)

-- what closes a list is neither a comma nor the first word of a pair
pub closes : (us : Ahead) → Closes us → Closed us
closes (ends n) c = (refl, refl)
closes (spoilt n i) c = absurd c
closes (token (star i) ts) c = (refl, refl)
closes (token (comma i) ts) c = absurd c
closes (token (word i w) ts) c = (ap (λ b. got (not b) (token (word i w) ts)) ((bytes_eq-Decides w (codes "then")).1 c), refl)

-- the law of lists
pub lists_law : (list : Listing) (ts : Ahead) (ps : List (Pair Spot)) (us : Ahead) → ListsLaw list ts ps us
lists_law list ts ps us = (list_sound list ts ps us, λ c h. list_is list ps ts us (closes us c) h.0 h.1)
