-- What is to be shown of a row that was read, and how spellings are parted and joined.
use Rattle.std.proofs.Common.{◌≡◌, ℕ, true, List, [], ◌∷◌, ◌++◌, sym, refl, subst}
use Rattle.text.specs.Tokens.{Item}
use Rattle.text.specs.Ahead.{Ahead}
use Rattle.text.specs.Out.{got}
use Rattle.forms.specs.Things.{Spot}
use Rattle.rows.specs.Rows.{Row}
use Rattle.sheets.specs.Sections.{Part}
use Rattle.sheets.specs.Layout.{Sofar}
use Rattle.writing.specs.Marks.{Mark, token_of, Spelt}
use Rattle.writing.specs.Spelling.{body, head_mark}
use Rattle.writing.specs.Forms.{belongs, Formed, Fresh}

-- a row of the part, whose head is the token, is written at the front of the tokens, and may follow the rows
abbrev pub Fine : Sofar → Part → Item → Ahead → Row Spot → Ahead → Type 0
Fine rows part head ts r us =
    (belongs part r ≡ true) × ((j : ℕ) × (head ≡ token_of (head_mark r) j)) × Spelt (body r) ts us × Formed r × Fresh rows r

-- the row and what is left of the tokens are those of the answer
pub finish : (rows : Sofar) (part : Part) (head : Item) (ts : Ahead) (r : Row Spot) (us : Ahead) (s : Row Spot) (ws : Ahead) → got s ws ≡ got r us → Fine rows part head ts s ws → Fine rows part head ts r us
finish rows part head ts r us s ws e f =
    let p : s ≡ r = cc in
    let q : ws ≡ us = cc in
    subst (λ y. Fine rows part head ts r y) q (subst (λ y. Fine rows part head ts y ws) p f)

-- marks one after another
pub spelt_join : (ms ns : List Mark) (ts us vs : Ahead) → Spelt ms ts us → Spelt ns us vs → Spelt (ms ++ ns) ts vs
spelt_join [] ns ts us vs s t = subst (λ y. Spelt ns y vs) (sym s) t
spelt_join (m ∷ ms) ns ts us vs s t = (s.0, s.1, s.2, spelt_join ms ns s.1 us vs s.3 t)

-- and parted again
pub spelt_part : (ms ns : List Mark) (ts vs : Ahead) → Spelt (ms ++ ns) ts vs → (us : Ahead) × Spelt ms ts us × Spelt ns us vs
spelt_part [] ns ts vs s = (ts, refl, s)
spelt_part (m ∷ ms) ns ts vs s = let p = spelt_part ms ns s.1 vs s.3 in (p.0, (s.0, s.1, s.2, p.1), p.2)
