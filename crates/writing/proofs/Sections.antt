-- A part is read exactly as its rows are written, one after another.
use Rattle.std.proofs.Common.{◌≡◌, ℕ, zero, suc, ◌<◌, Bool, cond, List, [], ◌∷◌, ◌++◌, length, Some, None, Option, sym, refl, ap, ◌∙◌, subst, append_assoc, append-nil, arith}
use Rattle.text.specs.Tokens.{star}
use Rattle.text.specs.Ahead.{Ahead, token}
use Rattle.text.specs.Out.{Out, got, bad, bind}
use Rattle.forms.specs.Things.{Spot}
use Rattle.rows.specs.Rows.{Row}
use Rattle.sheets.specs.Sections.{Part, Layout, Data, a_turn, with_row, section}
use Rattle.sheets.specs.Layout.{Sofar}
use Rattle.writing.specs.Marks.{Spelt}
use Rattle.writing.specs.Spelling.{spelling, spellings}
use Rattle.writing.specs.Forms.{Follow}
use Rattle.writing.proofs.Fine.{spelt_join, spelt_part}
use Rattle.writing.proofs.Steps.{bind_got, bind_is}
use Rattle.writing.proofs.Lists.{Closed}
use Rattle.writing.proofs.Turns.{Ended, Turned, turn_sound}
use Rattle.writing.proofs.Taken.{turn_is, turn_ends}

-- three steps, however they are grouped
bind_bind : {A B C : Type 0} (q : Out A) (f : A → Ahead → Out B) (g : B → Ahead → Out C) → bind (bind q f) g ≡ bind q (λ a us. bind (f a us) g)
bind_bind (got a us) f g = refl
bind_bind (bad n i) f g = refl

-- what follows the rows of a part is neither a pair nor a comma
closed_star : (i : ℕ) (ts us : Ahead) → ts ≡ token (star i) us → Closed ts
closed_star i ts us e = subst Closed (sym e) (refl, refl)

-- the end of a part closes a list
closed_end : (part : Part) (ts us : Ahead) → Ended part ts us → Closed ts
closed_end Layout ts us e = closed_star e.0 ts e.1 e.2
closed_end Data ts us e = subst Closed (sym e.1) (refl, refl)

-- so does a row
closed_rows : (part : Part) (rs : List (Row Spot)) (ts vs us : Ahead) → Spelt (spellings rs) ts vs → Ended part vs us → Closed ts
closed_rows part [] ts vs us s e = subst Closed (sym s) (closed_end part vs us e)
closed_rows part (r ∷ rs) ts vs us s e = closed_star s.0 ts s.1 s.2

module _ (n : ℕ) (part : Part) where
  -- what is read behind a row
  abbrev after_row : ℕ → Bool × Sofar → Ahead → Out Sofar
  after_row k p us = cond p.0 (section k n part p.1 us) (got p.1 us)

  abbrev after_turn : ℕ → Sofar → Option (Row Spot) → Ahead → Out Sofar
  after_turn k rows o us = bind (with_row rows o us) (after_row k)

  -- a part is a turn, and what is behind it
  section_step : (k : ℕ) (rows : Sofar) (ts : Ahead) → section (suc k) n part rows ts ≡ bind (a_turn part rows ts) (after_turn k rows)
  unfolding section
  section_step k rows ts = bind_bind (a_turn part rows ts) (with_row rows) (after_row k)

  -- rows one after another, then the end of the part
  abbrev pub Goes : Sofar → Ahead → Sofar → Ahead → Type 0
  Goes rows ts all us = (rs : List (Row Spot)) × (vs : Ahead) × (all ≡ rows ++ rs) × Follow part rows rs × Spelt (spellings rs) ts vs × Ended part vs us

  -- a row and more, or the end
  section_by : (k : ℕ) (rows all : Sofar) (ts ws us : Ahead) (o : Option (Row Spot)) → Turned part rows ts o ws → after_turn k rows o ws ≡ got all us
      → ((r : Row Spot) → section k n part (rows ++ r ∷ []) ws ≡ got all us → Goes (rows ++ r ∷ []) ws all us) → Goes rows ts all us
  section_by k rows all ts ws us None t e ih =
      let f : rows ≡ all = cc in
      let g : ws ≡ us = cc in
      ([], ts, sym f ∙ sym (append-nil rows), tt, refl, subst (Ended part ts) g t)
  section_by k rows all ts ws us (Some r) t e ih =
      let h = ih r e in
      (r ∷ h.0, h.1, h.2 ∙ append_assoc rows (r ∷ []) h.0, (t.1, h.3), spelt_join (spelling r) (spellings h.0) ts ws h.1 t.0 h.4, h.5)

  -- what is read as a part is written so
  pub section_sound : (k : ℕ) (rows : Sofar) (ts : Ahead) (all : Sofar) (us : Ahead) → section k n part rows ts ≡ got all us → Goes rows ts all us
  unfolding section
  section_sound zero rows ts all us e = let z : ◌≡◌ {A = ℕ} 0 1 = cc in absurd (omega arith)
  section_sound (suc k) rows ts all us e =
      let p = bind_got (a_turn part rows ts) (after_turn k rows) all us (sym (section_step k rows ts) ∙ e) in
      section_by k rows all ts p.1 us p.0 (turn_sound rows ts p.0 p.1 part p.2) p.3 (λ r f. section_sound k (rows ++ r ∷ []) p.1 all us f)

  -- a part that is written is read in enough turns
  pub section_is : (rs : List (Row Spot)) (k : ℕ) (rows : Sofar) (ts vs us : Ahead) → length rs < k → Follow part rows rs → Spelt (spellings rs) ts vs → Ended part vs us → section k n part rows ts ≡ got (rows ++ rs) us
  section_is rs zero rows ts vs us l f s e = absurd (omega arith)
  section_is [] (suc k) rows ts vs us l f s e =
      section_step k rows ts
      ∙ bind_is (a_turn part rows ts) (after_turn k rows) None us (turn_ends rows ts us part (subst (λ y. Ended part y us) (sym s) e))
      ∙ ap (λ y. got y us) (sym (append-nil rows))
  section_is (r ∷ rs) (suc k) rows ts vs us l f s e =
      let p = spelt_part (spelling r) (spellings rs) ts vs s in
      let ws = p.0 in
      section_step k rows ts
      ∙ bind_is (a_turn part rows ts) (after_turn k rows) (Some r) ws (turn_is rows ts ws part r (closed_rows part rs ws vs us p.2 e) p.1 f.0)
      ∙ section_is rs k (rows ++ r ∷ []) ws vs us (omega arith) f.1 p.2 e
      ∙ ap (λ y. got y us) (append_assoc rows (r ∷ []) rs)
