-- A text is read as rows exactly when its tokens spell them.
use Rattle.std.proofs.Common.{◌≡◌, ℕ, suc, ◌+◌, ◌≤◌, Bool, true, false, cond, ltb, List, [], ◌∷◌, ◌++◌, length, sym, refl, ap, ◌∙◌, subst, arith}
use Rattle.std.proofs.lemmas.Bool.{cond-false, ltb-false, le-ltb}
use Rattle.text.specs.Ahead.{Ahead, ends, tokens_from}
use Rattle.text.specs.Out.{Out, got, bad}
use Rattle.forms.specs.Heads as heads
use Rattle.sheets.specs.Sections.{Layout, Data, section, sheet_of, sheet}
use Rattle.sheets.specs.Layout.{Sofar}
use Rattle.sheets.specs.Outcomes.{done, outcome}
use Rattle.writing.specs.Marks.{Mark, the_star, says, Spelt}
use Rattle.writing.specs.Spelling.{spellings, whole}
use Rattle.writing.specs.Words.{head_word}
use Rattle.writing.specs.Forms.{Follow}
use Rattle.sheets.proofs.Shorter.{size, tokens_size}
use Rattle.writing.proofs.Counts.{spelt_size, spelt_end, rows_size}
use Rattle.writing.proofs.Fine.{spelt_join, spelt_part}
use Rattle.writing.proofs.Steps.{bind_got, bind_is}
use Rattle.writing.proofs.Sections.{section_sound, section_is}

-- rows of the layout and rows of the data that the text spells
pub record Rows (t : List ℕ) (all : Sofar) : Type 0 where
  pub layout : Sofar
  pub rest : Sofar
  pub few : length t ≤ 32768
  pub spelt : Spelt (whole layout rest) (tokens_from t 0) (ends (length t))
  pub laid : Follow Layout [] layout
  pub listed : Follow Data layout rest
  pub all_of : all ≡ layout ++ rest

-- the data, behind the layout
abbrev data_part : ℕ → Sofar → Ahead → Out Sofar
data_part n rows ts = section n n Data rows ts

abbrev data_mark : List Mark
data_mark = the_star ∷ says (head_word heads.the_data) ∷ []

module _ (t : List ℕ) (all : Sofar) where
  -- the text is short enough
  outcome_by : (b : Bool) (o : Out Sofar) → ltb 32768 (length t) ≡ b → outcome (cond b (bad 1 0) o) ≡ done all → (length t ≤ 32768) × ((us : Ahead) × (o ≡ got all us))
  outcome_by true o s e = let z : ◌≡◌ {A = ℕ} 0 1 = cc in absurd (omega arith)
  outcome_by false (bad n i) s e = let z : ◌≡◌ {A = ℕ} 0 1 = cc in absurd (omega arith)
  outcome_by false (got r us) s e = let f : r ≡ all = cc in (ltb-false _ _ s, (us, ap (λ y. got y us) f))

  -- a text that is read as rows spells them
  pub sheet_sound : sheet t ≡ done all → Rows t all
  unfolding sheet sheet_of
  sheet_sound e =
      let n : ℕ = length t in
      let ts : Ahead = tokens_from t 0 in
      let o = outcome_by _ (sheet_of n t) refl e in
      let p = bind_got (section n n Layout [] ts) (data_part n) all o.1.0 o.1.1 in
      let a = section_sound n Layout n [] ts p.0 p.1 p.2 in
      let b = section_sound n Data n p.0 p.1 all o.1.0 p.3 in
      let m : ℕ = b.5.0 in
      let s : Spelt (spellings b.0) p.1 (ends m) = subst (Spelt (spellings b.0) p.1) b.5.1 b.4 in
      let d : Spelt (data_mark ++ spellings b.0) a.1 (ends m) = spelt_join data_mark (spellings b.0) a.1 p.1 (ends m) a.5 s in
      let w : Spelt (whole a.0 b.0) ts (ends m) = spelt_join (spellings a.0) (data_mark ++ spellings b.0) ts a.1 (ends m) a.4 d in
      record {
        layout = a.0;
        rest = b.0;
        few = o.0;
        spelt = spelt_end t (whole a.0 b.0) m w;
        laid = a.3;
        listed = subst (λ rows. Follow Data rows b.0) a.2 b.3;
        all_of = b.2 ∙ ap (λ rows. rows ++ b.0) a.2;
      }

  -- a text that spells rows is read as them
  pub sheet_is : Rows t all → sheet t ≡ done all
  unfolding sheet sheet_of
  sheet_is r =
      let n : ℕ = length t in
      let ts : Ahead = tokens_from t 0 in
      let p = spelt_part (spellings r.layout) (data_mark ++ spellings r.rest) ts (ends n) r.spelt in
      let q = p.2 in
      let us : Ahead = q.3.1 in
      let most = tokens_size t in
      let size_a = spelt_size (spellings r.layout) ts p.0 p.1 in
      let size_d : size p.0 ≡ suc (suc (length (spellings r.rest))) + 0 = spelt_size (data_mark ++ spellings r.rest) p.0 (ends n) q in
      let rows_a = rows_size r.layout in
      let rows_d = rows_size r.rest in
      let a : section n n Layout [] ts ≡ got r.layout us =
      section_is n Layout r.layout n [] ts p.0 us (omega arith) r.laid p.1 (q.0, q.1, q.2, (q.3.0, us, q.3.2, refl)) in
      let b : section n n Data r.layout us ≡ got (r.layout ++ r.rest) (ends n) =
      section_is n Data r.rest n r.layout us (ends n) (ends n) (omega arith) r.listed q.3.3 (n, refl, refl) in
      ap outcome (cond-false (ltb 32768 n) (bad 1 0) (sheet_of n t) (le-ltb _ _ r.few))
      ∙ ap outcome (bind_is (section n n Layout [] ts) (data_part n) r.layout us a ∙ b)
      ∙ ap done (sym r.all_of)
