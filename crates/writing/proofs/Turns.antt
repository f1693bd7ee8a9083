-- What a turn reads is a row as it is written, or the end of its part.
use Rattle.std.proofs.Common.{◌≡◌, ℕ, [], ◌∷◌, Some, None, Option, sym, refl, ap, ◌∙◌, subst, arith}
use Rattle.text.specs.Tokens.{star, comma, word}
use Rattle.text.specs.Ahead.{Ahead, ends, spoilt, token}
use Rattle.text.specs.Out.{Out, got, bad, bind}
use Rattle.forms.specs.Heads as heads
use Rattle.forms.specs.Heads.{Head, head}
use Rattle.forms.specs.Things.{Spot}
use Rattle.rows.specs.Rows.{Row}
use Rattle.steps.specs.Words.{a_word, a_star, a_star_or_end}
use Rattle.sheets.specs.Sections.{Part, Layout, Data, layout_by_head, layout_turn, data_by_head, data_after, data_turn, a_turn}
use Rattle.sheets.specs.Layout.{Sofar, a_segment_row, a_joint_row, a_point_row, a_way_row, a_signal_row, a_row, a_layout_row}
use Rattle.sheets.specs.Data.{a_data_row}
use Rattle.writing.specs.Marks.{the_star, says, Spelt}
use Rattle.writing.specs.Spelling.{spelling}
use Rattle.writing.specs.Forms.{May}
use Rattle.writing.specs.Words.{head_word, Heads}
use Rattle.writing.proofs.Heads.{head_sound}
use Rattle.writing.proofs.Fine.{Fine}
use Rattle.writing.proofs.Steps.{bind_got, word_sound}
use Rattle.writing.proofs.LayoutRows.{segment_row_sound, joint_row_sound, point_row_sound, way_row_sound, signal_row_sound}
use Rattle.writing.proofs.DataRows.{request_row_sound, activation_row_sound, move_row_sound, release_row_sound, zone_row_sound}

-- a star was passed
star_sound : (ts : Ahead) (i : ℕ) (us : Ahead) → a_star ts ≡ got i us → ts ≡ token (star i) us
star_sound (ends n) i us e = let z : ◌≡◌ {A = ℕ} 0 1 = cc in absurd (omega arith)
star_sound (spoilt n j) i us e = let z : ◌≡◌ {A = ℕ} 0 1 = cc in absurd (omega arith)
star_sound (token (star j) ts) i us e = let f : j ≡ i = cc in let g : ts ≡ us = cc in ap (λ k. token (star k) ts) f ∙ ap (token (star i)) g
star_sound (token (comma j) ts) i us e = let z : ◌≡◌ {A = ℕ} 0 1 = cc in absurd (omega arith)
star_sound (token (word j w) ts) i us e = let z : ◌≡◌ {A = ℕ} 0 1 = cc in absurd (omega arith)

-- a star, or the end of the text
abbrev StarOrEnd : Ahead → Option ℕ → Ahead → Type 0
StarOrEnd ts None us = (n : ℕ) × (ts ≡ ends n) × (us ≡ ends n)
StarOrEnd ts (Some i) us = ts ≡ token (star i) us

-- a star was passed, or the text was at its end
star_or_end_sound : (ts : Ahead) (o : Option ℕ) (us : Ahead) → a_star_or_end ts ≡ got o us → StarOrEnd ts o us
star_or_end_sound (ends n) None us e = let g : ends n ≡ us = cc in (n, refl, sym g)
star_or_end_sound (ends n) (Some i) us e = let z : ◌≡◌ {A = ℕ} 0 1 = cc in absurd (omega arith)
star_or_end_sound (spoilt n j) None us e = let z : ◌≡◌ {A = ℕ} 0 1 = cc in absurd (omega arith)
star_or_end_sound (spoilt n j) (Some i) us e = let z : ◌≡◌ {A = ℕ} 0 1 = cc in absurd (omega arith)
star_or_end_sound (token (star j) ts) None us e = let z : ◌≡◌ {A = ℕ} 0 1 = cc in absurd (omega arith)
star_or_end_sound (token (star j) ts) (Some i) us e = let f : j ≡ i = cc in let g : ts ≡ us = cc in ap (λ k. token (star k) ts) f ∙ ap (token (star i)) g
star_or_end_sound (token (comma j) ts) None us e = let z : ◌≡◌ {A = ℕ} 0 1 = cc in absurd (omega arith)
star_or_end_sound (token (comma j) ts) (Some i) us e = let z : ◌≡◌ {A = ℕ} 0 1 = cc in absurd (omega arith)
star_or_end_sound (token (word j w) ts) None us e = let z : ◌≡◌ {A = ℕ} 0 1 = cc in absurd (omega arith)
star_or_end_sound (token (word j w) ts) (Some i) us e = let z : ◌≡◌ {A = ℕ} 0 1 = cc in absurd (omega arith)

-- a row was read
a_row_got : (q : Out (Row Spot)) (o : Option (Row Spot)) (us : Ahead) → a_row q ≡ got o us → (r : Row Spot) × (Some r ≡ o) × (q ≡ got r us)
a_row_got (got r ts) o us e = let f : Some r ≡ o = cc in let g : ts ≡ us = cc in (r, f, ap (got r) g)
a_row_got (bad n i) o us e = let z : ◌≡◌ {A = ℕ} 0 1 = cc in absurd (omega arith)

-- a row of the layout after its head, or the end of the layout
abbrev After : Sofar → ℕ → Head → Ahead → Option (Row Spot) → Ahead → Type 0
After rows at h ts None us = (h ≡ heads.the_data) × (ts ≡ us)
After rows at h ts (Some r) us = Fine rows Layout (word at (head_word h)) ts r us

module _ (rows : Sofar) (at : ℕ) (ts : Ahead) (o : Option (Row Spot)) (us : Ahead) where
  -- a row was read behind a head of the layout
  after_some : (h : Head) (q : Out (Row Spot)) → a_row q ≡ got o us → ((r : Row Spot) → q ≡ got r us → Fine rows Layout (word at (head_word h)) ts r us) → After rows at h ts o us
  after_some h q e f = let p = a_row_got q o us e in subst (λ y. After rows at h ts y us) p.1 (f p.0 p.2)

  -- behind each head
  layout_row_sound : (h : Head) → a_layout_row rows at h ts ≡ got o us → After rows at h ts o us
  layout_row_sound heads.a_segment e = after_some heads.a_segment (a_segment_row rows at ts) e (λ r f. segment_row_sound rows at ts r us f)
  layout_row_sound heads.a_joint e = after_some heads.a_joint (a_joint_row rows at ts) e (λ r f. joint_row_sound rows at ts r us f)
  layout_row_sound heads.a_point e = after_some heads.a_point (a_point_row rows at ts) e (λ r f. point_row_sound rows at ts r us f)
  layout_row_sound heads.a_way e = after_some heads.a_way (a_way_row rows at ts) e (λ r f. way_row_sound rows at ts r us f)
  layout_row_sound heads.a_signal e = after_some heads.a_signal (a_signal_row rows at ts) e (λ r f. signal_row_sound rows at ts r us f)
  layout_row_sound heads.the_data e =
      let f : None ≡ o = cc in let g : ts ≡ us = cc in subst (λ y. After rows at heads.the_data ts y us) f (refl, g)
  layout_row_sound (heads.a_request x) e = let z : ◌≡◌ {A = ℕ} 0 1 = cc in absurd (omega arith)
  layout_row_sound (heads.an_activation x) e = let z : ◌≡◌ {A = ℕ} 0 1 = cc in absurd (omega arith)
  layout_row_sound (heads.a_point_row x p) e = let z : ◌≡◌ {A = ℕ} 0 1 = cc in absurd (omega arith)
  layout_row_sound (heads.a_release a b) e = let z : ◌≡◌ {A = ℕ} 0 1 = cc in absurd (omega arith)
  layout_row_sound (heads.a_zone x) e = let z : ◌≡◌ {A = ℕ} 0 1 = cc in absurd (omega arith)

-- behind each head of the data
data_row_sound : (rows : Sofar) (at : ℕ) (ts : Ahead) (r : Row Spot) (us : Ahead) (h : Head) → Heads at h → a_data_row rows at h ts ≡ got r us → Fine rows Data (word at (head_word h)) ts r us
data_row_sound rows at ts r us heads.a_segment n e = let z : ◌≡◌ {A = ℕ} 0 1 = cc in absurd (omega arith)
data_row_sound rows at ts r us heads.a_joint n e = let z : ◌≡◌ {A = ℕ} 0 1 = cc in absurd (omega arith)
data_row_sound rows at ts r us heads.a_point n e = let z : ◌≡◌ {A = ℕ} 0 1 = cc in absurd (omega arith)
data_row_sound rows at ts r us heads.a_way n e = let z : ◌≡◌ {A = ℕ} 0 1 = cc in absurd (omega arith)
data_row_sound rows at ts r us heads.a_signal n e = let z : ◌≡◌ {A = ℕ} 0 1 = cc in absurd (omega arith)
data_row_sound rows at ts r us heads.the_data n e = let z : ◌≡◌ {A = ℕ} 0 1 = cc in absurd (omega arith)
data_row_sound rows at ts r us (heads.a_request x) n e = request_row_sound rows at ts x r us n e
data_row_sound rows at ts r us (heads.an_activation x) n e = activation_row_sound rows at ts x r us n e
data_row_sound rows at ts r us (heads.a_point_row x p) n e = move_row_sound rows at ts x p r us n e
data_row_sound rows at ts r us (heads.a_release a b) n e = release_row_sound rows at ts a b r us n e
data_row_sound rows at ts r us (heads.a_zone x) n e = zone_row_sound rows at ts x r us n e

-- the end of a part: `*DATA` after the layout, the end of the text after the data
abbrev pub Ended : Part → Ahead → Ahead → Type 0
Ended Layout ts us = Spelt (the_star ∷ says (head_word heads.the_data) ∷ []) ts us
Ended Data ts us = (n : ℕ) × (ts ≡ ends n) × (us ≡ ends n)

-- a row of the part, or its end
abbrev pub Turned : Part → Sofar → Ahead → Option (Row Spot) → Ahead → Type 0
Turned part rows ts None us = Ended part ts us
Turned part rows ts (Some r) us = Spelt (spelling r) ts us × May part rows r

-- a star, a head, and the row behind them
row_spelt : (part : Part) (rows : Sofar) (i : ℕ) (w : Spot) (h : Head) (ts vs ws : Ahead) (r : Row Spot) (us : Ahead) → ts ≡ token (star i) vs → vs ≡ token (word w.0 w.1) ws → w.1 ≡ head_word h → Fine rows part (word w.0 (head_word h)) ws r us → Spelt (spelling r) ts us × May part rows r
row_spelt part rows i w h ts vs ws r us a b c f =
    ((i, vs, a, (f.1.0, ws, b ∙ ap (λ y. token (word w.0 y) ws) c ∙ ap (λ y. token y ws) f.1.1, f.2)), (f.0, f.3, f.4))

module _ (rows : Sofar) (i : ℕ) (w : Spot) (ts vs ws : Ahead) (a : ts ≡ token (star i) vs) (b : vs ≡ token (word w.0 w.1) ws) where
  -- a row of the layout or its end, with star and head
  layout_after : (h : Head) (o : Option (Row Spot)) (us : Ahead) → w.1 ≡ head_word h → After rows w.0 h ws o us → Turned Layout rows ts o us
  layout_after h None us c f = (i, vs, a, (w.0, ws, b ∙ ap (λ y. token (word w.0 y) ws) (c ∙ ap head_word f.0), f.1))
  layout_after h (Some r) us c f = row_spelt Layout rows i w h ts vs ws r us a b c f

  -- the head is one that there is
  layout_from : (q : Option Head) (o : Option (Row Spot)) (us : Ahead) → head w ≡ q → layout_by_head rows w q ws ≡ got o us → Turned Layout rows ts o us
  layout_from None o us s e = let z : ◌≡◌ {A = ℕ} 0 1 = cc in absurd (omega arith)
  layout_from (Some h) o us s e = layout_after h o us (head_sound w h s).0 (layout_row_sound rows w.0 ws o us h e)

  -- so it is in the data
  data_from : (q : Option Head) (o : Option (Row Spot)) (us : Ahead) → head w ≡ q → data_by_head rows w q ws ≡ got o us → Turned Data rows ts o us
  data_from None o us s e = let z : ◌≡◌ {A = ℕ} 0 1 = cc in absurd (omega arith)
  data_from (Some h) o us s e =
      let p = a_row_got (a_data_row rows w.0 h ws) o us e in
      let n = head_sound w h s in
      subst (λ y. Turned Data rows ts y us) p.1 (row_spelt Data rows i w h ts vs ws p.0 us a b n.0 (data_row_sound rows w.0 ws p.0 us h n.1 p.2))

module _ (rows : Sofar) (ts : Ahead) (o : Option (Row Spot)) (us : Ahead) where
  -- what is read behind a head and behind a star
  abbrev layout_3 : Spot → Ahead → Out (Option (Row Spot))
  layout_3 w vs = layout_by_head rows w (head w) vs

  abbrev layout_2 : ℕ → Ahead → Out (Option (Row Spot))
  layout_2 i vs = bind (a_word vs) layout_3

  -- a turn over the layout
  layout_sound : layout_turn rows ts ≡ got o us → Turned Layout rows ts o us
  layout_sound e =
      let p = bind_got (a_star ts) layout_2 o us e in
      let q = bind_got (a_word p.1) layout_3 o us p.3 in
      layout_from rows p.0 q.0 ts p.1 q.1 (star_sound ts p.0 p.1 p.2) (word_sound p.1 q.0 q.1 q.2) _ o us refl q.3

  -- what is read behind a head of the data
  abbrev data_3 : Spot → Ahead → Out (Option (Row Spot))
  data_3 w vs = data_by_head rows w (head w) vs

  -- a row or the end of the text
  data_by : (m : Option ℕ) (vs : Ahead) → StarOrEnd ts m vs → data_after rows m vs ≡ got o us → Turned Data rows ts o us
  data_by None vs s e =
      let f : None ≡ o = cc in
      let g : vs ≡ us = cc in
      subst (λ y. Turned Data rows ts y us) f (s.0, s.1, sym g ∙ s.2)
  data_by (Some i) vs s e =
      let q = bind_got (a_word vs) data_3 o us e in
      data_from rows i q.0 ts vs q.1 s (word_sound vs q.0 q.1 q.2) _ o us refl q.3

  -- a turn over the data
  data_sound : data_turn rows ts ≡ got o us → Turned Data rows ts o us
  data_sound e =
      let p = bind_got (a_star_or_end ts) (data_after rows) o us e in
      data_by p.0 p.1 (star_or_end_sound ts p.0 p.1 p.2) p.3

  -- a turn over either part
  pub turn_sound : (part : Part) → a_turn part rows ts ≡ got o us → Turned part rows ts o us
  turn_sound Layout e = layout_sound e
  turn_sound Data e = data_sound e
