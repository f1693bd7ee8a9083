-- A row as it is written is what a turn reads.
use Rattle.std.proofs.Common.{◌≡◌, ℕ, Some, None, sym, refl, ap, ◌∙◌, arith}
use Rattle.text.specs.Tokens.{star, word}
use Rattle.text.specs.Ahead.{Ahead, token}
use Rattle.text.specs.Out.{got}
use Rattle.forms.specs.Heads as heads
use Rattle.forms.specs.Heads.{Head}
use Rattle.forms.specs.Things.{Spot}
use Rattle.rows.specs.Rows.{Row, segment_row, joint_row, point_row, way_row, signal_row, request_row, activation_row, move_row, release_row, zone_row}
use Rattle.sheets.specs.Sections.{Part, Layout, Data, layout_turn, data_by_head, data_turn, a_turn}
use Rattle.sheets.specs.Layout.{Sofar, a_row}
use Rattle.sheets.specs.Data.{a_data_row}
use Rattle.writing.specs.Marks.{token_of, Spelt}
use Rattle.writing.specs.Spelling.{head_mark, spelling}
use Rattle.writing.specs.Forms.{May}
use Rattle.writing.specs.Words.{head_word, Heads}
use Rattle.writing.proofs.Heads.{head_is}
use Rattle.writing.proofs.Lists.{Closed}
use Rattle.writing.proofs.LayoutRows.{segment_row_is, joint_row_is, point_row_is, way_row_is, signal_row_is}
use Rattle.writing.proofs.DataRows.{request_row_is, activation_row_is, move_row_is, release_row_is, zone_row_is}
use Rattle.writing.proofs.Turns.{Ended}

module _ (rows : Sofar) (ts us : Ahead) where
  -- the star and the head of a row, and what is behind them
  front : (r : Row Spot) (s : Spelt (spelling r) ts us) → ts ≡ token (star s.0) (token (token_of (head_mark r) s.3.0) s.3.1)
  front r s = s.2 ∙ ap (token (star s.0)) s.3.2

  -- a row of the layout
  layout_is : (r : Row Spot) → Closed us → Spelt (spelling r) ts us → May Layout rows r → layout_turn rows ts ≡ got (Some r) us
  layout_is (segment_row x) c s m =
      ap (layout_turn rows) (front (segment_row x) s) ∙ ap a_row (segment_row_is rows s.3.0 s.3.1 x us s.3.3 m.1 m.2)
  layout_is (joint_row x y f) c s m =
      ap (layout_turn rows) (front (joint_row x y f) s) ∙ ap a_row (joint_row_is rows s.3.0 s.3.1 x y f us s.3.3 m.1 m.2)
  layout_is (point_row x y) c s m =
      ap (layout_turn rows) (front (point_row x y) s) ∙ ap a_row (point_row_is rows s.3.0 s.3.1 x y us s.3.3 m.1 m.2)
  layout_is (way_row x y z ps) c s m =
      ap (layout_turn rows) (front (way_row x y z ps) s) ∙ ap a_row (way_row_is rows s.3.0 s.3.1 x y z ps us c s.3.3 m.1 m.2)
  layout_is (signal_row x y) c s m =
      ap (layout_turn rows) (front (signal_row x y) s) ∙ ap a_row (signal_row_is rows s.3.0 s.3.1 x y us s.3.3 m.1 m.2)
  layout_is (request_row x ps qs) c s m = let e = m.0 in let z : ◌≡◌ {A = ℕ} 0 1 = cc in absurd (omega arith)
  layout_is (activation_row x ps) c s m = let e = m.0 in let z : ◌≡◌ {A = ℕ} 0 1 = cc in absurd (omega arith)
  layout_is (move_row x p ps) c s m = let e = m.0 in let z : ◌≡◌ {A = ℕ} 0 1 = cc in absurd (omega arith)
  layout_is (release_row x y ps) c s m = let e = m.0 in let z : ◌≡◌ {A = ℕ} 0 1 = cc in absurd (omega arith)
  layout_is (zone_row x ps) c s m = let e = m.0 in let z : ◌≡◌ {A = ℕ} 0 1 = cc in absurd (omega arith)

  -- a row of the data, by its head
  by_head : (r : Row Spot) (i : ℕ) (h : Head) (ws : Ahead) (j : ℕ) → ts ≡ token (star j) (token (word i (head_word h)) ws) → Heads i h → a_data_row rows i h ws ≡ got r us → data_turn rows ts ≡ got (Some r) us
  by_head r i h ws j e n f =
      ap (data_turn rows) e ∙ ap (λ o. data_by_head rows (i, head_word h) o ws) (head_is i h n) ∙ ap a_row f

  -- a row of the data
  data_is : (r : Row Spot) → Closed us → Spelt (spelling r) ts us → May Data rows r → data_turn rows ts ≡ got (Some r) us
  data_is (segment_row x) c s m = let e = m.0 in let z : ◌≡◌ {A = ℕ} 0 1 = cc in absurd (omega arith)
  data_is (joint_row x y f) c s m = let e = m.0 in let z : ◌≡◌ {A = ℕ} 0 1 = cc in absurd (omega arith)
  data_is (point_row x y) c s m = let e = m.0 in let z : ◌≡◌ {A = ℕ} 0 1 = cc in absurd (omega arith)
  data_is (way_row x y z ps) c s m = let e = m.0 in let z : ◌≡◌ {A = ℕ} 0 1 = cc in absurd (omega arith)
  data_is (signal_row x y) c s m = let e = m.0 in let z : ◌≡◌ {A = ℕ} 0 1 = cc in absurd (omega arith)
  data_is (request_row x ps qs) c s m =
      by_head (request_row x ps qs) x.0 (heads.a_request x) s.3.1 s.0 (front (request_row x ps qs) s) (refl, m.1.0) (request_row_is rows x.0 s.3.1 x ps qs us c s.3.3 m.1 m.2)
  data_is (activation_row x ps) c s m =
      by_head (activation_row x ps) x.0 (heads.an_activation x) s.3.1 s.0 (front (activation_row x ps) s) (refl, m.1.0) (activation_row_is rows x.0 s.3.1 x ps us c s.3.3 m.1 m.2)
  data_is (move_row x p ps) c s m =
      by_head (move_row x p ps) x.0 (heads.a_point_row x p) s.3.1 s.0 (front (move_row x p ps) s) (refl, m.1.0) (move_row_is rows x.0 s.3.1 x p ps us c s.3.3 m.1 m.2)
  data_is (release_row x y ps) c s m =
      by_head (release_row x y ps) x.0 (heads.a_release x y) s.3.1 s.0 (front (release_row x y ps) s) (refl, m.1.0, m.1.1, m.1.2) (release_row_is rows x.0 s.3.1 x y ps us c s.3.3 m.1 m.2)
  data_is (zone_row x ps) c s m =
      by_head (zone_row x ps) x.0 (heads.a_zone x) s.3.1 s.0 (front (zone_row x ps) s) (refl, m.1.0) (zone_row_is rows x.0 s.3.1 x ps us c s.3.3 m.1 m.2)

  -- a row that is written and may come is read
  pub turn_is : (part : Part) (r : Row Spot) → Closed us → Spelt (spelling r) ts us → May part rows r → a_turn part rows ts ≡ got (Some r) us
  turn_is Layout r c s m = layout_is r c s m
  turn_is Data r c s m = data_is r c s m

  -- so is the end of a part
  pub turn_ends : (part : Part) → Ended part ts us → a_turn part rows ts ≡ got None us
  turn_ends Layout s = ap (layout_turn rows) (s.2 ∙ ap (token (star s.0)) s.3.2) ∙ ap (got None) s.3.3
  turn_ends Data s = ap (data_turn rows) s.1 ∙ ap (got None) (sym s.2)
