-- Rows of the layout are read exactly as they are written.
use Rattle.std.proofs.Common.{◌≡◌, ℕ, true, cond, List, [], refl, ap, ◌∙◌}
use Rattle.text.specs.Tokens.{word}
use Rattle.text.specs.Ahead.{Ahead}
use Rattle.text.specs.Out.{Out, got, bad, bind}
use Rattle.std.proofs.lemmas.Bool.{cond-false}
use Rattle.forms.specs.declared.lists.Listing.TheVariants.{Settings}
use Rattle.forms.specs.Heads as heads
use Rattle.forms.specs.Things.{Spot}
use Rattle.rows.specs.declared.filters.Kind.TheVariants as kind
use Rattle.rows.specs.Filters.{full, known, crowded}
use Rattle.rows.specs.Rows.{Pair, Far, Row, segment_row, joint_row, point_row, way_row, signal_row}
use Rattle.steps.specs.Words.{a_segment, a_joint, a_point, a_far}
use Rattle.steps.specs.Pairs.{a_list}
use Rattle.sheets.specs.Sections.{Layout}
use Rattle.sheets.specs.Layout.{Sofar, a_segment_row, a_joint_row, a_point_row, a_way_row, a_signal_row}
use Rattle.writing.specs.Marks.{Spelt}
use Rattle.writing.specs.Spelling.{body}
use Rattle.writing.specs.Forms.{Formed, Fresh}
use Rattle.writing.specs.Words.{head_word}
use Rattle.writing.proofs.Fine.{Fine, finish}
use Rattle.writing.proofs.Steps.{bind_got, bind_is, cond_got, segment_sound, segment_is, point_sound, point_is, joint_sound, joint_is}
use Rattle.writing.proofs.Fars.{far_sound, far_is}
use Rattle.writing.proofs.Lists.{Closed, list_sound}
use Rattle.writing.proofs.Listed.{list_is}

module _ (rows : Sofar) (at : ℕ) (ts : Ahead) where
  -- what rows read behind each of their parts, from the last to the first
  abbrev segment_2 : Spot → Ahead → Out (Row Spot)
  segment_2 x us = cond (known rows kind.Segment x.1 []) (bad 5 x.0) (got (segment_row x) us)

  -- segment rows
  pub segment_row_sound : (r : Row Spot) (us : Ahead) → a_segment_row rows at ts ≡ got r us → Fine rows Layout (word at (head_word heads.a_segment)) ts r us
  segment_row_sound r us e =
      let a = cond_got (full rows kind.Segment 64) 4 at (bind (a_segment ts) segment_2) r us e in
      let b = bind_got (a_segment ts) segment_2 r us a.1 in
      let c = cond_got (known rows kind.Segment b.0.1 []) 5 b.0.0 (got (segment_row b.0) b.1) r us b.3 in
      let s = segment_sound ts b.0 b.1 b.2 in
      finish rows Layout (word at (head_word heads.a_segment)) ts r us (segment_row b.0) b.1 c.1
      (refl {a = true}, (at, refl), (0, b.1, s.0, refl), s.1, (a.0, c.0))

  -- a segment row that is written is read
  pub segment_row_is : (x : Spot) (us : Ahead) → Spelt (body (segment_row x)) ts us → Formed (segment_row x) → Fresh rows (segment_row x) → a_segment_row rows at ts ≡ got (segment_row x) us
  segment_row_is x us s f n =
      cond-false (full rows kind.Segment 64) (bad 4 at) (bind (a_segment ts) segment_2) n.0
      ∙ bind_is (a_segment ts) segment_2 x s.1 (segment_is ts x s.1 s.2 f)
      ∙ cond-false (known rows kind.Segment x.1 []) (bad 5 x.0) (got (segment_row x) s.1) n.1
      ∙ ap (got (segment_row x)) s.3

  abbrev joint_4 : Spot → Spot → Far Spot → Ahead → Out (Row Spot)
  joint_4 x s f ws = got (joint_row x s f) ws

  abbrev joint_3 : Spot → Spot → Ahead → Out (Row Spot)
  joint_3 x s vs = bind (a_far vs) (joint_4 x s)

  abbrev joint_2 : Spot → Ahead → Out (Row Spot)
  joint_2 x us = cond (known rows kind.Joint x.1 []) (bad 5 x.0) (bind (a_segment us) (joint_3 x))

  -- joint rows
  pub joint_row_sound : (r : Row Spot) (us : Ahead) → a_joint_row rows at ts ≡ got r us → Fine rows Layout (word at (head_word heads.a_joint)) ts r us
  joint_row_sound r us e =
      let a = cond_got (full rows kind.Joint 96) 4 at (bind (a_joint ts) joint_2) r us e in
      let b = bind_got (a_joint ts) joint_2 r us a.1 in
      let x = b.0 in
      let c = cond_got (known rows kind.Joint x.1 []) 5 x.0 (bind (a_segment b.1) (joint_3 x)) r us b.3 in
      let d = bind_got (a_segment b.1) (joint_3 x) r us c.1 in
      let g = bind_got (a_far d.1) (joint_4 x d.0) r us d.3 in
      let p = joint_sound ts x b.1 b.2 in
      let q = segment_sound b.1 d.0 d.1 d.2 in
      let f = far_sound d.1 g.0 g.1 g.2 in
      finish rows Layout (word at (head_word heads.a_joint)) ts r us (joint_row x d.0 g.0) g.1 g.3
      (refl {a = true}, (at, refl), (0, b.1, p.0, (0, d.1, q.0, (f.0, g.1, f.1, refl {a = g.1}))), (p.1, q.1, f.2), (a.0, c.0))

  -- a joint row that is written is read
  pub joint_row_is : (x y : Spot) (f : Far Spot) (us : Ahead) → Spelt (body (joint_row x y f)) ts us → Formed (joint_row x y f) → Fresh rows (joint_row x y f) → a_joint_row rows at ts ≡ got (joint_row x y f) us
  joint_row_is x y f us s h n =
      let vs = s.1 in
      let t = s.3 in
      let ws = t.1 in
      let u = t.3 in
      cond-false (full rows kind.Joint 96) (bad 4 at) (bind (a_joint ts) joint_2) n.0
      ∙ bind_is (a_joint ts) joint_2 x vs (joint_is ts x vs s.2 h.0)
      ∙ cond-false (known rows kind.Joint x.1 []) (bad 5 x.0) (bind (a_segment vs) (joint_3 x)) n.1
      ∙ bind_is (a_segment vs) (joint_3 x) y ws (segment_is vs y ws t.2 h.1)
      ∙ bind_is (a_far ws) (joint_4 x y) f u.1 (far_is ws f u.0 u.1 u.2 h.2)
      ∙ ap (got (joint_row x y f)) u.3

  abbrev point_3 : Spot → Spot → Ahead → Out (Row Spot)
  point_3 x s vs = cond (crowded rows s.1) (bad 4 s.0) (got (point_row x s) vs)

  abbrev point_2 : Spot → Ahead → Out (Row Spot)
  point_2 x us = cond (known rows kind.Point x.1 []) (bad 5 x.0) (bind (a_segment us) (point_3 x))

  -- point rows
  pub point_row_sound : (r : Row Spot) (us : Ahead) → a_point_row rows at ts ≡ got r us → Fine rows Layout (word at (head_word heads.a_point)) ts r us
  point_row_sound r us e =
      let a = cond_got (full rows kind.Point 32) 4 at (bind (a_point ts) point_2) r us e in
      let b = bind_got (a_point ts) point_2 r us a.1 in
      let x = b.0 in
      let c = cond_got (known rows kind.Point x.1 []) 5 x.0 (bind (a_segment b.1) (point_3 x)) r us b.3 in
      let d = bind_got (a_segment b.1) (point_3 x) r us c.1 in
      let g = cond_got (crowded rows d.0.1) 4 d.0.0 (got (point_row x d.0) d.1) r us d.3 in
      let p = point_sound ts x b.1 b.2 in
      let q = segment_sound b.1 d.0 d.1 d.2 in
      finish rows Layout (word at (head_word heads.a_point)) ts r us (point_row x d.0) d.1 g.1
      (refl {a = true}, (at, refl), (0, b.1, p.0, (0, d.1, q.0, refl)), (p.1, q.1), (a.0, c.0, g.0))

  -- a point row that is written is read
  pub point_row_is : (x y : Spot) (us : Ahead) → Spelt (body (point_row x y)) ts us → Formed (point_row x y) → Fresh rows (point_row x y) → a_point_row rows at ts ≡ got (point_row x y) us
  point_row_is x y us s h n =
      let vs = s.1 in
      let t = s.3 in
      let ws = t.1 in
      cond-false (full rows kind.Point 32) (bad 4 at) (bind (a_point ts) point_2) n.0
      ∙ bind_is (a_point ts) point_2 x vs (point_is ts x vs s.2 h.0)
      ∙ cond-false (known rows kind.Point x.1 []) (bad 5 x.0) (bind (a_segment vs) (point_3 x)) n.1
      ∙ bind_is (a_segment vs) (point_3 x) y ws (segment_is vs y ws t.2 h.1)
      ∙ cond-false (crowded rows y.1) (bad 4 y.0) (got (point_row x y) ws) n.2
      ∙ ap (got (point_row x y)) t.3

  abbrev way_5 : Spot → Spot → Spot → List (Pair Spot) → Ahead → Out (Row Spot)
  way_5 s a b ps xs = got (way_row s a b ps) xs

  abbrev way_4 : Spot → Spot → Spot → Ahead → Out (Row Spot)
  way_4 s a b ws = bind (a_list Settings ws) (way_5 s a b)

  abbrev way_3 : Spot → Spot → Ahead → Out (Row Spot)
  way_3 s a vs = bind (a_joint vs) (way_4 s a)

  abbrev way_2 : Spot → Ahead → Out (Row Spot)
  way_2 s us = bind (a_joint us) (way_3 s)

  -- way rows
  pub way_row_sound : (r : Row Spot) (us : Ahead) → a_way_row rows at ts ≡ got r us → Fine rows Layout (word at (head_word heads.a_way)) ts r us
  way_row_sound r us e =
      let a = cond_got (full rows kind.Way 96) 4 at (bind (a_segment ts) way_2) r us e in
      let b = bind_got (a_segment ts) way_2 r us a.1 in
      let c = bind_got (a_joint b.1) (way_3 b.0) r us b.3 in
      let d = bind_got (a_joint c.1) (way_4 b.0 c.0) r us c.3 in
      let g = bind_got (a_list Settings d.1) (way_5 b.0 c.0 d.0) r us d.3 in
      let p = segment_sound ts b.0 b.1 b.2 in
      let q = joint_sound b.1 c.0 c.1 c.2 in
      let o = joint_sound c.1 d.0 d.1 d.2 in
      let l = list_sound Settings d.1 g.0 g.1 g.2 in
      finish rows Layout (word at (head_word heads.a_way)) ts r us (way_row b.0 c.0 d.0 g.0) g.1 g.3
      (refl {a = true}, (at, refl), (0, b.1, p.0, (0, c.1, q.0, (0, d.1, o.0, l.0))), (p.1, q.1, o.1, l.1), a.0)

  -- a way row that is written is read
  pub way_row_is : (x y z : Spot) (ps : List (Pair Spot)) (us : Ahead) → Closed us → Spelt (body (way_row x y z ps)) ts us → Formed (way_row x y z ps) → Fresh rows (way_row x y z ps) → a_way_row rows at ts ≡ got (way_row x y z ps) us
  way_row_is x y z ps us c s h n =
      let vs = s.1 in
      let t = s.3 in
      let ws = t.1 in
      let u = t.3 in
      let xs = u.1 in
      cond-false (full rows kind.Way 96) (bad 4 at) (bind (a_segment ts) way_2) n
      ∙ bind_is (a_segment ts) way_2 x vs (segment_is ts x vs s.2 h.0)
      ∙ bind_is (a_joint vs) (way_3 x) y ws (joint_is vs y ws t.2 h.1)
      ∙ bind_is (a_joint ws) (way_4 x y) z xs (joint_is ws z xs u.2 h.2)
      ∙ bind_is (a_list Settings xs) (way_5 x y z) ps us (list_is Settings ps xs us c u.3 h.3)

  abbrev signal_3 : Spot → Spot → Ahead → Out (Row Spot)
  signal_3 j s vs = cond (known rows kind.Signal j.1 s.1) (bad 5 j.0) (got (signal_row j s) vs)

  abbrev signal_2 : Spot → Ahead → Out (Row Spot)
  signal_2 j us = bind (a_segment us) (signal_3 j)

  -- signal rows
  pub signal_row_sound : (r : Row Spot) (us : Ahead) → a_signal_row rows at ts ≡ got r us → Fine rows Layout (word at (head_word heads.a_signal)) ts r us
  signal_row_sound r us e =
      let a = cond_got (full rows kind.Signal 48) 4 at (bind (a_joint ts) signal_2) r us e in
      let b = bind_got (a_joint ts) signal_2 r us a.1 in
      let d = bind_got (a_segment b.1) (signal_3 b.0) r us b.3 in
      let g = cond_got (known rows kind.Signal b.0.1 d.0.1) 5 b.0.0 (got (signal_row b.0 d.0) d.1) r us d.3 in
      let p = joint_sound ts b.0 b.1 b.2 in
      let q = segment_sound b.1 d.0 d.1 d.2 in
      finish rows Layout (word at (head_word heads.a_signal)) ts r us (signal_row b.0 d.0) d.1 g.1
      (refl {a = true}, (at, refl), (0, b.1, p.0, (0, d.1, q.0, refl)), (p.1, q.1), (a.0, g.0))

  -- a signal row that is written is read
  pub signal_row_is : (x y : Spot) (us : Ahead) → Spelt (body (signal_row x y)) ts us → Formed (signal_row x y) → Fresh rows (signal_row x y) → a_signal_row rows at ts ≡ got (signal_row x y) us
  signal_row_is x y us s h n =
      let vs = s.1 in
      let t = s.3 in
      let ws = t.1 in
      cond-false (full rows kind.Signal 48) (bad 4 at) (bind (a_joint ts) signal_2) n.0
      ∙ bind_is (a_joint ts) signal_2 x vs (joint_is ts x vs s.2 h.0)
      ∙ bind_is (a_segment vs) (signal_3 x) y ws (segment_is vs y ws t.2 h.1)
      ∙ cond-false (known rows kind.Signal x.1 y.1) (bad 5 x.0) (got (signal_row x y) ws) n.1
      ∙ ap (got (signal_row x y)) t.3
