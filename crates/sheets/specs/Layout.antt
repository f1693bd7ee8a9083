-- Rows of the layout, read off the tokens ahead: the rows so far, the offset of the row's first word, the tokens.
use Rattle.std.specs.Prelude.{ℕ, cond, List, [], map, Some, None, vec_items, Option, Vec}
use Rattle.std.specs.declared.alloc.Global.{Global}
use Rattle.text.specs.Ahead.{Ahead}
use Rattle.text.specs.Out.{Out, got, bad, bind}
use Rattle.forms.specs.declared.lists.Listing.TheVariants.{Settings}
use Rattle.forms.specs.Heads as heads
use Rattle.forms.specs.Heads.{Head}
use Rattle.forms.specs.Things.{Spot}
use Rattle.rows.specs.declared.filters.Kind.TheVariants as kind
use Rattle.rows.specs.declared.rows.Row as row_type
use Rattle.rows.specs.Filters.{full, known, crowded}
use Rattle.rows.specs.Rows.{Row, placed_row, segment_row, joint_row, point_row, way_row, signal_row}
use Rattle.steps.specs.Words.{a_segment, a_joint, a_point, a_far}
use Rattle.steps.specs.Pairs.{a_list}

abbrev pub Sofar : Type 0
Sofar = List (Row Spot)

abbrev pub rows_of : Vec row_type.Row Global → Sofar
rows_of v = map placed_row (vec_items v)

-- `*SEG T_x`
abbrev pub a_segment_row : Sofar → ℕ → Ahead → Out (Row Spot)
a_segment_row rows at ts =
    cond (full rows kind.Segment 64) (bad 4 at)
    (bind (a_segment ts) (λ x us.
    cond (known rows kind.Segment x.1 []) (bad 5 x.0) (got (segment_row x) us)))

-- `*JOINT j T_x s`
abbrev pub a_joint_row : Sofar → ℕ → Ahead → Out (Row Spot)
a_joint_row rows at ts =
    cond (full rows kind.Joint 96) (bad 4 at)
    (bind (a_joint ts) (λ x us.
    cond (known rows kind.Joint x.1 []) (bad 5 x.0)
    (bind (a_segment us) (λ s vs.
    bind (a_far vs) (λ f ws. got (joint_row x s f) ws)))))

-- `*POINT P_x T_x`: a segment has at most four
abbrev pub a_point_row : Sofar → ℕ → Ahead → Out (Row Spot)
a_point_row rows at ts =
    cond (full rows kind.Point 32) (bad 4 at)
    (bind (a_point ts) (λ x us.
    cond (known rows kind.Point x.1 []) (bad 5 x.0)
    (bind (a_segment us) (λ s vs.
    cond (crowded rows s.1) (bad 4 s.0) (got (point_row x s) vs)))))

-- `*WAY T_x j j` and its settings; ways may repeat
abbrev pub a_way_row : Sofar → ℕ → Ahead → Out (Row Spot)
a_way_row rows at ts =
    cond (full rows kind.Way 96) (bad 4 at)
    (bind (a_segment ts) (λ s us.
    bind (a_joint us) (λ a vs.
    bind (a_joint vs) (λ b ws.
    bind (a_list Settings ws) (λ ps xs. got (way_row s a b ps) xs)))))

-- `*SIGNAL j T_x`
abbrev pub a_signal_row : Sofar → ℕ → Ahead → Out (Row Spot)
a_signal_row rows at ts =
    cond (full rows kind.Signal 48) (bad 4 at)
    (bind (a_joint ts) (λ j us.
    bind (a_segment us) (λ s vs.
    cond (known rows kind.Signal j.1 s.1) (bad 5 j.0) (got (signal_row j s) vs))))

abbrev pub a_row : Out (Row Spot) → Out (Option (Row Spot))
a_row (got r ts) = got (Some r) ts
a_row (bad n i) = bad n i

-- a row of the layout after its head; nothing after `DATA`; no row of the data
abbrev pub a_layout_row : Sofar → ℕ → Head → Ahead → Out (Option (Row Spot))
a_layout_row rows at heads.a_segment ts = a_row (a_segment_row rows at ts)
a_layout_row rows at heads.a_joint ts = a_row (a_joint_row rows at ts)
a_layout_row rows at heads.a_point ts = a_row (a_point_row rows at ts)
a_layout_row rows at heads.a_way ts = a_row (a_way_row rows at ts)
a_layout_row rows at heads.a_signal ts = a_row (a_signal_row rows at ts)
a_layout_row rows at heads.the_data ts = got None ts
a_layout_row rows at (heads.a_request x) ts = bad 3 at
a_layout_row rows at (heads.an_activation x) ts = bad 3 at
a_layout_row rows at (heads.a_point_row x p) ts = bad 3 at
a_layout_row rows at (heads.a_release a b) ts = bad 3 at
a_layout_row rows at (heads.a_zone x) ts = bad 3 at
