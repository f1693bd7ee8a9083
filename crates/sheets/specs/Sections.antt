-- A whole text: rows of the layout, `*DATA`, rows of the data.
use Rattle.std.specs.Prelude.{ℕ, zero, suc, Bool, true, false, cond, List, [], ◌∷◌, ◌++◌, length, Some, None, Option, nat_lt}
use Rattle.text.specs.Ahead.{Ahead, tokens_from}
use Rattle.text.specs.Out.{Out, got, bad, bind}
use Rattle.forms.specs.Heads.{Head, head}
use Rattle.forms.specs.Things.{Spot}
use Rattle.rows.specs.Rows.{Row}
use Rattle.steps.specs.Words.{a_word, a_star, a_star_or_end}
use Rattle.sheets.specs.Layout.{Sofar, a_row, a_layout_row}
use Rattle.sheets.specs.Data.{a_data_row}
use Rattle.sheets.specs.Outcomes.{Outcome, outcome}

abbrev pub layout_by_head : Sofar → Spot → Option Head → Ahead → Out (Option (Row Spot))
layout_by_head rows w None ts = bad 3 w.0
layout_by_head rows w (Some h) ts = a_layout_row rows w.0 h ts

-- a row of the layout, or nothing where the data begins
abbrev pub layout_turn : Sofar → Ahead → Out (Option (Row Spot))
layout_turn rows ts = bind (a_star ts) (λ i us. bind (a_word us) (λ w vs. layout_by_head rows w (head w) vs))

abbrev pub data_by_head : Sofar → Spot → Option Head → Ahead → Out (Option (Row Spot))
data_by_head rows w None ts = bad 3 w.0
data_by_head rows w (Some h) ts = a_row (a_data_row rows w.0 h ts)

abbrev pub data_after : Sofar → Option ℕ → Ahead → Out (Option (Row Spot))
data_after rows None ts = got None ts
data_after rows (Some i) ts = bind (a_word ts) (λ w us. data_by_head rows w (head w) us)

-- a row of the data, or nothing at the end of the text
abbrev pub data_turn : Sofar → Ahead → Out (Option (Row Spot))
data_turn rows ts = bind (a_star_or_end ts) (λ o us. data_after rows o us)

pub data Part : Type 0 where
  Layout : Part
  Data : Part

abbrev pub a_turn : Part → Sofar → Ahead → Out (Option (Row Spot))
a_turn Layout rows ts = layout_turn rows ts
a_turn Data rows ts = data_turn rows ts

-- the rows with one more, and whether the part had one more
abbrev pub with_row : Sofar → Option (Row Spot) → Ahead → Out (Bool × Sofar)
with_row rows None ts = got (false, rows) ts
with_row rows (Some r) ts = got (true, rows ++ r ∷ []) ts

abbrev pub one_more : Part → Sofar → Ahead → Out (Bool × Sofar)
one_more part rows ts = bind (a_turn part rows ts) (with_row rows)

-- at most k rows more of one part, in a text of n octets
unfoldable pub section : ℕ → ℕ → Part → Sofar → Ahead → Out Sofar
section zero n part rows ts = bad 3 n
section (suc k) n part rows ts =
    bind (one_more part rows ts) (λ p us. cond p.0 (section k n part p.1 us) (got p.1 us))

-- a text of more than 32,768 octets is refused; each row takes an octet at least
unfoldable pub sheet_of : ℕ → List ℕ → Out Sofar
sheet_of n t = bind (section n n Layout [] (tokens_from t 0)) (λ rows ts. section n n Data rows ts)

unfoldable pub sheet : List ℕ → Outcome Sofar
sheet t = outcome (cond (nat_lt 32768 (length t)) (bad 1 0) (sheet_of (length t) t))
