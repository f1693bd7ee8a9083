-- What is left of a part, from one turn to the next.
use Rattle.std.proofs.Common.{◌≡◌, ℕ, suc, ◌-◌, ◌<◌, ◌≤◌, Bool, cond, List, [], ◌∷◌, ◌++◌, map, length, Some, None, Option, sym, refl, ap, ◌∙◌, subst, arith}
use Rattle.std.specs.Option.{option_map}
use Rattle.std.proofs.lemmas.Bool.{cond-true, cond-false, lt-ltb, le-ltb}
use Rattle.std.proofs.lemmas.List.{map_push}
use Rattle.text.specs.declared.reader.Reader.{Reader}
use Rattle.text.specs.Ahead.{Ahead, tokens_within, tokens_from, tokens_ahead, text_of, place_of}
use Rattle.text.specs.Out.{Out, got, bad, bind}
use Rattle.forms.specs.Things.{Spot}
use Rattle.rows.specs.Faults.{Refuses}
use Rattle.rows.specs.declared.rows.Row as row_type
use Rattle.rows.specs.Rows.{Row, placed_row}
use Rattle.sheets.specs.Layout.{Sofar}
use Rattle.sheets.specs.Outcomes.{done, refused, outcome, Refused}
use Rattle.sheets.specs.Sections.{Part, Layout, Data, layout_turn, a_turn, with_row, section, sheet_of, sheet}
use Rattle.sheets.proofs.Shorter.{size, layout_takes, turn_takes, tokens_size}

module _ (n : ℕ) (part : Part) (all : Out Sofar) where
  -- with these rows so far, what is ahead makes the part what it is
  pub record Rest (rows : Sofar) (ts : Ahead) : Type 0 where
    pub turns : ℕ
    pub some : 0 < turns
    pub enough : size ts ≤ turns
    pub few : size ts ≤ n
    pub same : all ≡ section turns n part rows ts

  module _ (rows : Sofar) (ts : Ahead) (h : Rest rows ts) where
    abbrev after_row : Bool × Sofar → Ahead → Out Sofar
    after_row p us = cond p.0 (section (h.turns - 1) n part p.1 us) (got p.1 us)

    step : (o : Out (Option (Row Spot))) → o ≡ a_turn part rows ts → all ≡ bind (bind o (with_row rows)) after_row
    unfolding section
    step o e =
        let f : h.turns ≡ suc (h.turns - 1) = (let l = h.some in omega arith) in
        h.same ∙ ap (λ k. section k n part rows ts) f ∙ ap (λ q. bind (bind q (with_row rows)) after_row) (sym e)

    pub rest_refused : (p : Option (ℕ × ℕ)) → Refuses p (a_turn part rows ts) → Refuses p all
    rest_refused None e = tt
    rest_refused (Some p) e = sym (step (bad p.0 p.1) e)

    rest_none : (us : Ahead) → got None us ≡ a_turn part rows ts → got rows us ≡ all
    rest_none us e = sym (step (got None us) e)

    rest_some : (r : Row Spot) (us : Ahead) → got (Some r) us ≡ a_turn part rows ts → Rest (rows ++ r ∷ []) us
    rest_some r us e =
        let l = turn_takes part rows ts r us e in
        let a = h.enough in
        let b = h.few in
        record { turns = h.turns - 1; some = omega arith; enough = omega arith; few = omega arith; same = step (got (Some r) us) e }

  -- a turn that gives nothing ends the part
  pub rest_ends : (rows : Sofar) (ts us : Ahead) (o : Option row_type.Row) → Rest rows ts → got (option_map placed_row o) us ≡ a_turn part rows ts → o ≡ None → got rows us ≡ all
  rest_ends rows ts us o h e f = rest_none rows ts h us (ap (λ p. got (option_map placed_row p) us) (sym f) ∙ e)

  -- a row that a turn gives goes behind the rows so far
  pub rest_goes : (xs ys : List row_type.Row) (ts us : Ahead) (o : Option row_type.Row) (r : row_type.Row) → Rest (map placed_row xs) ts → got (option_map placed_row o) us ≡ a_turn part (map placed_row xs) ts → o ≡ Some r → ys ≡ xs ++ r ∷ [] → Rest (map placed_row ys) us
  rest_goes xs ys ts us o r h e f g =
      subst (λ rows. Rest rows us) (sym (ap (map placed_row) g ∙ map_push placed_row xs r))
      (rest_some (map placed_row xs) ts h (placed_row r) us (ap (λ p. got (option_map placed_row p) us) (sym f) ∙ e))

-- a row takes a token at least
pub row_takes : (part : Part) (rows : Sofar) (ts us : Ahead) (o : Option row_type.Row) (r : row_type.Row) → got (option_map placed_row o) us ≡ a_turn part rows ts → o ≡ Some r → size us < size ts
row_takes part rows ts us o r e f =
    let l = turn_takes part rows ts (placed_row r) us (ap (λ p. got (option_map placed_row p) us) (sym f) ∙ e) in omega arith

-- before the first turn; a text with no octet has no row
at_first : (t : List ℕ) → Rest (length t) Layout (section (length t) (length t) Layout [] (tokens_from t 0)) [] (tokens_from t 0)
unfolding section tokens_from tokens_within
at_first [] = record { turns = 1; some = omega arith; enough = omega arith; few = omega arith; same = refl }
at_first (x ∷ xs) = let l = tokens_size (x ∷ xs) in record { turns = length (x ∷ xs); some = omega arith; enough = l; few = l; same = refl }

module _ (t : List ℕ) where
  abbrev n : ℕ
  n = length t

  -- the layout, and the whole of a text that is not too long
  abbrev pub the_layout : Out Sofar
  the_layout = section n n Layout [] (tokens_from t 0)

  abbrev pub the_sheet : Out Sofar
  the_sheet = sheet_of n t

  abbrev data_part : Sofar → Ahead → Out Sofar
  data_part rows us = section n n Data rows us

  -- reading begins with no row, at the text's first octet
  pub begun : (xs : List row_type.Row) (r : Reader) → xs ≡ [] → text_of r ≡ t → place_of r ≡ 0 → Rest n Layout the_layout (map placed_row xs) (tokens_ahead r)
  unfolding tokens_ahead
  begun xs r e f g =
      subst (λ ys. Rest n Layout the_layout (map placed_row ys) (tokens_from (text_of r) (place_of r))) (sym e)
      (subst (λ u. Rest n Layout the_layout [] (tokens_from u (place_of r))) (sym f) (subst (λ i. Rest n Layout the_layout [] (tokens_from t i)) (sym g) (at_first t)))

  -- the data begins where the layout ends
  pub data_begins : (rows : Sofar) (ts us : Ahead) (o : Option row_type.Row) → Rest n Layout the_layout rows ts → got (option_map placed_row o) us ≡ layout_turn rows ts → o ≡ None → Rest n Data the_sheet rows us
  unfolding sheet_of
  data_begins rows ts us o h e f =
      let l = layout_takes rows ts (option_map placed_row o) us e in
      let a = h.few in
      record { turns = n; some = omega arith; enough = omega arith; few = omega arith; same = ap (λ q. bind q data_part) (sym (rest_ends n Layout the_layout rows ts us o h e f)) }

  pub too_long : 32768 < n → refused 1 0 ≡ sheet t
  unfolding sheet
  too_long h = ap outcome (sym (cond-true _ _ _ (lt-ltb _ _ h)))

  module _ (h : n ≤ 32768) where
    short : sheet t ≡ outcome the_sheet
    unfolding sheet
    short = ap outcome (cond-false _ _ _ (le-ltb _ _ h))

    pub data_refused : (p : Option (ℕ × ℕ)) → Refuses p the_sheet → Refused p (sheet t)
    data_refused None e = tt
    data_refused (Some p) e = ap outcome e ∙ sym short

    pub layout_refused : (p : Option (ℕ × ℕ)) → Refuses p the_layout → Refused p (sheet t)
    unfolding sheet_of
    layout_refused None e = tt
    layout_refused (Some p) e = ap (λ o. outcome (bind o data_part)) e ∙ sym short

    pub data_read : (more : Sofar) (vs : Ahead) → got more vs ≡ the_sheet → done more ≡ sheet t
    data_read more vs f = ap outcome f ∙ sym short
