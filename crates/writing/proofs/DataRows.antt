-- Rows of the data are read exactly as they are written.
use Rattle.std.proofs.Common.{◌≡◌, ℕ, true, false, cond, List, [], ◌∷◌, ◌++◌, codes, sym, refl, ap, ◌∙◌, subst}
use Rattle.text.specs.Tokens.{word}
use Rattle.text.specs.Ahead.{Ahead, token}
use Rattle.text.specs.Out.{Out, got, bad, bind}
use Rattle.std.proofs.lemmas.Bool.{cond-false}
use Rattle.station.specs.declared.tests.Position.{Position}
use Rattle.forms.specs.declared.lists.Listing.{Listing}
use Rattle.forms.specs.declared.lists.Listing.TheVariants.{RequestTests, Actions, ActivationTests, PointTests, ReleaseTests}
use Rattle.forms.specs.Heads as heads
use Rattle.forms.specs.Things.{Spot}
use Rattle.rows.specs.declared.filters.Kind.{Kind}
use Rattle.rows.specs.declared.filters.Kind.TheVariants as kind
use Rattle.rows.specs.Filters.{move_kind, full, known}
use Rattle.rows.specs.Rows.{Pair, Row, request_row, activation_row, move_row, release_row, zone_row}
use Rattle.steps.specs.Words.{a_keyword}
use Rattle.steps.specs.Pairs.{a_list}
use Rattle.sheets.specs.Sections.{Data}
use Rattle.sheets.specs.Layout.{Sofar}
use Rattle.sheets.specs.Data.{a_request_row, an_activation_row, a_move_row, a_release_row, a_zone_row}
use Rattle.writing.specs.Marks.{Spelt, says}
use Rattle.writing.specs.Spelling.{body, pairs}
use Rattle.writing.specs.Forms.{Listed, Formed, Fresh}
use Rattle.writing.specs.Words.{head_word, Heads}
use Rattle.writing.proofs.Fine.{Fine, finish, spelt_join, spelt_part}
use Rattle.writing.proofs.Steps.{bind_got, bind_is, cond_got, keyword_sound, keyword_is}
use Rattle.writing.proofs.Lists.{Closed, list_sound}
use Rattle.writing.proofs.Listed.{list_is}
use Rattle.writing.proofs.Parts.{closes}

-- a row that is a list of pairs after its head, unless the head is known
module _ (rows : Sofar) (k : Kind) (a b : List ℕ) (i : ℕ) (list : Listing) (made : List (Pair Spot) → Row Spot) (ts : Ahead) where
  -- the row that a list of pairs makes
  abbrev made_of : List (Pair Spot) → Ahead → Out (Row Spot)
  made_of ps us = got (made ps) us

  abbrev with_pairs : Out (Row Spot)
  with_pairs = cond (known rows k a b) (bad 5 i) (bind (a_list list ts) made_of)

  -- such a row was new, and its pairs are written
  pairs_sound : (r : Row Spot) (us : Ahead) → with_pairs ≡ got r us → (ps : List (Pair Spot)) × (vs : Ahead) × (known rows k a b ≡ false) × Spelt (pairs ps) ts vs × Listed list ps × (got (made ps) vs ≡ got r us)
  pairs_sound r us e =
      let c = cond_got (known rows k a b) 5 i (bind (a_list list ts) made_of) r us e in
      let d = bind_got (a_list list ts) made_of r us c.1 in
      let l = list_sound list ts d.0 d.1 d.2 in
      (d.0, d.1, c.0, l.0, l.1, d.3)

  -- a new row with pairs that are written is read
  pairs_is : (ps : List (Pair Spot)) (us : Ahead) → Closed us → known rows k a b ≡ false → Spelt (pairs ps) ts us → Listed list ps → with_pairs ≡ got (made ps) us
  pairs_is ps us c n s l =
      cond-false (known rows k a b) (bad 5 i) (bind (a_list list ts) made_of) n
      ∙ bind_is (a_list list ts) made_of ps us (list_is list ps ts us c s l)

module _ (rows : Sofar) (at : ℕ) (ts : Ahead) where
  -- what a request row reads behind each of its parts, from the last to the first
  abbrev request_5 : Spot → List (Pair Spot) → List (Pair Spot) → Ahead → Out (Row Spot)
  request_5 x tests actions xs = got (request_row x tests actions) xs

  abbrev request_4 : Spot → List (Pair Spot) → Spot → Ahead → Out (Row Spot)
  request_4 x tests j ws = bind (a_list Actions ws) (request_5 x tests)

  abbrev request_3 : Spot → List (Pair Spot) → Ahead → Out (Row Spot)
  request_3 x tests vs = bind (a_keyword (codes "then") vs) (request_4 x tests)

  abbrev request_2 : Spot → Spot → Ahead → Out (Row Spot)
  request_2 x i us = bind (a_list RequestTests us) (request_3 x)

  abbrev request_1 : Spot → Out (Row Spot)
  request_1 x = bind (a_keyword (codes "if") ts) (request_2 x)

  abbrev request_0 : Spot → Out (Row Spot)
  request_0 x = cond (known rows kind.Request x.1 []) (bad 5 x.0) (request_1 x)

  -- request rows
  pub request_row_sound : (x : Spot) (r : Row Spot) (us : Ahead) → Heads at (heads.a_request x) → a_request_row rows x ts ≡ got r us → Fine rows Data (word at (head_word (heads.a_request x))) ts r us
  request_row_sound x r us h e =
      let a = cond_got (full rows kind.Request 48) 4 x.0 (request_0 x) r us e in
      let b = cond_got (known rows kind.Request x.1 []) 5 x.0 (request_1 x) r us a.1 in
      let c = bind_got (a_keyword (codes "if") ts) (request_2 x) r us b.1 in
      let d = bind_got (a_list RequestTests c.1) (request_3 x) r us c.3 in
      let f = bind_got (a_keyword (codes "then") d.1) (request_4 x d.0) r us d.3 in
      let g = bind_got (a_list Actions f.1) (request_5 x d.0) r us f.3 in
      let p = keyword_sound (codes "if") ts c.0 c.1 c.2 in
      let l = list_sound RequestTests c.1 d.0 d.1 d.2 in
      let q = keyword_sound (codes "then") d.1 f.0 f.1 f.2 in
      let m = list_sound Actions f.1 g.0 g.1 g.2 in
      let t : Spelt (pairs d.0 ++ says (codes "then") ∷ pairs g.0) c.1 g.1 =
      spelt_join (pairs d.0) (says (codes "then") ∷ pairs g.0) c.1 d.1 g.1 l.0 (q.0, f.1, q.1, m.0) in
      finish rows Data (word at (head_word (heads.a_request x))) ts r us (request_row x d.0 g.0) g.1 g.3
      (refl {a = true}, (at, ap (λ k. word k (head_word (heads.a_request x))) (sym h.0)), (p.0, c.1, p.1, t), (h.1, l.1, m.1), (a.0, b.0))

  -- a request row that is written is read
  pub request_row_is : (x : Spot) (ps qs : List (Pair Spot)) (us : Ahead) → Closed us → Spelt (body (request_row x ps qs)) ts us → Formed (request_row x ps qs) → Fresh rows (request_row x ps qs) → a_request_row rows x ts ≡ got (request_row x ps qs) us
  request_row_is x ps qs us c s h n =
      let vs = s.1 in
      let t = spelt_part (pairs ps) (says (codes "then") ∷ pairs qs) vs us s.3 in
      let ws = t.0 in
      let u = t.2 in
      let xs = u.1 in
      let d : Closed ws = subst Closed (sym u.2) (closes (token (word u.0 (codes "then")) xs) refl) in
      cond-false (full rows kind.Request 48) (bad 4 x.0) (request_0 x) n.0
      ∙ cond-false (known rows kind.Request x.1 []) (bad 5 x.0) (request_1 x) n.1
      ∙ bind_is (a_keyword (codes "if") ts) (request_2 x) (s.0, codes "if") vs (keyword_is (codes "if") ts s.0 vs s.2)
      ∙ bind_is (a_list RequestTests vs) (request_3 x) ps ws (list_is RequestTests ps vs ws d t.1 h.1)
      ∙ bind_is (a_keyword (codes "then") ws) (request_4 x ps) (u.0, codes "then") xs (keyword_is (codes "then") ws u.0 xs u.2)
      ∙ bind_is (a_list Actions xs) (request_5 x ps) qs us (list_is Actions qs xs us c u.3 h.2)

  -- activation rows
  pub activation_row_sound : (x : Spot) (r : Row Spot) (us : Ahead) → Heads at (heads.an_activation x) → an_activation_row rows x ts ≡ got r us → Fine rows Data (word at (head_word (heads.an_activation x))) ts r us
  activation_row_sound x r us h e =
      let p = pairs_sound rows kind.Activation x.1 [] x.0 ActivationTests (activation_row x) ts r us e in
      finish rows Data (word at (head_word (heads.an_activation x))) ts r us (activation_row x p.0) p.1 p.5
      (refl {a = true}, (at, ap (λ k. word k (head_word (heads.an_activation x))) (sym h.0)), p.3, (h.1, p.4), p.2)

  -- an activation row that is written is read
  pub activation_row_is : (x : Spot) (ps : List (Pair Spot)) (us : Ahead) → Closed us → Spelt (body (activation_row x ps)) ts us → Formed (activation_row x ps) → Fresh rows (activation_row x ps) → an_activation_row rows x ts ≡ got (activation_row x ps) us
  activation_row_is x ps us c s h n = pairs_is rows kind.Activation x.1 [] x.0 ActivationTests (activation_row x) ts ps us c n s h.1

  -- points' rows
  pub move_row_sound : (x : Spot) (o : Position) (r : Row Spot) (us : Ahead) → Heads at (heads.a_point_row x o) → a_move_row rows x o ts ≡ got r us → Fine rows Data (word at (head_word (heads.a_point_row x o))) ts r us
  move_row_sound x o r us h e =
      let p = pairs_sound rows (move_kind o) x.1 [] x.0 PointTests (move_row x o) ts r us e in
      finish rows Data (word at (head_word (heads.a_point_row x o))) ts r us (move_row x o p.0) p.1 p.5
      (refl {a = true}, (at, ap (λ k. word k (head_word (heads.a_point_row x o))) (sym h.0)), p.3, (h.1, p.4), p.2)

  -- a point's row that is written is read
  pub move_row_is : (x : Spot) (o : Position) (ps : List (Pair Spot)) (us : Ahead) → Closed us → Spelt (body (move_row x o ps)) ts us → Formed (move_row x o ps) → Fresh rows (move_row x o ps) → a_move_row rows x o ts ≡ got (move_row x o ps) us
  move_row_is x o ps us c s h n = pairs_is rows (move_kind o) x.1 [] x.0 PointTests (move_row x o) ts ps us c n s h.1

  -- subroutes' release rows
  pub release_row_sound : (x y : Spot) (r : Row Spot) (us : Ahead) → Heads at (heads.a_release x y) → a_release_row rows x y ts ≡ got r us → Fine rows Data (word at (head_word (heads.a_release x y))) ts r us
  release_row_sound x y r us h e =
      let p = pairs_sound rows kind.Release x.1 y.1 x.0 ReleaseTests (release_row x y) ts r us e in
      finish rows Data (word at (head_word (heads.a_release x y))) ts r us (release_row x y p.0) p.1 p.5
      (refl {a = true}, (at, ap (λ k. word k (head_word (heads.a_release x y))) (sym h.0)), p.3, (h.1 ∙ sym h.0, h.2, h.3, p.4), p.2)

  -- a release row that is written is read
  pub release_row_is : (x y : Spot) (ps : List (Pair Spot)) (us : Ahead) → Closed us → Spelt (body (release_row x y ps)) ts us → Formed (release_row x y ps) → Fresh rows (release_row x y ps) → a_release_row rows x y ts ≡ got (release_row x y ps) us
  release_row_is x y ps us c s h n = pairs_is rows kind.Release x.1 y.1 x.0 ReleaseTests (release_row x y) ts ps us c n s h.3

  -- zones' rows are limited in number
  abbrev zone_0 : Spot → Out (Row Spot)
  zone_0 x = with_pairs rows kind.Zone x.1 [] x.0 ReleaseTests (zone_row x) ts

  -- zones' rows
  pub zone_row_sound : (x : Spot) (r : Row Spot) (us : Ahead) → Heads at (heads.a_zone x) → a_zone_row rows x ts ≡ got r us → Fine rows Data (word at (head_word (heads.a_zone x))) ts r us
  zone_row_sound x r us h e =
      let a = cond_got (full rows kind.Zone 32) 4 x.0 (zone_0 x) r us e in
      let p = pairs_sound rows kind.Zone x.1 [] x.0 ReleaseTests (zone_row x) ts r us a.1 in
      finish rows Data (word at (head_word (heads.a_zone x))) ts r us (zone_row x p.0) p.1 p.5
      (refl {a = true}, (at, ap (λ k. word k (head_word (heads.a_zone x))) (sym h.0)), p.3, (h.1, p.4), (a.0, p.2))

  -- a zone's row that is written is read
  pub zone_row_is : (x : Spot) (ps : List (Pair Spot)) (us : Ahead) → Closed us → Spelt (body (zone_row x ps)) ts us → Formed (zone_row x ps) → Fresh rows (zone_row x ps) → a_zone_row rows x ts ≡ got (zone_row x ps) us
  zone_row_is x ps us c s h n =
      cond-false (full rows kind.Zone 32) (bad 4 x.0) (zone_0 x) n.0
      ∙ pairs_is rows kind.Zone x.1 [] x.0 ReleaseTests (zone_row x) ts ps us c n.1 s h.1
