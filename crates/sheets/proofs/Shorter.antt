-- A turn takes two tokens at least: the star of a row and its head.
use Rattle.std.proofs.Common.{◌≡◌, ℕ, zero, suc, ◌+◌, ◌-◌, ◌≤◌, Bool, true, false, cond, List, [], ◌∷◌, ◌++◌, length, Some, None, Ok, Err, codes, Option, Result, sym, subst, arith}
use Rattle.std.specs.Str.{bytes_eq}
use Rattle.text.specs.declared.faults.WordFault.{WordFault}
use Rattle.text.specs.Tokens.{Item, star, comma, word, next_token, next_place}
use Rattle.text.specs.Ahead.{Ahead, ends, spoilt, token, follow, tokens_within, tokens_from}
use Rattle.text.specs.Out.{Out, got, bad, bind, a_comma}
use Rattle.forms.specs.declared.states.State.{State}
use Rattle.forms.specs.declared.lists.Listing.{Listing}
use Rattle.forms.specs.declared.lists.Listing.TheVariants.{Settings, RequestTests, Actions, ActivationTests, PointTests, ReleaseTests}
use Rattle.forms.specs.Heads as heads
use Rattle.forms.specs.Heads.{Head, head}
use Rattle.forms.specs.Lists.{choice, admits, picked}
use Rattle.forms.specs.Things.{Spot, Thing, segment_of, joint_of, point_of, thing_of}
use Rattle.rows.specs.declared.filters.Kind.{Kind}
use Rattle.rows.specs.declared.filters.Kind.TheVariants as kind
use Rattle.rows.specs.Filters.{move_kind, full, known, crowded}
use Rattle.rows.specs.Rows.{Pair, far_outside, far_buffer, Row, segment_row, point_row, way_row, signal_row, request_row, activation_row, move_row, release_row, zone_row}
use Rattle.steps.specs.Words.{a_word, a_keyword, a_segment, a_joint, a_point, a_far, as_far, formed}
use Rattle.steps.specs.Pairs.{a_list, a_list_begins, a_pair, pair_of, as_pair, pairs_from, too_many}
use Rattle.sheets.specs.Layout.{Sofar, a_segment_row, a_joint_row, a_point_row, a_way_row, a_signal_row, a_row, a_layout_row}
use Rattle.sheets.specs.Data.{a_request_row, a_data_row}
use Rattle.sheets.specs.Sections.{Part, Layout, Data, layout_by_head, layout_turn, data_by_head, data_turn, a_turn}

-- how many tokens are ahead
abbrev pub size : Ahead → ℕ
size (ends n) = 0
size (spoilt n i) = 0
size (token t ts) = suc (size ts)

module _ (n : ℕ) where
  -- at most n tokens are left
  abbrev Leaves : {A : Type 0} → Out A → Type 0
  Leaves (got a us) = size us ≤ n
  Leaves (bad m i) = Unit {0}

  then : {A B : Type 0} (o : Out A) (f : A → Ahead → Out B) → Leaves o → ((a : A) (us : Ahead) → size us ≤ n → Leaves (f a us)) → Leaves (bind o f)
  then (got a us) f h g = g a us h
  then (bad m i) f h g = tt

  either : {A : Type 0} (b : Bool) (o q : Out A) → Leaves o → Leaves q → Leaves (cond b o q)
  either true o q h g = h
  either false o q h g = g

  -- words
  word_left : (ts : Ahead) → size ts ≤ n → Leaves (a_word ts)
  word_left (ends m) h = tt
  word_left (spoilt m i) h = tt
  word_left (token (star i) ts) h = tt
  word_left (token (comma i) ts) h = tt
  word_left (token (word i w) ts) h = omega arith

  formed_left : {A : Type 0} (w : Spot) (o : Option A) (us : Ahead) → size us ≤ n → Leaves (formed w o us)
  formed_left w None us h = tt
  formed_left w (Some x) us h = h

  segment_left : (ts : Ahead) → size ts ≤ n → Leaves (a_segment ts)
  segment_left ts h = then (a_word ts) (λ w us. formed w (segment_of w) us) (word_left ts h) (λ w us l. formed_left w (segment_of w) us l)

  joint_left : (ts : Ahead) → size ts ≤ n → Leaves (a_joint ts)
  joint_left ts h = then (a_word ts) (λ w us. formed w (joint_of w) us) (word_left ts h) (λ w us l. formed_left w (joint_of w) us l)

  point_left : (ts : Ahead) → size ts ≤ n → Leaves (a_point ts)
  point_left ts h = then (a_word ts) (λ w us. formed w (point_of w) us) (word_left ts h) (λ w us l. formed_left w (point_of w) us l)

  keyword_left : (text : List ℕ) (ts : Ahead) → size ts ≤ n → Leaves (a_keyword text ts)
  keyword_left text ts h =
      then (a_word ts) (λ w us. cond (bytes_eq w.1 text) (got w us) (bad 3 w.0)) (word_left ts h) (λ w us l. either (bytes_eq w.1 text) (got w us) (bad 3 w.0) l tt)

  as_far_left : (w : Spot) (o : Option Spot) (us : Ahead) → size us ≤ n → Leaves (as_far w o us)
  as_far_left w None us h = tt
  as_far_left w (Some x) us h = h

  far_left : (ts : Ahead) → size ts ≤ n → Leaves (a_far ts)
  far_left ts h =
      then (a_word ts) (λ w us. cond (bytes_eq w.1 (codes "OUT")) (got far_outside us) (cond (bytes_eq w.1 (codes "END")) (got far_buffer us) (as_far w (segment_of w) us))) (word_left ts h)
      (λ w us l. either (bytes_eq w.1 (codes "OUT")) (got far_outside us) _ l (either (bytes_eq w.1 (codes "END")) (got far_buffer us) _ l (as_far_left w (segment_of w) us l)))

  -- lists of pairs
  as_pair_left : (th : Thing Spot) (s : Spot) (o : Option State) (us : Ahead) → size us ≤ n → Leaves (as_pair th s o us)
  as_pair_left th s None us h = tt
  as_pair_left th s (Some x) us h = h

  module _ (list : Listing) where
    pair_of_left : (taken : List (Pair Spot)) (w : Spot) (o : Option (Thing Spot)) (us : Ahead) → size us ≤ n → Leaves (pair_of list taken w o us)
    pair_of_left taken w None us h = tt
    pair_of_left taken w (Some th) us h =
        either (admits (choice list th)) _ (bad 3 w.0)
        (either (too_many list taken th) (bad 4 w.0) _ tt (then (a_word us) (λ s vs. as_pair th s (picked (choice list th) s.1) vs) (word_left us h) (λ s vs l. as_pair_left th s (picked (choice list th) s.1) vs l)))
        tt

    pair_left : (taken : List (Pair Spot)) (ts : Ahead) → size ts ≤ n → Leaves (a_pair list taken ts)
    pair_left taken ts h = then (a_word ts) (λ w us. pair_of list taken w (thing_of w) us) (word_left ts h) (λ w us l. pair_of_left taken w (thing_of w) us l)

    comma_left : (ts : Ahead) → size ts ≤ n → Leaves (a_comma ts)
    comma_left (ends m) h = h
    comma_left (spoilt m i) h = tt
    comma_left (token (star i) ts) h = h
    comma_left (token (comma i) ts) h = omega arith
    comma_left (token (word i w) ts) h = h

    begins_left : (ts : Ahead) → size ts ≤ n → Leaves (a_list_begins ts)
    begins_left (ends m) h = h
    begins_left (spoilt m i) h = tt
    begins_left (token (star i) ts) h = h
    begins_left (token (comma i) ts) h = h
    begins_left (token (word i w) ts) h = h

    pairs_left : (k : ℕ) (taken : List (Pair Spot)) (due : Bool) (ts : Ahead) → size ts ≤ n → Leaves (pairs_from k list taken due ts)
    unfolding pairs_from
    pairs_left zero taken due ts h = h
    pairs_left (suc k) taken due ts h =
        either due _ (got taken ts)
        (then (a_pair list taken ts) (λ p us. bind (a_comma us) (λ b vs. pairs_from k list (taken ++ p ∷ []) b vs)) (pair_left taken ts h)
        (λ p us l. then (a_comma us) (λ b vs. pairs_from k list (taken ++ p ∷ []) b vs) (comma_left us l) (λ b vs m. pairs_left k (taken ++ p ∷ []) b vs m)))
        h

    list_left : (ts : Ahead) → size ts ≤ n → Leaves (a_list list ts)
    unfolding a_list
    list_left ts h = then (a_list_begins ts) (λ b us. pairs_from 33 list [] b us) (begins_left ts h) (λ b us l. pairs_left 33 [] b us l)

    -- a list of pairs makes a row
    made_left : (made : List (Pair Spot) → Row Spot) (ts : Ahead) → size ts ≤ n → Leaves (bind (a_list list ts) (λ ps us. got (made ps) us))
    made_left made ts h = then (a_list list ts) (λ ps us. got (made ps) us) (list_left ts h) (λ ps us l. l)

  -- rows behind their heads
  module _ (rows : Sofar) (at : ℕ) (ts : Ahead) (h : size ts ≤ n) where
    full_or : (k : Kind) (most i : ℕ) (o : Out (Row Spot)) → Leaves o → Leaves (cond (full rows k most) (bad 4 i) o)
    full_or k most i o l = either (full rows k most) (bad 4 i) o tt l

    known_or : (k : Kind) (a b : List ℕ) (i : ℕ) (o : Out (Row Spot)) → Leaves o → Leaves (cond (known rows k a b) (bad 5 i) o)
    known_or k a b i o l = either (known rows k a b) (bad 5 i) o tt l

    segment_row_left : Leaves (a_segment_row rows at ts)
    segment_row_left =
        full_or kind.Segment 64 at _ (then (a_segment ts) (λ x us. cond (known rows kind.Segment x.1 []) (bad 5 x.0) (got (segment_row x) us)) (segment_left ts h) (λ x us l. known_or kind.Segment x.1 [] x.0 (got (segment_row x) us) l))

    joint_row_left : Leaves (a_joint_row rows at ts)
    joint_row_left =
        full_or kind.Joint 96 at _
        (then (a_joint ts) _ (joint_left ts h) (λ x us l. known_or kind.Joint x.1 [] x.0 _
        (then (a_segment us) _ (segment_left us l) (λ s vs m. then (a_far vs) _ (far_left vs m) (λ f ws r. r)))))

    point_row_left : Leaves (a_point_row rows at ts)
    point_row_left =
        full_or kind.Point 32 at _
        (then (a_point ts) _ (point_left ts h) (λ x us l. known_or kind.Point x.1 [] x.0 _
        (then (a_segment us) _ (segment_left us l) (λ s vs m. either (crowded rows s.1) (bad 4 s.0) (got (point_row x s) vs) tt m))))

    way_row_left : Leaves (a_way_row rows at ts)
    way_row_left =
        full_or kind.Way 96 at _
        (then (a_segment ts) _ (segment_left ts h) (λ s us l. then (a_joint us) _ (joint_left us l) (λ a vs m.
        then (a_joint vs) _ (joint_left vs m) (λ b ws r. made_left Settings (way_row s a b) ws r))))

    signal_row_left : Leaves (a_signal_row rows at ts)
    signal_row_left =
        full_or kind.Signal 48 at _
        (then (a_joint ts) _ (joint_left ts h) (λ j us l. then (a_segment us) _ (segment_left us l) (λ s vs m.
        known_or kind.Signal j.1 s.1 j.0 (got (signal_row j s) vs) m)))

    request_row_left : (x : Spot) → Leaves (a_request_row rows x ts)
    request_row_left x =
        full_or kind.Request 48 x.0 _ (known_or kind.Request x.1 [] x.0 _
        (then (a_keyword (codes "if") ts) _ (keyword_left (codes "if") ts h) (λ i us l. then (a_list RequestTests us) _ (list_left RequestTests us l) (λ tests vs m.
        then (a_keyword (codes "then") vs) _ (keyword_left (codes "then") vs m) (λ j ws r. made_left Actions (request_row x tests) ws r)))))

    data_row_left : (hd : Head) → Leaves (a_data_row rows at hd ts)
    data_row_left heads.a_segment = tt
    data_row_left heads.a_joint = tt
    data_row_left heads.a_point = tt
    data_row_left heads.a_way = tt
    data_row_left heads.a_signal = tt
    data_row_left heads.the_data = tt
    data_row_left (heads.a_request x) = request_row_left x
    data_row_left (heads.an_activation x) = known_or kind.Activation x.1 [] x.0 _ (made_left ActivationTests (activation_row x) ts h)
    data_row_left (heads.a_point_row x p) = known_or (move_kind p) x.1 [] x.0 _ (made_left PointTests (move_row x p) ts h)
    data_row_left (heads.a_release a b) = known_or kind.Release a.1 b.1 a.0 _ (made_left ReleaseTests (release_row a b) ts h)
    data_row_left (heads.a_zone x) = full_or kind.Zone 32 x.0 _ (known_or kind.Zone x.1 [] x.0 _ (made_left ReleaseTests (zone_row x) ts h))

    row_left : (o : Out (Row Spot)) → Leaves o → Leaves (a_row o)
    row_left (got r us) l = l
    row_left (bad m i) l = tt

    layout_row_left : (hd : Head) → Leaves (a_layout_row rows at hd ts)
    layout_row_left heads.a_segment = row_left (a_segment_row rows at ts) segment_row_left
    layout_row_left heads.a_joint = row_left (a_joint_row rows at ts) joint_row_left
    layout_row_left heads.a_point = row_left (a_point_row rows at ts) point_row_left
    layout_row_left heads.a_way = row_left (a_way_row rows at ts) way_row_left
    layout_row_left heads.a_signal = row_left (a_signal_row rows at ts) signal_row_left
    layout_row_left heads.the_data = h
    layout_row_left (heads.a_request x) = tt
    layout_row_left (heads.an_activation x) = tt
    layout_row_left (heads.a_point_row x p) = tt
    layout_row_left (heads.a_release a b) = tt
    layout_row_left (heads.a_zone x) = tt

  -- rows by their heads
  module _ (rows : Sofar) (w : Spot) (ts : Ahead) (h : size ts ≤ n) where
    layout_left : (o : Option Head) → Leaves (layout_by_head rows w o ts)
    layout_left None = tt
    layout_left (Some hd) = layout_row_left rows w.0 ts h hd

    data_left : (o : Option Head) → Leaves (data_by_head rows w o ts)
    data_left None = tt
    data_left (Some hd) = row_left rows w.0 ts h (a_data_row rows w.0 hd ts) (data_row_left rows w.0 ts h hd)

-- two tokens of n are taken at least
abbrev TwoOf : {A : Type 0} → ℕ → Out A → Type 0
TwoOf n (got a us) = size us + 2 ≤ n
TwoOf n (bad m i) = Unit {0}

more_left : {A : Type 0} (n : ℕ) (o : Out A) → Leaves n o → TwoOf (suc (suc n)) o
more_left n (got a us) h = omega arith
more_left n (bad m i) h = tt

-- a star has been taken, and a head follows
head_left : {A : Type 0} (ts : Ahead) (f : Spot → Ahead → Out A) → ((w : Spot) (us : Ahead) → Leaves (size us) (f w us)) → TwoOf (suc (size ts)) (bind (a_word ts) f)
head_left (ends m) f h = tt
head_left (spoilt m i) f h = tt
head_left (token (star i) ts) f h = tt
head_left (token (comma i) ts) f h = tt
head_left (token (word i w) ts) f h = more_left (size ts) (f (i, w) ts) (h (i, w) ts)

layout_two : (rows : Sofar) (ts : Ahead) → TwoOf (size ts) (layout_turn rows ts)
layout_two rows (ends m) = tt
layout_two rows (spoilt m i) = tt
layout_two rows (token (star i) ts) = head_left ts (λ w us. layout_by_head rows w (head w) us) (λ w us. layout_left (size us) rows w us (omega arith) (head w))
layout_two rows (token (comma i) ts) = tt
layout_two rows (token (word i w) ts) = tt

two_got : {A : Type 0} (n : ℕ) (a : A) (us : Ahead) (o : Out A) → got a us ≡ o → TwoOf n o → size us + 2 ≤ n
two_got n a us o e h = subst (TwoOf n) (sym e) h

-- a turn over the layout takes two tokens, also at its end
pub layout_takes : (rows : Sofar) (ts : Ahead) (o : Option (Row Spot)) (us : Ahead) → got o us ≡ layout_turn rows ts → size us + 2 ≤ size ts
layout_takes rows ts o us e = two_got (size ts) o us (layout_turn rows ts) e (layout_two rows ts)

-- a turn over the data takes two tokens where it gives a row
pub data_takes : (rows : Sofar) (ts : Ahead) (r : Row Spot) (us : Ahead) → got (Some r) us ≡ data_turn rows ts → size us + 2 ≤ size ts
data_takes rows (ends m) r us e = let z : ◌≡◌ {A = ℕ} 0 1 = cc in absurd (omega arith)
data_takes rows (spoilt m i) r us e = let z : ◌≡◌ {A = ℕ} 0 1 = cc in absurd (omega arith)
data_takes rows (token (star i) ts) r us e =
    two_got (suc (size ts)) (Some r) us (data_turn rows (token (star i) ts)) e
    (head_left ts (λ w vs. data_by_head rows w (head w) vs) (λ w vs. data_left (size vs) rows w vs (omega arith) (head w)))
data_takes rows (token (comma i) ts) r us e = let z : ◌≡◌ {A = ℕ} 0 1 = cc in absurd (omega arith)
data_takes rows (token (word i w) ts) r us e = let z : ◌≡◌ {A = ℕ} 0 1 = cc in absurd (omega arith)

-- a turn that gives a row takes two tokens
pub turn_takes : (part : Part) (rows : Sofar) (ts : Ahead) (r : Row Spot) (us : Ahead) → got (Some r) us ≡ a_turn part rows ts → size us + 2 ≤ size ts
turn_takes Layout rows ts r us e = layout_takes rows ts (Some r) us e
turn_takes Data rows ts r us e = data_takes rows ts r us e

-- one token more takes one turn more
follow_size : (o : Result (Option Item) WordFault) (n k : ℕ) (ts : Ahead) → size ts ≤ k → size (follow o n ts) ≤ suc k
follow_size (Ok None) n k ts h = omega arith
follow_size (Ok (Some i)) n k ts h = omega arith
follow_size (Err e) n k ts h = omega arith

-- there are no more tokens than turns
within_size : (k : ℕ) (t : List ℕ) (at : ℕ) → size (tokens_within k t at) ≤ k
unfolding tokens_within
within_size zero t at = omega arith
within_size (suc k) t at = follow_size (next_token t at) (length t) k (tokens_within k t (next_place t at)) (within_size k t (next_place t at))

-- nor more than octets
pub tokens_size : (t : List ℕ) → size (tokens_from t 0) ≤ length t
unfolding tokens_from
tokens_size t = let h = within_size (length t - 0) t 0 in omega arith
