-- How rows are written: a star, a head, and words and commas in order. A name stands where the row says.
use Rattle.std.specs.Prelude.{List, [], ◌∷◌, ◌++◌, codes}
use Rattle.forms.specs.Heads as heads
use Rattle.forms.specs.States.{state_word}
use Rattle.forms.specs.Things.{Spot, Thing, segment, point}
use Rattle.rows.specs.Rows.{Pair, Far, far_segment, far_outside, far_buffer, Row, segment_row, joint_row, point_row, way_row, signal_row, request_row, activation_row, move_row, release_row, zone_row}
use Rattle.naming.specs.Unknown.{thing_at}
use Rattle.writing.specs.Words.{thing_word, head_word}
use Rattle.writing.specs.Marks.{Mark, the_star, the_comma, says, says_at}

abbrev pub thing_mark : Thing Spot → Mark
thing_mark th = says_at (thing_at th) (thing_word th)

abbrev pub segment_mark : Spot → Mark
segment_mark x = thing_mark (segment x)

abbrev pub point_mark : Spot → Mark
point_mark x = thing_mark (point x)

abbrev pub joint_mark : Spot → Mark
joint_mark x = says_at x.0 x.1

-- a segment, `OUT` or `END`
abbrev pub far_mark : Far Spot → Mark
far_mark (far_segment x) = segment_mark x
far_mark far_outside = says (codes "OUT")
far_mark far_buffer = says (codes "END")

-- pairs after a first one, each behind a comma
abbrev pub more_pairs : List (Pair Spot) → List Mark
more_pairs [] = []
more_pairs (p ∷ ps) = the_comma ∷ thing_mark p.thing ∷ says (state_word p.state) ∷ more_pairs ps

-- pairs of a thing and its state, with commas between
abbrev pub pairs : List (Pair Spot) → List Mark
pairs [] = []
pairs (p ∷ ps) = thing_mark p.thing ∷ says (state_word p.state) ∷ more_pairs ps

-- what follows a row's head
abbrev pub body : Row Spot → List Mark
body (segment_row x) = segment_mark x ∷ []
body (joint_row x s f) = joint_mark x ∷ segment_mark s ∷ far_mark f ∷ []
body (point_row x s) = point_mark x ∷ segment_mark s ∷ []
body (way_row s a b ps) = segment_mark s ∷ joint_mark a ∷ joint_mark b ∷ pairs ps
body (signal_row j s) = joint_mark j ∷ segment_mark s ∷ []
body (request_row x ts us) = says (codes "if") ∷ (pairs ts ++ says (codes "then") ∷ pairs us)
body (activation_row x ts) = pairs ts
body (move_row x p ts) = pairs ts
body (release_row a b ts) = pairs ts
body (zone_row x ts) = pairs ts

abbrev pub head_mark : Row Spot → Mark
head_mark (segment_row x) = says (head_word heads.a_segment)
head_mark (joint_row x s f) = says (head_word heads.a_joint)
head_mark (point_row x s) = says (head_word heads.a_point)
head_mark (way_row s a b ps) = says (head_word heads.a_way)
head_mark (signal_row j s) = says (head_word heads.a_signal)
head_mark (request_row x ts us) = says_at x.0 (head_word (heads.a_request x))
head_mark (activation_row x ts) = says_at x.0 (head_word (heads.an_activation x))
head_mark (move_row x p ts) = says_at x.0 (head_word (heads.a_point_row x p))
head_mark (release_row a b ts) = says_at a.0 (head_word (heads.a_release a b))
head_mark (zone_row x ts) = says_at x.0 (head_word (heads.a_zone x))

abbrev pub spelling : Row Spot → List Mark
spelling r = the_star ∷ head_mark r ∷ body r

-- rows one after another
abbrev pub spellings : List (Row Spot) → List Mark
spellings [] = []
spellings (r ∷ rs) = spelling r ++ spellings rs

-- rows of the layout, `*DATA`, rows of the data
abbrev pub whole : List (Row Spot) → List (Row Spot) → List Mark
whole layout rest = spellings layout ++ the_star ∷ says (head_word heads.the_data) ∷ spellings rest
