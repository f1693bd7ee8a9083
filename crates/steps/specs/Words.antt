-- The words that a row wants, read off the tokens ahead: what stands there instead is a fault of form.
use Rattle.std.specs.Prelude.{ℕ, cond, List, Some, None, codes, Option}
use Rattle.std.specs.Str.{bytes_eq}
use Rattle.text.specs.Tokens.{star, comma, word}
use Rattle.text.specs.Ahead.{Ahead, ends, spoilt, token}
use Rattle.text.specs.Out.{Out, got, bad, bind}
use Rattle.forms.specs.Things.{Spot, segment_of, joint_of, point_of}
use Rattle.rows.specs.Rows.{Far, far_segment, far_outside, far_buffer}

abbrev pub a_word : Ahead → Out Spot
a_word (ends n) = bad 3 n
a_word (spoilt n i) = bad n i
a_word (token (star i) ts) = bad 3 i
a_word (token (comma i) ts) = bad 3 i
a_word (token (word i w) ts) = got (i, w) ts

abbrev pub a_keyword : List ℕ → Ahead → Out Spot
a_keyword text ts = bind (a_word ts) (λ w us. cond (bytes_eq w.1 text) (got w us) (bad 3 w.0))

-- what a rule makes of a word; a word that it makes nothing of has no such form
abbrev pub formed : {A : Type 0} → Spot → Option A → Ahead → Out A
formed w None ts = bad 3 w.0
formed w (Some x) ts = got x ts

abbrev pub a_segment : Ahead → Out Spot
a_segment ts = bind (a_word ts) (λ w us. formed w (segment_of w) us)

abbrev pub a_joint : Ahead → Out Spot
a_joint ts = bind (a_word ts) (λ w us. formed w (joint_of w) us)

abbrev pub a_point : Ahead → Out Spot
a_point ts = bind (a_word ts) (λ w us. formed w (point_of w) us)

abbrev pub as_far : Spot → Option Spot → Ahead → Out (Far Spot)
as_far w None ts = bad 3 w.0
as_far w (Some x) ts = got (far_segment x) ts

-- a segment, `OUT` or `END`
abbrev pub a_far : Ahead → Out (Far Spot)
a_far ts =
    bind (a_word ts) (λ w us.
    cond (bytes_eq w.1 (codes "OUT")) (got far_outside us)
    (cond (bytes_eq w.1 (codes "END")) (got far_buffer us) (as_far w (segment_of w) us)))

-- the star of a row
abbrev pub a_star : Ahead → Out ℕ
a_star (ends n) = bad 3 n
a_star (spoilt n i) = bad n i
a_star (token (star i) ts) = got i ts
a_star (token (comma i) ts) = bad 3 i
a_star (token (word i w) ts) = bad 3 i

-- the star of a row, or nothing at the end of the text
abbrev pub a_star_or_end : Ahead → Out (Option ℕ)
a_star_or_end (ends n) = got None (ends n)
a_star_or_end (spoilt n i) = bad n i
a_star_or_end (token (star i) ts) = got (Some i) ts
a_star_or_end (token (comma i) ts) = bad 3 i
a_star_or_end (token (word i w) ts) = bad 3 i
