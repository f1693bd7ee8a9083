-- What lies beyond a joint is read exactly as it is written.
use Rattle.std.proofs.Common.{◌≡◌, ℕ, Bool, true, false, cond, ◌++◌, Some, None, codes, Option, refl, ap, ◌∙◌, subst, arith}
use Rattle.std.specs.Str.{bytes_eq}
use Rattle.std.proofs.lemmas.Slice.Eq.{bytes_eq-Decides}
use Rattle.text.specs.Tokens.{word}
use Rattle.text.specs.Ahead.{Ahead, token}
use Rattle.text.specs.Out.{got}
use Rattle.forms.specs.Things.{Spot, name_at, segment_of}
use Rattle.rows.specs.Rows.{Far, far_segment, far_outside, far_buffer}
use Rattle.steps.specs.Words.{a_word, as_far, a_far}
use Rattle.writing.specs.Marks.{token_of}
use Rattle.writing.specs.Spelling.{far_mark}
use Rattle.writing.specs.Forms.{FarNamed}
use Rattle.writing.proofs.Words.{prefixed_is}
use Rattle.writing.proofs.Steps.{bind_got, word_sound, front_sound}

-- the far side that a word at offset i names
abbrev Lies : Spot → Ahead → Far Spot → Ahead → Type 0
Lies w vs f us = (i : ℕ) × (token (word w.0 w.1) vs ≡ token (token_of (far_mark f) i) us) × FarNamed f

-- a segment beyond
as_far_got : (w : Spot) (o : Option Spot) (vs : Ahead) (f : Far Spot) (us : Ahead) → segment_of w ≡ o → as_far w o vs ≡ got f us → Lies w vs f us
as_far_got w None vs f us s e = let z : ◌≡◌ {A = ℕ} 0 1 = cc in absurd (omega arith)
as_far_got w (Some x) vs f us s e =
    let p = front_sound (codes "T_") w x s in
    let g : far_segment x ≡ f = cc in
    let h : vs ≡ us = cc in
    let l : Lies w vs (far_segment x) us = (0, ap (λ y. token (word y.0 y.1) vs) p.0 ∙ ap (token (word x.0 (codes "T_" ++ x.1))) h, p.1) in
    subst (λ y. Lies w vs y us) g l

-- nothing beyond, a buffer stop, or a segment
far_by : (w : Spot) (vs : Ahead) (f : Far Spot) (us : Ahead) (b c : Bool) → bytes_eq w.1 (codes "OUT") ≡ b → bytes_eq w.1 (codes "END") ≡ c
    → cond b (got far_outside vs) (cond c (got far_buffer vs) (as_far w (segment_of w) vs)) ≡ got f us → Lies w vs f us
far_by w vs f us true c s t e =
    let g : far_outside ≡ f = cc in
    let h : vs ≡ us = cc in
    let l : Lies w vs far_outside us = (w.0, ap (λ y. token (word w.0 y) vs) ((bytes_eq-Decides _ _).0 s) ∙ ap (token (word w.0 (codes "OUT"))) h, tt) in
    subst (λ y. Lies w vs y us) g l
far_by w vs f us false true s t e =
    let g : far_buffer ≡ f = cc in
    let h : vs ≡ us = cc in
    let l : Lies w vs far_buffer us = (w.0, ap (λ y. token (word w.0 y) vs) ((bytes_eq-Decides _ _).0 t) ∙ ap (token (word w.0 (codes "END"))) h, tt) in
    subst (λ y. Lies w vs y us) g l
far_by w vs f us false false s t e = as_far_got w (segment_of w) vs f us refl e

-- what is read as a far side is written so
pub far_sound : (ts : Ahead) (f : Far Spot) (us : Ahead) → a_far ts ≡ got f us → (i : ℕ) × (ts ≡ token (token_of (far_mark f) i) us) × FarNamed f
far_sound ts f us e =
    let p = bind_got (a_word ts) (λ w vs. cond (bytes_eq w.1 (codes "OUT")) (got far_outside vs) (cond (bytes_eq w.1 (codes "END")) (got far_buffer vs) (as_far w (segment_of w) vs))) f us e in
    let q = far_by p.0 p.1 f us _ _ refl refl p.3 in
    (q.0, word_sound ts p.0 p.1 p.2 ∙ q.1, q.2)

-- a far side that is written is read
pub far_is : (ts : Ahead) (f : Far Spot) (i : ℕ) (us : Ahead) → ts ≡ token (token_of (far_mark f) i) us → FarNamed f → a_far ts ≡ got f us
far_is ts (far_segment x) i us e n = ap a_far e ∙ ap (λ o. as_far (x.0, codes "T_" ++ x.1) (name_at (x.0, codes "T_" ++ x.1) o) us) (prefixed_is (codes "T_") x.1 n)
far_is ts far_outside i us e n = ap a_far e
far_is ts far_buffer i us e n = ap a_far e
