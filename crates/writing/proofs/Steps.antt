-- What steps over the tokens come to, and the tokens that they pass.
use Rattle.std.proofs.Common.{◌≡◌, ℕ, Bool, true, false, cond, List, ◌++◌, Some, None, codes, Option, sym, refl, ap, ◌∙◌, subst, arith}
use Rattle.std.specs.Str.{bytes_eq}
use Rattle.std.proofs.lemmas.Slice.Eq.{bytes_eq-Decides}
use Rattle.std.proofs.lemmas.Bool.{cond-true}
use Rattle.text.specs.Tokens.{star, comma, word}
use Rattle.text.specs.Ahead.{Ahead, ends, spoilt, token}
use Rattle.text.specs.Out.{Out, got, bad, bind}
use Rattle.forms.specs.Words.{is_name, is_joint, prefixed}
use Rattle.forms.specs.Things.{Spot, name_at, joint_of}
use Rattle.steps.specs.Words.{a_word, a_keyword, formed, a_segment, a_joint, a_point}
use Rattle.writing.specs.Marks.{token_of}
use Rattle.writing.specs.Spelling.{segment_mark, point_mark, joint_mark}
use Rattle.writing.proofs.Words.{prefixed_sound, prefixed_is}

-- the first step of two came to something, and so did the second
pub bind_got : {A B : Type 0} (o : Out A) (f : A → Ahead → Out B) (b : B) (vs : Ahead) → bind o f ≡ got b vs → (a : A) × (us : Ahead) × (o ≡ got a us) × (f a us ≡ got b vs)
bind_got (got a us) f b vs e = (a, us, refl, e)
bind_got (bad n i) f b vs e = let z : ◌≡◌ {A = ℕ} 0 1 = cc in absurd (omega arith)

-- a step and what follows it
pub bind_is : {A B : Type 0} (o : Out A) (f : A → Ahead → Out B) (a : A) (us : Ahead) → o ≡ got a us → bind o f ≡ f a us
bind_is o f a us e = ap (λ p. bind p f) e

-- a test did not refuse
pub cond_got : {A : Type 0} (c : Bool) (n i : ℕ) (o : Out A) (a : A) (us : Ahead) → cond c (bad n i) o ≡ got a us → (c ≡ false) × (o ≡ got a us)
cond_got true n i o a us e = let z : ◌≡◌ {A = ℕ} 0 1 = cc in absurd (omega arith)
cond_got false n i o a us e = (refl, e)

-- a word was passed
pub word_sound : (ts : Ahead) (w : Spot) (us : Ahead) → a_word ts ≡ got w us → ts ≡ token (word w.0 w.1) us
word_sound (ends n) w us e = let z : ◌≡◌ {A = ℕ} 0 1 = cc in absurd (omega arith)
word_sound (spoilt n i) w us e = let z : ◌≡◌ {A = ℕ} 0 1 = cc in absurd (omega arith)
word_sound (token (star i) ts) w us e = let z : ◌≡◌ {A = ℕ} 0 1 = cc in absurd (omega arith)
word_sound (token (comma i) ts) w us e = let z : ◌≡◌ {A = ℕ} 0 1 = cc in absurd (omega arith)
word_sound (token (word i v) ts) w us e =
    let f : (i, v) ≡ w = cc in
    let g : ts ≡ us = cc in
    ap (λ p. token (word p.0 p.1) ts) f ∙ ap (token (word w.0 w.1)) g

-- a rule made something of a word
formed_got : {A : Type 0} (w : Spot) (o : Option A) (ts : Ahead) (x : A) (us : Ahead) → formed w o ts ≡ got x us → (o ≡ Some x) × (ts ≡ us)
formed_got w None ts x us e = let z : ◌≡◌ {A = ℕ} 0 1 = cc in absurd (omega arith)
formed_got w (Some y) ts x us e = let f : y ≡ x = cc in (ap Some f, cc)

-- a form found a name
name_some : (w : Spot) (o : Option (List ℕ)) (x : Spot) → name_at w o ≡ Some x → (y : List ℕ) × (o ≡ Some y) × ((w.0, y) ≡ x)
name_some w None x e = let z : ◌≡◌ {A = ℕ} 0 1 = cc in absurd (omega arith)
name_some w (Some y) x e = let f : (w.0, y) ≡ x = cc in (y, refl, f)

-- a form that is a front and a name
module _ (front : List ℕ) where
  abbrev with_front : Ahead → Out Spot
  with_front ts = bind (a_word ts) (λ w us. formed w (name_at w (prefixed front w.1)) us)

  -- the word is the front and the name
  pub front_sound : (w x : Spot) → name_at w (prefixed front w.1) ≡ Some x → (w ≡ (x.0, front ++ x.1)) × (is_name x.1 ≡ true)
  front_sound w x e =
      let n = name_some w (prefixed front w.1) x e in
      let p = prefixed_sound front w.1 n.0 n.1 in
      subst (λ (y : Spot). (w ≡ (y.0, front ++ y.1)) × (is_name y.1 ≡ true)) n.2 (ap (λ y. (w.0, y)) p.0, p.1)

  -- what is read so is written so
  form_sound : (ts : Ahead) (x : Spot) (us : Ahead) → with_front ts ≡ got x us → (ts ≡ token (word x.0 (front ++ x.1)) us) × (is_name x.1 ≡ true)
  form_sound ts x us e =
      let p = bind_got (a_word ts) (λ w vs. formed w (name_at w (prefixed front w.1)) vs) x us e in
      let q = formed_got p.0 (name_at p.0 (prefixed front p.0.1)) p.1 x us p.3 in
      let r = front_sound p.0 x q.0 in
      (word_sound ts p.0 p.1 p.2 ∙ ap (λ w. token (word w.0 w.1) p.1) r.0 ∙ ap (token (word x.0 (front ++ x.1))) q.1, r.1)

  -- what is written so is read
  form_is : (ts : Ahead) (x : Spot) (us : Ahead) → ts ≡ token (word x.0 (front ++ x.1)) us → is_name x.1 ≡ true → with_front ts ≡ got x us
  form_is ts x us e n =
      ap with_front e ∙ ap (λ o. formed (x.0, front ++ x.1) (name_at (x.0, front ++ x.1) o) us) (prefixed_is front x.1 n)

-- a segment
pub segment_sound : (ts : Ahead) (x : Spot) (us : Ahead) → a_segment ts ≡ got x us → (ts ≡ token (token_of (segment_mark x) 0) us) × (is_name x.1 ≡ true)
segment_sound = form_sound (codes "T_")

-- a segment that is written is read
pub segment_is : (ts : Ahead) (x : Spot) (us : Ahead) → ts ≡ token (token_of (segment_mark x) 0) us → is_name x.1 ≡ true → a_segment ts ≡ got x us
segment_is = form_is (codes "T_")

-- a point
pub point_sound : (ts : Ahead) (x : Spot) (us : Ahead) → a_point ts ≡ got x us → (ts ≡ token (token_of (point_mark x) 0) us) × (is_name x.1 ≡ true)
point_sound = form_sound (codes "P_")

-- a point that is written is read
pub point_is : (ts : Ahead) (x : Spot) (us : Ahead) → ts ≡ token (token_of (point_mark x) 0) us → is_name x.1 ≡ true → a_point ts ≡ got x us
point_is = form_is (codes "P_")

-- a joint
joint_some : (w x : Spot) (b : Bool) → is_joint w.1 ≡ b → cond b (Some w) None ≡ Some x → (w ≡ x) × (is_joint x.1 ≡ true)
joint_some w x false s e = let z : ◌≡◌ {A = ℕ} 0 1 = cc in absurd (omega arith)
joint_some w x true s e = let f : w ≡ x = cc in (f, ap (λ (y : Spot). is_joint y.1) (sym f) ∙ s)

-- what is read as a joint is written so
pub joint_sound : (ts : Ahead) (x : Spot) (us : Ahead) → a_joint ts ≡ got x us → (ts ≡ token (token_of (joint_mark x) 0) us) × (is_joint x.1 ≡ true)
joint_sound ts x us e =
    let p = bind_got (a_word ts) (λ w vs. formed w (joint_of w) vs) x us e in
    let q = formed_got p.0 (joint_of p.0) p.1 x us p.3 in
    let r = joint_some p.0 x _ refl q.0 in
    (word_sound ts p.0 p.1 p.2 ∙ ap (λ w. token (word w.0 w.1) p.1) r.0 ∙ ap (token (word x.0 x.1)) q.1, r.1)

-- a joint that is written is read
pub joint_is : (ts : Ahead) (x : Spot) (us : Ahead) → ts ≡ token (token_of (joint_mark x) 0) us → is_joint x.1 ≡ true → a_joint ts ≡ got x us
joint_is ts x us e n = ap a_joint e ∙ ap (λ b. formed x (cond b (Some x) None) us) n

-- a given word
keyword_by : (text : List ℕ) (w : Spot) (vs : Ahead) (x : Spot) (us : Ahead) (b : Bool) → bytes_eq w.1 text ≡ b → cond b (got w vs) (bad 3 w.0) ≡ got x us → (w.1 ≡ text) × (vs ≡ us)
keyword_by text w vs x us false s e = let z : ◌≡◌ {A = ℕ} 0 1 = cc in absurd (omega arith)
keyword_by text w vs x us true s e = ((bytes_eq-Decides _ _).0 s, cc)

-- what is read as a given word is that word
pub keyword_sound : (text : List ℕ) (ts : Ahead) (x : Spot) (us : Ahead) → a_keyword text ts ≡ got x us → (i : ℕ) × (ts ≡ token (word i text) us)
keyword_sound text ts x us e =
    let p = bind_got (a_word ts) (λ w vs. cond (bytes_eq w.1 text) (got w vs) (bad 3 w.0)) x us e in
    let q = keyword_by text p.0 p.1 x us _ refl p.3 in
    (p.0.0, word_sound ts p.0 p.1 p.2 ∙ ap (λ w. token (word p.0.0 w) p.1) q.0 ∙ ap (token (word p.0.0 text)) q.1)

-- a given word is read
pub keyword_is : (text : List ℕ) (ts : Ahead) (i : ℕ) (us : Ahead) → ts ≡ token (word i text) us → a_keyword text ts ≡ got (i, text) us
keyword_is text ts i us e = ap (a_keyword text) e ∙ cond-true _ _ _ ((bytes_eq-Decides text text).1 refl)
