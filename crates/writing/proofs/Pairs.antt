-- A pair is read exactly as it is written.
use Rattle.std.proofs.Common.{◌≡◌, ℕ, Bool, true, false, cond, List, Some, None, Option, refl, ap, ◌∙◌, subst, arith}
use Rattle.std.proofs.lemmas.Bool.{cond-true, cond-false}
use Rattle.text.specs.Tokens.{word}
use Rattle.text.specs.Ahead.{Ahead, token}
use Rattle.text.specs.Out.{Out, got, bad, bind}
use Rattle.forms.specs.declared.states.State.{State}
use Rattle.forms.specs.declared.lists.Listing.{Listing}
use Rattle.forms.specs.Lists.{choice, admits, picked}
use Rattle.forms.specs.States.{state_word}
use Rattle.forms.specs.Things.{Spot, Thing, thing_of}
use Rattle.rows.specs.Rows.{Pair}
use Rattle.naming.specs.Unknown.{thing_at}
use Rattle.steps.specs.Words.{a_word}
use Rattle.steps.specs.Pairs.{too_many, as_pair, pair_of, a_pair}
use Rattle.writing.specs.Words.{thing_word}
use Rattle.writing.specs.Forms.{Stands}
use Rattle.writing.proofs.Things.{thing_sound, thing_is}
use Rattle.writing.proofs.Steps.{bind_got, word_sound}
use Rattle.writing.proofs.States.{picked_sound, picked_is, among_admits}

module _ (list : Listing) (taken : List (Pair Spot)) where
  -- the pair's words stand at the front of the tokens, and it may stand in the list
  abbrev pub Reads : Pair Spot → Ahead → Ahead → Type 0
  Reads p ts us =
      (rest : Ahead) × (j : ℕ) × (ts ≡ token (word (thing_at p.thing) (thing_word p.thing)) rest) × (rest ≡ token (word j (state_word p.state)) us) × Stands list p × (too_many list taken p.thing ≡ false)

  -- a pair that is read has a state
  as_pair_got : (th : Thing Spot) (s : Spot) (o : Option State) (ws : Ahead) (p : Pair Spot) (us : Ahead) → as_pair th s o ws ≡ got p us → (x : State) × (o ≡ Some x) × (record { thing = th; state = x } ≡ p) × (ws ≡ us)
  as_pair_got th s None ws p us e = let z : ◌≡◌ {A = ℕ} 0 1 = cc in absurd (omega arith)
  as_pair_got th s (Some x) ws p us e =
      let f : record { thing = th; state = x } ≡ p = cc in (x, refl, f, cc)

  -- the state behind a thing
  abbrev then_state : Thing Spot → Spot → Ahead → Out (Pair Spot)
  then_state th s us = as_pair th s (picked (choice list th) s.1) us

  -- the thing may stand in the list, and is not too many
  guards : (th : Thing Spot) (i : ℕ) (vs : Ahead) (p : Pair Spot) (us : Ahead) (a b : Bool) → too_many list taken th ≡ b
      → cond a (cond b (bad 4 i) (bind (a_word vs) (then_state th))) (bad 3 i) ≡ got p us
      → (too_many list taken th ≡ false) × (bind (a_word vs) (then_state th) ≡ got p us)
  guards th i vs p us false b t e = let z : ◌≡◌ {A = ℕ} 0 1 = cc in absurd (omega arith)
  guards th i vs p us true true t e = let z : ◌≡◌ {A = ℕ} 0 1 = cc in absurd (omega arith)
  guards th i vs p us true false t e = (t, e)

  -- a thing and its state
  pair_from : (ts : Ahead) (w : Spot) (o : Option (Thing Spot)) (vs : Ahead) (p : Pair Spot) (us : Ahead) → ts ≡ token (word w.0 w.1) vs → thing_of w ≡ o → pair_of list taken w o vs ≡ got p us → Reads p ts us
  pair_from ts w None vs p us g t e = let z : ◌≡◌ {A = ℕ} 0 1 = cc in absurd (omega arith)
  pair_from ts w (Some th) vs p us g t e =
      let q = guards th w.0 vs p us _ _ refl e in
      let r = bind_got (a_word vs) (then_state th) p us q.1 in
      let s = r.0 in
      let ws = r.1 in
      let f = as_pair_got th s (picked (choice list th) s.1) ws p us r.3 in
      let c = picked_sound (choice list th) s.1 f.0 f.1 in
      let h = thing_sound w th t in
      let k : vs ≡ token (word s.0 (state_word f.0)) us =
      word_sound vs s ws r.2 ∙ ap (λ y. token (word s.0 y) ws) c.0 ∙ ap (token (word s.0 (state_word f.0))) f.3 in
      let l : Reads (record { thing = th; state = f.0 }) ts us =
      (vs, s.0, g ∙ ap (λ (y : Spot). token (word y.0 y.1) vs) h.0, k, (h.1, c.1), q.0) in
      subst (λ y. Reads y ts us) f.2 l

  -- what is read as a pair is written so
  pub pair_sound : (ts : Ahead) (p : Pair Spot) (us : Ahead) → a_pair list taken ts ≡ got p us → Reads p ts us
  pair_sound ts p us e =
      let q = bind_got (a_word ts) (λ w vs. pair_of list taken w (thing_of w) vs) p us e in
      pair_from ts q.0 _ q.1 p us (word_sound ts q.0 q.1 q.2) refl q.3

  -- a pair that is written is read
  pub pair_is : (ts : Ahead) (p : Pair Spot) (us : Ahead) → Reads p ts us → a_pair list taken ts ≡ got p us
  pair_is ts p us r =
      let th = p.thing in
      let at : ℕ = thing_at th in
      let c = choice list th in
      ap (a_pair list taken) r.2
      ∙ ap (λ o. pair_of list taken (at, thing_word th) o r.0) (thing_is th r.4.0)
      ∙ cond-true (admits c) (cond (too_many list taken th) (bad 4 at) (bind (a_word r.0) (then_state th))) (bad 3 at) (among_admits c p.state r.4.1)
      ∙ cond-false (too_many list taken th) (bad 4 at) (bind (a_word r.0) (then_state th)) r.5
      ∙ ap (λ ys. bind (a_word ys) (then_state th)) r.3
      ∙ ap (λ o. as_pair th (r.1, state_word p.state) o us) (picked_is c p.state r.4.1)
