-- A list of pairs is read exactly as it is written.
use Rattle.std.proofs.Common.{◌≡◌, ℕ, zero, suc, ◌+◌, ◌≤◌, Bool, true, false, List, [], ◌∷◌, ◌++◌, length, sym, refl, ap, ◌∙◌, subst, append_assoc, arith}
use Rattle.std.proofs.lemmas.List.{length_push}
use Rattle.text.specs.Tokens.{star, comma, word}
use Rattle.text.specs.Ahead.{Ahead, ends, spoilt, token}
use Rattle.text.specs.Out.{Out, got, bind, a_comma}
use Rattle.forms.specs.declared.lists.Listing.{Listing}
use Rattle.forms.specs.Things.{Spot}
use Rattle.rows.specs.Rows.{Pair}
use Rattle.steps.specs.Pairs.{subroutes, a_pair, a_list_begins, pairs_from, a_list}
use Rattle.steps.proofs.Turns.{most_bound, pairs_end}
use Rattle.writing.specs.Marks.{Spelt}
use Rattle.writing.specs.Spelling.{pairs}
use Rattle.writing.specs.Forms.{AllStand, Within, Listed}
use Rattle.writing.proofs.Limits.{within_more}
use Rattle.writing.proofs.Pairs.{Reads, pair_sound}
use Rattle.writing.proofs.Steps.{bind_got}

-- a comma was passed
comma_yes : (ts us : Ahead) → a_comma ts ≡ got true us → (i : ℕ) × (ts ≡ token (comma i) us)
comma_yes (ends n) us e = let z : ◌≡◌ {A = Bool} true false = cc in let y : ◌≡◌ {A = ℕ} 0 1 = cc in absurd (omega arith)
comma_yes (spoilt n i) us e = let z : ◌≡◌ {A = ℕ} 0 1 = cc in absurd (omega arith)
comma_yes (token (star i) ts) us e = let z : ◌≡◌ {A = Bool} true false = cc in let y : ◌≡◌ {A = ℕ} 0 1 = cc in absurd (omega arith)
comma_yes (token (comma i) ts) us e = let f : ts ≡ us = cc in (i, ap (token (comma i)) f)
comma_yes (token (word i w) ts) us e = let z : ◌≡◌ {A = Bool} true false = cc in let y : ◌≡◌ {A = ℕ} 0 1 = cc in absurd (omega arith)

-- no comma was there
comma_no : (ts us : Ahead) → a_comma ts ≡ got false us → ts ≡ us
comma_no (ends n) us e = cc
comma_no (spoilt n i) us e = let z : ◌≡◌ {A = ℕ} 0 1 = cc in absurd (omega arith)
comma_no (token (star i) ts) us e = cc
comma_no (token (comma i) ts) us e = let z : ◌≡◌ {A = Bool} true false = cc in let y : ◌≡◌ {A = ℕ} 0 1 = cc in absurd (omega arith)
comma_no (token (word i w) ts) us e = cc

-- nothing is passed by looking
begins_same : (ts : Ahead) (b : Bool) (us : Ahead) → a_list_begins ts ≡ got b us → ts ≡ us
begins_same (ends n) b us e = cc
begins_same (spoilt n i) b us e = let z : ◌≡◌ {A = ℕ} 0 1 = cc in absurd (omega arith)
begins_same (token (star i) ts) b us e = cc
begins_same (token (comma i) ts) b us e = cc
begins_same (token (word i w) ts) b us e = cc

-- no pair and no comma comes next
abbrev pub Closed : Ahead → Type 0
Closed us = (a_list_begins us ≡ got false us) × (a_comma us ≡ got false us)

-- an empty list keeps the limit of a path
none : subroutes {N = Spot} [] ≤ 12
unfolding subroutes
none = omega arith

module _ (list : Listing) where
  -- what is read behind a pair and its comma
  abbrev pub after_comma : ℕ → List (Pair Spot) → Pair Spot → Bool → Ahead → Out (List (Pair Spot))
  after_comma k taken p b vs = pairs_from k list (taken ++ p ∷ []) b vs

  abbrev pub after_pair : ℕ → List (Pair Spot) → Pair Spot → Ahead → Out (List (Pair Spot))
  after_pair k taken p us = bind (a_comma us) (after_comma k taken p)

  -- at least one pair more
  abbrev Chain : List (Pair Spot) → List (Pair Spot) → Ahead → Ahead → Type 0
  Chain taken all ts us = (p : Pair Spot) × (ps : List (Pair Spot)) × (all ≡ taken ++ p ∷ ps) × Spelt (pairs (p ∷ ps)) ts us × AllStand list (p ∷ ps) × Within list all

  -- a comma leads to more pairs, and nothing else does
  chain_by : (k : ℕ) (taken all : List (Pair Spot)) (p : Pair Spot) (ts vs ws us : Ahead) (b : Bool) → Reads list taken p ts vs → Within list taken → a_comma vs ≡ got b ws → after_comma k taken p b ws ≡ got all us
      → (after_comma k taken p true ws ≡ got all us → Within list (taken ++ p ∷ []) → Chain (taken ++ p ∷ []) all ws us) → Chain taken all ts us
  chain_by k taken all p ts vs ws us true r w c e ih =
      let x = comma_yes vs ws c in
      let h = ih e (within_more list taken p r.5 w) in
      (p, h.0 ∷ h.1, h.2 ∙ append_assoc taken (p ∷ []) (h.0 ∷ h.1), (0, r.0, r.2, (r.1, vs, r.3, (x.0, ws, x.1, h.3))), (r.4, h.4), h.5)
  chain_by k taken all p ts vs ws us false r w c e ih =
      let d = pairs_end list (taken ++ p ∷ []) k ws false refl in
      let f : taken ++ p ∷ [] ≡ all = cc in
      let g : ws ≡ us = cc in
      (p, [], sym f, (0, r.0, r.2, (r.1, vs, r.3, comma_no vs ws c ∙ g)), (r.4, tt), subst (Within list) f (within_more list taken p r.5 w))

  -- pairs with commas between them
  chain_sound : (k : ℕ) (taken all : List (Pair Spot)) (ts us : Ahead) → k + length taken ≡ 33 → Within list taken → pairs_from k list taken true ts ≡ got all us → Chain taken all ts us
  unfolding pairs_from
  chain_sound zero taken all ts us n w e = let m = most_bound list in let l = w.0 in absurd (omega arith)
  chain_sound (suc k) taken all ts us n w e =
      let q = bind_got (a_pair list taken ts) (after_pair k taken) all us e in
      let r = bind_got (a_comma q.1) (after_comma k taken q.0) all us q.3 in
      let l = length_push taken q.0 in
      let m : k + length (taken ++ q.0 ∷ []) ≡ 33 = omega arith in
      chain_by k taken all q.0 ts q.1 r.1 us r.0 (pair_sound list taken ts q.0 q.1 q.2) w r.2 r.3 (λ f v. chain_sound k (taken ++ q.0 ∷ []) all r.1 us m v f)

  -- a list is empty or has a first pair
  list_by : (b : Bool) (all : List (Pair Spot)) (ts vs us : Ahead) → ts ≡ vs → pairs_from 33 list [] b vs ≡ got all us → Spelt (pairs all) ts us × Listed list all
  list_by true all ts vs us s e =
      let h = chain_sound 33 [] all vs us refl (omega arith, λ _. none) e in
      subst (λ ps. Spelt (pairs ps) ts us × Listed list ps) (sym h.2)
      (subst (λ ys. Spelt (pairs (h.0 ∷ h.1)) ys us) (sym s) h.3, (h.4, subst (Within list) h.2 h.5))
  list_by false all ts vs us s e =
      let d = pairs_end list [] 33 vs false refl in
      let f : [] ≡ all = cc in
      let g : vs ≡ us = cc in
      subst (λ ps. Spelt (pairs ps) ts us × Listed list ps) f (s ∙ g, (tt, (omega arith, λ _. none)))

  -- what is read as a list is written so, and well formed
  pub list_sound : (ts : Ahead) (all : List (Pair Spot)) (us : Ahead) → a_list list ts ≡ got all us → Spelt (pairs all) ts us × Listed list all
  unfolding a_list
  list_sound ts all us e =
      let q = bind_got (a_list_begins ts) (λ b vs. pairs_from 33 list [] b vs) all us e in
      list_by q.0 all ts q.1 us (begins_same ts q.0 q.1 q.2) q.3
