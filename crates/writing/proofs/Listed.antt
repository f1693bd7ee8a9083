-- A list of pairs that is written is read, where nothing that could go on with it follows.
use Rattle.std.proofs.Common.{◌≡◌, ℕ, zero, suc, ◌+◌, Bool, true, false, not, List, [], ◌∷◌, ◌++◌, length, codes, sym, refl, ap, ◌∙◌, subst, append_assoc, arith, length-append}
use Rattle.std.specs.Str.{bytes_eq}
use Rattle.std.proofs.lemmas.List.{length_push}
use Rattle.text.specs.Tokens.{word}
use Rattle.text.specs.Ahead.{Ahead, token}
use Rattle.text.specs.Out.{got, a_comma}
use Rattle.forms.specs.declared.lists.Listing.{Listing}
use Rattle.forms.specs.Things.{Spot, Thing, segment, point, route, zone, subroute}
use Rattle.rows.specs.Rows.{Pair}
use Rattle.naming.specs.Unknown.{thing_at}
use Rattle.steps.specs.Pairs.{a_pair, a_list_begins, pairs_from, a_list}
use Rattle.steps.proofs.Turns.{most_bound, pairs_end}
use Rattle.writing.specs.Marks.{Spelt}
use Rattle.writing.specs.Spelling.{pairs}
use Rattle.writing.specs.Words.{thing_word}
use Rattle.writing.specs.Forms.{AllStand, Within, Listed}
use Rattle.writing.proofs.Limits.{within_room}
use Rattle.writing.proofs.Pairs.{Reads, pair_is}
use Rattle.writing.proofs.Lists.{Closed, after_comma, after_pair}
use Rattle.writing.proofs.Steps.{bind_is}

-- no thing is written `then`
not_then : (th : Thing Spot) → bytes_eq (thing_word th) (codes "then") ≡ false
not_then (segment x) = refl
not_then (point x) = refl
not_then (route x) = refl
not_then (zone x) = refl
not_then (subroute a b) = refl

module _ (list : Listing) where
  -- one pair, and what its comma leads to
  one_pair : (k : ℕ) (taken : List (Pair Spot)) (p : Pair Spot) (ts vs ws us : Ahead) (b : Bool) (all : List (Pair Spot)) → Reads list taken p ts vs → a_comma vs ≡ got b ws → after_comma list k taken p b ws ≡ got all us → pairs_from (suc k) list taken true ts ≡ got all us
  unfolding pairs_from
  one_pair k taken p ts vs ws us b all r c e =
      bind_is (a_pair list taken ts) (after_pair list k taken) p vs (pair_is list taken ts p vs r)
      ∙ bind_is (a_comma vs) (after_comma list k taken p) b ws c
      ∙ e

  -- pairs with commas between them
  chain_is : (ps : List (Pair Spot)) (k : ℕ) (taken : List (Pair Spot)) (p : Pair Spot) (ts us : Ahead) → k + length taken ≡ 33 → Closed us → Spelt (pairs (p ∷ ps)) ts us → AllStand list (p ∷ ps) → Within list (taken ++ p ∷ ps) → pairs_from k list taken true ts ≡ got (taken ++ p ∷ ps) us
  chain_is ps zero taken p ts us n c s a w =
      let m = most_bound list in
      let l = w.0 in
      let e : length (taken ++ p ∷ ps) ≡ length taken + suc (length ps) = length-append taken (p ∷ ps) in
      absurd (omega arith)
  chain_is [] (suc k) taken p ts us n c s a w =
      let vs = s.3.1 in
      let g : vs ≡ us = s.3.3 in
      let r : Reads list taken p ts vs = (s.1, s.3.0, s.2, s.3.2, a.0, within_room list taken p [] w) in
      one_pair k taken p ts vs us us false (taken ++ p ∷ []) r (ap a_comma g ∙ c.1) (pairs_end list (taken ++ p ∷ []) k us false refl)
  chain_is (q ∷ qs) (suc k) taken p ts us n c s a w =
      let vs = s.3.1 in
      let m = s.3.3 in
      let r : Reads list taken p ts vs = (s.1, s.3.0, s.2, s.3.2, a.0, within_room list taken p (q ∷ qs) w) in
      let l = length_push taken p in
      let o = append_assoc taken (p ∷ []) (q ∷ qs) in
      let ih = chain_is qs k (taken ++ p ∷ []) q m.1 us (omega arith) c m.3 a.1 (subst (Within list) (sym o) w) in
      one_pair k taken p ts vs m.1 us true (taken ++ p ∷ q ∷ qs) r (ap a_comma m.2) (ih ∙ ap (λ y. got y us) o)

  -- a list that is written and well formed is read
  pub list_is : (all : List (Pair Spot)) (ts us : Ahead) → Closed us → Spelt (pairs all) ts us → Listed list all → a_list list ts ≡ got all us
  unfolding a_list
  list_is [] ts us c s l =
      bind_is (a_list_begins ts) (λ b vs. pairs_from 33 list [] b vs) false us (ap a_list_begins s ∙ c.0)
      ∙ pairs_end list [] 33 us false refl
  list_is (p ∷ ps) ts us c s l =
      bind_is (a_list_begins ts) (λ b vs. pairs_from 33 list [] b vs) true ts
      (ap a_list_begins s.2 ∙ ap (λ b. got (not b) (token (word (thing_at p.thing) (thing_word p.thing)) s.1)) (not_then p.thing) ∙ ap (got true) (sym s.2))
      ∙ chain_is ps 33 [] p ts us refl c s l.0 l.1
