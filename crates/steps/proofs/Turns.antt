-- One turn over a list of pairs.
use Rattle.std.proofs.Common.{◌≡◌, ℕ, zero, suc, ◌+◌, ◌-◌, ◌≤◌, Bool, true, false, List, [], ◌∷◌, ◌++◌, sym, refl, ap, ◌∙◌, arith}
use Rattle.text.specs.Ahead.{Ahead}
use Rattle.text.specs.Out.{Out, got, bad, bind, a_comma}
use Rattle.forms.specs.declared.lists.Listing.{Listing}
use Rattle.forms.specs.declared.lists.Listing.TheVariants.{Settings, RequestTests, Actions, ActivationTests, PointTests, ReleaseTests}
use Rattle.forms.specs.Lists.{most}
use Rattle.forms.specs.Things.{Spot}
use Rattle.rows.specs.Rows.{Pair}
use Rattle.steps.specs.Pairs.{a_list_begins, a_pair, pairs_from, a_list}

module _ (list : Listing) (taken : List (Pair Spot)) where
  -- nothing is due
  pub pairs_end : (k : ℕ) (ts : Ahead) (due : Bool) → due ≡ false → pairs_from k list taken due ts ≡ got taken ts
  unfolding pairs_from
  pairs_end zero ts due e = refl
  pairs_end (suc k) ts due e = rw e

  -- what follows a pair
  abbrev after_pair : ℕ → Pair Spot → Ahead → Out (List (Pair Spot))
  after_pair k p us = bind (a_comma us) (λ b vs. pairs_from k list (taken ++ p ∷ []) b vs)

  module _ (n : ℕ) (ts : Ahead) (due : Bool) (h : n ≤ 32) (is : due ≡ true) where
    pair_step : (o : Out (Pair Spot)) → o ≡ a_pair list taken ts → pairs_from (33 - n) list taken due ts ≡ bind o (after_pair (33 - (n + 1)))
    unfolding pairs_from
    pair_step o e =
        let f : 33 - n ≡ suc (33 - (n + 1)) = omega arith in
        ap (λ k. pairs_from k list taken due ts) f
        ∙ ap (λ d. pairs_from (suc (33 - (n + 1))) list taken d ts) is
        ∙ ap (λ s. bind s (after_pair (33 - (n + 1)))) (sym e)

    -- a pair that is none ends the list
    pub pair_bad : (m i : ℕ) → bad m i ≡ a_pair list taken ts → pairs_from (33 - n) list taken due ts ≡ bad m i
    pair_bad m i e = pair_step (bad m i) e

    -- a fault behind a pair
    pub comma_bad : (m i : ℕ) (p : Pair Spot) (us : Ahead) → got p us ≡ a_pair list taken ts → bad m i ≡ a_comma us → pairs_from (33 - n) list taken due ts ≡ bad m i
    comma_bad m i p us e f =
        pair_step (got p us) e ∙ ap (λ s. bind s (λ b vs. pairs_from (33 - (n + 1)) list (taken ++ p ∷ []) b vs)) (sym f)

    -- one pair more
    pub pair_more : (p : Pair Spot) (us : Ahead) (b : Bool) (vs : Ahead) → got p us ≡ a_pair list taken ts → got b vs ≡ a_comma us → pairs_from (33 - n) list taken due ts ≡ pairs_from (33 - (n + 1)) list (taken ++ p ∷ []) b vs
    pair_more p us b vs e f =
        pair_step (got p us) e ∙ ap (λ s. bind s (λ c ws. pairs_from (33 - (n + 1)) list (taken ++ p ∷ []) c ws)) (sym f)

pub list_begun : (list : Listing) (ts : Ahead) (b : Bool) (us : Ahead) → got b us ≡ a_list_begins ts → a_list list ts ≡ pairs_from 33 list [] b us
unfolding a_list
list_begun list ts b us e = ap (λ o. bind o (λ c vs. pairs_from 33 list [] c vs)) (sym e)

pub list_bad : (list : Listing) (ts : Ahead) (m i : ℕ) → bad m i ≡ a_list_begins ts → bad m i ≡ a_list list ts
unfolding a_list
list_bad list ts m i e = ap (λ o. bind o (λ c vs. pairs_from 33 list [] c vs)) e

-- every list has at most 32 pairs
pub most_bound : (list : Listing) → most list ≤ 32
most_bound Settings = omega arith
most_bound RequestTests = omega arith
most_bound Actions = omega arith
most_bound ActivationTests = omega arith
most_bound PointTests = omega arith
most_bound ReleaseTests = omega arith
