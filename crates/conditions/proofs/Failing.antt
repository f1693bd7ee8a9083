-- What the place of the first test that fails tells.
use Rattle.std.proofs.Common.{◌≡◌, ℕ, ◌+◌, ◌<◌, ◌≤◌, Bool, true, false, cond, not, List, length, Some, None, Option, sym, refl, subst, add-one, arith, nat_lt}
use Rattle.std.specs.List.{position_or_len}
use Rattle.std.specs.Option.{option_map}
use Rattle.std.proofs.lemmas.Bool.{ltb-true, ltb-false, not-true, not-false}
use Rattle.std.proofs.lemmas.List.Sums.{fails_before_first, passes_at_first}
use Rattle.conditions.specs.Firsts.{FirstFails, first_fails}

module _ {X : Type 0} (holds : X → Bool) (xs : List X) where
  abbrev broken : X → Bool
  broken x = not (holds x)

  abbrev place : ℕ
  place = position_or_len broken xs

  told : (b : Bool) → nat_lt place (length xs) ≡ b → FirstFails holds xs (option_map (λ i. i + 1) (cond b (Some place) None))
  told true e =
      let l : place < length xs = ltb-true _ _ e in
      record {
        before = place;
        place = add-one place;
        within = l;
        fails = λ d. not-true _ (passes_at_first broken xs d l);
        hold = λ d i b. not-false _ (fails_before_first broken xs i d b);
      }
  told false e = λ x h. subst (λ y. holds y ≡ true) h.2 (not-false _ (fails_before_first broken xs h.0 x (let l : length xs ≤ place = ltb-false _ _ e in omega (arith, h.1))))

  -- the first test that fails is found
  pub first_failing : (r : Option ℕ) → r ≡ first_fails holds xs → FirstFails holds xs r
  first_failing r e = subst (FirstFails holds xs) (sym e) (told _ refl)
