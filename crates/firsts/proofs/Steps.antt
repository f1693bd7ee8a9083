-- One step of a search over numbers.
use Rattle.std.proofs.Common.{◌≡◌, ℕ, suc, ◌+◌, ◌-◌, ◌<◌, ◌≤◌, Some, None, Option, sym, refl, ap, ◌∙◌, add-one, arith}
use Rattle.firsts.specs.Search.{or_else, first_from}

module _ {X : Type 0} (f : ℕ → Option X) where
  from_step : (k m : ℕ) → first_from f k (suc m) ≡ or_else (f k) (first_from f (suc k) m)
  unfolding first_from
  from_step k m = refl

  from_none : (k : ℕ) → first_from f k 0 ≡ None
  unfolding first_from
  from_none k = refl

  -- the step of a loop over i below n
  from_more : (i n : ℕ) → i < n → first_from f i (n - i) ≡ or_else (f i) (first_from f (i + 1) (n - (i + 1)))
  from_more i n h =
      let e : n - i ≡ suc (n - (i + 1)) = omega arith in
      ap (first_from f i) e ∙ from_step i (n - (i + 1)) ∙ ap (λ k. or_else (f i) (first_from f k (n - (i + 1)))) (sym (add-one i))

  pub from_hit : (i n : ℕ) (x : X) → i < n → f i ≡ Some x → first_from f i (n - i) ≡ Some x
  from_hit i n x h e = from_more i n h ∙ ap (λ o. or_else o (first_from f (i + 1) (n - (i + 1)))) e

  pub from_miss : (i n : ℕ) → i < n → f i ≡ None → first_from f i (n - i) ≡ first_from f (i + 1) (n - (i + 1))
  from_miss i n h e = from_more i n h ∙ ap (λ o. or_else o (first_from f (i + 1) (n - (i + 1)))) e

  pub from_done : (i n : ℕ) → n ≤ i → first_from f i (n - i) ≡ None
  from_done i n h = let e : n - i ≡ 0 = omega arith in ap (first_from f i) e ∙ from_none i
