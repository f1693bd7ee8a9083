-- What a search for the lowest answer finds.
use Rattle.std.proofs.Common.{◌≡◌, ℕ, zero, suc, ◌+◌, ◌<◌, ◌≤◌, min, ◌⊎◌, [], ◌∷◌, ◌++◌, Some, None, Option, fold, map-id, sym, refl, ap, ◌∙◌, subst, inl, inr, ⊎_elim, add-one, arith}
use Rattle.std.proofs.lemmas.Bool.{cases_lt, cases_order}
use Rattle.std.specs.List.{range_with_len}
use Rattle.std.proofs.lemmas.List.FromFn.{map-range_with_len_more}
use Rattle.std.proofs.lemmas.List.Sums.{fold-append}
use Rattle.firsts.specs.Least.{lower, least_below, LowestAt, Lowest}

pub least_none : (f : ℕ → Option ℕ) → least_below f 0 ≡ None
unfolding least_below
least_none f = refl

pub least_more : (f : ℕ → Option ℕ) (i : ℕ) → least_below f (i + 1) ≡ lower (least_below f i) (f i)
unfolding least_below
least_more f i = ap (least_below f) (add-one i)

-- the same answers have the same lowest
pub least_same : (f g : ℕ → Option ℕ) → ((k : ℕ) → f k ≡ g k) → (n : ℕ) → least_below f n ≡ least_below g n
unfolding least_below
least_same f g e zero = refl
least_same f g e (suc n) = ap (λ o. lower o (f n)) (least_same f g e n) ∙ ap (lower (least_below g n)) (e n)

at_or_below : (k n : ℕ) → k < suc n → (k ≡ n) ⊎ (k < n)
at_or_below k n h = ⊎_elim (λ e. inl e) (λ o. inr (⊎_elim (λ l. l) (λ m. absurd (omega arith)) o)) (cases_order k n)

step : (f : ℕ → Option ℕ) (n : ℕ) (r o : Option ℕ) → f n ≡ o → Lowest f n r → Lowest f (suc n) (lower r o)
step f n None None e h = λ k l. ⊎_elim (λ s. ap f s ∙ e) (λ m. h k m) (at_or_below k n l)
step f n None (Some b) e h =
    record {
      place = n;
      within = omega arith;
      answer = e;
      lowest = λ k l y a.
          ⊎_elim
          (λ s. let q : Some b ≡ Some y = sym e ∙ sym (ap f s) ∙ a in let p : b ≡ y = cc in omega arith)
          (λ m. let q : None ≡ Some y = sym (h k m) ∙ a in let z : ◌≡◌ {A = ℕ} 0 1 = cc in absurd (omega arith))
          (at_or_below k n l);
    }
step f n (Some x) None e h =
    record {
      place = h.place;
      within = omega (arith, h.within);
      answer = h.answer;
      lowest = λ k l y a.
          ⊎_elim
          (λ s. let q : None ≡ Some y = sym e ∙ sym (ap f s) ∙ a in let z : ◌≡◌ {A = ℕ} 0 1 = cc in absurd (omega arith))
          (λ m. h.lowest k m y a)
          (at_or_below k n l);
    }
step f n (Some x) (Some b) e h =
    ⊎_elim
    (λ (l : x < b). let m : min x b ≡ x = omega arith in
    subst (LowestAt f (suc n)) (sym m) (record {
      place = h.place;
      within = omega (arith, h.within);
      answer = h.answer;
      lowest = λ k w y a.
          ⊎_elim
          (λ s. let q : Some b ≡ Some y = sym e ∙ sym (ap f s) ∙ a in let p : b ≡ y = cc in omega arith)
          (λ v. h.lowest k v y a)
          (at_or_below k n w);
    }))
    (λ (l : b ≤ x). let m : min x b ≡ b = omega arith in
    subst (LowestAt f (suc n)) (sym m) (record {
      place = n;
      within = omega arith;
      answer = e;
      lowest = λ k w y a.
          ⊎_elim
          (λ s. let q : Some b ≡ Some y = sym e ∙ sym (ap f s) ∙ a in let p : b ≡ y = cc in omega arith)
          (λ v. let q = h.lowest k v y a in omega arith)
          (at_or_below k n w);
    }))
    (cases_lt x b)

-- what a search finds is the lowest answer
pub lowest_is : (f : ℕ → Option ℕ) (n : ℕ) → Lowest f n (least_below f n)
unfolding least_below
lowest_is f zero = λ k l. absurd (omega arith)
lowest_is f (suc n) = step f n (least_below f n) (f n) refl (lowest_is f n)

one_more : (n : ℕ) → range_with_len 0 (suc n) ≡ range_with_len 0 n ++ n ∷ []
one_more n =
    ap (range_with_len 0) (sym (add-one n)) ∙ sym (map-id (range_with_len 0 (n + 1))) ∙ map-range_with_len_more (λ k. k) 0 n n (omega arith) ∙ ap (λ xs. xs ++ n ∷ []) (map-id (range_with_len 0 n))

-- the lower of the answers, taken one after another at the places below n, is the lowest
pub least_folded : (f : ℕ → Option ℕ) (n : ℕ) → fold (λ o i. lower o (f i)) None (range_with_len 0 n) ≡ least_below f n
unfolding least_below
least_folded f zero = refl
least_folded f (suc n) =
    ap (fold (λ o i. lower o (f i)) None) (one_more n)
    ∙ fold-append (λ o i. lower o (f i)) None (range_with_len 0 n) (n ∷ [])
    ∙ ap (λ r. lower r (f n)) (least_folded f n)
