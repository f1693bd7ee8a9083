-- The tokens ahead are the next one and those after it.
use Rattle.std.proofs.Common.{◌≡◌, ℕ, zero, suc, ◌-◌, ◌≤◌, List, length, Some, None, Ok, Err, Option, Result, sym, refl, ap, ◌∙◌, arith}
use Rattle.text.specs.declared.faults.WordFault.{WordFault}
use Rattle.text.specs.Tokens.{Item, next_token, next_place}
use Rattle.text.specs.Ahead.{Ahead, follow, tokens_within, tokens_from}
use Rattle.text.proofs.Grows.{grows, none_past}

module _ (t : List ℕ) where
  -- what comes after a token matters only where there is one
  same_rest : (o : Result (Option Item) WordFault) (n : ℕ) (p q : Ahead) → ((x : Item) → o ≡ Ok (Some x) → p ≡ q) → follow o n p ≡ follow o n q
  same_rest (Ok None) n p q h = refl
  same_rest (Ok (Some x)) n p q h = ap (follow (Ok (Some x)) n) (h x refl)
  same_rest (Err e) n p q h = refl

  -- more turns than octets change nothing
  enough : (m n p : ℕ) → length t - p ≤ m → length t - p ≤ n → tokens_within m t p ≡ tokens_within n t p
  unfolding tokens_within
  enough zero zero p a b = refl
  enough zero (suc n) p a b = ap (λ o. follow o (length t) (tokens_within n t (next_place t p))) (sym (none_past t p (omega arith)))
  enough (suc m) zero p a b = ap (λ o. follow o (length t) (tokens_within m t (next_place t p))) (none_past t p (omega arith))
  enough (suc m) (suc n) p a b =
      same_rest (next_token t p) (length t) _ _ (λ x e. let g = grows t p x e in enough m n (next_place t p) (omega arith) (omega arith))

  pub tokens_step : (p : ℕ) → tokens_from t p ≡ follow (next_token t p) (length t) (tokens_from t (next_place t p))
  unfolding tokens_within tokens_from
  tokens_step p =
      enough (length t - p) (suc (length t - p)) p (omega arith) (omega arith)
      ∙ same_rest (next_token t p) (length t) _ _ (λ x e. let g = grows t p x e in enough (length t - p) (length t - next_place t p) (next_place t p) (omega arith) (omega arith))
