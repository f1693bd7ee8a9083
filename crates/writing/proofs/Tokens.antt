-- The token at the front of a list of octets, as it is set there.
use Rattle.std.proofs.Common.{◌≡◌, ℕ, suc, ◌+◌, ◌-◌, ◌<◌, ◌≤◌, Bool, true, false, cond, eqb, List, [], ◌∷◌, length, get_or, take, drop, slice_range, Some, None, Ok, Option, Result, sym, refl, ap, ◌∙◌, add-zero, arith}
use Rattle.std.specs.List.{prefix_len}
use Rattle.std.proofs.lemmas.List.{length-drop, get_or-drop}
use Rattle.std.proofs.lemmas.Bool.{cond-true, cond-false, le-leb, lt-leb}
use Rattle.text.specs.declared.faults.WordFault.{WordFault}
use Rattle.text.specs.declared.octets.Class.TheVariants.{Inner}
use Rattle.text.specs.Octets.{inner, past}
use Rattle.text.specs.Tokens.{Item, star, comma, checked, as_item, token_at, end_at}

-- the word at the front of a list that begins at offset i
abbrev pub word_on : ℕ → List ℕ → Result (List ℕ) WordFault
word_on i v = checked i (take (prefix_len inner v) v)

-- the token at the front
abbrev pub token_on : ℕ → List ℕ → Result (Option Item) WordFault
token_on i [] = Ok None
token_on i (c ∷ cs) =
    cond (eqb c 42) (Ok (Some (star i))) (cond (eqb c 44) (Ok (Some (comma i))) (as_item i (word_on i (c ∷ cs))))

-- how long it is
abbrev pub width : List ℕ → ℕ
width [] = 0
width (c ∷ cs) = cond (eqb c 42) 1 (cond (eqb c 44) 1 (prefix_len inner (c ∷ cs)))

module _ (t : List ℕ) (i : ℕ) where
  -- the word at a place is the one at the front of what is left there
  word_is : (v : List ℕ) → drop i t ≡ v → checked i (slice_range t i (past Inner t i)) ≡ word_on i v
  word_is v e =
      let m : i + prefix_len inner v - i ≡ prefix_len inner v = omega arith in
      ap (λ y. checked i (take (i + prefix_len inner y - i) y)) e ∙ ap (λ n. checked i (take n v)) m

  -- the octet at a place is the first of what is left there
  first_is : (c : ℕ) (cs : List ℕ) → drop i t ≡ c ∷ cs → get_or t i 0 ≡ c
  first_is c cs e = sym (ap (λ n. get_or t n 0) (add-zero i)) ∙ sym (get_or-drop i t 0 0) ∙ ap (λ y. get_or y 0 0) e

  -- the token at a place is the one at the front of what is left there
  pub token_at_is : (v : List ℕ) → drop i t ≡ v → token_at t i ≡ token_on i v
  token_at_is [] e =
      let l = length-drop i t in
      let m : length (drop i t) ≡ 0 = ap length e in
      let n : length t ≤ i = omega arith in
      cond-true _ _ _ (le-leb _ _ n)
  token_at_is (c ∷ cs) e =
      let l = length-drop i t in
      let m : length (drop i t) ≡ suc (length cs) = ap length e in
      let n : i < length t = omega arith in
      cond-false _ _ _ (lt-leb _ _ n)
      ∙ ap (λ b. cond (eqb b 42) (Ok (Some (star i))) (cond (eqb b 44) (Ok (Some (comma i))) (as_item i (checked i (slice_range t i (past Inner t i)))))) (first_is c cs e)
      ∙ ap (λ r. cond (eqb c 42) (Ok (Some (star i))) (cond (eqb c 44) (Ok (Some (comma i))) (as_item i r))) (word_is (c ∷ cs) e)

  -- an end counted from a place
  width_by : (b d : Bool) (n : ℕ) → cond b (i + 1) (cond d (i + 1) (i + n)) ≡ i + cond b 1 (cond d 1 n)
  width_by true d n = refl
  width_by false true n = refl
  width_by false false n = refl

  -- the token ends as far on as it is long
  pub end_at_is : (v : List ℕ) → drop i t ≡ v → end_at t i ≡ i + width v
  end_at_is [] e =
      let l = length-drop i t in
      let m : length (drop i t) ≡ 0 = ap length e in
      let n : length t ≤ i = omega arith in
      cond-true _ _ _ (le-leb _ _ n) ∙ sym (add-zero i)
  end_at_is (c ∷ cs) e =
      let l = length-drop i t in
      let m : length (drop i t) ≡ suc (length cs) = ap length e in
      let n : i < length t = omega arith in
      cond-false _ _ _ (lt-leb _ _ n)
      ∙ ap (λ b. cond (eqb b 42) (i + 1) (cond (eqb b 44) (i + 1) (past Inner t i))) (first_is c cs e)
      ∙ ap (λ y. cond (eqb c 42) (i + 1) (cond (eqb c 44) (i + 1) (i + prefix_len inner y))) e
      ∙ width_by (eqb c 42) (eqb c 44) (prefix_len inner (c ∷ cs))
