-- A token is found at the front of octets exactly as it is set there.
use Rattle.std.proofs.Common.{◌≡◌, ℕ, ◌+◌, ◌≤◌, Bool, true, false, cond, ◌||◌, eqb, ltb, List, [], ◌∷◌, ◌++◌, length, take, drop, Some, None, Ok, Err, Result, sym, refl, ap, ◌∙◌, subst, arith}
use Rattle.std.specs.List.{prefix_len}
use Rattle.std.proofs.lemmas.List.{take-append-drop, take_at, length-take-le}
use Rattle.std.proofs.lemmas.List.Sums.{prefix_len-le-length}
use Rattle.std.proofs.lemmas.Bool.{cond-true, cond-false, le-ltb, ltb-false, eqb-true, or_from, not_from_false, and_parts}
use Rattle.text.specs.declared.faults.WordFault.{WordFault}
use Rattle.text.specs.declared.faults.WordFault.TheVariants.{Octet, Long}
use Rattle.text.specs.Octets.{blank, allowed, inner}
use Rattle.text.specs.Tokens.{Item, star, comma, word, checked, as_item}
use Rattle.writing.specs.Texts.{only, Stops, octets_of, offset_of, Whole}
use Rattle.writing.proofs.Joints.{only_implies}
use Rattle.writing.proofs.Runs.{leading_run, leading_none, stops_after, not_octet, not_blank, allowed_inner}
use Rattle.writing.proofs.Tokens.{word_on, token_on, width}

-- the token stands at the front
abbrev pub Found : ℕ → List ℕ → Item → Type 0
Found i v x = (behind : List ℕ) × (v ≡ octets_of x ++ behind) × (offset_of x ≡ i) × Whole x behind × (width v ≡ length (octets_of x))

-- nothing is found only where nothing is
pub none_on : (i : ℕ) (v : List ℕ) → token_on i v ≡ Ok None → v ≡ []
none_on i [] e = refl
none_on i (c ∷ cs) e = absurd (by (eqb c 42) (eqb c 44) (word_on i (c ∷ cs)) e)
  where
    by : (b d : Bool) (r : Result (List ℕ) WordFault) → cond b (Ok (Some (star i))) (cond d (Ok (Some (comma i))) (as_item i r)) ≡ Ok None → ⊥
    by true d r f = let z : ◌≡◌ {A = ℕ} 0 1 = cc in omega arith
    by false true r f = let z : ◌≡◌ {A = ℕ} 0 1 = cc in omega arith
    by false false (Ok w) f = let z : ◌≡◌ {A = ℕ} 0 1 = cc in omega arith
    by false false (Err g) f = let z : ◌≡◌ {A = ℕ} 0 1 = cc in omega arith

-- a word that is found is short enough and has only octets that it may have
word_by : (i : ℕ) (v w : List ℕ) (b d : Bool) → only allowed v ≡ b → ltb 16 (length v) ≡ d → cond b (cond d (Err (Long i)) (Ok v)) (Err (Octet i)) ≡ Ok w → (only allowed w ≡ true) × (length w ≤ 16) × (v ≡ w)
word_by i v w false d s t e = let z : ◌≡◌ {A = ℕ} 0 1 = cc in absurd (omega arith)
word_by i v w true true s t e = let z : ◌≡◌ {A = ℕ} 0 1 = cc in absurd (omega arith)
word_by i v w true false s t e =
    let f : v ≡ w = cc in
    let n = ltb-false _ _ t in
    let m = ap length f in
    (ap (only allowed) (sym f) ∙ s, omega arith, f)

module _ (i c : ℕ) (cs : List ℕ) (nb : blank c ≡ false) where
  -- a word at the front
  word_found : eqb c 42 ≡ false → eqb c 44 ≡ false → (w : List ℕ) → word_on i (c ∷ cs) ≡ Ok w → Found i (c ∷ cs) (word i w)
  word_found s t w e =
      let v : List ℕ = c ∷ cs in
      let n : ℕ = prefix_len inner v in
      let q = word_by i (take n v) w _ _ refl refl e in
      let one : inner c ≡ true = not_from_false (blank c || (eqb c 42 || eqb c 44)) (or_from (blank c) (eqb c 42 || eqb c 44) nb (or_from (eqb c 42) (eqb c 44) s t)) in
      let some : prefix_len inner (c ∷ cs) ≡ 1 + prefix_len inner cs = cond-true (inner c) (1 + prefix_len inner cs) 0 one in
      let long : length (take (prefix_len inner (c ∷ cs)) (c ∷ cs)) ≡ prefix_len inner (c ∷ cs) = length-take-le n v (prefix_len-le-length inner v) in
      let same : length (take (prefix_len inner (c ∷ cs)) (c ∷ cs)) ≡ length w = ap length q.2 in
      let few = q.1 in
      let wide : width v ≡ n = cond-false (eqb c 42) 1 (cond (eqb c 44) 1 n) s ∙ cond-false (eqb c 44) 1 n t in
      (drop n v, sym (take-append-drop n v) ∙ ap (λ y. y ++ drop n v) q.2, refl, (omega arith, omega arith, q.0, stops_after inner v), wide ∙ sym long ∙ same)

  -- what is neither star nor comma is a word
  item_found : eqb c 42 ≡ false → eqb c 44 ≡ false → (x : Item) (r : Result (List ℕ) WordFault) → word_on i (c ∷ cs) ≡ r → as_item i r ≡ Ok (Some x) → Found i (c ∷ cs) x
  item_found s t x (Err g) e f = let z : ◌≡◌ {A = ℕ} 0 1 = cc in absurd (omega arith)
  item_found s t x (Ok w) e f = let g : word i w ≡ x = cc in subst (Found i (c ∷ cs)) g (word_found s t w e)

  -- a star, a comma or a word
  first_found : (x : Item) (b d : Bool) → eqb c 42 ≡ b → eqb c 44 ≡ d → cond b (Ok (Some (star i))) (cond d (Ok (Some (comma i))) (as_item i (word_on i (c ∷ cs)))) ≡ Ok (Some x) → Found i (c ∷ cs) x
  first_found x true d s t e =
      let g : star i ≡ x = cc in
      subst (Found i (c ∷ cs)) g (cs, ap (λ y. y ∷ cs) (eqb-true c 42 s), refl, tt, cond-true (eqb c 42) 1 (cond (eqb c 44) 1 (prefix_len inner (c ∷ cs))) s)
  first_found x false true s t e =
      let g : comma i ≡ x = cc in
      subst (Found i (c ∷ cs)) g
      (cs, ap (λ y. y ∷ cs) (eqb-true c 44 t), refl, tt, cond-false (eqb c 42) 1 (cond (eqb c 44) 1 (prefix_len inner (c ∷ cs))) s ∙ cond-true (eqb c 44) 1 (prefix_len inner (c ∷ cs)) t)
  first_found x false false s t e = item_found s t x (word_on i (c ∷ cs)) refl e

-- what is found at the front is set there
pub found : (i : ℕ) (v : List ℕ) (x : Item) → Stops blank v → token_on i v ≡ Ok (Some x) → Found i v x
found i [] x n e = let z : ◌≡◌ {A = ℕ} 0 1 = cc in absurd (omega arith)
found i (c ∷ cs) x n e = first_found i c cs n x _ _ refl refl e

-- what is set at the front is found there, and is no blank
abbrev pub Seen : Item → List ℕ → Type 0
Seen x v = (token_on (offset_of x) v ≡ Ok (Some x)) × (width v ≡ length (octets_of x)) × Stops blank v

-- a word that is set at the front
word_seen : (i c : ℕ) (cs behind : List ℕ) → Whole (word i (c ∷ cs)) behind → Seen (word i (c ∷ cs)) (c ∷ (cs ++ behind))
word_seen i c cs behind h =
    let w : List ℕ = c ∷ cs in
    let v : List ℕ = c ∷ (cs ++ behind) in
    let a : allowed c ≡ true = (and_parts (allowed c) (only allowed cs) h.2).0 in
    let s : eqb c 42 ≡ false = not_octet c 42 a refl in
    let t : eqb c 44 ≡ false = not_octet c 44 a refl in
    let run : prefix_len inner (c ∷ (cs ++ behind)) ≡ length (c ∷ cs) + prefix_len inner behind = leading_run inner w behind (only_implies allowed inner allowed_inner w h.2) in
    let none : prefix_len inner behind ≡ 0 = leading_none inner behind h.3 in
    let n : prefix_len inner (c ∷ (cs ++ behind)) ≡ length (c ∷ cs) = omega arith in
    let is : word_on i v ≡ Ok w =
    ap (checked i) (take_at w behind (prefix_len inner v) (sym n))
    ∙ cond-true (only allowed w) (cond (ltb 16 (length w)) (Err (Long i)) (Ok w)) (Err (Octet i)) h.2
    ∙ cond-false (ltb 16 (length w)) (Err (Long i)) (Ok w) (le-ltb _ _ h.1) in (
      cond-false (eqb c 42) (Ok (Some (star i))) (cond (eqb c 44) (Ok (Some (comma i))) (as_item i (word_on i v))) s
          ∙ cond-false (eqb c 44) (Ok (Some (comma i))) (as_item i (word_on i v)) t
          ∙ ap (as_item i) is,
      cond-false (eqb c 42) 1 (cond (eqb c 44) 1 (prefix_len inner v)) s ∙ cond-false (eqb c 44) 1 (prefix_len inner v) t ∙ n,
      not_blank c a,
    )

-- a star, a comma or a word that is set at the front
pub seen : (x : Item) (behind : List ℕ) → Whole x behind → Seen x (octets_of x ++ behind)
seen (star i) behind h = (refl, refl, refl)
seen (comma i) behind h = (refl, refl, refl)
seen (word i []) behind h = absurd (omega (arith, h.0))
seen (word i (c ∷ cs)) behind h = word_seen i c cs behind h
