-- Runs of octets that pass a test, and where they stop.
use Rattle.std.proofs.Common.{◌≡◌, ℕ, zero, suc, ◌+◌, ◌≤◌, Bool, true, false, cond, ◌||◌, eqb, List, [], ◌∷◌, ◌++◌, length, take, drop, sym, refl, ap, ◌∙◌, subst, arith}
use Rattle.std.specs.List.{prefix_len}
use Rattle.std.proofs.lemmas.Bool.{cond-true, cond-false, and_parts, and_from, or_from, not_from_false, eqb-true, both_ways}
use Rattle.text.specs.Octets.{blank, allowed, inner}
use Rattle.writing.specs.Texts.{only, Stops}

-- a run in front lengthens what follows it
pub leading_run : (p : ℕ → Bool) (xs ys : List ℕ) → only p xs ≡ true → prefix_len p (xs ++ ys) ≡ length xs + prefix_len p ys
leading_run p [] ys e = omega arith
leading_run p (x ∷ xs) ys e =
    let r = and_parts (p x) (only p xs) e in
    let f = leading_run p xs ys r.1 in
    let g : prefix_len p (x ∷ (xs ++ ys)) ≡ 1 + prefix_len p (xs ++ ys) = cond-true (p x) (1 + prefix_len p (xs ++ ys)) 0 r.0 in
    omega arith

-- there is no run where the first octet does not pass
pub leading_none : (p : ℕ → Bool) (xs : List ℕ) → Stops p xs → prefix_len p xs ≡ 0
leading_none p [] s = refl
leading_none p (x ∷ xs) s = cond-false (p x) (1 + prefix_len p xs) 0 s

-- one octet more of a run
only_by : (p : ℕ → Bool) (x : ℕ) (xs : List ℕ) (n : ℕ) (b : Bool) → p x ≡ b → suc n ≤ cond b (1 + prefix_len p xs) 0 → (n ≤ prefix_len p xs → only p (take n xs) ≡ true) → only p (x ∷ take n xs) ≡ true
only_by p x xs n false s l ih = absurd (omega arith)
only_by p x xs n true s l ih = and_from (p x) (only p (take n xs)) s (ih (omega arith))

-- the octets of a run pass
pub only_take : (p : ℕ → Bool) (n : ℕ) (xs : List ℕ) → n ≤ prefix_len p xs → only p (take n xs) ≡ true
only_take p zero xs l = refl
only_take p (suc n) [] l = refl
only_take p (suc n) (x ∷ xs) l = only_by p x xs n _ refl l (only_take p n xs)

-- a run stops where it stops one octet on
stops_by : (p : ℕ → Bool) (x : ℕ) (xs : List ℕ) (b : Bool) → p x ≡ b → Stops p (drop (prefix_len p xs) xs) → Stops p (drop (cond b (1 + prefix_len p xs) 0) (x ∷ xs))
stops_by p x xs false s h = s
stops_by p x xs true s h =
    let e : 1 + prefix_len p xs ≡ suc (prefix_len p xs) = omega arith in
    subst (λ n. Stops p (drop n (x ∷ xs))) (sym e) h

-- behind a run is an octet that does not pass, or nothing
pub stops_after : (p : ℕ → Bool) (xs : List ℕ) → Stops p (drop (prefix_len p xs) xs)
stops_after p [] = tt
stops_after p (x ∷ xs) = stops_by p x xs _ refl (stops_after p xs)

-- an octet that a word may have is another than one that it may not have
pub not_octet : (c k : ℕ) → allowed c ≡ true → allowed k ≡ false → eqb c k ≡ false
not_octet c k a n = by _ refl
  where
    by : (b : Bool) → eqb c k ≡ b → b ≡ false
    by false e = refl
    by true e = let f : c ≡ k = eqb-true c k e in absurd (both_ways (allowed c) (ap allowed f ∙ n) a)

-- no word has a blank
pub not_blank : (c : ℕ) → allowed c ≡ true → blank c ≡ false
not_blank c a =
    or_from (eqb c 10) (eqb c 13 || eqb c 32) (not_octet c 10 a refl)
    (or_from (eqb c 13) (eqb c 32) (not_octet c 13 a refl) (not_octet c 32 a refl))

-- nor a star or a comma
pub allowed_inner : (c : ℕ) → allowed c ≡ true → inner c ≡ true
allowed_inner c a =
    not_from_false (blank c || (eqb c 42 || eqb c 44))
    (or_from (blank c) (eqb c 42 || eqb c 44) (not_blank c a) (or_from (eqb c 42) (eqb c 44) (not_octet c 42 a refl) (not_octet c 44 a refl)))
