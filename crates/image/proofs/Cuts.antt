-- The parts of an image: what stands before them, and where each begins.
use Rattle.std.proofs.Common.{◌≡◌, ℕ, ◌+◌, ◌/◌, ◌%◌, true, false, eqb, ltb, List, [], ◌∷◌, ◌++◌, length, get_or, drop, Some, None, Option, refl, ap, ◌∙◌, arith}
use Rattle.std.proofs.lemmas.Bool.{and_parts, and_from, eq-eqb, eqb-true}
use Rattle.std.specs.Option.{option_map_or}
use Rattle.std.proofs.lemmas.Option.{option_and_then_some}
use Rattle.octets.proofs.Records.{guarded}
use Rattle.octets.specs.Frames.{framed, head, rest}
use Rattle.image.specs.Image.{then}
use Rattle.image.specs.Tracks.{framing}

-- what comes of a value comes of one that is there
pub given : {A B : Type 0} (o : Option A) (f : A → Option B) (y : B) → then o f ≡ Some y → (x : A) × (o ≡ Some x) × (f x ≡ Some y)
given o f y e = option_and_then_some f o y e (λ x is by. (x, is, by))

pub rest_is : (p s n : ℕ) → rest p s ≡ Some n → n ≡ p + s + 64
rest_is p s n e = let g = (guarded (ltb (p + s + 64) 65536) (Some (p + s + 64)) n e).1 in grind arith

pub record Framed (n : ℕ) (xs : List ℕ) : Type 0 where
  pub long : length xs ≡ 3 + n
  pub version : get_or xs 0 0 ≡ 1
  pub high : get_or xs 1 0 ≡ n / 256
  pub low : get_or xs 2 0 ≡ n % 256

pub frame : (n : ℕ) (xs : List ℕ) → framed n xs ≡ true → Framed n xs
frame n xs e =
    let a = and_parts (eqb (length xs) (3 + n)) _ e in
    let b = and_parts (eqb (get_or xs 0 0) 1) _ a.1 in
    let c = and_parts (eqb (get_or xs 1 0) (n / 256)) (eqb (get_or xs 2 0) (n % 256)) b.1 in
    record { long = eqb-true _ _ a.0; version = eqb-true _ _ b.0; high = eqb-true _ _ c.0; low = eqb-true _ _ c.1 }

-- an image begins with its head
pub begins : (n : ℕ) (xs : List ℕ) → Framed n xs → xs ≡ head n ++ drop 3 xs
begins n [] f = absurd (omega (arith, f.long))
begins n (a ∷ []) f = absurd (omega (arith, f.long))
begins n (a ∷ b ∷ []) f = absurd (omega (arith, f.long))
begins n (a ∷ b ∷ c ∷ xs) f =
    ap (λ x. x ∷ b ∷ c ∷ xs) f.version ∙ ap (λ x. 1 ∷ x ∷ c ∷ xs) f.high ∙ ap (λ x. 1 ∷ n / 256 ∷ x ∷ xs) f.low

-- what begins so, with as many octets as it says, is framed
pub is_framed : (n : ℕ) (ys : List ℕ) → length ys ≡ n → framed n (head n ++ ys) ≡ true
is_framed n ys e =
    and_from (eqb (length (head n ++ ys)) (3 + n)) _ (eq-eqb _ _ (omega (arith, e)))
    (and_from _ _ refl (and_from _ _ (eq-eqb (n / 256) (n / 256) refl) (eq-eqb (n % 256) (n % 256) refl)))

-- octets of which two can say how many follow, and that begin so
pub framing_is : (p s : ℕ) (xs : List ℕ) → framing p s xs ≡ true → (n : ℕ) × (rest p s ≡ Some n) × (framed n xs ≡ true)
framing_is p s xs e = said (rest p s) e
  where
    said : (o : Option ℕ) → option_map_or (λ n. framed n xs) o false ≡ true → (n : ℕ) × (o ≡ Some n) × (framed n xs ≡ true)
    said None e = absurd (grind arith)
    said (Some n) e = (n, refl, e)
