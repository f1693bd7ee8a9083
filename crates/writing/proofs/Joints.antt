-- Two joints are found in a word exactly where it is the front, the one, `_` and the other.
use Rattle.std.proofs.Common.{◌≡◌, ℕ, ◌+◌, Bool, true, false, cond, not, ◌&&◌, ltb, leb, List, [], ◌∷◌, ◌++◌, length, take, drop, Some, None, codes, Option, sym, refl, ap, ◌∙◌, inl, inr, one-add, arith}
use Rattle.std.specs.List.{prefix_len}
use Rattle.std.specs.Str.{bytes_eq}
use Rattle.std.proofs.lemmas.List.{take-append-drop, take_at, drop_at}
use Rattle.std.proofs.lemmas.Bool.{cond-true, and_parts, and_from, or_cases, or_left, or_right}
use Rattle.text.specs.Octets.{letter, digit, plain, naming}
use Rattle.forms.specs.Words.{is_joint, after, if_joints, two_joints, then_joints, joined}
use Rattle.writing.specs.Texts.{only}
use Rattle.writing.proofs.Words.{after_sound, after_is}

-- octets that pass, one after another
pub only_append : (p : ℕ → Bool) (xs ys : List ℕ) → only p xs ≡ true → only p ys ≡ true → only p (xs ++ ys) ≡ true
only_append p [] ys e f = f
only_append p (x ∷ xs) ys e f = let q = and_parts _ _ e in and_from _ _ q.0 (only_append p xs ys q.1 f)

-- octets that pass one test pass a weaker one
pub only_implies : (p q : ℕ → Bool) → ((x : ℕ) → p x ≡ true → q x ≡ true) → (xs : List ℕ) → only p xs ≡ true → only q xs ≡ true
only_implies p q h [] e = refl
only_implies p q h (x ∷ xs) e = let r = and_parts _ _ e in and_from _ _ (h x r.0) (only_implies p q h xs r.1)

-- a joint's octets are letters and digits
pub joint_plain : (w : List ℕ) → is_joint w ≡ true → only plain w ≡ true
joint_plain w e =
    let d : Bool = not (bytes_eq w (codes "OUT")) && not (bytes_eq w (codes "END")) in
    let c : Bool = only plain w in
    let b : Bool = leb (length w) 6 in
    let f = and_parts (ltb 0 (length w)) (b && (c && d)) e in
    let g = and_parts b (c && d) f.1 in
    (and_parts c d g.1).0

-- letters and digits may stand in any name
plain_naming : (x : ℕ) → plain x ≡ true → naming x ≡ true
plain_naming x e =
    elim (or_cases (letter x) (digit x) e) [ inl l ↦ or_left _ _ l | inr d ↦ or_right (letter x) _ (or_left (digit x) _ d) ]

-- a run of such octets ends at `_`
run_ends : (a b : List ℕ) → only plain a ≡ true → prefix_len plain (a ++ 95 ∷ b) ≡ length a
run_ends [] b e = refl
run_ends (x ∷ xs) b e =
    let r = and_parts _ _ e in
    cond-true _ _ _ r.0 ∙ ap (λ n. 1 + n) (run_ends xs b r.1) ∙ one-add (length xs)

-- two names that are taken for joints are joints
if_joints_some : (a : List ℕ) (o : Option (List ℕ)) (p q : List ℕ) → if_joints a o ≡ Some (p, q) → (o ≡ Some q) × (a ≡ p) × (is_joint p ≡ true) × (is_joint q ≡ true)
if_joints_some a None p q e = let z : ◌≡◌ {A = ℕ} 0 1 = cc in absurd (omega arith)
if_joints_some a (Some b) p q e = by _ _ refl refl e
  where
    by : (c d : Bool) → is_joint a ≡ c → is_joint b ≡ d → cond {A = Option (List ℕ × List ℕ)} c (cond {A = Option (List ℕ × List ℕ)} d (Some (a, b)) None) None ≡ Some (p, q) → (Some b ≡ Some q) × (a ≡ p) × (is_joint p ≡ true) × (is_joint q ≡ true)
    by false d s t f = let z : ◌≡◌ {A = ℕ} 0 1 = cc in absurd (omega arith)
    by true false s t f = let z : ◌≡◌ {A = ℕ} 0 1 = cc in absurd (omega arith)
    by true true s t f =
        let k : ◌≡◌ {A = List ℕ × List ℕ} (a, b) (p, q) = cc in
        let g : a ≡ p = ap (λ r. r.0) k in
        let h : b ≡ q = ap (λ r. r.1) k in
        (ap Some h, g, ap is_joint (sym g) ∙ s, ap is_joint (sym h) ∙ t)

-- two joints are taken
if_joints_is : (a b : List ℕ) (o : Option (List ℕ)) → o ≡ Some b → is_joint a ≡ true → is_joint b ≡ true → if_joints a o ≡ Some (a, b)
if_joints_is a b o e s t = ap (if_joints a) e ∙ cond-true _ _ _ s ∙ cond-true _ _ _ t

-- two joints are found with `_` between them
two_sound : (x p q : List ℕ) → two_joints x ≡ Some (p, q) → (x ≡ p ++ 95 ∷ q) × (is_joint p ≡ true) × (is_joint q ≡ true)
two_sound x p q e =
    let n : ℕ = prefix_len plain x in
    let r = if_joints_some (take n x) (after (codes "_") (drop n x)) p q e in
    let g : drop n x ≡ 95 ∷ q = after_sound (codes "_") (drop n x) q r.0 in
    (sym (take-append-drop n x) ∙ ap (λ y. y ++ drop n x) r.1 ∙ ap (λ y. p ++ y) g, r.2, r.3)

-- and are found where they stand so
two_is : (a b : List ℕ) → is_joint a ≡ true → is_joint b ≡ true → two_joints (a ++ 95 ∷ b) ≡ Some (a, b)
two_is a b s t =
    let e : prefix_len plain (a ++ 95 ∷ b) ≡ length a = run_ends a b (joint_plain a s) in
    let f : after (codes "_") (drop (prefix_len plain (a ++ 95 ∷ b)) (a ++ 95 ∷ b)) ≡ Some b =
    ap (after (codes "_")) (drop_at a (95 ∷ b) _ (sym e)) ∙ after_is (codes "_") b in
    ap (λ y. if_joints y (after (codes "_") (drop (prefix_len plain (a ++ 95 ∷ b)) (a ++ 95 ∷ b)))) (take_at a (95 ∷ b) _ (sym e))
    ∙ if_joints_is a b _ f s t

-- joints are found only behind a front
then_joints_some : (o : Option (List ℕ)) (p q : List ℕ) → then_joints o ≡ Some (p, q) → (x : List ℕ) × (o ≡ Some x) × (two_joints x ≡ Some (p, q))
then_joints_some None p q e = let z : ◌≡◌ {A = ℕ} 0 1 = cc in absurd (omega arith)
then_joints_some (Some x) p q e = (x, refl, e)

-- the front, a joint, `_` and a joint
pub joined_sound : (front w p q : List ℕ) → joined front w ≡ Some (p, q) → (w ≡ front ++ (p ++ 95 ∷ q)) × (is_joint p ≡ true) × (is_joint q ≡ true)
joined_sound front w p q e =
    let r = then_joints_some (after front w) p q e in
    let s = two_sound r.0 p q r.2 in
    (after_sound front w r.0 r.1 ∙ ap (λ y. front ++ y) s.0, s.1, s.2)

-- are found where they are written
pub joined_is : (front a b : List ℕ) → is_joint a ≡ true → is_joint b ≡ true → joined front (front ++ (a ++ 95 ∷ b)) ≡ Some (a, b)
joined_is front a b s t = ap then_joints (after_is front (a ++ 95 ∷ b)) ∙ two_is a b s t

-- no word of two joints has a bracket
pub joints_clean : (a b : List ℕ) → is_joint a ≡ true → is_joint b ≡ true → only naming (a ++ 95 ∷ b) ≡ true
joints_clean a b s t =
    let f = only_implies plain naming plain_naming in
    only_append naming a (95 ∷ b) (f a (joint_plain a s)) (f b (joint_plain b t))
