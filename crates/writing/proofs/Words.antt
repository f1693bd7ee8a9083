-- A form finds a name in a word exactly where the word is the front, the name and the end.
use Rattle.std.proofs.Common.{◌≡◌, ℕ, ◌+◌, ◌-◌, ◌<◌, Bool, true, false, cond, eqb, ltb, List, [], ◌∷◌, ◌++◌, length, get_or, take, drop, Some, None, Option, sym, refl, ap, ◌∙◌, append_assoc, arith}
use Rattle.std.specs.Str.{bytes_eq}
use Rattle.std.proofs.lemmas.Slice.Eq.{bytes_eq-Decides}
use Rattle.std.proofs.lemmas.List.{take-append-drop, take_at, drop_at, take_more, take_all, length_push, get_or_push}
use Rattle.std.proofs.lemmas.Bool.{cond-true, lt-ltb, ltb-true, eqb-true, eq-eqb}
use Rattle.forms.specs.Words.{is_name, after, before, when, then_after, prefixed, bracketed}

-- what follows a front, with the front before it, is the word
pub after_sound : (front w x : List ℕ) → after front w ≡ Some x → w ≡ front ++ x
after_sound front w x e = by _ refl e
  where
    by : (c : Bool) → bytes_eq (take (length front) w) front ≡ c → cond c (Some (drop (length front) w)) None ≡ Some x → w ≡ front ++ x
    by false s f = let z : ◌≡◌ {A = ℕ} 0 1 = cc in absurd (omega arith)
    by true s f =
        let g : take (length front) w ≡ front = (bytes_eq-Decides _ _).0 s in
        let h : drop (length front) w ≡ x = cc in
        sym (take-append-drop (length front) w) ∙ ap (λ y. y ++ drop (length front) w) g ∙ ap (λ y. front ++ y) h

-- a front is found
pub after_is : (front x : List ℕ) → after front (front ++ x) ≡ Some x
after_is front x =
    let same : bytes_eq (take (length front) (front ++ x)) front ≡ true = (bytes_eq-Decides _ _).1 (take_at front x _ refl) in
    cond-true _ _ _ same ∙ ap Some (drop_at front x _ refl)

-- what comes before a last octet, with the octet behind it, is the word
pub before_sound : (last : ℕ) (w x : List ℕ) → before last w ≡ Some x → w ≡ x ++ last ∷ []
before_sound last w x e = by _ _ refl refl e
  where
    by : (b c : Bool) → ltb 0 (length w) ≡ b → eqb (get_or w (length w - 1) 0) last ≡ c → cond b (cond c (Some (take (length w - 1) w)) None) None ≡ Some x → w ≡ x ++ last ∷ []
    by false c n s f = let z : ◌≡◌ {A = ℕ} 0 1 = cc in absurd (omega arith)
    by true false n s f = let z : ◌≡◌ {A = ℕ} 0 1 = cc in absurd (omega arith)
    by true true n s f =
        let l : 0 < length w = ltb-true _ _ n in
        let g : get_or w (length w - 1) 0 ≡ last = eqb-true _ _ s in
        let h : take (length w - 1) w ≡ x = cc in
        sym (take_all (length w - 1 + 1) w (omega arith))
        ∙ take_more w (length w - 1) 0 (omega arith)
        ∙ ap (λ y. y ++ get_or w (length w - 1) 0 ∷ []) h
        ∙ ap (λ y. x ++ y ∷ []) g

-- a last octet is found
pub before_is : (last : ℕ) (x : List ℕ) → before last (x ++ last ∷ []) ≡ Some x
before_is last x =
    let l = length_push x last in
    let e : length x ≡ length (x ++ last ∷ []) - 1 = omega arith in
    let m : 0 < length (x ++ last ∷ []) = omega arith in
    cond-true _ _ _ (lt-ltb _ _ m)
    ∙ cond-true _ _ _ (eq-eqb _ _ (get_or_push x last 0 _ e))
    ∙ ap Some (take_at x (last ∷ []) _ e)

-- a test lets through only what passes it
when_some : (test : List ℕ → Bool) (o : Option (List ℕ)) (x : List ℕ) → when test o ≡ Some x → (o ≡ Some x) × (test x ≡ true)
when_some test None x e = let z : ◌≡◌ {A = ℕ} 0 1 = cc in absurd (omega arith)
when_some test (Some y) x e = by _ refl e
  where
    by : (b : Bool) → test y ≡ b → cond b (Some y) None ≡ Some x → (Some y ≡ Some x) × (test x ≡ true)
    by false s f = let z : ◌≡◌ {A = ℕ} 0 1 = cc in absurd (omega arith)
    by true s f = let g : y ≡ x = cc in (f, ap test (sym g) ∙ s)

-- what passes is let through
when_is : (test : List ℕ → Bool) (o : Option (List ℕ)) (x : List ℕ) → o ≡ Some x → test x ≡ true → when test o ≡ Some x
when_is test o x e t = ap (when test) e ∙ cond-true _ _ _ t

-- a front is found only in what there is
then_after_some : (front : List ℕ) (o : Option (List ℕ)) (x : List ℕ) → then_after front o ≡ Some x → (y : List ℕ) × (o ≡ Some y) × (after front y ≡ Some x)
then_after_some front None x e = let z : ◌≡◌ {A = ℕ} 0 1 = cc in absurd (omega arith)
then_after_some front (Some y) x e = (y, refl, e)

-- a front and a name
pub prefixed_sound : (front w x : List ℕ) → prefixed front w ≡ Some x → (w ≡ front ++ x) × (is_name x ≡ true)
prefixed_sound front w x e = let p = when_some is_name (after front w) x e in (after_sound front w x p.0, p.1)

-- a name is found behind its front
pub prefixed_is : (front x : List ℕ) → is_name x ≡ true → prefixed front (front ++ x) ≡ Some x
prefixed_is front x t = when_is is_name (after front (front ++ x)) x (after_is front x) t

-- a front, a name and a last octet
pub bracketed_sound : (front : List ℕ) (last : ℕ) (w x : List ℕ) → bracketed front last w ≡ Some x → (w ≡ front ++ (x ++ last ∷ [])) × (is_name x ≡ true)
bracketed_sound front last w x e =
    let p = when_some is_name (then_after front (before last w)) x e in
    let q = then_after_some front (before last w) x p.0 in
    let f = before_sound last w q.0 q.1 in
    let g = after_sound front q.0 x q.2 in
    (f ∙ ap (λ y. y ++ last ∷ []) g ∙ simp append_assoc, p.1)

-- a name is found between them
pub bracketed_is : (front : List ℕ) (last : ℕ) (x : List ℕ) → is_name x ≡ true → bracketed front last (front ++ (x ++ last ∷ [])) ≡ Some x
bracketed_is front last x t =
    let f : before last (front ++ (x ++ last ∷ [])) ≡ Some (front ++ x) = ap (before last) (sym (append_assoc front x (last ∷ []))) ∙ before_is last (front ++ x) in
    when_is is_name (then_after front (before last (front ++ (x ++ last ∷ [])))) x (ap (then_after front) f ∙ after_is front x) t
