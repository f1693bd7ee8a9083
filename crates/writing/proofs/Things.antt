-- A word is read as a thing exactly when it is the word that writes the thing.
use Rattle.std.proofs.Common.{◌≡◌, ℕ, true, false, eqb, List, [], ◌∷◌, ◌++◌, Some, None, codes, Option, sym, refl, ap, ◌∙◌, subst, arith}
use Rattle.std.specs.Option.{option_map, option_or}
use Rattle.std.proofs.lemmas.Bool.{eqb-false, both_ways}
use Rattle.text.specs.Octets.{naming}
use Rattle.forms.specs.Words.{is_joint, prefixed, bracketed, joined}
use Rattle.forms.specs.Things.{Spot, Thing, segment, point, route, zone, subroute, try, name_at, names_at, thing_of}
use Rattle.naming.specs.Unknown.{thing_at}
use Rattle.writing.specs.Words.{thing_word, zone_word, subroute_word, Named}
use Rattle.writing.specs.Texts.{only}
use Rattle.writing.proofs.Words.{prefixed_sound, prefixed_is, bracketed_sound, bracketed_is}
use Rattle.writing.proofs.Joints.{joined_sound, joined_is, joints_clean}

-- words that begin with different octets are not the same
apart : (a b : ℕ) (xs ys : List ℕ) → eqb a b ≡ false → a ∷ xs ≡ b ∷ ys → ⊥
apart a b xs ys n e = let f : a ≡ b = cc in eqb-false a b n f

-- so no form finds anything in a word that begins otherwise
module _ (a b : ℕ) (xs front : List ℕ) (n : eqb a b ≡ false) where
  -- a front and a name
  pub prefixed_miss : prefixed (b ∷ front) (a ∷ xs) ≡ None
  prefixed_miss = by _ refl
    where
      by : (o : Option (List ℕ)) → prefixed (b ∷ front) (a ∷ xs) ≡ o → o ≡ None
      by None e = refl
      by (Some x) e = absurd (apart a b xs (front ++ x) n (prefixed_sound (b ∷ front) (a ∷ xs) x e).0)

  -- a front, a name and a last octet
  pub bracketed_miss : (last : ℕ) → bracketed (b ∷ front) last (a ∷ xs) ≡ None
  bracketed_miss last = by _ refl
    where
      by : (o : Option (List ℕ)) → bracketed (b ∷ front) last (a ∷ xs) ≡ o → o ≡ None
      by None e = refl
      by (Some x) e = absurd (apart a b xs (front ++ (x ++ last ∷ [])) n (bracketed_sound (b ∷ front) last (a ∷ xs) x e).0)

  -- a front and two joints
  pub joined_miss : joined (b ∷ front) (a ∷ xs) ≡ None
  joined_miss = by _ refl
    where
      by : (o : Option (List ℕ × List ℕ)) → joined (b ∷ front) (a ∷ xs) ≡ o → o ≡ None
      by None e = refl
      by (Some p) e = absurd (apart a b xs (front ++ (p.0 ++ 95 ∷ p.1)) n (joined_sound (b ∷ front) (a ∷ xs) p.0 p.1 e).0)

-- a subroute's word is no zone's
pub zone_miss : (a b : List ℕ) → is_joint a ≡ true → is_joint b ≡ true → bracketed (codes "U_IR(") 41 (subroute_word a b) ≡ None
zone_miss a b s t = by _ refl
  where
    by : (o : Option (List ℕ)) → bracketed (codes "U_IR(") 41 (subroute_word a b) ≡ o → o ≡ None
    by None e = refl
    by (Some x) e =
        let f : subroute_word a b ≡ zone_word x = (bracketed_sound (codes "U_IR(") 41 (subroute_word a b) x e).0 in
        let g : a ++ 95 ∷ b ≡ 73 ∷ 82 ∷ 40 ∷ (x ++ 41 ∷ []) = cc in
        absurd (both_ways _ (ap (only naming) g) (joints_clean a b s t))

-- the thing that a word at offset i is, by what each form finds in it
abbrev thing_by : ℕ → Option (List ℕ) → Option (List ℕ) → Option (List ℕ) → Option (List ℕ) → Option (List ℕ × List ℕ) → Option (Thing Spot)
thing_by i s p r z u =
    option_or (try (name_at (i, []) s) segment (try (name_at (i, []) p) point (option_map (λ x. route x) (name_at (i, []) r))))
    (try (name_at (i, []) z) zone (option_map (λ q. subroute q.0 q.1) (names_at (i, []) u)))

-- the word writes the thing
abbrev Writes : Spot → Thing Spot → Type 0
Writes w th = (w ≡ (thing_at th, thing_word th)) × Named th

module _ (i : ℕ) (v : List ℕ) (th : Thing Spot) where
  -- of equal things
  is_thing : (x : Thing Spot) → Some x ≡ Some th → Writes (i, v) x → Writes (i, v) th
  is_thing x e w = let f : x ≡ th = cc in subst (λ y. Writes (i, v) y) f w

  -- the form that finds something says which thing it is
  thing_from : (s p r z : Option (List ℕ)) (u : Option (List ℕ × List ℕ))
      → prefixed (codes "T_") v ≡ s → prefixed (codes "P_") v ≡ p → prefixed (codes "R_") v ≡ r → bracketed (codes "U_IR(") 41 v ≡ z → joined (codes "U_") v ≡ u
      → thing_by i s p r z u ≡ Some th → Writes (i, v) th
  thing_from (Some x) p r z u a b c d e f = let h = prefixed_sound (codes "T_") v x a in is_thing (segment (i, x)) f (ap (λ y. (i, y)) h.0, h.1)
  thing_from None (Some x) r z u a b c d e f = let h = prefixed_sound (codes "P_") v x b in is_thing (point (i, x)) f (ap (λ y. (i, y)) h.0, h.1)
  thing_from None None (Some x) z u a b c d e f = let h = prefixed_sound (codes "R_") v x c in is_thing (route (i, x)) f (ap (λ y. (i, y)) h.0, h.1)
  thing_from None None None (Some x) u a b c d e f = let h = bracketed_sound (codes "U_IR(") 41 v x d in is_thing (zone (i, x)) f (ap (λ y. (i, y)) h.0, h.1)
  thing_from None None None None (Some q) a b c d e f =
      let h = joined_sound (codes "U_") v q.0 q.1 e in is_thing (subroute (i, q.0) (i, q.1)) f (ap (λ y. (i, y)) h.0, (refl, h.1, h.2))
  thing_from None None None None None a b c d e f = let z : ◌≡◌ {A = ℕ} 0 1 = cc in absurd (omega arith)

-- a word that is read as a thing is the word that writes it
pub thing_sound : (w : Spot) (th : Thing Spot) → thing_of w ≡ Some th → (w ≡ (thing_at th, thing_word th)) × Named th
thing_sound w th e = thing_from w.0 w.1 th _ _ _ _ _ refl refl refl refl refl e

-- the thing, by what each form finds
thing_found : (i : ℕ) (v : List ℕ) (s p r z : Option (List ℕ)) (u : Option (List ℕ × List ℕ))
    → prefixed (codes "T_") v ≡ s → prefixed (codes "P_") v ≡ p → prefixed (codes "R_") v ≡ r → bracketed (codes "U_IR(") 41 v ≡ z → joined (codes "U_") v ≡ u
    → thing_of (i, v) ≡ thing_by i s p r z u
thing_found i v s p r z u a b c d e = rw (← a, ← b, ← c, ← d, ← e) refl

-- the word that writes a thing is read as it
pub thing_is : (th : Thing Spot) → Named th → thing_of (thing_at th, thing_word th) ≡ Some th
thing_is (segment x) n = thing_found x.0 (thing_word (segment x)) _ _ _ _ _ (prefixed_is (codes "T_") x.1 n) refl refl refl refl
thing_is (point x) n =
    let v : List ℕ = 95 ∷ x.1 in
    thing_found x.0 (80 ∷ v) _ _ _ _ _ (prefixed_miss 80 84 v (codes "_") refl) (prefixed_is (codes "P_") x.1 n) refl refl refl
thing_is (route x) n =
    let v : List ℕ = 95 ∷ x.1 in
    thing_found x.0 (82 ∷ v) _ _ _ _ _ (prefixed_miss 82 84 v (codes "_") refl) (prefixed_miss 82 80 v (codes "_") refl) (prefixed_is (codes "R_") x.1 n) refl refl
thing_is (zone x) n =
    let v : List ℕ = codes "_IR(" ++ (x.1 ++ codes ")") in
    thing_found x.0 (85 ∷ v) _ _ _ _ _ (prefixed_miss 85 84 v (codes "_") refl) (prefixed_miss 85 80 v (codes "_") refl) (prefixed_miss 85 82 v (codes "_") refl) (bracketed_is (codes "U_IR(") 41 x.1 n) refl
thing_is (subroute a b) n =
    let v : List ℕ = 95 ∷ (a.1 ++ 95 ∷ b.1) in
    thing_found a.0 (85 ∷ v) _ _ _ _ _ (prefixed_miss 85 84 v (codes "_") refl) (prefixed_miss 85 80 v (codes "_") refl) (prefixed_miss 85 82 v (codes "_") refl) (zone_miss a.1 b.1 n.1 n.2) (joined_is (codes "U_") a.1 b.1 n.1 n.2)
    ∙ ap (λ j. Some (subroute a (j, b.1))) (sym n.0)
