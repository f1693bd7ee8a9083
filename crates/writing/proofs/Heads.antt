-- A word is read as the head of a row exactly when it is the word that writes the head.
use Rattle.std.proofs.Common.{◌≡◌, ℕ, Bool, true, false, cond, List, [], ◌∷◌, ◌++◌, Some, None, codes, Option, sym, refl, ap, ◌∙◌, subst, arith}
use Rattle.std.specs.Option.{option_map, option_or}
use Rattle.std.specs.Str.{bytes_eq}
use Rattle.std.proofs.lemmas.Slice.Eq.{bytes_eq-Decides}
use Rattle.std.proofs.lemmas.List.{same_from_push}
use Rattle.station.specs.declared.tests.Position.{Position}
use Rattle.station.specs.declared.tests.Position.TheVariants.{Normal, Reverse}
use Rattle.forms.specs.Words.{bracketed, joined}
use Rattle.forms.specs.Things.{Spot, try, name_at, names_at}
use Rattle.forms.specs.Heads.{Head, a_segment, a_joint, a_point, a_way, a_signal, the_data, a_request, an_activation, a_point_row, a_release, a_zone, layout_head, head}
use Rattle.writing.specs.Words.{head_word, Heads}
use Rattle.writing.proofs.Words.{bracketed_sound, bracketed_is}
use Rattle.writing.proofs.Joints.{joined_sound, joined_is}
use Rattle.writing.proofs.Things.{bracketed_miss, joined_miss, zone_miss}

-- a row's N row is not its R row
side_miss : (x : List ℕ) → bracketed (codes "P_") 78 (80 ∷ 95 ∷ (x ++ 82 ∷ [])) ≡ None
side_miss x = by _ refl
  where
    by : (o : Option (List ℕ)) → bracketed (codes "P_") 78 (80 ∷ 95 ∷ (x ++ 82 ∷ [])) ≡ o → o ≡ None
    by None e = refl
    by (Some y) e =
        let f : 80 ∷ 95 ∷ (x ++ 82 ∷ []) ≡ 80 ∷ 95 ∷ (y ++ 78 ∷ []) = (bracketed_sound (codes "P_") 78 (80 ∷ 95 ∷ (x ++ 82 ∷ [])) y e).0 in
        let g : x ++ 82 ∷ [] ≡ y ++ 78 ∷ [] = cc in
        let h : ◌≡◌ {A = ℕ} 82 78 = (same_from_push x y 82 78 g).1 in
        absurd (omega arith)

-- the head that a word at offset i is, by what each form finds in it
abbrev head_by : ℕ → Option Head → Option (List ℕ) → Option (List ℕ) → Option (List ℕ) → Option (List ℕ × List ℕ) → Option (List ℕ) → Option (List ℕ) → Option Head
head_by i l q a z u n r =
    option_or l
    (
    option_or
    (option_or (try (name_at (i, []) q) a_request (option_map (λ x. an_activation x) (name_at (i, []) a))) (try (name_at (i, []) z) a_zone (option_map (λ p. a_release p.0 p.1) (names_at (i, []) u))))
    (try (name_at (i, []) n) (λ x. a_point_row x Normal) (option_map (λ x. a_point_row x Reverse) (name_at (i, []) r)))
    )

-- the word writes the head
abbrev Begins : Spot → Head → Type 0
Begins w h = (w.1 ≡ head_word h) × Heads w.0 h

module _ (i : ℕ) (v : List ℕ) (h : Head) where
  -- of equal heads
  is_head : (x : Head) → Some x ≡ Some h → Begins (i, v) x → Begins (i, v) h
  is_head x e w = let f : x ≡ h = cc in subst (λ y. Begins (i, v) y) f w

  -- the layout's heads are words of their own
  layout_from : (s j p w g d : Bool) → bytes_eq v (codes "SEG") ≡ s → bytes_eq v (codes "JOINT") ≡ j → bytes_eq v (codes "POINT") ≡ p → bytes_eq v (codes "WAY") ≡ w → bytes_eq v (codes "SIGNAL") ≡ g → bytes_eq v (codes "DATA") ≡ d
      → cond s (Some a_segment) (cond j (Some a_joint) (cond p (Some a_point) (cond w (Some a_way) (cond g (Some a_signal) (cond d (Some the_data) None))))) ≡ Some h
      → Begins (i, v) h
  layout_from true j p w g d e1 e2 e3 e4 e5 e6 e = is_head a_segment e ((bytes_eq-Decides _ _).0 e1, tt)
  layout_from false true p w g d e1 e2 e3 e4 e5 e6 e = is_head a_joint e ((bytes_eq-Decides _ _).0 e2, tt)
  layout_from false false true w g d e1 e2 e3 e4 e5 e6 e = is_head a_point e ((bytes_eq-Decides _ _).0 e3, tt)
  layout_from false false false true g d e1 e2 e3 e4 e5 e6 e = is_head a_way e ((bytes_eq-Decides _ _).0 e4, tt)
  layout_from false false false false true d e1 e2 e3 e4 e5 e6 e = is_head a_signal e ((bytes_eq-Decides _ _).0 e5, tt)
  layout_from false false false false false true e1 e2 e3 e4 e5 e6 e = is_head the_data e ((bytes_eq-Decides _ _).0 e6, tt)
  layout_from false false false false false false e1 e2 e3 e4 e5 e6 e = let z : ◌≡◌ {A = ℕ} 0 1 = cc in absurd (omega arith)

  -- the form that finds something says which head it is
  head_from : (l : Option Head) (q a z : Option (List ℕ)) (u : Option (List ℕ × List ℕ)) (n r : Option (List ℕ))
      → layout_head v ≡ l → bracketed (codes "Q_R(") 41 v ≡ q → bracketed (codes "A_R(") 41 v ≡ a → bracketed (codes "U_IR(") 41 v ≡ z → joined (codes "U_") v ≡ u → bracketed (codes "P_") 78 v ≡ n → bracketed (codes "P_") 82 v ≡ r
      → head_by i l q a z u n r ≡ Some h → Begins (i, v) h
  head_from (Some x) q a z u n r e1 e2 e3 e4 e5 e6 e7 e =
      let f : Some x ≡ Some h = e in layout_from _ _ _ _ _ _ refl refl refl refl refl refl (e1 ∙ f)
  head_from None (Some x) a z u n r e1 e2 e3 e4 e5 e6 e7 e = let f = bracketed_sound (codes "Q_R(") 41 v x e2 in is_head (a_request (i, x)) e (f.0, (refl, f.1))
  head_from None None (Some x) z u n r e1 e2 e3 e4 e5 e6 e7 e = let f = bracketed_sound (codes "A_R(") 41 v x e3 in is_head (an_activation (i, x)) e (f.0, (refl, f.1))
  head_from None None None (Some x) u n r e1 e2 e3 e4 e5 e6 e7 e = let f = bracketed_sound (codes "U_IR(") 41 v x e4 in is_head (a_zone (i, x)) e (f.0, (refl, f.1))
  head_from None None None None (Some p) n r e1 e2 e3 e4 e5 e6 e7 e =
      let f = joined_sound (codes "U_") v p.0 p.1 e5 in is_head (a_release (i, p.0) (i, p.1)) e (f.0, (refl, refl, f.1, f.2))
  head_from None None None None None (Some x) r e1 e2 e3 e4 e5 e6 e7 e = let f = bracketed_sound (codes "P_") 78 v x e6 in is_head (a_point_row (i, x) Normal) e (f.0, (refl, f.1))
  head_from None None None None None None (Some x) e1 e2 e3 e4 e5 e6 e7 e = let f = bracketed_sound (codes "P_") 82 v x e7 in is_head (a_point_row (i, x) Reverse) e (f.0, (refl, f.1))
  head_from None None None None None None None e1 e2 e3 e4 e5 e6 e7 e = let z : ◌≡◌ {A = ℕ} 0 1 = cc in absurd (omega arith)

-- a word that is read as a head is the word that writes it
pub head_sound : (w : Spot) (h : Head) → head w ≡ Some h → (w.1 ≡ head_word h) × Heads w.0 h
head_sound w h e = head_from w.0 w.1 h _ _ _ _ _ _ _ refl refl refl refl refl refl refl e

-- the head, by what each form finds
head_found : (i : ℕ) (v : List ℕ) (l : Option Head) (q a z : Option (List ℕ)) (u : Option (List ℕ × List ℕ)) (n r : Option (List ℕ))
    → layout_head v ≡ l → bracketed (codes "Q_R(") 41 v ≡ q → bracketed (codes "A_R(") 41 v ≡ a → bracketed (codes "U_IR(") 41 v ≡ z → joined (codes "U_") v ≡ u → bracketed (codes "P_") 78 v ≡ n → bracketed (codes "P_") 82 v ≡ r
    → head (i, v) ≡ head_by i l q a z u n r
head_found i v l q a z u n r e1 e2 e3 e4 e5 e6 e7 = rw (← e1, ← e2, ← e3, ← e4, ← e5, ← e6, ← e7) refl

-- the heads of points' rows
point_head_is : (p : Position) (x : Spot) → Heads x.0 (a_point_row x p) → head (x.0, head_word (a_point_row x p)) ≡ Some (a_point_row x p)
point_head_is Normal x n =
    let v : List ℕ = 95 ∷ (x.1 ++ 78 ∷ []) in
    head_found x.0 (80 ∷ v) None None None None None _ _ refl (bracketed_miss 80 81 v (codes "_R(") refl 41) (bracketed_miss 80 65 v (codes "_R(") refl 41) (bracketed_miss 80 85 v (codes "_IR(") refl 41) (joined_miss 80 85 v (codes "_") refl) (bracketed_is (codes "P_") 78 x.1 n.1) refl
point_head_is Reverse x n =
    let v : List ℕ = 95 ∷ (x.1 ++ 82 ∷ []) in
    head_found x.0 (80 ∷ v) None None None None None _ _ refl (bracketed_miss 80 81 v (codes "_R(") refl 41) (bracketed_miss 80 65 v (codes "_R(") refl 41) (bracketed_miss 80 85 v (codes "_IR(") refl 41) (joined_miss 80 85 v (codes "_") refl) (side_miss x.1) (bracketed_is (codes "P_") 82 x.1 n.1)

-- the word that writes a head is read as it
pub head_is : (i : ℕ) (h : Head) → Heads i h → head (i, head_word h) ≡ Some h
head_is i a_segment n = refl
head_is i a_joint n = refl
head_is i a_point n = refl
head_is i a_way n = refl
head_is i a_signal n = refl
head_is i the_data n = refl
head_is i (a_request x) n =
    let v : List ℕ = codes "_R(" ++ (x.1 ++ codes ")") in
    head_found i (81 ∷ v) None _ _ _ _ _ _ refl (bracketed_is (codes "Q_R(") 41 x.1 n.1) refl refl refl refl refl
    ∙ ap (λ j. Some (a_request (j, x.1))) (sym n.0)
head_is i (an_activation x) n =
    let v : List ℕ = codes "_R(" ++ (x.1 ++ codes ")") in
    head_found i (65 ∷ v) None _ _ _ _ _ _ refl (bracketed_miss 65 81 v (codes "_R(") refl 41) (bracketed_is (codes "A_R(") 41 x.1 n.1) refl refl refl refl
    ∙ ap (λ j. Some (an_activation (j, x.1))) (sym n.0)
head_is i (a_point_row x p) n = ap (λ j. head (j, head_word (a_point_row x p))) (sym n.0) ∙ point_head_is p x (refl, n.1)
head_is i (a_release a b) n =
    let v : List ℕ = 95 ∷ (a.1 ++ 95 ∷ b.1) in
    head_found i (85 ∷ v) None _ _ _ _ _ _ refl (bracketed_miss 85 81 v (codes "_R(") refl 41) (bracketed_miss 85 65 v (codes "_R(") refl 41) (zone_miss a.1 b.1 n.2 n.3) (joined_is (codes "U_") a.1 b.1 n.2 n.3) refl refl
    ∙ ap (λ j. Some (a_release (j, a.1) (i, b.1))) (sym n.0)
    ∙ ap (λ j. Some (a_release a (j, b.1))) (sym n.1)
head_is i (a_zone x) n =
    let v : List ℕ = codes "_IR(" ++ (x.1 ++ codes ")") in
    head_found i (85 ∷ v) None _ _ _ _ _ _ refl (bracketed_miss 85 81 v (codes "_R(") refl 41) (bracketed_miss 85 65 v (codes "_R(") refl 41) (bracketed_is (codes "U_IR(") 41 x.1 n.1) refl refl refl
    ∙ ap (λ j. Some (a_zone (j, x.1))) (sym n.0)
