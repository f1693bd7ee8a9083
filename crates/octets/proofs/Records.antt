-- A point, a signal and a train are read from the octets that stand for them, and from no others.
use Rattle.std.proofs.Common.{◌≡◌, ℕ, Bool, true, false, cond, eqb, List, [], ◌∷◌, length, get_or, Some, None, Option, sym, refl, ap, ◌∙◌, subst, arith}
use Rattle.std.proofs.lemmas.Bool.{eqb-true}
use Rattle.std.proofs.lemmas.Bool.Decides.{nat_tests}
use Rattle.motor.specs.declared.runs.Run.{Run}
use Rattle.track.specs.declared.states.Aspect.{Aspect}
use Rattle.track.specs.declared.states.Aspect.TheVariants.{Stop, Proceed}
use Rattle.track.specs.Trains.{present, Train}
use Rattle.octets.specs.Laws.{PointsLaw, SignalsLaw, TrainDeclared, TrainsLaw}
use Rattle.octets.specs.Reads.{aspect_of, four_of, run_of, train_of}
use Rattle.octets.specs.Writes.{aspect_octet, four, octet, place_octets, run_octet, train_octets}

aspect_written : (b : ℕ) (a : Aspect) → aspect_of b ≡ Some a → Some (aspect_octet a) ≡ Some b
aspect_written b Stop e = grind (arith, nat_tests)
aspect_written b Proceed e = grind (arith, nat_tests)

aspect_again : (b : ℕ) (a : Aspect) → ◌≡◌ {A = Option ℕ} (Some (aspect_octet a)) (Some b) → aspect_of b ≡ Some a
aspect_again b Stop e = grind (arith, nat_tests)
aspect_again b Proceed e = grind (arith, nat_tests)

pub signals_law : SignalsLaw
signals_law = record { written = aspect_written; belongs = λ b a e. tt; again = λ b a _ e. aspect_again b a e }

run_written : (b : ℕ) (p : Run) → run_of b ≡ Some p → run_octet p ≡ Some b
run_written b p e = grind (arith, nat_tests)

run_again : (b : ℕ) (p : Run) → run_octet p ≡ Some b → run_of b ≡ Some p
run_again b p e = grind (arith, nat_tests)

pub points_law : PointsLaw
points_law = record { written = run_written; belongs = λ b p e. tt; again = λ b p _ e. run_again b p e }

-- a list of four is made of its elements
four_octets : (q : List ℕ) → eqb (length q) 4 ≡ true → q ≡ get_or q 0 0 ∷ get_or q 1 0 ∷ get_or q 2 0 ∷ get_or q 3 0 ∷ []
four_octets [] e = absurd (omega (arith, eqb-true 0 4 e))
four_octets (a ∷ []) e = absurd (omega (arith, eqb-true 1 4 e))
four_octets (a ∷ b ∷ []) e = absurd (omega (arith, eqb-true 2 4 e))
four_octets (a ∷ b ∷ c ∷ []) e = absurd (omega (arith, eqb-true 3 4 e))
four_octets (a ∷ b ∷ c ∷ d ∷ []) e = refl
four_octets (a ∷ b ∷ c ∷ d ∷ x ∷ xs) e = absurd (omega (arith, eqb-true (length (a ∷ b ∷ c ∷ d ∷ x ∷ xs)) 4 e))

-- what is there was let through
pub guarded : {X : Type 0} (b : Bool) (o : Option X) (x : X) → cond b o None ≡ Some x → (b ≡ true) × (o ≡ Some x)
guarded true o x e = (refl, e)
guarded false o x e = absurd (grind arith)

module _ (segments joints : ℕ) where
  train_written : (a b c d : ℕ) (t : Train) → four_of segments joints a b c d ≡ Some t → train_octets t ≡ Some (a ∷ b ∷ c ∷ d ∷ [])
  train_written a b c d t e = grind (arith, nat_tests)

  train_declared : (a b c d : ℕ) (t : Train) → four_of segments joints a b c d ≡ Some t → TrainDeclared segments joints t
  train_declared a b c d t e = grind (arith, nat_tests)

  -- what one of the five states means
  again : (a b c d : ℕ) (t : Train) (q : List ℕ) → four a b c d ≡ Some q → (octet b ≡ true → octet c ≡ true → octet d ≡ true → four_of segments joints a b c d ≡ Some t) → train_of segments joints q ≡ Some t
  again a b c d t q e h =
      let bs : octet b ≡ true = grind (arith, nat_tests) in
      let cs : octet c ≡ true = grind (arith, nat_tests) in
      let ds : octet d ≡ true = grind (arith, nat_tests) in
      let same : a ∷ b ∷ c ∷ d ∷ [] ≡ q = grind (arith, nat_tests) in
      subst (λ l. train_of segments joints l ≡ Some t) same (h bs cs ds)

  place_again : (f : Option ℕ) (j : ℕ) (r : Option ℕ) (b : Bool) (q : List ℕ) → TrainDeclared segments joints (present f j r b) → place_octets f j r b ≡ Some q → train_of segments joints q ≡ Some (present f j r b)
  place_again (Some t) j None false q m e = again 1 t j 0 (present (Some t) j None false) q e (λ x y _. grind (arith, nat_tests))
  place_again (Some t) j None true q m e = again 4 t j 0 (present (Some t) j None true) q e (λ x y _. grind (arith, nat_tests))
  place_again (Some t) j (Some u) false q m e = again 2 t j u (present (Some t) j (Some u) false) q e (λ x y z. grind (arith, nat_tests))
  place_again (Some t) j (Some u) true q m e = grind arith
  place_again None j None false q m e = grind arith
  place_again None j None true q m e = grind arith
  place_again None j (Some u) false q m e = again 3 0 j u (present None j (Some u) false) q e (λ _ y z. grind (arith, nat_tests))
  place_again None j (Some u) true q m e = grind arith

  train_again : (q : List ℕ) (t : Train) → TrainDeclared segments joints t → train_octets t ≡ Some q → train_of segments joints q ≡ Some t
  train_again q None m e =
      let same : 0 ∷ 0 ∷ 0 ∷ 0 ∷ [] ≡ q = cc in
      subst (λ l. train_of segments joints l ≡ Some None) same refl
  train_again q (Some p) m e = place_again p.front p.joint p.rear p.derailed q m e

  -- octets that mean a train are four
  of_four : (q : List ℕ) (t : Train) → train_of segments joints q ≡ Some t → (eqb (length q) 4 ≡ true) × (four_of segments joints (get_or q 0 0) (get_or q 1 0) (get_or q 2 0) (get_or q 3 0) ≡ Some t)
  of_four q t e = guarded (eqb (length q) 4) (four_of segments joints (get_or q 0 0) (get_or q 1 0) (get_or q 2 0) (get_or q 3 0)) t e

pub trains_law : TrainsLaw
trains_law segments joints = record {
  written = λ q t e.
      let m = of_four segments joints q t e in
      train_written segments joints (get_or q 0 0) (get_or q 1 0) (get_or q 2 0) (get_or q 3 0) t m.1 ∙ ap Some (sym (four_octets q m.0));
  belongs = λ q t e. train_declared segments joints (get_or q 0 0) (get_or q 1 0) (get_or q 2 0) (get_or q 3 0) t (of_four segments joints q t e).1;
  again = train_again segments joints;
}

four_made : (a b c d : ℕ) (q : List ℕ) → four a b c d ≡ Some q → length q ≡ 4
four_made a b c d q e = let same : a ∷ b ∷ c ∷ d ∷ [] ≡ q = grind (arith, nat_tests) in sym (ap length same)

place_long : (f : Option ℕ) (j : ℕ) (r : Option ℕ) (b : Bool) (q : List ℕ) → place_octets f j r b ≡ Some q → length q ≡ 4
place_long (Some t) j None false q e = four_made 1 t j 0 q e
place_long (Some t) j None true q e = four_made 4 t j 0 q e
place_long (Some t) j (Some u) false q e = four_made 2 t j u q e
place_long (Some t) j (Some u) true q e = grind arith
place_long None j None false q e = grind arith
place_long None j None true q e = grind arith
place_long None j (Some u) false q e = four_made 3 0 j u q e
place_long None j (Some u) true q e = grind arith

-- a train has four octets
pub train_long : (t : Train) (q : List ℕ) → train_octets t ≡ Some q → length q ≡ 4
train_long None q e = let same : 0 ∷ 0 ∷ 0 ∷ 0 ∷ [] ≡ q = cc in sym (ap length same)
train_long (Some p) q e = place_long p.front p.joint p.rear p.derailed q e
