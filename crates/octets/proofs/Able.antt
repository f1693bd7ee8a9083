-- Which points and trains can be written.
use Rattle.std.proofs.Common.{◌≡◌, ℕ, ◌+◌, ◌<◌, Bool, true, false, cond, eqb, leb, List, [], ◌∷◌, Some, None, All, Option, refl, ap, ◌∙◌, arith}
use Rattle.std.proofs.lemmas.Bool.{cond-true, le-leb}
use Rattle.std.proofs.lemmas.Bool.Decides.{nat_tests}
use Rattle.std.proofs.lemmas.List.Elements.{All-nil, All-cons, All-head, All-tail}
use Rattle.octets.specs.Each.{both, each}
use Rattle.octets.specs.Laws.{PlaceWritable, PointsWritten, TrainWritable, TrainsWritten, Writes}
use Rattle.octets.specs.Writes.{four, motion_octet, place_octets, rest_octet, run_octet, train_octets}
use Rattle.octets.proofs.Inverses.{parted}
use Rattle.track.specs.Trains.{Train}

pub points_written : PointsWritten
points_written = record {
  there = λ p few. (cond (eqb p.left 0) (rest_octet p.target) (motion_octet p.target + p.left), cond-true (leb p.left 8) _ None (le-leb p.left 8 few));
  only = λ b p e. let w : run_octet p ≡ Some b = e in grind (arith, nat_tests);
}

four_there : (a b c d : ℕ) → b < 256 → c < 256 → d < 256 → four a b c d ≡ Some (a ∷ b ∷ c ∷ d ∷ [])
four_there a b c d x y z = grind (arith, nat_tests)

four_only : (a b c d : ℕ) (q : List ℕ) → four a b c d ≡ Some q → (b < 256) × (c < 256) × (d < 256)
four_only a b c d q e =
    let x : b < 256 = grind (arith, nat_tests) in
    let y : c < 256 = grind (arith, nat_tests) in
    let z : d < 256 = grind (arith, nat_tests) in
    (x, y, z)

place_there : (f : Option ℕ) (j : ℕ) (r : Option ℕ) (b : Bool) → PlaceWritable f j r b → (q : List ℕ) × (place_octets f j r b ≡ Some q)
place_there (Some t) j None false h = (1 ∷ t ∷ j ∷ 0 ∷ [], four_there 1 t j 0 h.0 h.1 (omega arith))
place_there (Some t) j None true h = (4 ∷ t ∷ j ∷ 0 ∷ [], four_there 4 t j 0 h.0 h.1 (omega arith))
place_there (Some t) j (Some u) false h = (2 ∷ t ∷ j ∷ u ∷ [], four_there 2 t j u h.0 h.1 h.2)
place_there (Some t) j (Some u) true h = absurd (let e = h.3 in grind arith)
place_there None j None b h = absurd h
place_there None j (Some u) false h = (3 ∷ 0 ∷ j ∷ u ∷ [], four_there 3 0 j u (omega arith) h.0 h.1)
place_there None j (Some u) true h = absurd (let e = h.2 in grind arith)

place_only : (f : Option ℕ) (j : ℕ) (r : Option ℕ) (b : Bool) (q : List ℕ) → place_octets f j r b ≡ Some q → PlaceWritable f j r b
place_only (Some t) j None false q e = let w = four_only 1 t j 0 q e in (w.0, w.1)
place_only (Some t) j None true q e = let w = four_only 4 t j 0 q e in (w.0, w.1)
place_only (Some t) j (Some u) false q e = let w = four_only 2 t j u q e in (w.0, w.1, w.2, refl)
place_only (Some t) j (Some u) true q e = absurd (grind arith)
place_only None j None false q e = absurd (grind arith)
place_only None j None true q e = absurd (grind arith)
place_only None j (Some u) false q e = let w = four_only 3 0 j u q e in (w.1, w.2, refl)
place_only None j (Some u) true q e = absurd (grind arith)

train_there : (t : Train) → TrainWritable t → (q : List ℕ) × (train_octets t ≡ Some q)
train_there None h = (0 ∷ 0 ∷ 0 ∷ 0 ∷ [], refl)
train_there (Some p) h = place_there p.front p.joint p.rear p.derailed h

train_only : (q : List ℕ) (t : Train) → train_octets t ≡ Some q → TrainWritable t
train_only q None e = tt
train_only q (Some p) e = place_only p.front p.joint p.rear p.derailed q e

pub trains_written : TrainsWritten
trains_written = record { there = train_there; only = train_only }

-- a list can be written exactly when each of its elements can
module _ {X Y : Type 0} {write : Y → Option X} {able : Y → Type 0} (writes : Writes write able) where
  pub each_there : (ys : List Y) → All able ys → (xs : List X) × (each write ys ≡ Some xs)
  unfolding each
  each_there [] a = ([], refl)
  each_there (y ∷ ys) a =
      let one = writes.there y (All-head able y ys a) in
      let more = each_there ys (All-tail able y ys a) in
      (one.0 ∷ more.0, ap (λ o. both o (each write ys)) one.1 ∙ ap (both (Some one.0)) more.1)

  pub each_only : (xs : List X) (ys : List Y) → each write ys ≡ Some xs → All able ys
  unfolding each
  each_only xs [] e = All-nil able
  each_only xs (y ∷ ys) e =
      let p = parted (write y) (each write ys) xs e in
      All-cons able y ys (writes.only p.0 y p.2) (each_only p.1 ys p.3)
