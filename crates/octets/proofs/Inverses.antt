-- Where things are read from what stands for them, and from nothing else, so are lists of them.
use Rattle.std.proofs.Common.{◌≡◌, suc, List, [], ◌∷◌, length, map, Some, None, All, Option, sym, refl, ap, ◌∙◌, subst, arith}
use Rattle.std.proofs.lemmas.List.Elements.{All-nil, All-cons, All-head, All-tail}
use Rattle.octets.specs.Each.{both, each}
use Rattle.octets.specs.Laws.{Any, Means}

-- a list that is there has its first element, and the others
pub parted : {Y : Type 0} (o : Option Y) (r : Option (List Y)) (ys : List Y) → both o r ≡ Some ys → (y : Y) × (zs : List Y) × (o ≡ Some y) × (r ≡ Some zs) × (y ∷ zs ≡ ys)
parted None r ys e = absurd (grind arith)
parted (Some y) None ys e = absurd (grind arith)
parted (Some y) (Some zs) ys e = (y, zs, refl, refl, cc)

pub each_long : {X Y : Type 0} (f : X → Option Y) (xs : List X) (ys : List Y) → each f xs ≡ Some ys → length ys ≡ length xs
unfolding each
each_long f [] ys e = let nil : [] ≡ ys = cc in sym (ap length nil)
each_long f (x ∷ xs) ys e =
    let p = parted (f x) (each f xs) ys e in
    sym (ap length p.4) ∙ ap suc (each_long f xs p.1 p.3)

-- where every element has an answer, so has the list
pub each_some : {X Y : Type 0} (f : X → Y) (xs : List X) → each (λ x. Some (f x)) xs ≡ Some (map f xs)
unfolding each
each_some f [] = refl
each_some f (x ∷ xs) = ap (both (Some (f x))) (each_some f xs)

pub all_any : {Y : Type 0} (ys : List Y) → All Any ys
all_any ys = λ k d l. tt

-- what each element's answer keeps, all answers keep
pub each_has : {X Y : Type 0} (f : X → Option Y) (P : Y → Type 0) → ((x : X) (y : Y) → f x ≡ Some y → P y) → (xs : List X) (ys : List Y) → each f xs ≡ Some ys → All P ys
unfolding each
each_has f P h [] ys e = let nil : [] ≡ ys = cc in subst (All P) nil (All-nil P)
each_has f P h (x ∷ xs) ys e =
    let p = parted (f x) (each f xs) ys e in
    subst (All P) p.4 (All-cons P p.0 p.1 (h x p.0 p.2) (each_has f P h xs p.1 p.3))

module _ {X Y : Type 0} {read : X → Option Y} {write : Y → Option X} {meant : Y → Type 0} (means : Means read write meant) where
  pub all_written : (xs : List X) (ys : List Y) → each read xs ≡ Some ys → each write ys ≡ Some xs
  unfolding each
  all_written [] ys e = let nil : [] ≡ ys = cc in subst (λ l. each write l ≡ Some []) nil refl
  all_written (x ∷ xs) ys e =
      let p = parted (read x) (each read xs) ys e in
      let one = means.written x p.0 p.2 in
      let more = all_written xs p.1 p.3 in
      subst (λ l. each write l ≡ Some (x ∷ xs)) p.4 (ap (λ o. both o (each write p.1)) one ∙ ap (both (Some x)) more)

  pub all_meant : (xs : List X) (ys : List Y) → each read xs ≡ Some ys → All meant ys
  all_meant xs ys e = each_has read meant means.belongs xs ys e

  pub all_read : (ys : List Y) (xs : List X) → All meant ys → each write ys ≡ Some xs → each read xs ≡ Some ys
  unfolding each
  all_read [] xs m e = let nil : [] ≡ xs = cc in subst (λ l. each read l ≡ Some []) nil refl
  all_read (y ∷ ys) xs m e =
      let p = parted (write y) (each write ys) xs e in
      let one = means.again p.0 y (All-head meant y ys m) p.2 in
      let more = all_read ys p.1 (All-tail meant y ys m) p.3 in
      subst (λ l. each read l ≡ Some (y ∷ ys)) p.4 (ap (λ o. both o (each read p.1)) one ∙ ap (both (Some y)) more)
