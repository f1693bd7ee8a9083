-- What tests of every element and of some element of a list tell.
use Rattle.std.proofs.Common.{◌≡◌, ℕ, ◌<◌, Bool, ◌&&◌, ◌||◌, List, [], ◌∷◌, map, length, get_or, nat_lt, count_by, cond, true, false, ◌+◌, Decides, All, Contains, sym, refl, ap, ◌∙◌, subst, arith}
use Rattle.std.specs.List.{HoldsAt}
use Rattle.std.proofs.lemmas.List.{get_or_default}
use Rattle.std.proofs.lemmas.List.Sums.{sum_by-cons}
use Rattle.std.proofs.lemmas.Bool.Decides.{Decides-by_and, Decides-by_or, Decides-like}
use Rattle.std.proofs.lemmas.List.Elements.{Contains-get_or, All-contains, All-nil, All-weaker, All-contains_itself, Contains-from_at, at_from_Contains}
use Rattle.firsts.specs.Lists.{all, any}

-- the place of an element holds it, whatever is read past the end
pub found_at : {X : Type 0} (xs : List X) (x : X) (h : Contains xs x) (d : X) → get_or xs h.0 d ≡ x
found_at xs x h d = get_or_default xs h.0 d x h.1 ∙ h.2

-- a test of every element tells what its parts tell
pub decides_all : {X : Type 0} {p : X → Bool} (P : X → Type 0) → ((x : X) → Decides (p x) (P x)) → (xs : List X) → Decides (all p xs) (All P xs)
decides_all {X} {p} P each xs = Decides-by_and p P (all p) each refl (λ _ _. refl) xs

pub decides_any : {X : Type 0} {p : X → Bool} (P : X → Type 0) → ((x : X) → Decides (p x) (P x)) → (xs : List X) → Decides (any p xs) ((k : ℕ) × (k < length xs) × HoldsAt P xs k)
decides_any {X} {p} P each xs = Decides-by_or p P (any p) each refl (λ _ _. refl) xs

-- some element of which P holds
pub decides_some : {X : Type 0} {p : X → Bool} (P : X → Type 0) (d : X) → ((x : X) → Decides (p x) (P x)) → (xs : List X) → Decides (any p xs) ((x : X) × Contains xs x × P x)
decides_some {X} {p} P d each xs =
    Decides-like (any p xs)
    (λ (h : (k : ℕ) × (k < length xs) × HoldsAt P xs k). (get_or xs h.0 d, Contains-get_or xs h.0 d h.1, h.2 d))
    (λ (h : (x : X) × Contains xs x × P x). let at : (k : ℕ) × (k < length xs) × HoldsAt (λ y. y ≡ h.0) xs k = at_from_Contains xs h.0 h.1 in (at.0, at.1, λ d. subst P (sym (at.2 d)) h.2))
    (decides_any P each xs)

all_by_has : {X : Type 0} (P : X → Type 0) (xs : List X) → ((x : X) → Contains xs x → P x) → All P xs
all_by_has P [] h = All-nil P
all_by_has P (y ∷ ys) h = All-weaker (Contains (y ∷ ys)) P h (y ∷ ys) (All-contains_itself (y ∷ ys))

-- every element keeps P
pub decides_every : {X : Type 0} {p : X → Bool} (P : X → Type 0) → ((x : X) → Decides (p x) (P x)) → (xs : List X) → Decides (all p xs) ((x : X) → Contains xs x → P x)
decides_every {X} {p} P each xs =
    Decides-like (all p xs) (λ (a : All P xs) x h. All-contains P xs x a h) (all_by_has P xs) (decides_all P each xs)

-- whether a list has x
pub decides_has : {X : Type 0} {alike : X → X → Bool} → ((x y : X) → Decides (alike x y) (x ≡ y)) → (xs : List X) (x : X) → Decides (any (alike x) xs) (Contains xs x)
decides_has {X} {alike} each xs x =
    Decides-like (any (alike x) xs) (Contains-from_at xs x) (at_from_Contains xs x) (decides_any (λ y. y ≡ x) (λ y. Decides-like (alike x y) sym sym (each x y)) xs)

module _ {X : Type 0} (p : X → Bool) where
  pub all_map : {Y : Type 0} (f : Y → X) (ys : List Y) → all p (map f ys) ≡ all (λ y. p (f y)) ys
  all_map f [] = refl
  all_map f (y ∷ ys) = ap (λ b. p (f y) && b) (all_map f ys)

  pub any_map : {Y : Type 0} (f : Y → X) (ys : List Y) → any p (map f ys) ≡ any (λ y. p (f y)) ys
  any_map f [] = refl
  any_map f (y ∷ ys) = ap (λ b. p (f y) || b) (any_map f ys)

-- some element passes exactly where at least one is counted
pub any_counted : {X : Type 0} (p : X → Bool) (xs : List X) → nat_lt 0 (count_by p xs) ≡ any p xs
any_counted p [] = refl
any_counted p (x ∷ xs) = by (p x) refl (sum_by-cons (λ y. cond (p y) 1 0) x xs) (any_counted p xs)
  where
    by : (b : Bool) → p x ≡ b → count_by p (x ∷ xs) ≡ cond (p x) 1 0 + count_by p xs → nat_lt 0 (count_by p xs) ≡ any p xs → nat_lt 0 (count_by p (x ∷ xs)) ≡ any p (x ∷ xs)
    by true e c h = grind arith
    by false e c h = grind arith
