-- The turns of a loop over every element of a list.
use Rattle.std.proofs.Common.{◌≡◌, ℕ, ◌+◌, ◌<◌, ◌≤◌, List, [], ◌∷◌, ◌++◌, length, get_or, drop, Some, None, Option, sym, refl, ap, ◌∙◌, append_assoc, append-nil}
use Rattle.std.proofs.lemmas.List.{at_drop_more, at_drop_all}
use Rattle.octets.specs.Each.{both, each}

module _ {Y : Type 0} where
  -- what there is already, before the rest
  abbrev pub before : List Y → Option (List Y) → Option (List Y)
  before ys None = None
  before ys (Some zs) = Some (ys ++ zs)

  before_none : (r : Option (List Y)) → before [] r ≡ r
  before_none None = refl
  before_none (Some zs) = refl

  before_more : (ys : List Y) (y : Y) (r : Option (List Y)) → before (ys ++ y ∷ []) r ≡ before ys (both (Some y) r)
  before_more ys y None = refl
  before_more ys y (Some zs) = ap Some (append_assoc ys (y ∷ []) zs)

module _ {X Y : Type 0} (f : X → Option Y) (xs : List X) where
  -- the rest, after what there is already, makes the whole
  abbrev pub Along : List Y → ℕ → Type 0
  Along ys i = before ys (each f (drop i xs)) ≡ each f xs

  pub begun : Along [] 0
  begun = before_none (each f (drop 0 xs))

  module _ (i : ℕ) (ys : List Y) (inv : Along ys i) where
    module _ (x : X) (within : i < length xs) (is : x ≡ get_or xs i x) (o : Option Y) (told : o ≡ f x) where
      step : each f (drop i xs) ≡ both o (each f (drop (i + 1) xs))
      unfolding each
      step = at_drop_more (each f) xs i x within ∙ ap (λ z. both (f z) (each f (drop (i + 1) xs))) (sym is) ∙ ap (λ q. both q (each f (drop (i + 1) xs))) (sym told)

      pub gone_on : (y : Y) → o ≡ Some y → Along (ys ++ y ∷ []) (i + 1)
      gone_on y e =
          before_more ys y (each f (drop (i + 1) xs))
          ∙ ap (λ q. before ys (both q (each f (drop (i + 1) xs)))) (sym e)
          ∙ ap (before ys) (sym step)
          ∙ inv

      pub stopped : o ≡ None → each f xs ≡ None
      stopped e = sym inv ∙ ap (before ys) (step ∙ ap (λ q. both q (each f (drop (i + 1) xs))) e)

    pub ended : length xs ≤ i → each f xs ≡ Some ys
    unfolding each
    ended past = sym inv ∙ ap (before ys) (at_drop_all (each f) xs i past) ∙ ap Some (append-nil ys)
