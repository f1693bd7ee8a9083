-- What chains over a slice give, whose elements are seen through a view.
use Rattle.std.proofs.Common.{IsTrue, ◌≡◌, ℕ, zero, suc, ◌+◌, ◌<◌, Bool, true, false, not, cond, ltb, List, [], ◌∷◌, map, length, get_or, Bor, Some, None, Option, MatchOption, IfSome, IsSomeAnd, sym, refl, ap, ◌∙◌, arith}
use Rattle.std.proofs.iter.Yields.{fronts}
use Rattle.std.proofs.iter.runs.Sources.{iter_runs}
use Rattle.std.proofs.lemmas.Bool.{ltb-false}
use Rattle.std.proofs.lemmas.List.Sums.{prefix_len-le-length}
use Rattle.std.proofs.lemmas.Iterator.{YieldsList, YieldsList-from_slice}
use Rattle.std.specs.Fn.{Called}
use Rattle.std.specs.Iterator.{AlwaysYields}
use Rattle.std.specs.Iterator.Runs.{Run, SomeRun, CallKeepsClosure, AllItemsGive, IsFirstToGive}
use Rattle.std.specs.List.{position, position_or_len}
use Rattle.std.specs.Option.{option_map, unwrap_or}
use Rattle.std.specs.Slice.Iter.{iter_rest}
use Rattle.std.specs.declared.slice.Iter.{Iter}
use denote.Param.Members.{Mut}
use Rattle.firsts.specs.Search.{or_else}
use Rattle.firsts.specs.Picks.{first_in}

module _ {S A B C : Type 0} (steps : S → Option A → S → Type 0) (v : A → B) (view : B → C) where
  through : (s : S) (ys : List B) → AlwaysYields steps v s ys → AlwaysYields steps (λ x. view (v x)) s (map view ys)
  through s [] h = h
  through s (y ∷ ys) h = (h.0, λ x j c. let p = h.1 x j c in (ap view p.0, through j ys p.1))

-- the views of the elements, in order
pub YieldsList-from_seen : {A B : Type 0} {s : Iter A} (view : A → B) (xs : List A) → iter_rest s ≡ xs → YieldsList fronts (λ y. view y.now) s (map view xs)
YieldsList-from_seen {s = s} view xs e = record { runs = through fronts (λ y. y.now) view s xs (YieldsList-from_slice xs e).runs }

module _ {A B C : Type 0} (view : A → B) (h : B → Option C) where
  -- the answer at the first place that has one
  abbrev FirstSeen : List A → Option C → Type 0
  FirstSeen xs r =
      MatchOption r ((j : ℕ) (d : A) → j < length xs → h (view (get_or xs j d)) ≡ None)
      (λ y. (i : ℕ) × (i < length xs) × ((d : A) → h (view (get_or xs i d)) ≡ Some y) × ((j : ℕ) (d : A) → j < i → h (view (get_or xs j d)) ≡ None))

  abbrev here : List A → Option C → Option C
  here xs o = or_else o (first_in h (map view xs))

  first_seen : (xs : List A) (r : Option C) → FirstSeen xs r → r ≡ first_in h (map view xs)
  unfolding first_in
  first_seen [] None e = refl
  first_seen [] (Some y) e = absurd (omega (arith, e.1))
  first_seen (x ∷ xs) None e = first_seen xs None (λ j d l. e (suc j) d (omega arith)) ∙ sym (ap (here xs) (e 0 x (omega arith)))
  first_seen (x ∷ xs) (Some y) (zero, l, a, b) = sym (ap (here xs) (a x))
  first_seen (x ∷ xs) (Some y) (suc i, l, a, b) =
      first_seen xs (Some y) (i, omega arith, a, λ j d m. b (suc j) d (omega arith)) ∙ sym (ap (here xs) (b 0 x (omega arith)))

  module _ {F : Type 0} (g : Mut F (Bor A × Unit {0}) (Option C)) (f : F) (k : (x : Bor A) (o : Option C) (q : F) → Called g f (x, tt) o q → (q ≡ f) × (o ≡ h (view x.now))) where
    keeps : CallKeepsClosure g f
    keeps a o q c = (k a.0 o q c).0

    -- what the call at an item tells of the element
    told : (xs : List A) (i : ℕ) (d : A) (o : Option (Bor A)) (r : Option C) → option_map (λ y. y.now) o ≡ Some (get_or xs i d) → IfSome o (λ x. Called g f (x, tt) r f) → h (view (get_or xs i d)) ≡ r
    told xs i d None r e c = let z : ◌≡◌ {A = ℕ} 0 1 = cc in absurd (omega arith)
    told xs i d (Some x) r e c = let n : x.now ≡ get_or xs i d = cc in sym (ap (λ y. h (view y)) n) ∙ sym (k x r f c).1

    some_told : (xs : List A) (i : ℕ) (d : A) (o : Option (Bor A)) (r : Option C) → option_map (λ y. y.now) o ≡ Some (get_or xs i d) → IsSomeAnd o (λ x. Called g f (x, tt) r f) → h (view (get_or xs i d)) ≡ r
    some_told xs i d None r e c = absurd c
    some_told xs i d (Some x) r e c = told xs i d (Some x) r e c

    abbrev pub Found : Run (fronts {A = A}) → Option C → Type 0
    Found p r = MatchOption r (IsTrue p.whole × AllItemsGive p g f None) (λ y. (i : ℕ) × (i < p.len) × (p.len ≡ i + 1) × IsFirstToGive p g f (Some y) None i)

    run_tells : (p : Run (fronts {A = A})) (xs : List A) → iter_rest p.from ≡ xs → (r : Option C) → Found p r → FirstSeen xs r
    run_tells p xs e None n =
        let w = iter_runs p p.seen in
        λ j d l.
        let long = w.1 n.0 ∙ ap length e in
        told xs j d (p.at j) None (w.2 j d (omega (arith, l, long)) ∙ ap (λ ys. Some (get_or ys j d)) e) (n.1 keeps j)
    run_tells p xs e (Some y) n =
        let w = iter_runs p p.seen in
        let few = w.0 in
        let m = ap length e in
        let at : (j : ℕ) (d : A) → j < p.len → option_map (λ z. z.now) (p.at j) ≡ Some (get_or xs j d) = λ j d l. w.2 j d l ∙ ap (λ ys. Some (get_or ys j d)) e in
        let c = n.3 keeps in
        let l = n.1 in
        (n.0, omega (arith, l, few, m), (λ d. some_told xs n.0 d (p.at n.0) (Some y) (at n.0 d l) c.0), λ j d b. some_told xs j d (p.at j) None (at j d (omega (arith, l, b))) (c.1 j b))

    -- `find_map` gives the first answer
    pub found_first : {s : Iter A} (xs : List A) → iter_rest s ≡ xs → (r : Option C) → SomeRun (fronts {A = A}) s (λ p. Found p r) → r ≡ first_in h (map view xs)
    found_first xs e r n = first_seen xs r (run_tells n.0 xs (ap iter_rest n.1 ∙ e) r n.2)

-- the place, or the length where there is none
pub place_or : {X : Type 0} (p : X → Bool) (xs : List X) → unwrap_or (position p xs) (length xs) ≡ position_or_len p xs
place_or p xs = let l = prefix_len-le-length (λ x. not (p x)) xs in by (ltb (position_or_len p xs) (length xs)) refl
  where
    by : (b : Bool) → ltb (position_or_len p xs) (length xs) ≡ b → unwrap_or (cond b (Some (position_or_len p xs)) None) (length xs) ≡ position_or_len p xs
    by true e = refl
    by false e = let m = ltb-false _ _ e in let l = prefix_len-le-length (λ x. not (p x)) xs in omega arith
