-- What `find_map` and `any` over the numbers below n give: the first answer, and whether some number passes.
use Rattle.std.proofs.Common.{◌≡◌, ℕ, ◌+◌, ◌<◌, Bool, true, false, Decides, Some, None, Option, sym, refl, ap, ◌∙◌, subst, arith, MatchOption}
use Rattle.std.specs.Option.{option_map, IfSome, IsSomeAnd}
use Rattle.std.specs.Bool.{MatchBool}
use Rattle.std.specs.Iterator.Runs.{Run, SomeRun, AllItemsGive, IsFirstToGive, CallKeepsClosure, AnyItemGives}
use Rattle.std.specs.declared.ops.Range.{Range}
use Rattle.std.proofs.iter.Yields.{nat_range_steps}
use Rattle.std.proofs.iter.runs.Sources.{range_runs}
use denote.Param.Members.{Mut, Called}
use Rattle.firsts.specs.Claims.{any_below}
use Rattle.firsts.specs.Search.{first_below, First}
use Rattle.firsts.proofs.Below.{decides_any_below}
use Rattle.firsts.proofs.Firsts.{first_only}

pub itself : (o : Option ℕ) → o ≡ option_map (λ r. r) o
itself None = refl
itself (Some x) = refl

-- what holds of the item at a place, where the item is known
if_known : (P : ℕ → Type 0) (o : Option ℕ) (m : ℕ) → option_map (λ y. y) o ≡ Some m → IfSome o P → P m
if_known P None m e h = let z : ◌≡◌ {A = ℕ} 0 1 = cc in absurd (omega arith)
if_known P (Some x) m e h = let s : x ≡ m = cc in subst P s h

and_known : (P : ℕ → Type 0) (o : Option ℕ) (m : ℕ) → option_map (λ y. y) o ≡ Some m → IsSomeAnd o P → P m
and_known P None m e h = absurd h
and_known P (Some x) m e h = if_known P (Some x) m e h

-- the item at a place of a run from 0
item : (p : Run nat_range_steps) → p.from.start ≡ 0 → (k : ℕ) → k < p.len → option_map (λ y. y) (p.at k) ≡ Some k
item p z k l =
    let c = range_runs p p.seen in
    let e : p.from.start + k ≡ k = omega arith in
    c.3 k l ∙ ap Some e

module _ {X F : Type 0} (g : Mut F (ℕ × Unit {0}) (Option X)) (s : F) (f : ℕ → Option X) where
  -- calls leave the closure as it was, and answer f
  module _ (keeps : CallKeepsClosure g s) (gives : (i : ℕ) (o : Option X) → Called g s (i, tt) o s → o ≡ f i) where
    first_of : (n : ℕ) (r : Option X) (p : Run nat_range_steps) → p.from.start ≡ 0 → p.from.end ≡ n
        → MatchOption r ((p.whole ≡ true) × AllItemsGive p g s None) (λ y. (i : ℕ) × (i < p.len) × (p.len ≡ i + 1) × IsFirstToGive p g s (Some y) None i)
        → First f n r
    first_of n None p z e h =
        let c = range_runs p p.seen in
        λ j l. sym (gives j None (if_known (λ x. Called g s (x, tt) None s) (p.at j) j (item p z j (let w = c.1 h.0 in omega arith)) (h.1 keeps j)))
    first_of n (Some y) p z e (i, within, long, h) =
        let c = range_runs p p.seen in
        record {
          place = i;
          within = omega (arith, c.0);
          answer = sym (gives i (Some y) (and_known (λ x. Called g s (x, tt) (Some y) s) (p.at i) i (item p z i within) (h keeps).0));
          before = λ j l. sym (gives j None (and_known (λ x. Called g s (x, tt) None s) (p.at j) j (item p z j (omega arith)) ((h keeps).1 j l)));
        }

    pub found_map : (n : ℕ) (r : Option X) (a : Range ℕ) → a.start ≡ 0 → a.end ≡ n
        → SomeRun nat_range_steps a (λ p. MatchOption r ((p.whole ≡ true) × AllItemsGive p g s None) (λ y. (i : ℕ) × (i < p.len) × (p.len ≡ i + 1) × IsFirstToGive p g s (Some y) None i))
        → r ≡ first_below f n
    found_map n r a z e (p, from, h) =
        first_only f n r (first_of n r p (ap (λ (q : Range ℕ). q.start) from ∙ z) (ap (λ (q : Range ℕ). q.end) from ∙ e) h)

module _ {F : Type 0} (g : Mut F (ℕ × Unit {0}) Bool) (s : F) (f : ℕ → Bool) where
  module _ (keeps : CallKeepsClosure g s) (gives : (i : ℕ) (b : Bool) → Called g s (i, tt) b s → b ≡ f i) where
    passes : (n : ℕ) → Decides (any_below f n) ((k : ℕ) × (k < n) × (f k ≡ true))
    passes n = decides_any_below (λ k. f k ≡ true) (λ k. (λ e. e, λ e. e)) n

    none_passes : (n : ℕ) (b : Bool) → any_below f n ≡ b → ((k : ℕ) → k < n → false ≡ f k) → false ≡ b
    none_passes n false e h = refl
    none_passes n true e h = let w = (passes n).0 e in h w.0 w.1 ∙ w.2

    any_of : (n : ℕ) (b : Bool) (p : Run nat_range_steps) → p.from.start ≡ 0 → p.from.end ≡ n
        → MatchBool b (AnyItemGives p g s true) ((p.whole ≡ true) × AllItemsGive p g s false)
        → b ≡ any_below f n
    any_of n true p z e h =
        let c = range_runs p p.seen in
        let k = h keeps in
        sym ((passes n).1 (k.0, omega (arith, c.0, k.1), sym (gives k.0 true (and_known (λ x. Called g s (x, tt) true s) (p.at k.0) k.0 (item p z k.0 k.1) k.2))))
    any_of n false p z e h =
        let c = range_runs p p.seen in
        none_passes n (any_below f n) refl
        (λ j l. gives j false (if_known (λ x. Called g s (x, tt) false s) (p.at j) j (item p z j (let w = c.1 h.0 in omega arith)) (h.1 keeps j)))

    pub found_any : (n : ℕ) (b : Bool) (a : Range ℕ) → a.start ≡ 0 → a.end ≡ n
        → SomeRun nat_range_steps a (λ p. MatchBool b (AnyItemGives p g s true) ((p.whole ≡ true) × AllItemsGive p g s false))
        → b ≡ any_below f n
    found_any n b a z e (p, from, h) =
        any_of n b p (ap (λ (q : Range ℕ). q.start) from ∙ z) (ap (λ (q : Range ℕ). q.end) from ∙ e) h
