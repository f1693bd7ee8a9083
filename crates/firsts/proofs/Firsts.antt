-- None is found exactly where no place has an answer, and what is found is the first.
use Rattle.std.proofs.Common.{◌≡◌, ℕ, zero, suc, ◌+◌, ◌<◌, ◌≤◌, Bool, true, false, not, cond, find, ◌⊎◌, Some, None, Decides, Option, sym, refl, ap, ◌∙◌, subst, inl, inr, ⊎_elim, add-one, arith, MatchOption}
use Rattle.std.specs.List.{range_with_len}
use Rattle.std.proofs.lemmas.Bool.{cases_order}
use Rattle.std.proofs.lemmas.Bool.Decides.{not_from_Decides}
use Rattle.firsts.specs.Search.{or_else, first_from, first_below, FoundAt, First}
use Rattle.firsts.specs.Claims.{first_failing, Breaks, FirstBreach, paired, first_pair, PairBreaks, FirstPair}

same_or_more : (k j : ℕ) → k ≤ j → (j ≡ k) ⊎ (suc k ≤ j)
same_or_more k j h = ⊎_elim (λ e. inl e) (λ o. inr (⊎_elim (λ l. absurd (omega arith)) (λ m. m) o)) (cases_order j k)

-- the answer at the first of n places from k on
record FoundFrom {X : Type 0} (f : ℕ → Option X) (k n : ℕ) (x : X) : Type 0 where
  place : ℕ
  after : k ≤ place
  within : place < k + n
  answer : f place ≡ Some x
  before : (j : ℕ) → k ≤ j → j < place → f j ≡ None

abbrev FromCases : {X : Type 0} → (ℕ → Option X) → ℕ → ℕ → Option X → Type 0
FromCases f k n r = MatchOption r ((j : ℕ) → k ≤ j → j < k + n → f j ≡ None) (FoundFrom f k n)

later : {X : Type 0} (f : ℕ → Option X) (k n : ℕ) (r : Option X) → f k ≡ None → FromCases f (suc k) n r → FromCases f k (suc n) r
later f k n None e h = λ j a b. ⊎_elim (λ s. ap f s ∙ e) (λ m. h j m (omega arith)) (same_or_more k j a)
later f k n (Some x) e h =
    record {
      place = h.place;
      after = omega (arith, h.after);
      within = omega (arith, h.within);
      answer = h.answer;
      before = λ j a b. ⊎_elim (λ s. ap f s ∙ e) (λ m. h.before j m b) (same_or_more k j a);
    }

at_once : {X : Type 0} (f : ℕ → Option X) (k n : ℕ) (o : Option X) → f k ≡ o → FromCases f (suc k) n (first_from f (suc k) n) → FromCases f k (suc n) (or_else o (first_from f (suc k) n))
at_once f k n None e h = later f k n (first_from f (suc k) n) e h
at_once f k n (Some x) e h =
    record { place = k; after = omega arith; within = omega arith; answer = e; before = λ j a b. absurd (omega arith) }

found_from : {X : Type 0} (f : ℕ → Option X) (n k : ℕ) → FromCases f k n (first_from f k n)
unfolding first_from
found_from f zero k = λ j a b. absurd (omega arith)
found_from f (suc n) k = at_once f k n (f k) refl (found_from f n (suc k))

from_zero : {X : Type 0} (f : ℕ → Option X) (n : ℕ) (r : Option X) → FromCases f 0 n r → First f n r
from_zero f n None h = λ j a. h j (omega arith) (omega arith)
from_zero f n (Some x) h =
    record {
      place = h.place;
      within = omega (arith, h.within);
      answer = h.answer;
      before = λ j a. h.before j (omega arith) a;
    }

-- what a search finds is the first answer
pub first_is : {X : Type 0} (f : ℕ → Option X) (n : ℕ) → First f n (first_below f n)
first_is f n = from_zero f n (first_below f n) (found_from f n 0)

none_only : {X : Type 0} (f : ℕ → Option X) (n : ℕ) (r : Option X) → First f n r → r ≡ None → (j : ℕ) → j < n → f j ≡ None
none_only f n None h e = h
none_only f n (Some x) h e = let z : ◌≡◌ {A = ℕ} 0 1 = cc in absurd (omega arith)

-- none is found only where no place has an answer
pub none_below : {X : Type 0} (f : ℕ → Option X) (n : ℕ) → first_below f n ≡ None → (j : ℕ) → j < n → f j ≡ None
none_below f n e = none_only f n (first_below f n) (first_is f n) e

none_since : {X : Type 0} (f : ℕ → Option X) (n : ℕ) (r : Option X) → First f n r → ((j : ℕ) → j < n → f j ≡ None) → r ≡ None
none_since f n None h g = refl
none_since f n (Some x) h g = let s : None ≡ Some x = sym (g h.place h.within) ∙ h.answer in let z : ◌≡◌ {A = ℕ} 0 1 = cc in absurd (omega arith)

-- and where no place has one, none is found
pub all_none : {X : Type 0} (f : ℕ → Option X) (n : ℕ) → ((j : ℕ) → j < n → f j ≡ None) → first_below f n ≡ None
all_none f n g = none_since f n (first_below f n) (first_is f n) g

kept : (b : Bool) (i : ℕ) → cond b None (Some i) ≡ None → b ≡ true
kept true i e = refl
kept false i e = let z : ◌≡◌ {A = ℕ} 0 1 = cc in absurd (omega arith)

failed : (b : Bool) (i j : ℕ) → cond b None (Some i) ≡ Some j → (b ≡ false) × (i ≡ j)
failed true i j e = let z : ◌≡◌ {A = ℕ} 0 1 = cc in absurd (omega arith)
failed false i j e = (refl, cc)

moved : (P : ℕ → Type 0) (n i j : ℕ) → i ≡ j → Breaks P n i → Breaks P n j
moved P n i j e h = subst (Breaks P n) e h

breach_from : (p : ℕ → Bool) (P : ℕ → Type 0) (each : (i : ℕ) → Decides (p i) (P i)) (n : ℕ) (r : Option ℕ) → First (λ i. cond (p i) None (Some i)) n r → FirstBreach P n r
breach_from p P each n None h = λ i l. (each i).0 (kept (p i) i (h i l))
breach_from p P each n (Some x) h =
    let f = failed (p h.place) h.place x h.answer in
    moved P n h.place x f.1 (record {
      within = h.within;
      broken = not_from_Decides (p h.place) (each h.place) f.0;
      before = λ j l. (each j).0 (kept (p j) j (h.before j l));
    })

find_step : (b : Bool) (i : ℕ) (r s : Option ℕ) → r ≡ s → cond (not b) (Some i) r ≡ or_else (cond b None (Some i)) s
find_step true i r s e = e
find_step false i r s e = refl

-- the first number that fails is the first answer of the question that answers the numbers that fail
found_failing : (p : ℕ → Bool) (n k : ℕ) → find (λ i. not (p i)) (range_with_len k n) ≡ first_from (λ i. cond (p i) None (Some i)) k n
unfolding first_from
found_failing p zero k = refl
found_failing p (suc n) k =
    find_step (p k) k (find (λ i. not (p i)) (range_with_len (k + 1) n)) (first_from (λ i. cond (p i) None (Some i)) (suc k) n)
    (ap (λ m. find (λ i. not (p i)) (range_with_len m n)) (add-one k) ∙ found_failing p n (suc k))

-- the first number of which a test fails is the first that breaks what the test tells
pub breach_is : (p : ℕ → Bool) (P : ℕ → Type 0) (each : (i : ℕ) → Decides (p i) (P i)) (n : ℕ) → FirstBreach P n (first_failing p n)
breach_is p P each n =
    subst (FirstBreach P n) (sym (found_failing p n 0)) (breach_from p P each n (first_below (λ i. cond (p i) None (Some i)) n) (first_is (λ i. cond (p i) None (Some i)) n))

-- what a row of pairs answers
module _ (P : ℕ → ℕ → Type 0) (m : ℕ) where
  row_none : (i : ℕ) (o : Option ℕ) → FirstBreach (P i) m o → paired i o ≡ None → (j : ℕ) → j < m → P i j
  row_none i None h e = h
  row_none i (Some k) h e = let z : ◌≡◌ {A = ℕ} 0 1 = cc in absurd (omega arith)

  row_some : (n i : ℕ) (o : Option ℕ) (q : ℕ × ℕ) → i < n → ((a b : ℕ) → a < i → b < m → P a b) → FirstBreach (P i) m o → paired i o ≡ Some q → PairBreaks P n m q
  row_some n i None q l before h e = let z : ◌≡◌ {A = ℕ} 0 1 = cc in absurd (omega arith)
  row_some n i (Some k) q l before h e =
      let s : (i, k) ≡ q = cc in
      subst (PairBreaks P n m) s (record { within = l; inside = h.within; broken = h.broken; beside = h.before; before = before })

  pair_from : (f : ℕ → Option ℕ) (each : (i : ℕ) → FirstBreach (P i) m (f i)) (n : ℕ) (r : Option (ℕ × ℕ)) → First (λ i. paired i (f i)) n r → FirstPair P n m r
  pair_from f each n None h = λ i j a b. row_none i (f i) (each i) (h i a) j b
  pair_from f each n (Some q) h =
      row_some n h.place (f h.place) q h.within (λ a b l w. row_none a (f a) (each a) (h.before a l) b w) (each h.place) h.answer

-- the first pair of which a test fails is the first that breaks what the test tells
pub pair_is : (p : ℕ × ℕ → Bool) (P : ℕ → ℕ → Type 0) (each : (i j : ℕ) → Decides (p (i, j)) (P i j)) (n m : ℕ) → FirstPair P n m (first_pair p n m)
pair_is p P each n m =
    pair_from P m (λ i. first_failing (λ j. p (i, j)) m) (λ i. breach_is (λ j. p (i, j)) (P i) (each i) m) n (first_pair p n m)
    (first_is (λ i. paired i (first_failing (λ j. p (i, j)) m)) n)

from_same : {X : Type 0} (f g : ℕ → Option X) → ((k : ℕ) → f k ≡ g k) → (n k : ℕ) → first_from f k n ≡ first_from g k n
unfolding first_from
from_same f g e zero k = refl
from_same f g e (suc n) k = ap (λ o. or_else o (first_from f (suc k) n)) (e k) ∙ ap (or_else (g k)) (from_same f g e n (suc k))

-- the same answers have the same first
pub first_same : {X : Type 0} (f g : ℕ → Option X) → ((k : ℕ) → f k ≡ g k) → (n : ℕ) → first_below f n ≡ first_below g n
first_same f g e n = from_same f g e n 0

some_only : {X : Type 0} (f : ℕ → Option X) (n : ℕ) (x : X) → FoundAt f n x → (r : Option X) → First f n r → Some x ≡ r
some_only f n x h None g = let s : None ≡ Some x = sym (g h.place h.within) ∙ h.answer in let z : ◌≡◌ {A = ℕ} 0 1 = cc in absurd (omega arith)
some_only f n x h (Some y) g =
    ⊎_elim
    (λ e. sym h.answer ∙ ap f e ∙ g.answer)
    (λ o. ⊎_elim
    (λ l. let s : None ≡ Some x = sym (g.before h.place l) ∙ h.answer in let z : ◌≡◌ {A = ℕ} 0 1 = cc in absurd (omega arith))
    (λ l. let s : None ≡ Some y = sym (h.before g.place l) ∙ g.answer in let z : ◌≡◌ {A = ℕ} 0 1 = cc in absurd (omega arith))
    o)
    (cases_order h.place g.place)

-- whatever is the first answer is what a search finds
pub first_only : {X : Type 0} (f : ℕ → Option X) (n : ℕ) (r : Option X) → First f n r → r ≡ first_below f n
first_only f n None h = sym (all_none f n h)
first_only f n (Some x) h = some_only f n x h (first_below f n) (first_is f n)
