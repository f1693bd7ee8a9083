-- A list keeps its limits exactly when no pair of it was one too many.
use Rattle.std.proofs.Common.{◌≡◌, ℕ, suc, ◌+◌, ◌<◌, ◌≤◌, Bool, true, false, cond, ◌&&◌, leb, List, [], ◌∷◌, ◌++◌, length, refl, ap, ◌∙◌, arith, length-append}
use Rattle.std.proofs.lemmas.List.{length_push}
use Rattle.std.proofs.lemmas.List.Sums.{sum_by-append, sum_by-cons}
use Rattle.std.proofs.lemmas.Bool.{or_from, or_parts, lt-leb, leb-false}
use Rattle.forms.specs.declared.lists.Listing.{Listing}
use Rattle.forms.specs.Lists.{most}
use Rattle.forms.specs.Things.{Spot}
use Rattle.rows.specs.Rows.{Pair}
use Rattle.steps.specs.Pairs.{runs, in_path, subroutes, too_many}
use Rattle.writing.specs.Forms.{Within}

abbrev one_if : Bool → ℕ
one_if b = cond b 1 0

-- the subroutes before a pair, its own and those behind it
subroutes_at : (taken : List (Pair Spot)) (p : Pair Spot) (ps : List (Pair Spot)) → subroutes (taken ++ p ∷ ps) ≡ subroutes taken + (one_if (runs p.thing) + subroutes ps)
unfolding subroutes
subroutes_at taken p ps =
    sum_by-append (λ (q : Pair Spot). one_if (runs q.thing)) taken (p ∷ ps)
    ∙ ap (λ n. subroutes taken + n) (sum_by-cons (λ (q : Pair Spot). one_if (runs q.thing)) p ps)

-- an empty list has none
no_subroutes : subroutes {N = Spot} [] ≡ 0
unfolding subroutes
no_subroutes = refl

module _ (list : Listing) (taken : List (Pair Spot)) (p : Pair Spot) where
  -- a path that had room has at most 12
  path_kept : (b r : Bool) → in_path list ≡ b → runs p.thing ≡ r → (b && (r && leb 12 (subroutes taken))) ≡ false → (in_path list ≡ true → subroutes taken ≤ 12) → in_path list ≡ true → subroutes (taken ++ p ∷ []) ≤ 12
  path_kept false r i s e h t = let z : ◌≡◌ {A = Bool} true false = cc in let y : ◌≡◌ {A = ℕ} 0 1 = cc in absurd (omega arith)
  path_kept true false i s e h t =
      let n = subroutes_at taken p [] in
      let m = no_subroutes in
      let o : one_if (runs p.thing) ≡ 0 = ap one_if s in
      let k = h t in
      omega arith
  path_kept true true i s e h t =
      let n = subroutes_at taken p [] in
      let m = no_subroutes in
      let o : one_if (runs p.thing) ≡ 1 = ap one_if s in
      let k : subroutes taken < 12 = leb-false _ _ e in
      omega arith

  -- a pair that is not one too many keeps the limits
  pub within_more : too_many list taken p.thing ≡ false → Within list taken → Within list (taken ++ p ∷ [])
  within_more e w =
      let q = or_parts _ _ e in
      let l : length taken < most list = leb-false _ _ q.0 in
      let n = length_push taken p in
      (omega arith, path_kept _ _ refl refl q.1 w.1)

  -- a path of at most 12 had room
  path_room : (ps : List (Pair Spot)) (b r : Bool) → in_path list ≡ b → runs p.thing ≡ r → (in_path list ≡ true → subroutes (taken ++ p ∷ ps) ≤ 12) → (b && (r && leb 12 (subroutes taken))) ≡ false
  path_room ps false r i s h = refl
  path_room ps true false i s h = refl
  path_room ps true true i s h =
      let n = subroutes_at taken p ps in
      let o : one_if (runs p.thing) ≡ 1 = ap one_if s in
      let k = h i in
      lt-leb _ _ (omega arith)

  -- no pair of a list within the limits is one too many
  pub within_room : (ps : List (Pair Spot)) → Within list (taken ++ p ∷ ps) → too_many list taken p.thing ≡ false
  within_room ps w =
      let n : length (taken ++ p ∷ ps) ≡ length taken + suc (length ps) = length-append taken (p ∷ ps) in
      let m = w.0 in
      or_from _ _ (lt-leb _ _ (omega arith)) (path_room ps _ _ refl refl w.1)
