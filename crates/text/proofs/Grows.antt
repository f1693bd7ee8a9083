-- A token takes an octet at least.
use Rattle.std.proofs.Common.{◌≡◌, ℕ, ◌+◌, ◌<◌, ◌≤◌, Bool, true, false, cond, eqb, leb, List, length, get_or, slice_range, Some, None, Ok, refl, arith}
use Rattle.std.proofs.lemmas.Bool.{leb-false, le-leb, or_from, not_from_false, cond-true}
use Rattle.text.specs.declared.octets.Class.TheVariants.{Blank, Inner}
use Rattle.text.specs.Octets.{blank, past}
use Rattle.text.specs.Tokens.{Item, star, comma, checked, as_item, token_at, end_at, next_token, next_place}
use Rattle.text.proofs.Pasts.{past_yes, past_stops}

module _ (t : List ℕ) (s : ℕ) where
  abbrev octet : ℕ
  octet = get_or t s 0

  inner_runs : s < length t → blank octet ≡ false → eqb octet 42 ≡ false → eqb octet 44 ≡ false → s < past Inner t s
  inner_runs h b m n =
      let e = past_yes Inner t s h (not_from_false _ (or_from _ _ b (or_from _ _ m n))) in omega (arith, e)

  grows_by : (x : Item) (l m n : Bool) → leb (length t) s ≡ l → eqb octet 42 ≡ m → eqb octet 44 ≡ n → (s < length t → blank octet ≡ false)
      → cond l (Ok None) (cond m (Ok (Some (star s))) (cond n (Ok (Some (comma s))) (as_item s (checked s (slice_range t s (past Inner t s)))))) ≡ Ok (Some x)
      → s < cond l s (cond m (s + 1) (cond n (s + 1) (past Inner t s)))
  grows_by x true m n el em en b e = let z : ◌≡◌ {A = ℕ} 0 1 = cc in absurd (omega arith)
  grows_by x false true n el em en b e = omega arith
  grows_by x false false true el em en b e = omega arith
  grows_by x false false false el em en b e =
      let h : s < length t = leb-false _ _ el in inner_runs h (b h) em en

  pub grows_at : (x : Item) → (s < length t → blank octet ≡ false) → token_at t s ≡ Ok (Some x) → s < end_at t s
  grows_at x b e = grows_by x _ _ _ refl refl refl b e

pub grows : (t : List ℕ) (at : ℕ) (x : Item) → next_token t at ≡ Ok (Some x) → at < next_place t at
grows t at x e = omega (arith, grows_at t (past Blank t at) x (past_stops Blank t at) e)

-- nothing is left past the end
pub none_past : (t : List ℕ) (at : ℕ) → length t ≤ at → next_token t at ≡ Ok None
none_past t at h =
    let e : length t ≤ past Blank t at = omega arith in cond-true _ _ _ (le-leb _ _ e)
