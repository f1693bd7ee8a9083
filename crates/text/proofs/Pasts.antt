-- One step of a run of octets of a class.
use Rattle.std.proofs.Common.{◌≡◌, ℕ, ◌+◌, ◌<◌, true, false, List, length, get_or, drop, sym, ap, ◌∙◌, arith, length-drop, get_or-drop}
use Rattle.std.specs.List.{prefix_len}
use Rattle.std.proofs.lemmas.List.Sums.{prefix_len-drop_yes, prefix_len_stops}
use Rattle.text.specs.declared.octets.Class.{Class}
use Rattle.text.specs.Octets.{has, past}

module _ (c : Class) (t : List ℕ) (i : ℕ) where
  pub past_yes : i < length t → has c (get_or t i 0) ≡ true → past c t (i + 1) ≡ past c t i
  past_yes h e = omega (arith, prefix_len-drop_yes (has c) t i 0 h e)

-- what stops a run is not of its class
pub past_stops : (c : Class) (t : List ℕ) (i : ℕ) → past c t i < length t → has c (get_or t (past c t i) 0) ≡ false
past_stops c t i h =
    ap (has c) (sym (get_or-drop i t (prefix_len (has c) (drop i t)) 0))
    ∙ prefix_len_stops (has c) (drop i t) 0 (simp length-drop (omega arith))
