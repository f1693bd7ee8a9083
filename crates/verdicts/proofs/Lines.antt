-- The front of a text up to an offset.
use Rattle.std.proofs.Common.{◌≡◌, ℕ, ◌≤◌, min, List, length, take, sym, ap, ◌∙◌, ⊎_elim, arith, take_all}
use Rattle.std.proofs.lemmas.Bool.{cases_lt}

-- no more octets are before an offset than the text has
pub before_end : (t : List ℕ) (at : ℕ) → take (min at (length t)) t ≡ take at t
before_end t at =
    ⊎_elim
    (λ l. let e : min at (length t) ≡ at = omega arith in ap (λ n. take n t) e)
    (λ l. let e : min at (length t) ≡ length t = omega arith in ap (λ n. take n t) e ∙ take_all (length t) t (omega arith) ∙ sym (take_all at t l))
    (cases_lt at (length t))
