-- What it says that a call is not refused.
use Rattle.std.proofs.Common.{◌≡◌, ℕ, Bool, true, false, cond, Some, None, Option, arith}
use Rattle.states.specs.Denials.{by_test}

-- a refusal where a test fails was not given: the test held
pub passed_test : {A : Type 0} (b : Bool) (rest : Option A) (e : A) → cond b rest (Some e) ≡ None → (b ≡ true) × (rest ≡ None)
passed_test b rest e d = grind arith

-- a refusal where a test holds
pub failed_test : {A : Type 0} (b : Bool) (rest : Option A) (e : A) → cond b (Some e) rest ≡ None → (b ≡ false) × (rest ≡ None)
failed_test b rest e d = grind arith

pub no_test_fails : (o : Option ℕ) → by_test o ≡ None → o ≡ None
no_test_fails o e = grind arith
