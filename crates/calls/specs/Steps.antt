-- The eight calls of the interlocking as one relation between a state, a call, its answer and the state that it leaves.
use Rattle.std.specs.Prelude.{◌≡◌, ℕ, Bool, Ok, Err, Option, Result}
use Rattle.conditions.specs.States.{State}
use Rattle.states.specs.declared.denials.Denial.{Denial}
use Rattle.station.specs.Station.{Station}
use Rattle.calls.specs.Grants.{Activates, Releases, Requests}
use Rattle.calls.specs.Moves.{Entering, Fronting, Rearing, Settling, Turning}
use Rattle.calls.specs.declared.values.Answer.{Answer}
use Rattle.calls.specs.declared.values.Answer.TheVariants.{Done, Settled, Passed, Refused}
use Rattle.calls.specs.declared.values.Call.{Call}
use Rattle.calls.specs.declared.values.Call.TheVariants.{Request, Activate, Release, Settle, Enter, Front, Rear, Turn}

-- a refusal, or what is answered to a value
abbrev pub answered : {A : Type 0} → (A → Answer) → Result A Denial → Answer
answered f (Ok x) = f x
answered f (Err e) = Refused e

-- what is answered to a call that has no value, whether a point settled, the signal that was passed
abbrev pub done_answer : Result Unit Denial → Answer
done_answer r = answered (λ x. Done) r

abbrev pub settled_answer : Result Bool Denial → Answer
settled_answer r = answered (λ b. Settled b) r

abbrev pub passed_answer : Result (Option ℕ) Denial → Answer
passed_answer r = answered (λ n. Passed n) r

-- the call, answered so, leads from the state v to the state w
abbrev pub Steps : Station → State → Call → Answer → State → Type 0
Steps s v (Request r) a w = (x : Result Unit Denial) × (Requests s v r x w × (a ≡ done_answer x))
Steps s v (Activate r) a w = (x : Result Unit Denial) × (Activates s v r x w × (a ≡ done_answer x))
Steps s v (Release l) a w = (x : Result Unit Denial) × (Releases s v l x w × (a ≡ done_answer x))
Steps s v (Settle p) a w = (x : Result Bool Denial) × (Settling s v p x w × (a ≡ settled_answer x))
Steps s v (Enter t n) a w = (x : Result Unit Denial) × (Entering s v t n x w × (a ≡ done_answer x))
Steps s v (Front t) a w = (x : Result (Option ℕ) Denial) × (Fronting s v t x w × (a ≡ passed_answer x))
Steps s v (Rear t) a w = (x : Result Unit Denial) × (Rearing s v t x w × (a ≡ done_answer x))
Steps s v (Turn t) a w = (x : Result Unit Denial) × (Turning s v t x w × (a ≡ done_answer x))
