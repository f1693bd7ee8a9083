-- Calls carried out one after another, each with its answer and the state that it left.
use Rattle.std.specs.Prelude.{◌≡◌, List, [], ◌∷◌, map}
use Rattle.conditions.specs.States.{State}
use Rattle.calls.specs.declared.values.Answer.{Answer}
use Rattle.calls.specs.declared.values.Call.{Call}
use Rattle.safety.specs.Safety.{Carried, Logged}
use Rattle.station.specs.Station.{Station}

-- the state that the last call left
abbrev pub end_of : State → List Logged → State
end_of v [] = v
end_of v (e ∷ log) = end_of e.left log

-- The calls, answered so, lead by the step rules from the state v to the state w.
pub record Log (s : Station) (v : State) (cs : List Call) (ans : List Answer) (w : State) : Type 0 where
  pub entries : List Logged
  pub calls : map (λ e. e.call) entries ≡ cs
  pub answers : map (λ e. e.answer) entries ≡ ans
  pub steps : Carried s v entries
  pub ends : end_of v entries ≡ w
