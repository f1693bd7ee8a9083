-- One call more at the end of a log, and what holds of trains through a log from an opening on.
use Rattle.std.proofs.Common.{◌≡◌, ℕ, ◌+◌, ◌<◌, true, List, [], ◌∷◌, ◌++◌, length, get_or, take, None, Ok, Err, Result, IsOk, is_ok, if◌then◌else◌, sym, refl, ap, ◌∙◌, subst}
use Rattle.std.proofs.lemmas.List.{map-append, take_more}
use Rattle.acceptance.specs.Soundness.{sound}
use Rattle.calls.specs.Opening.{open_denial, opened}
use Rattle.calls.specs.Steps.{Steps}
use Rattle.calls.specs.declared.values.Answer.{Answer}
use Rattle.calls.specs.declared.values.Call.{Call}
use Rattle.conditions.specs.States.{State}
use Rattle.running.specs.Logs.{Log, end_of}
use Rattle.safety.specs.Safety.{Carried, Logged, SafeThrough}
use Rattle.safety.proofs.Theorem.{safe_runs}
use Rattle.station.specs.Station.{Station}
use Rattle.track.specs.Meaning.{Meaning}

-- what an `if` gives where a call succeeded
pub grown : {A E X : Type 0} (r : Result A E) (x y z : X) → IsOk r → z ≡ (if is_ok r then x else y) → z ≡ x
grown (Ok a) x y z h e = e
grown (Err a) x y z h e = cc

module _ (s : Station) where
  steps_more : (v : State) (log : List Logged) (e : Logged) → Carried s v log → Steps s (end_of v log) e.call e.answer e.left → Carried s v (log ++ e ∷ []) × (end_of v (log ++ e ∷ []) ≡ e.left)
  steps_more v [] e c step = ((step, tt), refl)
  steps_more v (d ∷ log) e c step = let more = steps_more d.left log e c.1 step in ((c.0, more.0), more.1)

  pub one_more : (cs : List Call) (i : ℕ) (d : Call) (ans new : List Answer) (a : Answer) (v u w : State) → i < length cs → Log s v (take i cs) ans u → Steps s u (get_or cs i d) a w → new ≡ ans ++ a ∷ [] → Log s v (take (i + 1) cs) new w
  one_more cs i d ans new a v u w l log step pushed =
      let e : Logged = record { call = get_or cs i d; answer = a; left = w } in
      let more = steps_more v log.entries e log.steps (subst (λ x. Steps s x (get_or cs i d) a w) (sym log.ends) step) in
      record {
        entries = log.entries ++ e ∷ [];
        calls = map-append (λ e. e.call) log.entries (e ∷ []) ∙ ap (λ xs. xs ++ get_or cs i d ∷ []) log.calls ∙ sym (take_more cs i d l);
        answers = map-append (λ e. e.answer) log.entries (e ∷ []) ∙ ap (λ xs. xs ++ a ∷ []) log.answers ∙ sym pushed;
        steps = more.0;
        ends = more.1;
      }

  pub safe_log : sound s ≡ true → (m : Meaning) → length m.trains ≡ 16 → open_denial s m ≡ None → (v : State) → v ≡ opened m → (cs : List Call) (ans : List Answer) (w : State) → Log s v cs ans w → (log : Log s (opened m) cs ans w) × SafeThrough s (opened m) [] log.entries
  safe_log ok m sixteen granted v e cs ans w log =
      let begun = subst (λ x. Log s x cs ans w) e log in
      (begun, safe_runs s ok m sixteen granted begun.entries begun.steps)
