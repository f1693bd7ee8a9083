-- Every signal of a trackside put to stop, one after another.
use Rattle.std.proofs.Common.{◌≡◌, ℕ, zero, suc, ◌+◌, ◌<◌, Bool, true, cond, ◌&&◌, eqb, List, [], ◌∷◌, length, set, replicate, Some, None, refl, ap, ◌∙◌, add-one, arith, length-set, lt-ltb, eqb-true}
use Rattle.std.proofs.lemmas.Bool.{and_parts}
use Rattle.calls.specs.Grants.{shown}
use Rattle.calls.specs.Opening.{all_stop}
use Rattle.station.specs.Station.{Station}
use Rattle.track.specs.Meaning.{Meaning, fits}
use Rattle.track.specs.Refusals.{after}
use Rattle.track.specs.declared.refusals.Refusal.TheVariants.{Unknown, Mismatch}
use Rattle.track.specs.declared.states.Aspect.{Aspect}
use Rattle.track.specs.declared.states.Aspect.TheVariants.{Stop}

abbrev stop_first : ℕ → List Aspect → List Aspect
stop_first zero xs = xs
stop_first (suc k) xs = set (stop_first k xs) k Stop

long : (k : ℕ) (xs : List Aspect) → length (stop_first k xs) ≡ length xs
long zero xs = refl
long (suc k) xs = length-set (stop_first k xs) k Stop ∙ long k xs

first_stopped : (k : ℕ) (x : Aspect) (xs : List Aspect) → stop_first (suc k) (x ∷ xs) ≡ Stop ∷ stop_first k xs
first_stopped zero x xs = refl
first_stopped (suc k) x xs = ap (λ ys. set ys (suc k) Stop) (first_stopped k x xs)

all_stopped : (xs : List Aspect) → stop_first (length xs) xs ≡ replicate (length xs) Stop
all_stopped [] = refl
all_stopped (x ∷ xs) = first_stopped (length xs) x xs ∙ ap (λ ys. Stop ∷ ys) (all_stopped xs)

abbrev with_signals : Meaning → List Aspect → Meaning
with_signals m xs = record { points = m.points; signals = xs; trains = m.trains }

-- the first k signals put to stop
abbrev pub Stopped : Meaning → ℕ → Meaning → Type 0
Stopped m k n = n ≡ with_signals m (stop_first k m.signals)

-- a signal of a trackside that matches is shown
granted : (a b : Bool) (old new : Meaning) → a ≡ true → b ≡ true → after (cond a (cond b None (Some Unknown)) (Some Mismatch)) old new ≡ new
granted a b old new p q = rw (p, q)

module _ (s : Station) (m : Meaning) (fit : fits s m ≡ true) where
  still_fits : (k : ℕ) → fits s (with_signals m (stop_first k m.signals)) ≡ true
  still_fits k = ap (λ n. eqb (length s.points) (length m.points) && eqb (length s.signals) n) (long k m.signals) ∙ fit

  as_many : length s.signals ≡ length m.signals
  as_many = eqb-true _ _ (and_parts _ _ fit).1

  show_next : (k : ℕ) → k < length s.signals → shown s (with_signals m (stop_first k m.signals)) (Some k) Stop ≡ with_signals m (stop_first (suc k) m.signals)
  show_next k l =
      let fewer : k < length (stop_first k m.signals) = omega (arith, long k m.signals, as_many, l) in
      granted _ _ _ _ (still_fits k) (lt-ltb _ _ fewer)

  pub stopped_more : (k : ℕ) (now next : Meaning) → k < length s.signals → Stopped m k now → next ≡ shown s now (Some k) Stop → Stopped m (k + 1) next
  stopped_more k now next l e f = rw add-one (f ∙ ap (λ x. shown s x (Some k) Stop) e ∙ show_next k l)

  pub stopped_all : (k : ℕ) (n : Meaning) → k ≡ length s.signals → Stopped m k n → n ≡ all_stop m
  stopped_all k n e h = h ∙ ap (λ x. with_signals m (stop_first x m.signals)) (e ∙ as_many) ∙ ap (with_signals m) (all_stopped m.signals)
