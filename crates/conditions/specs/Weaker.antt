-- One state has more locks, set routes and occupied segments than another.
use Rattle.std.specs.Prelude.{◌≡◌, ℕ, true, length}
use Rattle.station.specs.declared.tests.Lock.{Lock}
use Rattle.track.specs.Meaning.{clear}
use Rattle.states.specs.Slots.{is_locked}
use Rattle.conditions.specs.States.{State}
use Rattle.conditions.specs.Tests.{unset}

-- points alike, and as many signals; in w every lock of v, every set or active route of v and every occupied segment of v
pub record More (v w : State) : Type 0 where
  pub points : v.track.points ≡ w.track.points
  pub signals : length v.track.signals ≡ length w.track.signals
  pub locks : (l : Lock) → is_locked v.own l ≡ true → is_locked w.own l ≡ true
  pub routes : (r : ℕ) → unset w.own r ≡ true → unset v.own r ≡ true
  pub occupied : (t : ℕ) → clear w.track t ≡ true → clear v.track t ≡ true
