-- Rule 14: a signal stands at a joint of its segment, and no buffer stop lies across that joint.
use Rattle.std.specs.Prelude.{◌≡◌, ℕ, Bool, not, ◌&&◌, length, Option}
use Rattle.firsts.specs.Claims.{first_failing, FirstBreach}
use Rattle.station.specs.declared.tables.Beyond.TheVariants.{BufferStop}
use Rattle.station.specs.declared.tables.Signal.{Signal}
use Rattle.station.specs.Station.{Station}
use Rattle.station.specs.Numbers.{signal_at}
use Rattle.station.specs.Joints.{is_stop, touches, Touches, across}

pub record SoundSignal (s : Station) (x : Signal) : Type 0 where
  pub here : Touches s x.joint x.segment
  pub open_beyond : across s x.joint x.segment ≡ BufferStop → ⊥

abbrev pub sound_signal : Station → Signal → Bool
sound_signal s x = touches s x.joint x.segment && not (is_stop (across s x.joint x.segment))

-- the first signal that breaks the rule
abbrev pub breach_14 : Station → Option ℕ
breach_14 s = first_failing (λ n. sound_signal s (signal_at s n)) (length s.signals)

abbrev pub Breach14 : Station → Option ℕ → Type 0
Breach14 s = FirstBreach (λ n. SoundSignal s (signal_at s n)) (length s.signals)
