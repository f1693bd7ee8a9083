-- The calls on one train: enter, front, rear and turn.
use Rattle.std.specs.Prelude.{ℕ, Bool, true, false, cond, length, Some, None, Ok, Err, Option, nat_lt}
use Rattle.station.specs.Joints.{across, signalled}
use Rattle.station.specs.Numbers.{signal_at}
use Rattle.station.specs.Station.{Station}
use Rattle.station.specs.declared.tables.Beyond.{Beyond}
use Rattle.station.specs.declared.tables.Beyond.TheVariants as beyond
use Rattle.track.specs.Meaning.{Meaning, aspect_at, fits, train_at}
use Rattle.track.specs.Trains.{come_in, drawn_in, gone_on, off_track, Train}
use Rattle.track.specs.Ways.{governor, halts, is_stop, way_out}
use Rattle.track.specs.declared.refusals.Refusal.{Refusal}
use Rattle.track.specs.declared.refusals.Refusal.TheVariants.{Unknown, Presence, StopAhead, Extent, Unsignalled, OffTrack, Mismatch}
use Rattle.track.specs.declared.states.Place.{Place}
use Rattle.track.specs.declared.states.Step.{Step}

-- refused, and nothing changes
abbrev pub refused : Refusal → Step
refused e = record { answer = Err e; train = None }

-- refused since no way fits: the train is derailed where it stands
abbrev pub derailing : Place → Step
derailing p = record { answer = Err OffTrack; train = Some (off_track p) }

-- done: the signal that was passed, and the train's record
abbrev pub done : Option ℕ → Train → Step
done n t = record { answer = Ok n; train = Some t }

-- a call on one of the 16 trains, on a track that fits
abbrev pub on_train : Station → Meaning → ℕ → Step → Step
on_train s m i step = cond (fits s m) (cond (nat_lt i 16) step (refused Unknown)) (refused Mismatch)

abbrev pub is_outside : Beyond → Bool
is_outside (beyond.Segment u) = false
is_outside beyond.Outside = true
is_outside beyond.BufferStop = false

-- enter: from outside, past a signal that shows proceed
abbrev pub enter_at : Station → Meaning → ℕ → ℕ → ℕ → Step
enter_at s m n j t =
    cond (is_outside (across s j t)) (cond (is_stop (aspect_at m n)) (refused StopAhead) (done (Some n) (come_in t j))) (refused StopAhead)

abbrev pub enter_train : Station → Meaning → ℕ → Train → Step
enter_train s m n None = enter_at s m n (signal_at s n).joint (signal_at s n).segment
enter_train s m n (Some p) = refused Presence

abbrev pub enter_step : Station → Meaning → ℕ → ℕ → Step
enter_step s m i n = on_train s m i (cond (nat_lt n (length m.signals)) (enter_train s m n (train_at m i)) (refused Unknown))

-- a train that is to move: it is present, not derailed, and wholly in one segment
abbrev pub in_one : Place → (ℕ → Step) → Option ℕ → Option ℕ → Step
in_one p go (Some t) None = go t
in_one p go (Some t) (Some u) = refused Extent
in_one p go None None = refused Extent
in_one p go None (Some u) = refused Extent

abbrev pub on_track : Place → Step → Step
on_track p step = cond p.derailed (refused OffTrack) step

-- front: over the joint j, out of the segment t
abbrev pub front_over : Station → Meaning → ℕ → ℕ → Beyond → Step
front_over s m t j (beyond.Segment u) =
    cond (halts m (governor s j u)) (refused StopAhead) (done (governor s j u) (gone_on (Some u) j t))
front_over s m t j beyond.Outside = done None (gone_on None j t)
front_over s m t j beyond.BufferStop = refused Extent

abbrev pub front_by : Station → Meaning → Place → ℕ → Option ℕ → Step
front_by s m p t None = derailing p
front_by s m p t (Some j) = front_over s m t j (across s j t)

abbrev pub front_train : Station → Meaning → Train → Step
front_train s m None = refused Presence
front_train s m (Some p) =
    on_track p (in_one p (λ t. front_by s m p t (way_out s m t p.joint)) p.front p.rear)

abbrev pub front_step : Station → Meaning → ℕ → Step
front_step s m i = on_train s m i (front_train s m (train_at m i))

-- rear: gives up what lies behind the front
abbrev pub rear_by : Place → Option ℕ → Step
rear_by p None = refused Extent
rear_by p (Some u) = done None (drawn_in p p.front)

abbrev pub rear_train : Train → Step
rear_train None = refused Presence
rear_train (Some p) = on_track p (rear_by p p.rear)

abbrev pub rear_step : Station → Meaning → ℕ → Step
rear_step s m i = on_train s m i (rear_train (train_at m i))

-- turn: a signal stands onward over the joint j, out of the segment
abbrev pub onward : Station → ℕ → Beyond → Bool
onward s j (beyond.Segment u) = signalled s j u
onward s j beyond.Outside = false
onward s j beyond.BufferStop = false

abbrev pub turn_by : Station → Place → ℕ → Option ℕ → Step
turn_by s p t None = derailing p
turn_by s p t (Some j) = cond (onward s p.joint (across s p.joint t)) (done None (come_in t j)) (refused Unsignalled)

abbrev pub turn_train : Station → Meaning → Train → Step
turn_train s m None = refused Presence
turn_train s m (Some p) =
    on_track p (in_one p (λ t. turn_by s p t (way_out s m t p.joint)) p.front p.rear)

abbrev pub turn_step : Station → Meaning → ℕ → Step
turn_step s m i = on_train s m i (turn_train s m (train_at m i))
