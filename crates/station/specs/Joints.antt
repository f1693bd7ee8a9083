-- Joints and the segments at them, what lies across a joint, and the signals there.
use Rattle.std.specs.Prelude.{◌≡◌, ℕ, ◌<◌, Bool, true, false, cond, ◌&&◌, ◌||◌, ◌⊎◌, length, Contains, ◌==◌, nat_lt}
use Rattle.station.specs.declared.tables.Beyond.{Beyond}
use Rattle.station.specs.declared.tables.Beyond.TheVariants.{Segment, Outside, BufferStop}
use Rattle.station.specs.Station.{Station}
use Rattle.firsts.specs.Lists.{any}
use Rattle.station.specs.Numbers.{joint_at}
use Rattle.station.specs.Alike.{same_signal}

-- a side is the segment t
abbrev pub is_segment : Beyond → ℕ → Bool
is_segment (Segment s) t = s == t
is_segment Outside t = false
is_segment BufferStop t = false

abbrev pub is_stop : Beyond → Bool
is_stop (Segment s) = false
is_stop Outside = false
is_stop BufferStop = true

-- a side of the joint is the segment
abbrev pub beside : Station → ℕ → ℕ → Bool
beside s j t = (joint_at s j).segment == t || is_segment (joint_at s j).beyond t

-- the joint is one of the segment's
abbrev pub touches : Station → ℕ → ℕ → Bool
touches s j t = nat_lt j (length s.joints) && beside s j t

pub record Touches (s : Station) (j t : ℕ) : Type 0 where
  pub declared : j < length s.joints
  pub side : ((joint_at s j).segment ≡ t) ⊎ ((joint_at s j).beyond ≡ Segment t)

-- what lies across the joint, seen from the segment t
abbrev pub across : Station → ℕ → ℕ → Beyond
across s j t = cond ((joint_at s j).segment == t) (joint_at s j).beyond (Segment (joint_at s j).segment)

-- a signal at the joint governs entering the segment t
abbrev pub signalled : Station → ℕ → ℕ → Bool
signalled s j t = any (same_signal (record { joint = j; segment = t })) s.signals

abbrev pub Signalled : Station → ℕ → ℕ → Type 0
Signalled s j t = Contains s.signals (record { joint = j; segment = t })
