-- The way that fits a train: in its segment, at the joint by which it came in, its points settled as written.
use Rattle.std.specs.Prelude.{◌≡◌, ℕ, ◌<◌, Bool, true, false, cond, ◌&&◌, ◌||◌, ◌⊎◌, length, Some, None, Contains, Option, MatchOption, ◌==◌}
use Rattle.firsts.specs.Lists.{all}
use Rattle.firsts.specs.Search.{first_below}
use Rattle.station.specs.Alike.{same_position, same_signal}
use Rattle.station.specs.Numbers.{way_at, signal_at}
use Rattle.station.specs.Station.{Station, WayEntry}
use Rattle.station.specs.declared.tables.Setting.{Setting}
use Rattle.track.specs.Meaning.{Meaning, aspect_at, state_at}
use Rattle.track.specs.declared.states.Aspect.{Aspect}
use Rattle.track.specs.declared.states.Aspect.TheVariants.{Stop, Proceed}

-- the point is settled as the setting says
abbrev pub lies : Meaning → Setting → Bool
lies m x = (state_at m x.point).settled && same_position (state_at m x.point).target x.position

abbrev pub way_fits : Meaning → ℕ → ℕ → WayEntry → Bool
way_fits m t j w = w.segment == t && ((w.from == j || w.to == j) && all (lies m) w.settings)

-- the joint at the way's other end
abbrev pub other_end : WayEntry → ℕ → ℕ
other_end w j = cond (w.from == j) w.to w.from

-- the joint over which a train leaves its segment, by the way that fits
abbrev pub out_by : Station → Meaning → ℕ → ℕ → ℕ → Option ℕ
out_by s m t j w = cond (way_fits m t j (way_at s w)) (Some (other_end (way_at s w) j)) None

abbrev pub way_out : Station → Meaning → ℕ → ℕ → Option ℕ
way_out s m t j = first_below (out_by s m t j) (length s.ways)

-- the way w fits
pub record Fits (s : Station) (m : Meaning) (t j w : ℕ) : Type 0 where
  pub declared : w < length s.ways
  pub inside : (way_at s w).segment ≡ t
  pub at_joint : ((way_at s w).from ≡ j) ⊎ ((way_at s w).to ≡ j)
  pub settled : (x : Setting) → Contains (way_at s w).settings x → ((state_at m x.point).settled ≡ true) × ((state_at m x.point).target ≡ x.position)

-- at most one way fits, whatever the points
abbrev pub OneFits : Station → Type 0
OneFits s = (m : Meaning) (t j v w : ℕ) → Fits s m t j v → Fits s m t j w → v ≡ w

-- a way fits that leads out over the joint k, and no other way fits
pub record LeadsOut (s : Station) (m : Meaning) (t j k : ℕ) : Type 0 where
  pub way : ℕ
  pub fit : Fits s m t j way
  pub onto : other_end (way_at s way) j ≡ k
  pub only : (v : ℕ) → Fits s m t j v → v ≡ way

-- a train leaves by the only way that fits; it has no way out where none fits
abbrev pub WaysLeadOut : Station → Type 0
WaysLeadOut s = (m : Meaning) (t j : ℕ) → MatchOption (way_out s m t j) ((w : ℕ) → Fits s m t j w → ⊥) (LeadsOut s m t j)

-- the signal that governs entering the segment over the joint
abbrev pub governs : Station → ℕ → ℕ → ℕ → Option ℕ
governs s j t n = cond (same_signal (record { joint = j; segment = t }) (signal_at s n)) (Some n) None

abbrev pub governor : Station → ℕ → ℕ → Option ℕ
governor s j t = first_below (governs s j t) (length s.signals)

abbrev pub is_stop : Aspect → Bool
is_stop Stop = true
is_stop Proceed = false

-- the signal, if any, shows stop
abbrev pub halts : Meaning → Option ℕ → Bool
halts m None = false
halts m (Some n) = is_stop (aspect_at m n)
