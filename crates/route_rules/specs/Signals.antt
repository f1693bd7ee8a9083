-- Rule 22: a signal stands at a route's start, none at an inner joint along its path, and at its end one onward, or the outside or a buffer stop lies there.
use Rattle.std.specs.Prelude.{ℕ, ◌-◌, ◌<◌, Bool, true, cond, not, ◌&&◌, length, Option, nat_lt}
use Rattle.firsts.specs.Claims.{all_below, first_failing, FirstBreach}
use Rattle.station.specs.declared.tables.Beyond.{Beyond}
use Rattle.station.specs.declared.tables.Beyond.TheVariants.{Segment, Outside, BufferStop}
use Rattle.station.specs.Station.{Station}
use Rattle.station.specs.Subroutes.{start, end, segment_of}
use Rattle.station.specs.Joints.{across, signalled, Signalled}
use Rattle.station.specs.Paths.{path_length, on_path}

-- a signal governs the way into the subroute
abbrev pub Into : Station → ℕ → Type 0
Into s u = Signalled s (start s u) (segment_of s u)

abbrev pub into : Station → ℕ → Bool
into s u = signalled s (start s u) (segment_of s u)

-- over the joint j, what lies there is signalled or is no segment
abbrev pub Onward : Station → ℕ → Beyond → Type 0
Onward s j (Segment t) = Signalled s j t
Onward s j Outside = Unit {0}
Onward s j BufferStop = Unit {0}

abbrev pub onward : Station → ℕ → Beyond → Bool
onward s j (Segment t) = signalled s j t
onward s j Outside = true
onward s j BufferStop = true

-- the last subroute of a route's path
abbrev pub last_of : Station → ℕ → ℕ
last_of s r = on_path s r (path_length s r - 1)

-- what lies across the joint at which a subroute ends
abbrev pub past : Station → ℕ → Beyond
past s u = across s (end s u) (segment_of s u)

pub record SoundSignals (s : Station) (r : ℕ) : Type 0 where
  pub entry : Into s (on_path s r 0)
  pub inner : (k : ℕ) → k < path_length s r → 0 < k → Into s (on_path s r k) → ⊥
  pub exit : Onward s (end s (last_of s r)) (past s (last_of s r))

abbrev pub unsignalled_at : Station → ℕ → ℕ → Bool
unsignalled_at s r k = cond (nat_lt 0 k) (not (into s (on_path s r k))) true

abbrev pub leads_on : Station → ℕ → Bool
leads_on s u = onward s (end s u) (past s u)

abbrev pub sound_signals : Station → ℕ → Bool
sound_signals s r = into s (on_path s r 0) && (all_below (unsignalled_at s r) (path_length s r) && leads_on s (last_of s r))

-- the first route that breaks the rule
abbrev pub breach_22 : Station → Option ℕ
breach_22 s = first_failing (sound_signals s) (length s.routes)

abbrev pub Breach22 : Station → Option ℕ → Type 0
Breach22 s = FirstBreach (SoundSignals s) (length s.routes)
