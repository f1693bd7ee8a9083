-- Rule 12: a way runs between two joints of its segment, and says of each home point of the segment once how it lies, and of no other.
use Rattle.std.specs.Prelude.{◌≡◌, ℕ, ◌<◌, Bool, true, cond, not, ◌&&◌, List, length, Contains, Option, ◌==◌, ◌≢◌, nat_eq, nat_lt, slice_index_or}
use Rattle.firsts.specs.Claims.{all_below, first_failing, FirstBreach}
use Rattle.firsts.specs.Lists.{all, any}
use Rattle.station.specs.declared.tests.Position.TheVariants.{Normal}
use Rattle.station.specs.declared.tables.Setting.{Setting}
use Rattle.station.specs.Station.{Station}
use Rattle.station.specs.Numbers.{way_at, point_at}
use Rattle.station.specs.Joints.{touches, Touches}

-- the point is declared, and the segment is its home
abbrev pub AtHome : Station → ℕ → ℕ → Type 0
AtHome s t p = (p < length s.points) × ((point_at s p).home ≡ t)

abbrev pub at_home : Station → ℕ → ℕ → Bool
at_home s t p = nat_lt p (length s.points) && (point_at s p).home == t

-- some setting names the point
abbrev pub Names : List Setting → ℕ → Type 0
Names xs p = (x : Setting) × Contains xs x × (x.point ≡ p)

abbrev pub names : List Setting → ℕ → Bool
names xs p = any (λ x. nat_eq x.point p) xs

-- the point that the i-th setting names
abbrev pub named : List Setting → ℕ → ℕ
named xs i = (slice_index_or xs i (record { point = 0; position = Normal })).point

pub record SoundWay (s : Station) (w : ℕ) : Type 0 where
  pub apart : (way_at s w).from ≡ (way_at s w).to → ⊥
  pub from_here : Touches s (way_at s w).from (way_at s w).segment
  pub to_here : Touches s (way_at s w).to (way_at s w).segment
  pub own : (x : Setting) → Contains (way_at s w).settings x → AtHome s (way_at s w).segment x.point
  pub each : (p : ℕ) → p < length s.points → (point_at s p).home ≡ (way_at s w).segment → Names (way_at s w).settings p
  pub once : (k : ℕ) → k < length (way_at s w).settings → (i : ℕ) → i < k → named (way_at s w).settings i ≢ named (way_at s w).settings k

-- two different joints of the segment
abbrev pub joints_fit : Station → ℕ → ℕ → ℕ → Bool
joints_fit s t a b = not (a == b) && (touches s a t && touches s b t)

-- every home point of the segment is named
abbrev pub all_named : Station → ℕ → List Setting → Bool
all_named s t xs = all_below (λ p. cond ((point_at s p).home == t) (names xs p) true) (length s.points)

-- no point is named twice
abbrev pub once_each : List Setting → Bool
once_each xs = all_below (λ k. all_below (λ i. not (named xs i == named xs k)) k) (length xs)

abbrev pub points_fit : Station → ℕ → List Setting → Bool
points_fit s t xs = all (λ x. at_home s t x.point) xs && (all_named s t xs && once_each xs)

abbrev pub sound_way : Station → ℕ → Bool
sound_way s w =
    joints_fit s (way_at s w).segment (way_at s w).from (way_at s w).to && points_fit s (way_at s w).segment (way_at s w).settings

-- the first way that breaks the rule
abbrev pub breach_12 : Station → Option ℕ
breach_12 s = first_failing (sound_way s) (length s.ways)

abbrev pub Breach12 : Station → Option ℕ → Type 0
Breach12 s = FirstBreach (SoundWay s) (length s.ways)
