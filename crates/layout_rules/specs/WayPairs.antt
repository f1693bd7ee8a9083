-- Rule 13: two ways have not the same two joints, and two ways of one segment that share a joint have not all points alike.
use Rattle.std.specs.Prelude.{◌≡◌, ℕ, ◌<◌, Bool, true, cond, not, ◌&&◌, ◌||◌, ◌⊎◌, List, length, Contains, Option, ◌==◌, nat_lt}
use Rattle.firsts.specs.Claims.{first_failing, paired, first_pair, FirstPair}
use Rattle.firsts.specs.Lists.{all, any}
use Rattle.station.specs.declared.tables.Setting.{Setting}
use Rattle.station.specs.Station.{Station, WayEntry}
use Rattle.station.specs.Numbers.{way_at}
use Rattle.station.specs.Alike.{same_setting}

-- the same two joints, in either order
abbrev pub SameJoints : WayEntry → WayEntry → Type 0
SameJoints v w = ((v.from ≡ w.from) × (v.to ≡ w.to)) ⊎ ((v.from ≡ w.to) × (v.to ≡ w.from))

abbrev pub same_joints : WayEntry → WayEntry → Bool
same_joints v w = (v.from == w.from && v.to == w.to) || (v.from == w.to && v.to == w.from)

-- a joint of one is a joint of the other
abbrev pub ShareJoint : WayEntry → WayEntry → Type 0
ShareJoint v w = ((v.from ≡ w.from) ⊎ (v.from ≡ w.to)) ⊎ ((v.to ≡ w.from) ⊎ (v.to ≡ w.to))

abbrev pub share_joint : WayEntry → WayEntry → Bool
share_joint v w = (v.from == w.from || v.from == w.to) || (v.to == w.from || v.to == w.to)

-- each setting of the one is one of the other
abbrev pub Within : List Setting → List Setting → Type 0
Within xs ys = (x : Setting) → Contains xs x → Contains ys x

abbrev pub within : List Setting → List Setting → Bool
within xs ys = all (λ x. any (same_setting x) ys) xs

-- the points lie alike in both
abbrev pub PointsAlike : WayEntry → WayEntry → Type 0
PointsAlike v w = Within v.settings w.settings × Within w.settings v.settings

abbrev pub points_alike : WayEntry → WayEntry → Bool
points_alike v w = within v.settings w.settings && within w.settings v.settings

pub record WaysApart (v w : WayEntry) : Type 0 where
  pub joints : SameJoints v w → ⊥
  pub points : v.segment ≡ w.segment → ShareJoint v w → PointsAlike v w → ⊥

abbrev pub ways_apart : WayEntry → WayEntry → Bool
ways_apart v w = not (same_joints v w) && cond (v.segment == w.segment) (cond (share_joint v w) (not (points_alike v w)) true) true

-- of the ways i and j, where i is the lower
abbrev pub PairApart : Station → ℕ → ℕ → Type 0
PairApart s i j = i < j → WaysApart (way_at s i) (way_at s j)

abbrev pub pair_apart : Station → ℕ × ℕ → Bool
pair_apart s q = cond (nat_lt q.0 q.1) (ways_apart (way_at s q.0) (way_at s q.1)) true

-- a way, and the first one that cannot be told apart from it
abbrev pub pair_of : Station → ℕ → Option (ℕ × ℕ)
pair_of s i = paired i (first_failing (λ j. pair_apart s (i, j)) (length s.ways))

-- the first two ways that break the rule
abbrev pub breach_13 : Station → Option (ℕ × ℕ)
breach_13 s = first_pair (pair_apart s) (length s.ways) (length s.ways)

abbrev pub Breach13 : Station → Option (ℕ × ℕ) → Type 0
Breach13 s = FirstPair (PairApart s) (length s.ways) (length s.ways)
