-- Which rows declare the same, and how many of a kind there are.
use Rattle.std.specs.Prelude.{ℕ, Bool, true, false, ◌&&◌, List, [], count_by, nat_le}
use Rattle.std.specs.List.{list_any}
use Rattle.std.specs.Str.{bytes_eq}
use Rattle.station.specs.declared.tests.Position.{Position}
use Rattle.station.specs.declared.tests.Position.TheVariants.{Normal, Reverse}
use Rattle.forms.specs.Things.{Spot}
use Rattle.rows.specs.declared.filters.Kind.{Kind}
use Rattle.rows.specs.declared.filters.Kind.TheVariants as kind
use Rattle.rows.specs.Rows.{Row, segment_row, joint_row, point_row, way_row, signal_row, request_row, activation_row, move_row, release_row, zone_row}

abbrev pub same_kind : Kind → Kind → Bool
same_kind kind.Segment kind.Segment = true
same_kind kind.Joint kind.Joint = true
same_kind kind.Point kind.Point = true
same_kind kind.Way kind.Way = true
same_kind kind.Signal kind.Signal = true
same_kind kind.Request kind.Request = true
same_kind kind.Activation kind.Activation = true
same_kind kind.NormalMove kind.NormalMove = true
same_kind kind.ReverseMove kind.ReverseMove = true
same_kind kind.Release kind.Release = true
same_kind kind.Zone kind.Zone = true
same_kind j k = false

abbrev pub move_kind : Position → Kind
move_kind Normal = kind.NormalMove
move_kind Reverse = kind.ReverseMove

abbrev pub head_of : Row Spot → Kind
head_of (segment_row x) = kind.Segment
head_of (joint_row x s f) = kind.Joint
head_of (point_row x s) = kind.Point
head_of (way_row s a b ps) = kind.Way
head_of (signal_row j s) = kind.Signal
head_of (request_row x ts us) = kind.Request
head_of (activation_row x ts) = kind.Activation
head_of (move_row x p ts) = move_kind p
head_of (release_row a b ts) = kind.Release
head_of (zone_row x ts) = kind.Zone

-- the name that a row declares or is about
abbrev pub first_of : Row Spot → List ℕ
first_of (segment_row x) = x.1
first_of (joint_row x s f) = x.1
first_of (point_row x s) = x.1
first_of (way_row s a b ps) = a.1
first_of (signal_row j s) = j.1
first_of (request_row x ts us) = x.1
first_of (activation_row x ts) = x.1
first_of (move_row x p ts) = x.1
first_of (release_row a b ts) = a.1
first_of (zone_row x ts) = x.1

-- a signal is known by its joint and segment, a subroute by its two joints
abbrev pub second_of : Row Spot → List ℕ
second_of (segment_row x) = []
second_of (joint_row x s f) = []
second_of (point_row x s) = []
second_of (way_row s a b ps) = b.1
second_of (signal_row j s) = s.1
second_of (request_row x ts us) = []
second_of (activation_row x ts) = []
second_of (move_row x p ts) = []
second_of (release_row a b ts) = b.1
second_of (zone_row x ts) = []

abbrev pub home_of : Row Spot → List ℕ
home_of (segment_row x) = []
home_of (joint_row x s f) = []
home_of (point_row x s) = s.1
home_of (way_row s a b ps) = []
home_of (signal_row j s) = []
home_of (request_row x ts us) = []
home_of (activation_row x ts) = []
home_of (move_row x p ts) = []
home_of (release_row a b ts) = []
home_of (zone_row x ts) = []

abbrev pub of_head : Kind → Row Spot → Bool
of_head k r = same_kind (head_of r) k

-- a row of a kind with one name, or with two
abbrev pub named : Kind → List ℕ → List ℕ → Row Spot → Bool
named k a b r = of_head k r && (bytes_eq (first_of r) a && bytes_eq (second_of r) b)

-- a point with this home segment
abbrev pub at_home : List ℕ → Row Spot → Bool
at_home s r = of_head kind.Point r && bytes_eq (home_of r) s

-- as many rows of a kind as there may be
abbrev pub full : List (Row Spot) → Kind → ℕ → Bool
full rows k n = nat_le n (count_by (of_head k) rows)

-- a row of a kind with these names is there
abbrev pub known : List (Row Spot) → Kind → List ℕ → List ℕ → Bool
known rows k a b = list_any (named k a b) rows

-- four points have this home segment
abbrev pub crowded : List (Row Spot) → List ℕ → Bool
crowded rows s = nat_le 4 (count_by (at_home s) rows)
