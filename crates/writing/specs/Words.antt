-- The words that write things and the heads of rows, and when their names are well formed.
use Rattle.std.specs.Prelude.{◌≡◌, ℕ, true, List, ◌++◌, codes}
use Rattle.station.specs.declared.tests.Position.{Position}
use Rattle.station.specs.declared.tests.Position.TheVariants.{Normal, Reverse}
use Rattle.forms.specs.Words.{is_name, is_joint}
use Rattle.forms.specs.Things.{Spot, Thing, segment, point, route, zone, subroute}
use Rattle.forms.specs.Heads.{Head, a_segment, a_joint, a_point, a_way, a_signal, the_data, a_request, an_activation, a_point_row, a_release, a_zone}

-- `U_IR(x)`
abbrev pub zone_word : List ℕ → List ℕ
zone_word x = codes "U_IR(" ++ (x ++ codes ")")

-- `U_a_b`
abbrev pub subroute_word : List ℕ → List ℕ → List ℕ
subroute_word a b = codes "U_" ++ (a ++ (codes "_" ++ b))

-- the word that writes a thing
abbrev pub thing_word : Thing Spot → List ℕ
thing_word (segment x) = codes "T_" ++ x.1
thing_word (point x) = codes "P_" ++ x.1
thing_word (route x) = codes "R_" ++ x.1
thing_word (zone x) = zone_word x.1
thing_word (subroute a b) = subroute_word a.1 b.1

-- a thing's names are well formed; the two of a subroute stand in one word
abbrev pub Named : Thing Spot → Type 0
Named (segment x) = is_name x.1 ≡ true
Named (point x) = is_name x.1 ≡ true
Named (route x) = is_name x.1 ≡ true
Named (zone x) = is_name x.1 ≡ true
Named (subroute a b) = (b.0 ≡ a.0) × (is_joint a.1 ≡ true) × (is_joint b.1 ≡ true)

abbrev pub side_word : Position → List ℕ
side_word Normal = codes "N"
side_word Reverse = codes "R"

-- the word that a row begins with
abbrev pub head_word : Head → List ℕ
head_word a_segment = codes "SEG"
head_word a_joint = codes "JOINT"
head_word a_point = codes "POINT"
head_word a_way = codes "WAY"
head_word a_signal = codes "SIGNAL"
head_word the_data = codes "DATA"
head_word (a_request x) = codes "Q_R(" ++ (x.1 ++ codes ")")
head_word (an_activation x) = codes "A_R(" ++ (x.1 ++ codes ")")
head_word (a_point_row x p) = codes "P_" ++ (x.1 ++ side_word p)
head_word (a_release a b) = subroute_word a.1 b.1
head_word (a_zone x) = zone_word x.1

-- the names in a head are well formed, and have the offset of their word
abbrev pub Heads : ℕ → Head → Type 0
Heads at a_segment = Unit {0}
Heads at a_joint = Unit {0}
Heads at a_point = Unit {0}
Heads at a_way = Unit {0}
Heads at a_signal = Unit {0}
Heads at the_data = Unit {0}
Heads at (a_request x) = (x.0 ≡ at) × (is_name x.1 ≡ true)
Heads at (an_activation x) = (x.0 ≡ at) × (is_name x.1 ≡ true)
Heads at (a_point_row x p) = (x.0 ≡ at) × (is_name x.1 ≡ true)
Heads at (a_release a b) = (a.0 ≡ at) × (b.0 ≡ at) × (is_joint a.1 ≡ true) × (is_joint b.1 ≡ true)
Heads at (a_zone x) = (x.0 ≡ at) × (is_name x.1 ≡ true)
