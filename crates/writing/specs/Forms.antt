-- When a row is well formed, and when it may follow other rows.
use Rattle.std.specs.Prelude.{◌≡◌, ◌≤◌, Bool, true, false, not, ◌⊎◌, List, [], ◌∷◌, ◌++◌, length}
use Rattle.forms.specs.declared.states.State.{State}
use Rattle.forms.specs.declared.lists.Listing.{Listing}
use Rattle.forms.specs.declared.lists.Listing.TheVariants.{Settings, RequestTests, Actions, ActivationTests, PointTests, ReleaseTests}
use Rattle.forms.specs.Lists.{choice, most}
use Rattle.forms.specs.Things.{Spot}
use Rattle.forms.specs.Words.{is_joint, is_name}
use Rattle.rows.specs.declared.filters.Kind.TheVariants as kind
use Rattle.rows.specs.Filters.{move_kind, full, known, crowded}
use Rattle.rows.specs.Rows.{Pair, Far, far_segment, far_outside, far_buffer, Row, segment_row, joint_row, point_row, way_row, signal_row, request_row, activation_row, move_row, release_row, zone_row}
use Rattle.steps.specs.Pairs.{in_path, subroutes}
use Rattle.sheets.specs.Sections.{Part, Layout, Data}
use Rattle.writing.specs.Words.{Named}

-- a state is one of those to choose from
abbrev pub Among : List State → State → Type 0
Among [] s = ⊥
Among (a ∷ rest) s = (s ≡ a) ⊎ Among rest s

-- a thing is well named, and may stand in the list in its state
abbrev pub Stands : Listing → Pair Spot → Type 0
Stands list p = Named p.thing × Among (choice list p.thing) p.state

abbrev pub AllStand : Listing → List (Pair Spot) → Type 0
AllStand list [] = Unit {0}
AllStand list (p ∷ ps) = Stands list p × AllStand list ps

-- no more pairs than the list may have, and at most 12 subroutes in a path
abbrev pub Within : Listing → List (Pair Spot) → Type 0
Within list ps = (length ps ≤ most list) × (in_path list ≡ true → subroutes ps ≤ 12)

abbrev pub Listed : Listing → List (Pair Spot) → Type 0
Listed list ps = AllStand list ps × Within list ps

abbrev pub FarNamed : Far Spot → Type 0
FarNamed (far_segment x) = is_name x.1 ≡ true
FarNamed far_outside = Unit {0}
FarNamed far_buffer = Unit {0}

-- a row's names are well formed, and its pairs stand in their lists
abbrev pub Formed : Row Spot → Type 0
Formed (segment_row x) = is_name x.1 ≡ true
Formed (joint_row x s f) = (is_joint x.1 ≡ true) × (is_name s.1 ≡ true) × FarNamed f
Formed (point_row x s) = (is_name x.1 ≡ true) × (is_name s.1 ≡ true)
Formed (way_row s a b ps) = (is_name s.1 ≡ true) × (is_joint a.1 ≡ true) × (is_joint b.1 ≡ true) × Listed Settings ps
Formed (signal_row j s) = (is_joint j.1 ≡ true) × (is_name s.1 ≡ true)
Formed (request_row x ts us) = (is_name x.1 ≡ true) × Listed RequestTests ts × Listed Actions us
Formed (activation_row x ts) = (is_name x.1 ≡ true) × Listed ActivationTests ts
Formed (move_row x p ts) = (is_name x.1 ≡ true) × Listed PointTests ts
Formed (release_row a b ts) = (b.0 ≡ a.0) × (is_joint a.1 ≡ true) × (is_joint b.1 ≡ true) × Listed ReleaseTests ts
Formed (zone_row x ts) = (is_name x.1 ≡ true) × Listed ReleaseTests ts

-- after these rows a row is not one too many, and declares nothing again
abbrev pub Fresh : List (Row Spot) → Row Spot → Type 0
Fresh rows (segment_row x) = (full rows kind.Segment 64 ≡ false) × (known rows kind.Segment x.1 [] ≡ false)
Fresh rows (joint_row x s f) = (full rows kind.Joint 96 ≡ false) × (known rows kind.Joint x.1 [] ≡ false)
Fresh rows (point_row x s) = (full rows kind.Point 32 ≡ false) × (known rows kind.Point x.1 [] ≡ false) × (crowded rows s.1 ≡ false)
Fresh rows (way_row s a b ps) = full rows kind.Way 96 ≡ false
Fresh rows (signal_row j s) = (full rows kind.Signal 48 ≡ false) × (known rows kind.Signal j.1 s.1 ≡ false)
Fresh rows (request_row x ts us) = (full rows kind.Request 48 ≡ false) × (known rows kind.Request x.1 [] ≡ false)
Fresh rows (activation_row x ts) = known rows kind.Activation x.1 [] ≡ false
Fresh rows (move_row x p ts) = known rows (move_kind p) x.1 [] ≡ false
Fresh rows (release_row a b ts) = known rows kind.Release a.1 b.1 ≡ false
Fresh rows (zone_row x ts) = (full rows kind.Zone 32 ≡ false) × (known rows kind.Zone x.1 [] ≡ false)

abbrev pub in_layout : Row Spot → Bool
in_layout (segment_row x) = true
in_layout (joint_row x s f) = true
in_layout (point_row x s) = true
in_layout (way_row s a b ps) = true
in_layout (signal_row j s) = true
in_layout (request_row x ts us) = false
in_layout (activation_row x ts) = false
in_layout (move_row x p ts) = false
in_layout (release_row a b ts) = false
in_layout (zone_row x ts) = false

abbrev pub belongs : Part → Row Spot → Bool
belongs Layout r = in_layout r
belongs Data r = not (in_layout r)

-- a row of the part that may come after these rows
abbrev pub May : Part → List (Row Spot) → Row Spot → Type 0
May part rows r = (belongs part r ≡ true) × Formed r × Fresh rows r

-- rows of one part that may come, one after another, after these
abbrev pub Follow : Part → List (Row Spot) → List (Row Spot) → Type 0
Follow part rows [] = Unit {0}
Follow part rows (r ∷ rs) = May part rows r × Follow part (rows ++ r ∷ []) rs
