-- The things that words name. N is what stands for a name: its octets, or these with the offset of its word.
use Rattle.std.specs.Prelude.{ℕ, cond, List, Some, None, codes, Option}
use Rattle.std.specs.Option.{option_map, option_or}
use Rattle.text.specs.declared.tokens.Word.{Word}
use Rattle.forms.specs.declared.names.Name.{Name}
use Rattle.forms.specs.declared.things.Thing as thing_type
use Rattle.forms.specs.declared.things.Thing.TheVariants as code
use Rattle.forms.specs.Words.{is_joint, prefixed, bracketed, joined}

-- the offset of a word, and octets
abbrev pub Spot : Type 0
Spot = ℕ × List ℕ

pub data Thing (N : Type 0) : Type 0 where
  segment : N → Thing N
  point : N → Thing N
  route : N → Thing N
  zone : N → Thing N
  subroute : N → N → Thing N

abbrev pub spelled : Word → Spot
spelled w = (w.at, w.octets.now)

abbrev pub spot : Name → Spot
spot n = (n.at, n.octets.now)

abbrev pub spots : Name × Name → Spot × Spot
spots p = (spot p.0, spot p.1)

-- a thing of the code with its names as spots
abbrev pub placed : thing_type.Thing → Thing Spot
placed (code.Segment n) = segment (spot n)
placed (code.Point n) = point (spot n)
placed (code.Route n) = route (spot n)
placed (code.Zone n) = zone (spot n)
placed (code.Subroute a b) = subroute (spot a) (spot b)

-- the first of two answers that there is
abbrev pub try : {A B : Type 0} → Option A → (A → B) → Option B → Option B
try o f p = option_or (option_map f o) p

-- the name that a form finds in a word, with the word's offset
abbrev pub name_at : Spot → Option (List ℕ) → Option Spot
name_at w o = option_map (λ x. (w.0, x)) o

-- the same of two names
abbrev pub names_at : Spot → Option (List ℕ × List ℕ) → Option (Spot × Spot)
names_at w o = option_map (λ p. ((w.0, p.0), (w.0, p.1))) o

-- `T_x`
abbrev pub segment_of : Spot → Option Spot
segment_of w = name_at w (prefixed (codes "T_") w.1)

-- `P_x`
abbrev pub point_of : Spot → Option Spot
point_of w = name_at w (prefixed (codes "P_") w.1)

-- a joint's name
abbrev pub joint_of : Spot → Option Spot
joint_of w = cond (is_joint w.1) (Some w) None

-- `T_x`, `P_x` or `R_x`
abbrev pub lettered : Spot → Option (Thing Spot)
lettered w = try (segment_of w) segment (try (point_of w) point (option_map (λ x. route x) (name_at w (prefixed (codes "R_") w.1))))

-- `U_IR(x)` or `U_a_b`
abbrev pub lock_of : Spot → Option (Thing Spot)
lock_of w =
    try (name_at w (bracketed (codes "U_IR(") 41 w.1)) zone
    (option_map (λ p. subroute p.0 p.1) (names_at w (joined (codes "U_") w.1)))

-- `T_x`, `P_x`, `R_x`, `U_IR(x)` or `U_a_b`
abbrev pub thing_of : Spot → Option (Thing Spot)
thing_of w = option_or (lettered w) (lock_of w)
