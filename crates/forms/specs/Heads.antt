-- The words that rows begin with.
use Rattle.std.specs.Prelude.{ℕ, cond, List, Some, None, codes, Option}
use Rattle.std.specs.Option.{option_map, option_or}
use Rattle.std.specs.Str.{bytes_eq}
use Rattle.station.specs.declared.tests.Position.{Position}
use Rattle.station.specs.declared.tests.Position.TheVariants.{Normal, Reverse}
use Rattle.forms.specs.declared.heads.Head as head_type
use Rattle.forms.specs.declared.heads.Head.TheVariants as code
use Rattle.forms.specs.Words.{bracketed, joined}
use Rattle.forms.specs.Things.{Spot, spot, try, name_at, names_at}

pub data Head : Type 0 where
  a_segment : Head
  a_joint : Head
  a_point : Head
  a_way : Head
  a_signal : Head
  the_data : Head
  a_request : Spot → Head
  an_activation : Spot → Head
  a_point_row : Spot → Position → Head
  a_release : Spot → Spot → Head
  a_zone : Spot → Head

-- a head of the code with its names as spots
abbrev pub headed : head_type.Head → Head
headed code.Segment = a_segment
headed code.Joint = a_joint
headed code.Point = a_point
headed code.Way = a_way
headed code.Signal = a_signal
headed code.Data = the_data
headed (code.Request n) = a_request (spot n)
headed (code.Activation n) = an_activation (spot n)
headed (code.PointRow n p) = a_point_row (spot n) p
headed (code.Release a b) = a_release (spot a) (spot b)
headed (code.Zone n) = a_zone (spot n)

abbrev pub layout_head : List ℕ → Option Head
layout_head w =
    cond (bytes_eq w (codes "SEG")) (Some a_segment)
    (cond (bytes_eq w (codes "JOINT")) (Some a_joint)
    (cond (bytes_eq w (codes "POINT")) (Some a_point)
    (cond (bytes_eq w (codes "WAY")) (Some a_way)
    (cond (bytes_eq w (codes "SIGNAL")) (Some a_signal)
    (cond (bytes_eq w (codes "DATA")) (Some the_data) None)))))

-- `Q_R(x)` or `A_R(x)`
abbrev pub route_head : Spot → Option Head
route_head w =
    try (name_at w (bracketed (codes "Q_R(") 41 w.1)) a_request (option_map (λ x. an_activation x) (name_at w (bracketed (codes "A_R(") 41 w.1)))

-- `U_IR(x)` or `U_a_b`
abbrev pub lock_head : Spot → Option Head
lock_head w =
    try (name_at w (bracketed (codes "U_IR(") 41 w.1)) a_zone (option_map (λ p. a_release p.0 p.1) (names_at w (joined (codes "U_") w.1)))

-- `P_xN` or `P_xR`
abbrev pub point_head : Spot → Option Head
point_head w =
    try (name_at w (bracketed (codes "P_") 78 w.1)) (λ x. a_point_row x Normal)
    (option_map (λ x. a_point_row x Reverse) (name_at w (bracketed (codes "P_") 82 w.1)))

abbrev pub data_head : Spot → Option Head
data_head w = option_or (option_or (route_head w) (lock_head w)) (point_head w)

abbrev pub head : Spot → Option Head
head w = option_or (layout_head w.1) (data_head w)
