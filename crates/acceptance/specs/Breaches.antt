-- The first rule that is broken: its number and its things.
use Rattle.std.specs.Prelude.{ℕ, List, [], ◌∷◌, Some, None, Ok, Err, Option, Result}
use Rattle.std.specs.Option.{option_map}
use Rattle.firsts.specs.Search.{or_else}
use Rattle.station.specs.Station.{Station}
use Rattle.layout_rules.specs.Sides.{breach_11}
use Rattle.layout_rules.specs.Ways.{breach_12}
use Rattle.layout_rules.specs.WayPairs.{breach_13}
use Rattle.layout_rules.specs.Signals.{breach_14}
use Rattle.route_rules.specs.Path.{breach_21}
use Rattle.route_rules.specs.Signals.{breach_22}
use Rattle.route_rules.specs.Request.{breach_23}
use Rattle.route_rules.specs.Activation.{breach_24}
use Rattle.lock_rules.specs.Release.{breach_25}
use Rattle.lock_rules.specs.Points.{breach_26}
use Rattle.conflicts.specs.Conflicts.{breach_27}
use Rattle.acceptance.specs.declared.breaches.Breach.{Breach}
use Rattle.acceptance.specs.declared.breaches.Breach.TheVariants.{Joint, Way, Ways, Signal, Path, Signals, Request, Activation, Release, Row, Conflict}

-- what a breach names
pub data Thing : Type 0 where
  joint : ℕ → Thing
  way : ℕ → Thing
  signal : ℕ → Thing
  route : ℕ → Thing
  subroute : ℕ → Thing
  point : ℕ → Thing
  segment : ℕ → Thing

-- the rule that is broken
abbrev pub number : Breach → ℕ
number (Joint j) = 11
number (Way w) = 12
number (Ways v w) = 13
number (Signal x) = 14
number (Path r) = 21
number (Signals r) = 22
number (Request r) = 23
number (Activation r) = 24
number (Release u) = 25
number (Row p u) = 26
number (Conflict r o t) = 27

-- the things that break it, in the order in which they are named
abbrev pub things : Breach → List Thing
things (Joint j) = joint j ∷ []
things (Way w) = way w ∷ []
things (Ways v w) = way v ∷ way w ∷ []
things (Signal x) = signal x ∷ []
things (Path r) = route r ∷ []
things (Signals r) = route r ∷ []
things (Request r) = route r ∷ []
things (Activation r) = route r ∷ []
things (Release u) = subroute u ∷ []
things (Row p u) = point p ∷ subroute u ∷ []
things (Conflict r o t) = route r ∷ route o ∷ segment t ∷ []

-- what a refusal says
abbrev pub refusal : {X : Type 0} → Result X Breach → Option Breach
refusal (Ok x) = None
refusal (Err b) = Some b

-- the breach of a rule that names two things, or three
abbrev pub by_two : (ℕ → ℕ → Breach) → Option (ℕ × ℕ) → Option Breach
by_two f None = None
by_two f (Some q) = Some (f q.0 q.1)

abbrev pub by_three : (ℕ → ℕ → ℕ → Breach) → Option (ℕ × ℕ × ℕ) → Option Breach
by_three f None = None
by_three f (Some q) = Some (f q.0 q.1 q.2)

-- the first of rules 11 to 14 that is broken
abbrev pub layout_breach : Station → Option Breach
layout_breach s =
    or_else (option_map Joint (breach_11 s)) (or_else (option_map Way (breach_12 s)) (or_else (by_two Ways (breach_13 s)) (option_map Signal (breach_14 s))))

-- of rules 21 to 24
abbrev pub route_breach : Station → Option Breach
route_breach s =
    or_else (option_map Path (breach_21 s)) (or_else (option_map Signals (breach_22 s)) (or_else (option_map Request (breach_23 s)) (option_map Activation (breach_24 s))))

-- of rules 25 and 26
abbrev pub lock_breach : Station → Option Breach
lock_breach s = or_else (option_map Release (breach_25 s)) (by_two Row (breach_26 s))

abbrev pub conflict_breach : Station → Option Breach
conflict_breach s = by_three Conflict (breach_27 s)

-- of all rules, in number order
abbrev pub first_broken : Station → Option Breach
first_broken s = or_else (layout_breach s) (or_else (route_breach s) (or_else (lock_breach s) (conflict_breach s)))
