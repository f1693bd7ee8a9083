-- When a station keeps all rules, and what the first breach says.
use Rattle.std.specs.Prelude.{ℕ, ◌<◌, Bool, not, length, is_some}
use Rattle.firsts.specs.Claims.{Breaks, PairBreaks}
use Rattle.station.specs.Station.{Station}
use Rattle.station.specs.Numbers.{signal_at}
use Rattle.station.specs.Subroutes.{subroutes}
use Rattle.layout_rules.specs.Sides.{Parts}
use Rattle.layout_rules.specs.Ways.{SoundWay}
use Rattle.layout_rules.specs.WayPairs.{PairApart}
use Rattle.layout_rules.specs.Signals.{SoundSignal}
use Rattle.route_rules.specs.Path.{SoundPath}
use Rattle.route_rules.specs.Signals.{SoundSignals}
use Rattle.route_rules.specs.Request.{SoundRequest}
use Rattle.route_rules.specs.Activation.{SoundActivation}
use Rattle.lock_rules.specs.Release.{Kept25}
use Rattle.lock_rules.specs.Points.{Kept26}
use Rattle.conflicts.specs.Conflicts.{Kept27, FirstConflict}
use Rattle.acceptance.specs.declared.breaches.Breach.{Breach}
use Rattle.acceptance.specs.declared.breaches.Breach.TheVariants.{Joint, Way, Ways, Signal, Path, Signals, Request, Activation, Release, Row, Conflict}
use Rattle.acceptance.specs.Breaches.{first_broken}

abbrev pub Rule11 : Station → Type 0
Rule11 s = (j : ℕ) → j < length s.joints → Parts s j

abbrev pub Rule12 : Station → Type 0
Rule12 s = (w : ℕ) → w < length s.ways → SoundWay s w

abbrev pub Rule13 : Station → Type 0
Rule13 s = (v w : ℕ) → v < length s.ways → w < length s.ways → PairApart s v w

abbrev pub Rule14 : Station → Type 0
Rule14 s = (n : ℕ) → n < length s.signals → SoundSignal s (signal_at s n)

abbrev pub Rule21 : Station → Type 0
Rule21 s = (r : ℕ) → r < length s.routes → SoundPath s r

abbrev pub Rule22 : Station → Type 0
Rule22 s = (r : ℕ) → r < length s.routes → SoundSignals s r

abbrev pub Rule23 : Station → Type 0
Rule23 s = (r : ℕ) → r < length s.routes → SoundRequest s r

abbrev pub Rule24 : Station → Type 0
Rule24 s = (r : ℕ) → r < length s.routes → SoundActivation s r

abbrev pub Rule25 : Station → Type 0
Rule25 s = (u : ℕ) → u < subroutes s → Kept25 s u

abbrev pub Rule26 : Station → Type 0
Rule26 s = (p u : ℕ) → p < length s.points → u < subroutes s → Kept26 s p u

abbrev pub Rule27 : Station → Type 0
Rule27 s = (r o : ℕ) → r < length s.routes → o < length s.routes → Kept27 s r o

-- rules 11 to 14 hold
pub record SoundLayout (s : Station) : Type 0 where
  pub rule_11 : Rule11 s
  pub rule_12 : Rule12 s
  pub rule_13 : Rule13 s
  pub rule_14 : Rule14 s

-- rules 21 to 24 hold
pub record SoundRoutes (s : Station) : Type 0 where
  pub rule_21 : Rule21 s
  pub rule_22 : Rule22 s
  pub rule_23 : Rule23 s
  pub rule_24 : Rule24 s

-- all rules hold
pub record Sound (s : Station) : Type 0 where
  pub layout : SoundLayout s
  pub routes : SoundRoutes s
  pub rule_25 : Rule25 s
  pub rule_26 : Rule26 s
  pub rule_27 : Rule27 s

-- all rules hold, as a test
abbrev pub sound : Station → Bool
sound s = not (is_some (first_broken s))

-- the named things are the first that break their rule, and all lower rules hold
abbrev pub FirstBroken : Station → Breach → Type 0
FirstBroken s (Joint j) = Breaks (Parts s) (length s.joints) j
FirstBroken s (Way w) = Rule11 s × Breaks (SoundWay s) (length s.ways) w
FirstBroken s (Ways v w) = Rule11 s × Rule12 s × PairBreaks (PairApart s) (length s.ways) (length s.ways) (v, w)
FirstBroken s (Signal x) =
    Rule11 s × Rule12 s × Rule13 s × Breaks (λ n. SoundSignal s (signal_at s n)) (length s.signals) x
FirstBroken s (Path r) = SoundLayout s × Breaks (SoundPath s) (length s.routes) r
FirstBroken s (Signals r) = SoundLayout s × Rule21 s × Breaks (SoundSignals s) (length s.routes) r
FirstBroken s (Request r) = SoundLayout s × Rule21 s × Rule22 s × Breaks (SoundRequest s) (length s.routes) r
FirstBroken s (Activation r) =
    SoundLayout s × Rule21 s × Rule22 s × Rule23 s × Breaks (SoundActivation s) (length s.routes) r
FirstBroken s (Release u) = SoundLayout s × SoundRoutes s × Breaks (Kept25 s) (subroutes s) u
FirstBroken s (Row p u) = SoundLayout s × SoundRoutes s × Rule25 s × PairBreaks (Kept26 s) (length s.points) (subroutes s) (p, u)
FirstBroken s (Conflict r o t) = SoundLayout s × SoundRoutes s × Rule25 s × Rule26 s × FirstConflict s (r, o, t)
