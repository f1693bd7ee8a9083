-- What the checker answers to the yard and to each damaged yard: the rule and the things, by number.
use Rattle.std.specs.Prelude.{◌≡◌}
use Rattle.acceptance.specs.declared.breaches.Breach.TheVariants.{Joint, Way, Ways, Signal, Path, Signals, Request, Activation, Release, Row, Conflict}
use Rattle.verdicts.specs.Verdicts.{accepted, broken, verdict}
use Rattle.yards.specs.Yards.{yard, yard_11, yard_12, yard_13, yard_14, yard_21, yard_22, yard_23, yard_24, yard_25, yard_26, yard_27}

-- segments T_P, T_1 are 0, 1; joints E, K, L, B are 0 to 3; ways E K, E L, K B are 0 to 2; routes E1, LE are 0, 1
pub record YardsJudged : Type 0 where
  pub yard_accepted : verdict yard ≡ accepted 2 2
  pub yard_11_refused : verdict yard_11 ≡ broken (Joint 1)
  pub yard_12_refused : verdict yard_12 ≡ broken (Way 0)
  pub yard_13_refused : verdict yard_13 ≡ broken (Ways 0 1)
  pub yard_14_refused : verdict yard_14 ≡ broken (Signal 2)
  pub yard_21_refused : verdict yard_21 ≡ broken (Path 0)
  pub yard_22_refused : verdict yard_22 ≡ broken (Signals 0)
  pub yard_23_refused : verdict yard_23 ≡ broken (Request 0)
  pub yard_24_refused : verdict yard_24 ≡ broken (Activation 0)
  pub yard_25_refused : verdict yard_25 ≡ broken (Release 4)
  pub yard_26_refused : verdict yard_26 ≡ broken (Row 0 3)
  pub yard_27_refused : verdict yard_27 ≡ broken (Conflict 1 0 0)
