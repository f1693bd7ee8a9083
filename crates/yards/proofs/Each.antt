-- Each verdict by computation.
use mathlib.Core.Path.{◌≡◌, refl}
use Rattle.text.specs.Ahead.{tokens_within, tokens_from}
use Rattle.steps.specs.Pairs.{pairs_from, a_list, subroutes}
use Rattle.sheets.specs.Sections.{section, sheet_of, sheet}
use Rattle.naming.specs.Keys.{keys_of, place}
use Rattle.firsts.specs.Picks.{first_in}
use Rattle.firsts.specs.Search.{first_from}
use Rattle.firsts.specs.Least.{least_below}
use Rattle.acceptance.specs.declared.breaches.Breach.TheVariants.{Joint, Way, Ways, Signal, Path, Signals, Request, Activation, Release, Row, Conflict}
use Rattle.verdicts.specs.Verdicts.{accepted, broken, verdict}
use Rattle.yards.specs.Yards.{yard, yard_11, yard_12, yard_13, yard_14, yard_21, yard_22, yard_23, yard_24, yard_25, yard_26, yard_27}

pub yard_judged : verdict yard ≡ accepted 2 2
unfolding tokens_within tokens_from pairs_from a_list subroutes section sheet_of sheet keys_of place first_in first_from least_below
yard_judged = refl

pub yard_11_judged : verdict yard_11 ≡ broken (Joint 1)
unfolding tokens_within tokens_from pairs_from a_list subroutes section sheet_of sheet keys_of place first_in first_from least_below
yard_11_judged = refl

pub yard_12_judged : verdict yard_12 ≡ broken (Way 0)
unfolding tokens_within tokens_from pairs_from a_list subroutes section sheet_of sheet keys_of place first_in first_from least_below
yard_12_judged = refl

pub yard_13_judged : verdict yard_13 ≡ broken (Ways 0 1)
unfolding tokens_within tokens_from pairs_from a_list subroutes section sheet_of sheet keys_of place first_in first_from least_below
yard_13_judged = refl

pub yard_14_judged : verdict yard_14 ≡ broken (Signal 2)
unfolding tokens_within tokens_from pairs_from a_list subroutes section sheet_of sheet keys_of place first_in first_from least_below
yard_14_judged = refl

pub yard_21_judged : verdict yard_21 ≡ broken (Path 0)
unfolding tokens_within tokens_from pairs_from a_list subroutes section sheet_of sheet keys_of place first_in first_from least_below
yard_21_judged = refl

pub yard_22_judged : verdict yard_22 ≡ broken (Signals 0)
unfolding tokens_within tokens_from pairs_from a_list subroutes section sheet_of sheet keys_of place first_in first_from least_below
yard_22_judged = refl

pub yard_23_judged : verdict yard_23 ≡ broken (Request 0)
unfolding tokens_within tokens_from pairs_from a_list subroutes section sheet_of sheet keys_of place first_in first_from least_below
yard_23_judged = refl

pub yard_24_judged : verdict yard_24 ≡ broken (Activation 0)
unfolding tokens_within tokens_from pairs_from a_list subroutes section sheet_of sheet keys_of place first_in first_from least_below
yard_24_judged = refl

pub yard_25_judged : verdict yard_25 ≡ broken (Release 4)
unfolding tokens_within tokens_from pairs_from a_list subroutes section sheet_of sheet keys_of place first_in first_from least_below
yard_25_judged = refl

pub yard_26_judged : verdict yard_26 ≡ broken (Row 0 3)
unfolding tokens_within tokens_from pairs_from a_list subroutes section sheet_of sheet keys_of place first_in first_from least_below
yard_26_judged = refl

pub yard_27_judged : verdict yard_27 ≡ broken (Conflict 1 0 0)
unfolding tokens_within tokens_from pairs_from a_list subroutes section sheet_of sheet keys_of place first_in first_from least_below
yard_27_judged = refl
