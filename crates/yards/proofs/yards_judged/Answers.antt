use Rattle.yards.proofs.Each.{yard_judged, yard_11_judged, yard_12_judged, yard_13_judged, yard_14_judged, yard_21_judged, yard_22_judged, yard_23_judged, yard_24_judged, yard_25_judged, yard_26_judged, yard_27_judged}
use Rattle.yards.proofs.yards_judged.Goals as goal

pub returns : goal.returns
returns c =
    record {
      yard_accepted = yard_judged;
      yard_11_refused = yard_11_judged;
      yard_12_refused = yard_12_judged;
      yard_13_refused = yard_13_judged;
      yard_14_refused = yard_14_judged;
      yard_21_refused = yard_21_judged;
      yard_22_refused = yard_22_judged;
      yard_23_refused = yard_23_judged;
      yard_24_refused = yard_24_judged;
      yard_25_refused = yard_25_judged;
      yard_26_refused = yard_26_judged;
      yard_27_refused = yard_27_judged;
    }
