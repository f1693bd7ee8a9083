use Rattle.std.proofs.Common.{rules, length, refl}
use Rattle.firsts.proofs.Found.{found_map}
use Rattle.station.specs.Station.{station}
use Rattle.layout_rules.specs.WayPairs.{pair_of}
use Rattle.layout_rules.proofs.way_pairs.first_pair.Goals as goal

pub returns : goal.returns
returns c =
    let s = station c.args.tables.now in
    found_map _ _ (pair_of s) (search rules) (λ i o e. search rules) (length s.ways) _ _ refl c.way_count.ensures c.find_map.ensures.runs
