use Rattle.std.proofs.Common.{rules, length, refl}
use Rattle.firsts.proofs.Found.{found_map}
use Rattle.station.specs.Station.{station}
use Rattle.lock_rules.specs.Points.{breach_of}
use Rattle.lock_rules.proofs.points.first_open_row.Goals as goal

pub returns : goal.returns
returns c =
    let s = station c.args.tables.now in
    found_map _ _ (breach_of s) (search rules) (λ i o e. search rules) (length s.points) _ _ refl c.point_count.ensures c.find_map.ensures.runs
