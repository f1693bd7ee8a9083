use Rattle.std.proofs.Common.{vec_items, arith, rules}
use Rattle.motor.specs.Kept.{keeping}
use Rattle.station.specs.Station.{station}
use Rattle.image.specs.Tracks.{track_of}
use Rattle.image.proofs.Making.{kept_well, made_of}
use Rattle.image.proofs.makes.read.Goals as goal

pub returns : goal.returns
returns c =
    let s = station c.args.tables.now in
    let rs = vec_items c.in_ok-runs.runs in
    let ss = vec_items c.in_ok-aspects.aspects in
    let ts = vec_items c.in_ok-trains.trains in
    let well = kept_well s c.point_count-points.result c.signal_count.result c.args.octets.now rs ss ts (omega arith) (search rules) (search rules) in
    rw c.ok_or-5.ensures.value (made_of (keeping rs ss ts) (track_of s c.args.octets.now) c.of_parts.result c.of_parts.ensures well (search rules))
