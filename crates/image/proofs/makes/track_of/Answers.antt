use Rattle.std.proofs.Common.{subst}
use Rattle.station.specs.Station.{station}
use Rattle.track.specs.Meaning.{laid}
use Rattle.image.specs.Tracks.{Answered, track_of}
use Rattle.image.proofs.Making.{made_so}
use Rattle.image.proofs.makes.track_of.Goals as goal

pub returns : goal.returns
returns c =
    let s = laid c.args.station.now in
    let xs = c.args.octets.now in
    let e = subst (λ t. Answered c.read.result (track_of (station t) xs)) c.tables.ensures.tables c.read.ensures in
    let m = made_so s xs c.read.result e in
    record { reads = m.reads; means = m.means; again = m.again }
