use Rattle.std.proofs.Common.{rules, length, refl}
use Rattle.firsts.proofs.Found.{found_map}
use Rattle.firsts.specs.Claims.{paired}
use Rattle.station.specs.Station.{station}
use Rattle.conflicts.specs.Marks.{lowest_on}
use Rattle.conflicts.proofs.pairs.Marked.first_conflict.Goals as goal

pub returns : goal.returns
returns c =
    let m = c.args.self.now in
    let s = station m.tables.now in
    found_map _ _ (λ o. paired o (lowest_on m.board.now s m.route o)) (search rules) (λ i o e. search rules) (length s.routes) _ _ refl c.route_count.ensures c.find_map.ensures.runs
