use Rattle.std.proofs.Common.{map, ap, ◌∙◌, rules}
use Rattle.waysides.proofs.Running.{seen_alike}
use Rattle.waysides.proofs.kept.Wayside.new.Goals as goal

pub returns : goal.returns
returns g c =
    let m = g.P.Motion in
    let made = c.in_ok-points.ensures.items_if_clones_equal (g.met.P.Motion.copied _) in
    let points = ap (map m.seen) made ∙ seen_alike m.seen c.point_count-n.result c.at_rest.result _ (ap m.seen c.at_rest.ensures ∙ g.met.P.Motion.lies _) in
    search (rules, points)
