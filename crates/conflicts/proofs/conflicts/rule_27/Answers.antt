use Rattle.std.proofs.Common.{sym, refl, ap, ◌∙◌, subst, rules}
use Rattle.firsts.specs.Search.{first_from}
use Rattle.firsts.proofs.Steps.{from_hit, from_miss, from_done}
use Rattle.station.specs.Station.{station}
use Rattle.conflicts.specs.Conflicts.{tripled, Breach27}
use Rattle.conflicts.proofs.Agreed.{other_is}
use Rattle.conflicts.proofs.Told.{first_27}
use Rattle.conflicts.proofs.conflicts.rule_27.Goals as goal

pub returns-in-Some : goal.returns-in-Some
returns-in-Some c =
    let s = station c.args.tables.now in
    let o = other_is _ _ s c.loop-route.route c.board.ensures c.show.ensures.shows in
    let v =
    sym (c.loop-route.invariant.2 ∙ from_hit _ _ _ _ c.loop-route-test.true (ap (tripled c.loop-route.route) (sym (c.in-Some.ensures ∙ o))))
    ∙ ap (first_from _ 0) c.route_count-route-end.ensures in
    record { value = v; first = subst (Breach27 s) (sym v) (first_27 s); same = search rules }

pub loop-route-init : goal.loop-route-init
loop-route-init c = (refl, refl, search rules)

pub loop-route-preserved : goal.loop-route-preserved
loop-route-preserved c =
    let s = station c.args.tables.now in
    let o = other_is _ _ s c.loop-route.route c.board.ensures c.show.ensures.shows in (
      c.show.ensures.saved ∙ c.loop-route.invariant.0,
      c.show.ensures.lender ∙ c.loop-route.invariant.1,
      c.loop-route.invariant.2 ∙ from_miss _ _ _ c.loop-route-test.true (ap (tripled c.loop-route.route) (sym (c.in_default.ensures ∙ o))),
    )

pub returns : goal.returns
returns c =
    let s = station c.args.tables.now in
    let v = sym (c.loop-route.invariant.2 ∙ from_done _ _ _ c.loop-route-test.false) ∙ ap (first_from _ 0) c.route_count-route-end.ensures in
    record { value = v; first = subst (Breach27 s) (sym v) (first_27 s); same = search rules }
