use Rattle.std.proofs.Common.{◌≡◌, ◌-◌}
use Rattle.firsts.specs.Search.{first_from}
use Rattle.station.specs.Station.{station}
use Rattle.conflicts.specs.Conflicts.{tripled, first_other}
use Rattle.conflicts.proofs.conflicts.rule_27.Given as goal

abbrev pub invariant-loop-route : goal.invariant-loop-route
invariant-loop-route l =
    (l.marks.saved ≡ l.initial.marks.saved)
    × (l.marks.board.ghost_name ≡ l.initial.marks.board.ghost_name)
    × (first_from (λ r. tripled r (first_other (station l.tables) r)) 0 l.route-end
    ≡ first_from (λ r. tripled r (first_other (station l.tables) r)) l.route (l.route-end - l.route))
