use Rattle.std.proofs.Common.{◌≡◌, ◌+◌, sym, refl, ap, ◌∙◌, subst, arith}
use Rattle.station.specs.Station.{station}
use Rattle.station.specs.Subroutes.{segment_of}
use Rattle.conflicts.proofs.Shown.{ShowsTo, shows_none, shows_more, shows_past, shows_all}
use Rattle.conflicts.proofs.marks.Marks.show.Goals as goal
use Rattle.conflicts.proofs.marks.Marks.show.Goals.{then-t-lt64, else-t-lt64}

pub loop-k-init : goal.loop-k-init
loop-k-init c = (refl, refl, shows_none _ _)

pub loop-k-preserved : goal.loop-k-preserved
loop-k-preserved c =
    let s = station c.args.tables.now in
    let e = c.segment_of-t.ensures ∙ ap (segment_of s) c.on_path.ensures in
    elim c.if-t-lt64.branch [
      | then-t-lt64 w ↦ (
        ap (λ m. m.saved) w.self-is ∙ c.loop-k.invariant.0,
        ap (λ m. m.board.ghost_name) w.self-is ∙ c.loop-k.invariant.1,
        subst (λ m. ShowsTo m.board.now s c.args.route (c.loop-k.k + 1)) (sym w.self-is) (shows_more _ s _ _ _ e w.if-t-lt64.true c.loop-k.invariant.2),
      )
      | else-t-lt64 w ↦ (
        ap (λ m. m.saved) w.self-is ∙ c.loop-k.invariant.0,
        ap (λ m. m.board.ghost_name) w.self-is ∙ c.loop-k.invariant.1,
        subst (λ m. ShowsTo m.board.now s c.args.route (c.loop-k.k + 1)) (sym w.self-is) (shows_past _ s _ _ _ e w.if-t-lt64.false c.loop-k.invariant.2),
      )
    ]

pub returns : goal.returns
returns c =
    let n : c.loop-k.k ≡ c.path_length-k-end.result = omega arith in
    record {
      shows = shows_all _ _ _ _ (n ∙ c.path_length-k-end.ensures) c.loop-k.invariant.2;
      saved = c.loop-k.invariant.0;
      lender = c.loop-k.invariant.1;
    }
