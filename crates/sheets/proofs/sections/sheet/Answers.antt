use Rattle.std.proofs.lemmas.Result.{err_from_is_err_and}
use Rattle.sheets.proofs.Turns.{begun, rest_refused, rest_ends, rest_goes, row_takes, data_begins, too_long, layout_refused, data_refused, data_read}
use Rattle.sheets.specs.Layout.{rows_of}
use Rattle.sheets.specs.Sections.{Layout, Data}
use Rattle.sheets.proofs.sections.sheet.Goals as goal

pub returns-then-text-gt-LONGEST : goal.returns-then-text-gt-LONGEST
returns-then-text-gt-LONGEST c = too_long _ c.if-text-gt-LONGEST.true

pub loop-sofar-init : goal.loop-sofar-init
loop-sofar-init c = begun _ _ c.new-reader.result c.new.ensures.items c.new-reader.ensures.text c.new-reader.ensures.place

pub returns-in_err-row : goal.returns-in_err-row
returns-in_err-row c =
    let p = err_from_is_err_and c.from_residual.result c.from_residual.ensures.1 in
    rw (p.1, p.2)
    (layout_refused _ c.if-text-gt-LONGEST.false _ (rest_refused _ _ _ _ _ c.loop-sofar.invariant _ c.in_err-row.ensures))

pub loop-sofar-smaller : goal.loop-sofar-smaller
loop-sofar-smaller c = row_takes Layout (rows_of c.loop-sofar.sofar.rows) _ _ _ _ c.in_ok-row.ensures c.in-Some.is

pub loop-sofar-preserved : goal.loop-sofar-preserved
loop-sofar-preserved c =
    rest_goes _ _ _ _ _ _ _ _ _ c.loop-sofar.invariant c.in_ok-row.ensures c.in-Some.is c.in_ok-push.ensures.items

pub loop-sofar-2-init : goal.loop-sofar-2-init
loop-sofar-2-init c = data_begins _ _ _ _ _ c.loop-sofar.invariant c.in_ok-row.ensures c.in_default.is

pub returns-in_err-row-2 : goal.returns-in_err-row-2
returns-in_err-row-2 c =
    let p = err_from_is_err_and c.from_residual-in_err-row-2.result c.from_residual-in_err-row-2.ensures.1 in
    rw (p.1, p.2)
    (data_refused _ c.if-text-gt-LONGEST.false _ (rest_refused _ _ _ _ _ c.loop-sofar-2.invariant _ c.in_err-row-2.ensures))

pub loop-sofar-2-smaller : goal.loop-sofar-2-smaller
loop-sofar-2-smaller c = row_takes Data (rows_of c.loop-sofar-2.sofar.rows) _ _ _ _ c.in_ok-row-2.ensures c.in-Some-2.is

pub loop-sofar-2-preserved : goal.loop-sofar-2-preserved
loop-sofar-2-preserved c =
    rest_goes _ _ _ _ _ _ _ _ _ c.loop-sofar-2.invariant c.in_ok-row-2.ensures c.in-Some-2.is c.in_ok-push-2.ensures.items

pub returns : goal.returns
returns c =
    data_read _ c.if-text-gt-LONGEST.false _ _ (rest_ends _ _ _ _ _ _ _ c.loop-sofar-2.invariant c.in_ok-row-2.ensures c.in_default-2.is)
