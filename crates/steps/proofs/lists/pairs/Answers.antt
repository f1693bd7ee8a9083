use Rattle.std.proofs.Common.{◌≡◌, ◌-◌, ◌≤◌, [], ◌∷◌, ◌++◌, map, vec_len, sym, ap, ◌∙◌, arith}
use Rattle.std.proofs.lemmas.List.{map_push}
use Rattle.std.proofs.lemmas.Result.{err_from_is_err_and}
use Rattle.text.specs.Ahead.{tokens_ahead}
use Rattle.rows.specs.Rows.{placed_pair}
use Rattle.steps.specs.Pairs.{a_pair, pairs_from, pairs_of}
use Rattle.steps.proofs.Turns.{most_bound, pairs_end, pair_bad, comma_bad, pair_more, list_begun, list_bad}
use Rattle.steps.proofs.lists.pairs.Goals as goal

pub returns-in_err-more : goal.returns-in_err-more
returns-in_err-more c =
    let p = err_from_is_err_and c.from_residual.result c.from_residual.ensures.1 in
    rw (p.1, p.2) (list_bad _ _ _ _ c.in_err-more.ensures)

pub returns-in_err-pair : goal.returns-in_err-pair
returns-in_err-pair c =
    let p = err_from_is_err_and c.from_residual-in_err-pair.result c.from_residual-in_err-pair.ensures.1 in
    let same = ap (λ xs. a_pair c.args.list (map placed_pair xs) (tokens_ahead c.loop-more.reader)) c.as_slice.ensures.value in
    rw (p.1, p.2)
    (sym (list_begun _ _ _ _ c.in_ok-more.ensures ∙ c.loop-more.invariant.1 ∙ pair_bad _ _ _ _ _ c.loop-more.invariant.0 c.loop-more-test.true _ _ (c.in_err-pair.ensures.value ∙ same)))

pub returns-in_err-more-2 : goal.returns-in_err-more-2
returns-in_err-more-2 c =
    let p = err_from_is_err_and c.from_residual-in_err-more-2.result c.from_residual-in_err-more-2.ensures.1 in
    let same = ap (λ xs. a_pair c.args.list (map placed_pair xs) (tokens_ahead c.loop-more.reader)) c.as_slice.ensures.value in
    rw (p.1, p.2)
    (sym (list_begun _ _ _ _ c.in_ok-more.ensures ∙ c.loop-more.invariant.1 ∙ comma_bad _ _ _ _ _ c.loop-more.invariant.0 c.loop-more-test.true _ _ _ _ (c.in_ok-pair.ensures.value ∙ same) c.in_err-more-2.ensures))

pub loop-more-preserved : goal.loop-more-preserved
loop-more-preserved c =
    let same = ap (λ xs. a_pair c.args.list (map placed_pair xs) (tokens_ahead c.loop-more.reader)) c.as_slice.ensures.value in
    let few = c.in_ok-pair.ensures.few in
    let most = most_bound c.args.list in
    let long = c.in_ok-push.ensures.len in
    let len = c.as_slice.ensures.len in
    let bound : vec_len c.push.new.self ≤ 32 = omega arith in
    let items : pairs_of c.push.new.self ≡ pairs_of c.loop-more.taken ++ placed_pair c.in_ok-pair.pair ∷ [] =
    ap (map placed_pair) c.in_ok-push.ensures.items ∙ map_push _ _ _ in (
      bound,
      c.loop-more.invariant.1
          ∙ pair_more _ _ _ _ _ c.loop-more.invariant.0 c.loop-more-test.true _ _ _ _ (c.in_ok-pair.ensures.value ∙ same) c.in_ok-more-2.ensures
          ∙ ap (λ n. pairs_from (33 - n) c.args.list (pairs_of c.loop-more.taken ++ placed_pair c.in_ok-pair.pair ∷ []) c.in_ok-more-2.more (tokens_ahead c.comma.new.reader)) (sym long)
          ∙ ap (λ ps. pairs_from (33 - vec_len c.push.new.self) c.args.list ps c.in_ok-more-2.more (tokens_ahead c.comma.new.reader)) (sym items),
    )

pub returns : goal.returns
returns c = sym (list_begun _ _ _ _ c.in_ok-more.ensures ∙ c.loop-more.invariant.1 ∙ pairs_end _ _ _ _ _ c.loop-more-test.false)
