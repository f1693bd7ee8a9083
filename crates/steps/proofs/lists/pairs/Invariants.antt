use Rattle.std.proofs.Common.{◌≡◌, ◌-◌, ◌≤◌, [], vec_len}
use Rattle.text.specs.Ahead.{tokens_ahead}
use Rattle.steps.specs.Pairs.{pairs_from, pairs_of}
use Rattle.steps.proofs.lists.pairs.Given as goal

abbrev pub invariant-loop-more : goal.invariant-loop-more
invariant-loop-more l =
    (vec_len l.taken ≤ 32)
    × (pairs_from 33 l.list [] l.initial.more (tokens_ahead l.initial.reader) ≡ pairs_from (33 - vec_len l.taken) l.list (pairs_of l.taken) l.more (tokens_ahead l.reader))

abbrev pub decreases-loop-more : goal.decreases-loop-more
decreases-loop-more l = 33 - vec_len l.taken
