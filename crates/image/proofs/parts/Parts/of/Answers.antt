use Rattle.std.proofs.Common.{◌≡◌, ◌/◌, length, drop, ap, ◌∙◌, arith}
use Rattle.std.proofs.lemmas.List.{take_rest}
use Rattle.std.proofs.lemmas.Bool.Decides.{nat_tests}
use Rattle.image.specs.Tracks.{fours}
use Rattle.image.proofs.Fours.{fours_is}
use Rattle.image.proofs.parts.Parts.of.Goals as goal

pub returns-clause-trains : goal.returns-clause-trains
returns-clause-trains c =
    let rest = c.split_at-2.result.1.now in
    let cut = c.split_at-2.ensures.back ∙ ap (drop c.args.signals) (c.split_at.ensures.back ∙ ap (drop c.args.points) (take_rest c.args.octets.now 3)) in
    let long : length rest ≡ 64 = grind (arith, nat_tests) in
    c.as_chunks.ensures.front ∙ fours_is (length rest / 4) 16 rest (ap (λ n. n / 4) long) ∙ ap (fours 16) cut
