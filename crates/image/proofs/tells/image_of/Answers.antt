use Rattle.std.proofs.lemmas.Result.{IfOk-weaker}
use Rattle.motor.specs.Kept.{kept}
use Rattle.octets.specs.Each.{Told}
use Rattle.image.specs.Image.{image}
use Rattle.image.specs.Laws.{AnswersWhere}
use Rattle.image.proofs.Able.{answers_where}
use Rattle.image.proofs.tells.image_of.Goals as goal

pub returns-clause-able : goal.returns-clause-able
returns-clause-able c =
    let k = kept c.args.track.now in
    IfOk-weaker c.written.result (λ o. Told o (image k)) (λ o. AnswersWhere o k) (λ o. answers_where o k) c.written.ensures
