use Rattle.std.proofs.Common.{ℕ, rules, not, refl, ap}
use Rattle.firsts.proofs.Found.{found_any}
use Rattle.track.specs.Meaning.{train_at}
use Rattle.track.specs.Trains.{holds}
use Rattle.standing.proofs.motions.is_clear.Goals as goal

pub returns : goal.returns
returns g c =
    let held = λ (i : ℕ). holds (train_at (g.S.Standing.told c.args.track.now) i) c.args.segment in
    ap not (found_any _ _ held (search rules) (λ i b e. search rules) 16 c.any.result _ refl refl c.any.ensures.runs)
