use Rattle.safety.proofs.Theorem.{safe_runs}
use Rattle.safety.proofs.laws.safe_runs.Goals as goal

pub returns : goal.returns
returns c = safe_runs
