use Rattle.writing.proofs.Parts.{lists_law}
use Rattle.writing.proofs.law.lists_of_pairs.Goals as goal

pub returns : goal.returns
returns c = lists_law
