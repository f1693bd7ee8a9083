use Rattle.writing.proofs.Parts.{things_law}
use Rattle.writing.proofs.law.words_of_things.Goals as goal

pub returns : goal.returns
returns c = things_law
