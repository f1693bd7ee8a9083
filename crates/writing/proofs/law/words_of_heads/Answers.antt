use Rattle.writing.proofs.Parts.{heads_law}
use Rattle.writing.proofs.law.words_of_heads.Goals as goal

pub returns : goal.returns
returns c = heads_law
