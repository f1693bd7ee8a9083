use Rattle.writing.proofs.Parts.{tokens_law}
use Rattle.writing.proofs.law.texts_of_tokens.Goals as goal

pub returns : goal.returns
returns c = tokens_law
