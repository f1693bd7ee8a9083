use Rattle.writing.proofs.Writings.{reading_law}
use Rattle.writing.proofs.law.writings_are_read.Goals as goal

pub returns : goal.returns
returns c = reading_law
