use Rattle.writing.proofs.Rows.{rows_law}
use Rattle.writing.proofs.law.rows_as_written.Goals as goal

pub returns : goal.returns
returns c = rows_law
