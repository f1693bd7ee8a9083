use Rattle.octets.proofs.Able.{points_written, trains_written}
use Rattle.octets.proofs.Records.{points_law, signals_law, trains_law}
use Rattle.octets.proofs.law.written_and_read.Goals as goal

pub returns : goal.returns
returns c = record {
  points = points_law;
  signals = signals_law;
  trains = trains_law;
  points_written = points_written;
  trains_written = trains_written;
}
