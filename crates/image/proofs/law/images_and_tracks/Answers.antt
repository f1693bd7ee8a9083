use Rattle.image.proofs.Able.{image_written}
use Rattle.image.proofs.Wholes.{images_law}
use Rattle.image.proofs.law.images_and_tracks.Goals as goal

pub returns : goal.returns
returns c = record { means = images_law; written = image_written }
