-- An image and what a motor track keeps mean each other.
use Rattle.std.specs.Prelude.{◌≡◌, ℕ, ◌+◌, ◌<◌, ◌≤◌, List, length, Some, All, Option, Result, MatchOption, ◌≢◌}
use Rattle.motor.specs.Kept.{Kept, kept}
use Rattle.motor.specs.Motors.{Motor}
use Rattle.octets.specs.Laws.{Means, PointWritable, TrainDeclared, TrainWritable, Writes}
use Rattle.station.specs.Station.{Station}
use Rattle.track.specs.declared.refusals.Refusal.TheVariants.{Mismatch}
use Rattle.image.specs.Image.{image}
use Rattle.image.specs.Tracks.{MatchMade, track_of}
use Rattle.image.specs.declared.unmade.Unmade.{Unmade}

-- what a motor track may keep at the station: it has the station's points and signals, and its trains name segments and joints of the station
pub record Belongs (s : Station) (k : Kept) : Type 0 where
  pub points : length k.runs ≡ length s.points
  pub few : length k.runs ≤ 32
  pub signals : length k.signals ≡ length s.signals
  pub sixteen : length k.trains ≡ 16
  pub declared : All (TrainDeclared (length s.segments) (length s.joints)) k.trains

-- what has an image: every point and every train can be written, and two octets can say how many octets there are
pub record Writable (k : Kept) : Type 0 where
  pub points : All PointWritable k.runs
  pub trains : All TrainWritable k.trains
  pub short : length k.runs + length k.signals + 64 < 65536

-- octets mean what a track keeps exactly when they are its image and it belongs to the station
abbrev pub ImagesLaw : Station → Type 0
ImagesLaw s = Means (track_of s) image (Belongs s)

abbrev pub ImageWritten : Type 0
ImageWritten = Writes image Writable

-- the answer is something exactly when there is an image
abbrev pub AnswersWhere : {A : Type 0} → Option A → Kept → Type 0
AnswersWhere o k = MatchOption o (Writable k → ⊥) (λ _. Writable k)

-- a track that is made belongs to the station, and the octets are its image; refused with 40, the octets are the image of no track that does
abbrev pub MadeFrom : Station → List ℕ → Result Motor Unmade → Type 0
MadeFrom s xs a =
    MatchMade a (λ t. Belongs s (kept t) × (image (kept t) ≡ Some xs)) (λ e. (e ≡ Mismatch) × ((k : Kept) → Belongs s k → image k ≢ Some xs))

-- made from the image of what belongs to the station: a track that keeps just that
abbrev pub MadeAgain : Station → List ℕ → Result Motor Unmade → Kept → Type 0
MadeAgain s xs a k = Belongs s k → image k ≡ Some xs → MatchMade a (λ t. kept t ≡ k) (λ e. ⊥)
