-- Reading and writing are inverse to each other, record by record.
use Rattle.std.specs.Prelude.{◌≡◌, ℕ, ◌<◌, ◌≤◌, Bool, false, Some, None, Option}
use Rattle.motor.specs.declared.runs.Run.{Run}
use Rattle.octets.specs.Reads.{aspect_of, run_of, train_of}
use Rattle.octets.specs.Writes.{aspect_octet, run_octet, train_octets}
use Rattle.track.specs.Trains.{Train}

-- x means y exactly when y is one of those meant and is written x
pub record Means {X Y : Type 0} (read : X → Option Y) (write : Y → Option X) (meant : Y → Type 0) : Type 0 where
  pub written : (x : X) (y : Y) → read x ≡ Some y → write y ≡ Some x
  pub belongs : (x : X) (y : Y) → read x ≡ Some y → meant y
  pub again : (x : X) (y : Y) → meant y → write y ≡ Some x → read x ≡ Some y

-- anything
abbrev pub Any : {Y : Type 0} → Y → Type 0
Any y = Unit {0}

-- the numbers of a train are those of segments and joints
abbrev pub FrontDeclared : ℕ → Option ℕ → Type 0
FrontDeclared segments (Some t) = t < segments
FrontDeclared segments None = Unit {0}

abbrev pub RearDeclared : ℕ → Option ℕ → Type 0
RearDeclared segments None = Unit {0}
RearDeclared segments (Some u) = u < segments

abbrev pub TrainDeclared : ℕ → ℕ → Train → Type 0
TrainDeclared segments joints None = Unit {0}
TrainDeclared segments joints (Some p) = FrontDeclared segments p.front × (p.joint < joints) × RearDeclared segments p.rear

-- what can be written: those of which this holds, and no others
pub record Writes {X Y : Type 0} (write : Y → Option X) (able : Y → Type 0) : Type 0 where
  pub there : (y : Y) → able y → (x : X) × (write y ≡ Some x)
  pub only : (x : X) (y : Y) → write y ≡ Some x → able y

abbrev pub PointWritable : Run → Type 0
PointWritable p = p.left ≤ 8

-- a train that is present holds a segment and is derailed only where it is wholly in one, and its numbers have octets
abbrev pub PlaceWritable : Option ℕ → ℕ → Option ℕ → Bool → Type 0
PlaceWritable (Some t) j None derailed = (t < 256) × (j < 256)
PlaceWritable (Some t) j (Some u) derailed = (t < 256) × (j < 256) × (u < 256) × (derailed ≡ false)
PlaceWritable None j None derailed = ⊥
PlaceWritable None j (Some u) derailed = (j < 256) × (u < 256) × (derailed ≡ false)

abbrev pub TrainWritable : Train → Type 0
TrainWritable None = Unit {0}
TrainWritable (Some p) = PlaceWritable p.front p.joint p.rear p.derailed

abbrev pub PointsLaw : Type 0
PointsLaw = Means run_of run_octet Any

abbrev pub SignalsLaw : Type 0
SignalsLaw = Means aspect_of (λ a. Some (aspect_octet a)) Any

abbrev pub TrainsLaw : Type 0
TrainsLaw = (segments joints : ℕ) → Means (train_of segments joints) train_octets (TrainDeclared segments joints)

abbrev pub PointsWritten : Type 0
PointsWritten = Writes run_octet PointWritable

abbrev pub TrainsWritten : Type 0
TrainsWritten = Writes train_octets TrainWritable
