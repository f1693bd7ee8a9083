-- The tests of sameness tell it.
use Rattle.std.proofs.Common.{◌≡◌, ℕ, Bool, ◌&&◌, eqb, Decides, refl, ap}
use Rattle.std.proofs.lemmas.Bool.Decides.{Decides-eqb, Decides-and, Decides-like}
use Rattle.station.specs.declared.tests.Position.{Position}
use Rattle.station.specs.declared.tests.Position.TheVariants.{Normal, Reverse}
use Rattle.station.specs.declared.tests.Lock.{Lock}
use Rattle.station.specs.declared.tests.Lock.TheVariants.{Zone, Subroute}
use Rattle.station.specs.declared.tests.RequestTest.{RequestTest}
use Rattle.station.specs.declared.tests.RequestTest.TheVariants as request
use Rattle.station.specs.declared.tests.Action.{Action}
use Rattle.station.specs.declared.tests.Action.TheVariants.{Set, Drive, Take}
use Rattle.station.specs.declared.tests.ActivationTest.{ActivationTest}
use Rattle.station.specs.declared.tests.ActivationTest.TheVariants as activation
use Rattle.station.specs.declared.tests.ReleaseTest.{ReleaseTest}
use Rattle.station.specs.declared.tests.ReleaseTest.TheVariants as release
use Rattle.station.specs.declared.tables.Setting.{Setting}
use Rattle.station.specs.declared.tables.Signal.{Signal}
use Rattle.station.specs.Alike.{same_position, same_lock, same_request, same_action, same_activation, same_release, same_setting, same_signal}

-- two numbers, under a constructor
one : {X : Type 0} (K : ℕ → X) → ((a b : ℕ) → K a ≡ K b → a ≡ b) → (a b : ℕ) → Decides (eqb a b) (K a ≡ K b)
one K out a b = Decides-like (eqb a b) (λ e. ap K e) (out a b) (Decides-eqb a b)

-- two pairs, under a constructor
two : {X Y Z : Type 0} (K : X → Y → Z) {f : X → X → Bool} {g : Y → Y → Bool}
    → ((a b : X) → Decides (f a b) (a ≡ b)) → ((x y : Y) → Decides (g x y) (x ≡ y))
    → ((a b : X) (x y : Y) → K a x ≡ K b y → (a ≡ b) × (x ≡ y))
    → (a b : X) (x y : Y) → Decides (f a b && g x y) (K a x ≡ K b y)
two {X} {Y} {Z} K {f} {g} first second out a b x y =
    Decides-like (f a b && g x y) (λ (p : (a ≡ b) × (x ≡ y)). let p0 = p.0 in let p1 = p.1 in cc) (out a b x y) (Decides-and (f a b) (g x y) (first a b) (second x y))

pub decides_position : (x y : Position) → Decides (same_position x y) (x ≡ y)
decides_position Normal Normal = (λ e. refl, λ e. refl)
decides_position Normal Reverse = (λ e. cc, λ e. cc)
decides_position Reverse Normal = (λ e. cc, λ e. cc)
decides_position Reverse Reverse = (λ e. refl, λ e. refl)

pub decides_lock : (x y : Lock) → Decides (same_lock x y) (x ≡ y)
decides_lock (Zone a) (Zone b) = one Zone (λ m n e. cc) a b
decides_lock (Zone a) (Subroute b) = (λ e. cc, λ e. cc)
decides_lock (Subroute a) (Zone b) = (λ e. cc, λ e. cc)
decides_lock (Subroute a) (Subroute b) = one Subroute (λ m n e. cc) a b

pub decides_request : (x y : RequestTest) → Decides (same_request x y) (x ≡ y)
decides_request (request.Unset a) (request.Unset b) = one request.Unset (λ m n e. cc) a b
decides_request (request.Unset a) (request.Movable q y) = (λ e. cc, λ e. cc)
decides_request (request.Unset a) (request.Free m) = (λ e. cc, λ e. cc)
decides_request (request.Movable p x) (request.Unset b) = (λ e. cc, λ e. cc)
decides_request (request.Movable p x) (request.Movable q y) =
    two request.Movable Decides-eqb decides_position (λ a b v w e. (cc, cc)) p q x y
decides_request (request.Movable p x) (request.Free m) = (λ e. cc, λ e. cc)
decides_request (request.Free l) (request.Unset b) = (λ e. cc, λ e. cc)
decides_request (request.Free l) (request.Movable q y) = (λ e. cc, λ e. cc)
decides_request (request.Free l) (request.Free m) =
    Decides-like (same_lock l m) (λ e. ap request.Free e) (λ e. cc) (decides_lock l m)

pub decides_action : (x y : Action) → Decides (same_action x y) (x ≡ y)
decides_action (Set a) (Set b) = one Set (λ m n e. cc) a b
decides_action (Set a) (Drive q y) = (λ e. cc, λ e. cc)
decides_action (Set a) (Take m) = (λ e. cc, λ e. cc)
decides_action (Drive p x) (Set b) = (λ e. cc, λ e. cc)
decides_action (Drive p x) (Drive q y) = two Drive Decides-eqb decides_position (λ a b v w e. (cc, cc)) p q x y
decides_action (Drive p x) (Take m) = (λ e. cc, λ e. cc)
decides_action (Take l) (Set b) = (λ e. cc, λ e. cc)
decides_action (Take l) (Drive q y) = (λ e. cc, λ e. cc)
decides_action (Take l) (Take m) = Decides-like (same_lock l m) (λ e. ap Take e) (λ e. cc) (decides_lock l m)

pub decides_activation : (x y : ActivationTest) → Decides (same_activation x y) (x ≡ y)
decides_activation (activation.Lies p x) (activation.Lies q y) =
    two activation.Lies Decides-eqb decides_position (λ a b v w e. (cc, cc)) p q x y
decides_activation (activation.Lies p x) (activation.Clear u) = (λ e. cc, λ e. cc)
decides_activation (activation.Clear t) (activation.Lies q y) = (λ e. cc, λ e. cc)
decides_activation (activation.Clear t) (activation.Clear u) = one activation.Clear (λ m n e. cc) t u

pub decides_release : (x y : ReleaseTest) → Decides (same_release x y) (x ≡ y)
decides_release (release.Unset a) (release.Unset b) = one release.Unset (λ m n e. cc) a b
decides_release (release.Unset a) (release.Free b) = (λ e. cc, λ e. cc)
decides_release (release.Unset a) (release.Clear b) = (λ e. cc, λ e. cc)
decides_release (release.Free a) (release.Unset b) = (λ e. cc, λ e. cc)
decides_release (release.Free a) (release.Free b) = one release.Free (λ m n e. cc) a b
decides_release (release.Free a) (release.Clear b) = (λ e. cc, λ e. cc)
decides_release (release.Clear a) (release.Unset b) = (λ e. cc, λ e. cc)
decides_release (release.Clear a) (release.Free b) = (λ e. cc, λ e. cc)
decides_release (release.Clear a) (release.Clear b) = one release.Clear (λ m n e. cc) a b

abbrev setting : ℕ → Position → Setting
setting p x = record { point = p; position = x }

abbrev signal : ℕ → ℕ → Signal
signal j t = record { joint = j; segment = t }

pub decides_setting : (x y : Setting) → Decides (same_setting x y) (x ≡ y)
decides_setting x y =
    two setting Decides-eqb decides_position (λ a b v w e. (ap (λ s. s.point) e, ap (λ s. s.position) e)) x.point y.point x.position y.position

pub decides_signal : (x y : Signal) → Decides (same_signal x y) (x ≡ y)
decides_signal x y =
    two signal Decides-eqb Decides-eqb (λ a b v w e. (ap (λ s. s.joint) e, ap (λ s. s.segment) e)) x.joint y.joint x.segment y.segment
