-- Tests that say whether two positions, locks, tests of a row, actions, settings or signals are the same.
use Rattle.std.specs.Prelude.{Bool, true, false, ◌&&◌, ◌==◌}
use Rattle.station.specs.declared.tests.Position.{Position}
use Rattle.station.specs.declared.tests.Position.TheVariants.{Normal, Reverse}
use Rattle.station.specs.declared.tests.Lock.{Lock}
use Rattle.station.specs.declared.tests.Lock.TheVariants.{Zone, Subroute}
use Rattle.station.specs.declared.tests.RequestTest.{RequestTest}
use Rattle.station.specs.declared.tests.RequestTest.TheVariants as request
use Rattle.station.specs.declared.tests.Action.{Action}
use Rattle.station.specs.declared.tests.Action.TheVariants.{Set, Drive, Take}
use Rattle.station.specs.declared.tests.ActivationTest.{ActivationTest}
use Rattle.station.specs.declared.tests.ActivationTest.TheVariants as activation
use Rattle.station.specs.declared.tests.ReleaseTest.{ReleaseTest}
use Rattle.station.specs.declared.tests.ReleaseTest.TheVariants as release
use Rattle.station.specs.declared.tables.Setting.{Setting}
use Rattle.station.specs.declared.tables.Signal.{Signal}

abbrev pub same_position : Position → Position → Bool
same_position Normal Normal = true
same_position Normal Reverse = false
same_position Reverse Normal = false
same_position Reverse Reverse = true

abbrev pub same_lock : Lock → Lock → Bool
same_lock (Zone a) (Zone b) = a == b
same_lock (Zone a) (Subroute b) = false
same_lock (Subroute a) (Zone b) = false
same_lock (Subroute a) (Subroute b) = a == b

abbrev pub same_request : RequestTest → RequestTest → Bool
same_request (request.Unset a) (request.Unset b) = a == b
same_request (request.Unset a) (request.Movable q y) = false
same_request (request.Unset a) (request.Free m) = false
same_request (request.Movable p x) (request.Unset b) = false
same_request (request.Movable p x) (request.Movable q y) = p == q && same_position x y
same_request (request.Movable p x) (request.Free m) = false
same_request (request.Free l) (request.Unset b) = false
same_request (request.Free l) (request.Movable q y) = false
same_request (request.Free l) (request.Free m) = same_lock l m

abbrev pub same_action : Action → Action → Bool
same_action (Set a) (Set b) = a == b
same_action (Set a) (Drive q y) = false
same_action (Set a) (Take m) = false
same_action (Drive p x) (Set b) = false
same_action (Drive p x) (Drive q y) = p == q && same_position x y
same_action (Drive p x) (Take m) = false
same_action (Take l) (Set b) = false
same_action (Take l) (Drive q y) = false
same_action (Take l) (Take m) = same_lock l m

abbrev pub same_activation : ActivationTest → ActivationTest → Bool
same_activation (activation.Lies p x) (activation.Lies q y) = p == q && same_position x y
same_activation (activation.Lies p x) (activation.Clear u) = false
same_activation (activation.Clear t) (activation.Lies q y) = false
same_activation (activation.Clear t) (activation.Clear u) = t == u

abbrev pub same_release : ReleaseTest → ReleaseTest → Bool
same_release (release.Unset a) (release.Unset b) = a == b
same_release (release.Unset a) (release.Free b) = false
same_release (release.Unset a) (release.Clear b) = false
same_release (release.Free a) (release.Unset b) = false
same_release (release.Free a) (release.Free b) = a == b
same_release (release.Free a) (release.Clear b) = false
same_release (release.Clear a) (release.Unset b) = false
same_release (release.Clear a) (release.Free b) = false
same_release (release.Clear a) (release.Clear b) = a == b

abbrev pub same_setting : Setting → Setting → Bool
same_setting a b = a.point == b.point && same_position a.position b.position

abbrev pub same_signal : Signal → Signal → Bool
same_signal a b = a.joint == b.joint && a.segment == b.segment
