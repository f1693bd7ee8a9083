-- What the pairs of each list mean, with names as numbers.
use Rattle.std.specs.Prelude.{Some, None, Option}
use Rattle.forms.specs.declared.states.State.{State}
use Rattle.forms.specs.declared.states.State.TheVariants as state
use Rattle.forms.specs.Things.{Spot, Thing, segment, point, route, zone, subroute}
use Rattle.rows.specs.Rows.{Pair}
use Rattle.naming.specs.Index.{Index, segment_number, point_number, route_number, zone_number, subroute_number}
use Rattle.station.specs.declared.tests.Position.{Position}
use Rattle.station.specs.declared.tests.Position.TheVariants.{Normal, Reverse}
use Rattle.station.specs.declared.tests.Lock.{Lock}
use Rattle.station.specs.declared.tests.Lock.TheVariants as lock
use Rattle.station.specs.declared.tests.RequestTest.{RequestTest}
use Rattle.station.specs.declared.tests.RequestTest.TheVariants as request
use Rattle.station.specs.declared.tests.Action.{Action}
use Rattle.station.specs.declared.tests.Action.TheVariants as action
use Rattle.station.specs.declared.tests.ActivationTest.{ActivationTest}
use Rattle.station.specs.declared.tests.ActivationTest.TheVariants as activation
use Rattle.station.specs.declared.tests.PointTest.{PointTest}
use Rattle.station.specs.declared.tests.ReleaseTest.{ReleaseTest}
use Rattle.station.specs.declared.tests.ReleaseTest.TheVariants as release
use Rattle.station.specs.declared.tables.Setting.{Setting}

-- `r`, `cr` and `cfr` are about the reverse position
abbrev pub side_of : State → Position
side_of state.Xs = Normal
side_of state.Cfn = Normal
side_of state.Cfr = Reverse
side_of state.S = Normal
side_of state.Cn = Normal
side_of state.Cr = Reverse
side_of state.N = Normal
side_of state.R = Reverse
side_of state.F = Normal
side_of state.L = Normal
side_of state.C = Normal

-- the lock of a zone or of a subroute
abbrev pub lock_of : Index → Thing Spot → Option Lock
lock_of ix (segment x) = None
lock_of ix (point x) = None
lock_of ix (route x) = None
lock_of ix (zone x) = Some (lock.Zone (zone_number ix x))
lock_of ix (subroute a b) = Some (lock.Subroute (subroute_number ix a b))

abbrev pub setting_by : Index → State → Thing Spot → Option Setting
setting_by ix s (segment x) = None
setting_by ix s (point x) = Some (record { point = point_number ix x; position = side_of s })
setting_by ix s (route x) = None
setting_by ix s (zone x) = None
setting_by ix s (subroute a b) = None

-- the setting of a way
abbrev pub setting_of : Index → Pair Spot → Option Setting
setting_of ix p = setting_by ix p.state p.thing

abbrev pub request_test_by : Index → State → Thing Spot → Option RequestTest
request_test_by ix s (segment x) = None
request_test_by ix s (point x) = Some (request.Movable (point_number ix x) (side_of s))
request_test_by ix s (route x) = Some (request.Unset (route_number ix x))
request_test_by ix s (zone x) = Some (request.Free (lock.Zone (zone_number ix x)))
request_test_by ix s (subroute a b) = Some (request.Free (lock.Subroute (subroute_number ix a b)))

-- a test of a request
abbrev pub request_test_of : Index → Pair Spot → Option RequestTest
request_test_of ix p = request_test_by ix p.state p.thing

abbrev pub action_by : Index → State → Thing Spot → Option Action
action_by ix s (segment x) = None
action_by ix s (point x) = Some (action.Drive (point_number ix x) (side_of s))
action_by ix s (route x) = Some (action.Set (route_number ix x))
action_by ix s (zone x) = Some (action.Take (lock.Zone (zone_number ix x)))
action_by ix s (subroute a b) = Some (action.Take (lock.Subroute (subroute_number ix a b)))

-- an action of a request
abbrev pub action_of : Index → Pair Spot → Option Action
action_of ix p = action_by ix p.state p.thing

abbrev pub activation_test_by : Index → State → Thing Spot → Option ActivationTest
activation_test_by ix s (segment x) = Some (activation.Clear (segment_number ix x))
activation_test_by ix s (point x) = Some (activation.Lies (point_number ix x) (side_of s))
activation_test_by ix s (route x) = None
activation_test_by ix s (zone x) = None
activation_test_by ix s (subroute a b) = None

-- a test of an activation
abbrev pub activation_test_of : Index → Pair Spot → Option ActivationTest
activation_test_of ix p = activation_test_by ix p.state p.thing

abbrev pub point_test_by : Index → Thing Spot → Option PointTest
point_test_by ix (segment x) = None
point_test_by ix (point x) = None
point_test_by ix (route x) = None
point_test_by ix (zone x) = Some (record { free = lock.Zone (zone_number ix x) })
point_test_by ix (subroute a b) = Some (record { free = lock.Subroute (subroute_number ix a b) })

-- a test of a point's row
abbrev pub point_test_of : Index → Pair Spot → Option PointTest
point_test_of ix p = point_test_by ix p.thing

abbrev pub release_test_by : Index → Thing Spot → Option ReleaseTest
release_test_by ix (segment x) = Some (release.Clear (segment_number ix x))
release_test_by ix (point x) = None
release_test_by ix (route x) = Some (release.Unset (route_number ix x))
release_test_by ix (zone x) = None
release_test_by ix (subroute a b) = Some (release.Free (subroute_number ix a b))

-- a test of a release row
abbrev pub release_test_of : Index → Pair Spot → Option ReleaseTest
release_test_of ix p = release_test_by ix p.thing
