-- When a test of a row holds, for each of the four kinds of row.
use Rattle.std.specs.Prelude.{ℕ, Bool, not, ◌&&◌, ◌||◌, List, Result}
use Rattle.std.specs.Result.{result_unwrap_or}
use Rattle.firsts.specs.Lists.{all}
use Rattle.station.specs.Alike.{same_position}
use Rattle.station.specs.Numbers.{point_at}
use Rattle.station.specs.Station.{Station}
use Rattle.station.specs.declared.tests.ActivationTest.{ActivationTest}
use Rattle.station.specs.declared.tests.ActivationTest.TheVariants as activation
use Rattle.station.specs.declared.tests.Lock.{Lock}
use Rattle.station.specs.declared.tests.Lock.TheVariants.{Subroute}
use Rattle.station.specs.declared.tests.PointTest.{PointTest}
use Rattle.station.specs.declared.tests.Position.{Position}
use Rattle.station.specs.declared.tests.Position.TheVariants.{Normal, Reverse}
use Rattle.station.specs.declared.tests.ReleaseTest.{ReleaseTest}
use Rattle.station.specs.declared.tests.ReleaseTest.TheVariants as release
use Rattle.station.specs.declared.tests.RequestTest.{RequestTest}
use Rattle.station.specs.declared.tests.RequestTest.TheVariants as request
use Rattle.track.specs.Calls.{clear_answer, point_answer, said}
use Rattle.track.specs.Meaning.{Meaning, no_state}
use Rattle.track.specs.declared.refusals.Refusal.{Refusal}
use Rattle.track.specs.declared.states.PointState.{PointState}
use Rattle.states.specs.Routes.{is_unset}
use Rattle.states.specs.Slots.{is_locked, route_state}
use Rattle.states.specs.declared.slots.States.{States}
use Rattle.conditions.specs.States.{State}

-- a point as the trackside answers; one of which it answers nothing is normal and not settled
abbrev pub told : Result PointState Refusal → PointState
told r = result_unwrap_or r no_state

abbrev pub point_told : Station → Meaning → ℕ → PointState
point_told s m p = told (point_answer s m p)

-- `R_x xs`: neither set nor active
abbrev pub unset : States → ℕ → Bool
unset own r = is_unset (route_state own r)

-- `U_IR(x) f` and `U_a_b f`
abbrev pub is_free : States → Lock → Bool
is_free own l = not (is_locked own l)

-- `P_x n` and `P_x r`: settled so
abbrev pub lies : Station → Meaning → ℕ → Position → Bool
lies s m p x = (point_told s m p).settled && same_position (point_told s m p).target x

-- `T_x c`: the trackside answers that the segment is clear; of one that is not declared it does not
abbrev pub is_clear : Station → Meaning → ℕ → Bool
is_clear s m t = said (clear_answer s m t)

-- the row of a point for a position
abbrev pub row_for : Station → ℕ → Position → List PointTest
row_for s p Normal = (point_at s p).normal
row_for s p Reverse = (point_at s p).reverse

abbrev pub point_holds : PointTest → Station → State → Bool
point_holds t s v = is_free v.own t.free

-- `P_x cfn` and `P_x cfr`: the target is so already, or all tests of the point's row for that position hold
abbrev pub movable : Station → State → ℕ → Position → Bool
movable s v p x = same_position (point_told s v.track p).target x || all (λ t. point_holds t s v) (row_for s p x)

abbrev pub request_holds : RequestTest → Station → State → Bool
request_holds (request.Unset r) s v = unset v.own r
request_holds (request.Movable p x) s v = movable s v p x
request_holds (request.Free l) s v = is_free v.own l

abbrev pub activation_holds : ActivationTest → Station → State → Bool
activation_holds (activation.Lies p x) s v = lies s v.track p x
activation_holds (activation.Clear t) s v = is_clear s v.track t

abbrev pub release_holds : ReleaseTest → Station → State → Bool
release_holds (release.Unset r) s v = unset v.own r
release_holds (release.Free u) s v = is_free v.own (Subroute u)
release_holds (release.Clear t) s v = is_clear s v.track t
