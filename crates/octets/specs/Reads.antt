-- The point, signal and train that octets mean.
use Rattle.std.specs.Prelude.{ℕ, ◌-◌, Bool, true, cond, ◌&&◌, List, length, Some, None, Option, ◌==◌, nat_le, nat_lt, slice_index}
use Rattle.motor.specs.Motors.{a_run}
use Rattle.motor.specs.declared.runs.Run.{Run}
use Rattle.station.specs.declared.tests.Position.TheVariants.{Normal, Reverse}
use Rattle.track.specs.Trains.{come_in, gone_on, present, Train}
use Rattle.track.specs.declared.states.Aspect.{Aspect}
use Rattle.track.specs.declared.states.Aspect.TheVariants.{Stop, Proceed}
use Rattle.octets.specs.Writes.{octet}

-- an octet of a point in motion: 1 to 8 settlings left are added to the base
abbrev pub in_motion : ℕ → ℕ → Bool
in_motion base b = nat_lt base b && nat_le (b - base) 8

abbrev pub run_of : ℕ → Option Run
run_of b =
    cond (b == 0) (Some (a_run Normal 0))
    (cond (b == 1) (Some (a_run Reverse 0))
    (cond (in_motion 16 b) (Some (a_run Normal (b - 16)))
    (cond (in_motion 32 b) (Some (a_run Reverse (b - 32))) None)))

abbrev pub aspect_of : ℕ → Option Aspect
aspect_of b = cond (b == 0) (Some Stop) (cond (b == 1) (Some Proceed) None)

-- a number below the count, that has an octet
abbrev pub declared : ℕ → ℕ → Bool
declared count n = nat_lt n count && octet n

-- state 0: nothing else
abbrev pub absent_of : ℕ → ℕ → ℕ → Option Train
absent_of front joint rear = cond (front == 0 && (joint == 0 && rear == 0)) (Some None) None

-- the others, at a station with so many segments and joints; state 1: in one segment
abbrev pub one_of : ℕ → ℕ → ℕ → ℕ → ℕ → Option Train
one_of segments joints front joint rear =
    cond (declared segments front && (declared joints joint && rear == 0)) (Some (come_in front joint)) None

-- state 2: in two
abbrev pub two_of : ℕ → ℕ → ℕ → ℕ → ℕ → Option Train
two_of segments joints front joint rear =
    cond (declared segments front && (declared joints joint && declared segments rear)) (Some (gone_on (Some front) joint rear)) None

-- state 3: the front outside
abbrev pub outside_of : ℕ → ℕ → ℕ → ℕ → ℕ → Option Train
outside_of segments joints front joint rear =
    cond (front == 0 && (declared joints joint && declared segments rear)) (Some (gone_on None joint rear)) None

-- state 4: derailed in one
abbrev pub derailed_of : ℕ → ℕ → ℕ → ℕ → ℕ → Option Train
derailed_of segments joints front joint rear =
    cond (declared segments front && (declared joints joint && rear == 0)) (Some (present (Some front) joint None true)) None

abbrev pub four_of : ℕ → ℕ → ℕ → ℕ → ℕ → ℕ → Option Train
four_of segments joints state front joint rear =
    cond (state == 0) (absent_of front joint rear)
    (cond (state == 1) (one_of segments joints front joint rear)
    (cond (state == 2) (two_of segments joints front joint rear)
    (cond (state == 3) (outside_of segments joints front joint rear)
    (cond (state == 4) (derailed_of segments joints front joint rear) None))))

-- the train that four octets mean
abbrev pub train_of : ℕ → ℕ → List ℕ → Option Train
train_of segments joints q =
    cond (length q == 4) (four_of segments joints (slice_index q 0) (slice_index q 1) (slice_index q 2) (slice_index q 3)) None
