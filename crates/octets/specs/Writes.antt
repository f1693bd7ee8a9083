-- The octets that stand for a point, a signal and a train.
use Rattle.std.specs.Prelude.{ℕ, ◌+◌, Bool, true, false, cond, ◌&&◌, List, [], ◌∷◌, Some, None, Option, ◌==◌, nat_le, nat_lt}
use Rattle.motor.specs.declared.runs.Run.{Run}
use Rattle.station.specs.declared.tests.Position.{Position}
use Rattle.station.specs.declared.tests.Position.TheVariants.{Normal, Reverse}
use Rattle.track.specs.declared.states.Aspect.{Aspect}
use Rattle.track.specs.declared.states.Aspect.TheVariants.{Stop, Proceed}
use Rattle.track.specs.Trains.{Train}

-- a settled point
abbrev pub rest_octet : Position → ℕ
rest_octet Normal = 0
rest_octet Reverse = 1

-- a point in motion, to which its settlings left are added
abbrev pub motion_octet : Position → ℕ
motion_octet Normal = 16
motion_octet Reverse = 32

-- a point, with at most 8 settlings left
abbrev pub run_octet : Run → Option ℕ
run_octet p = cond (nat_le p.left 8) (Some (cond (p.left == 0) (rest_octet p.target) (motion_octet p.target + p.left))) None

abbrev pub aspect_octet : Aspect → ℕ
aspect_octet Stop = 0
aspect_octet Proceed = 1

-- a number that has an octet
abbrev pub octet : ℕ → Bool
octet n = nat_lt n 256

-- state, front, joint and rear, where each has an octet
abbrev pub four : ℕ → ℕ → ℕ → ℕ → Option (List ℕ)
four state front joint rear = cond (octet front && (octet joint && octet rear)) (Some (state ∷ front ∷ joint ∷ rear ∷ [])) None

-- a train that is present: 1 in one segment, 2 in two, 3 with its front outside, 4 derailed in one
abbrev pub place_octets : Option ℕ → ℕ → Option ℕ → Bool → Option (List ℕ)
place_octets (Some t) j None false = four 1 t j 0
place_octets (Some t) j None true = four 4 t j 0
place_octets (Some t) j (Some u) false = four 2 t j u
place_octets (Some t) j (Some u) true = None
place_octets None j None false = None
place_octets None j None true = None
place_octets None j (Some u) false = four 3 0 j u
place_octets None j (Some u) true = None

abbrev pub train_octets : Train → Option (List ℕ)
train_octets None = Some (0 ∷ 0 ∷ 0 ∷ 0 ∷ [])
train_octets (Some p) = place_octets p.front p.joint p.rear p.derailed
