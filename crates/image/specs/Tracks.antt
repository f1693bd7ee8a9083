-- What octets mean at a station: the points, signals and trains that a motor track then keeps.
use Rattle.std.specs.Prelude.{◌≡◌, ℕ, Bool, false, cond, List, length, take, drop, Some, None, Ok, Err, Option, Result, nat_le}
use Rattle.std.specs.Option.{option_map_or}
use Rattle.std.specs.Simd.{first_chunks}
use Rattle.motor.specs.Kept.{Kept, keeping, kept}
use Rattle.motor.specs.Motors.{Motor}
use Rattle.octets.specs.Each.{each}
use Rattle.octets.specs.Frames.{framed, rest}
use Rattle.octets.specs.Reads.{aspect_of, run_of, train_of}
use Rattle.station.specs.Station.{Station}
use Rattle.track.specs.declared.refusals.Refusal.{Refusal}
use Rattle.track.specs.declared.refusals.Refusal.TheVariants.{Mismatch}
use Rattle.image.specs.declared.unmade.Unmade.{Unmade}
use Rattle.image.specs.declared.unmade.Unmade.TheVariants.{Memory, Refused}
use Rattle.image.specs.Image.{then}

-- after the first three octets come the points, then the signals, then the trains, four octets each
abbrev pub point_part : ℕ → List ℕ → List ℕ
point_part p xs = take p (drop 3 xs)

abbrev pub signal_part : ℕ → ℕ → List ℕ → List ℕ
signal_part p s xs = take s (drop p (drop 3 xs))

unfoldable pub fours : ℕ → List ℕ → List (List ℕ)
fours n xs = first_chunks 4 n xs

abbrev pub train_part : ℕ → ℕ → List ℕ → List (List ℕ)
train_part p s xs = fours 16 (drop s (drop p (drop 3 xs)))

-- two octets can say how many follow the first three, and the octets begin so and are as many
abbrev pub framing : ℕ → ℕ → List ℕ → Bool
framing p s xs = option_map_or (λ n. framed n xs) (rest p s) false

abbrev pub filled : Station → ℕ → ℕ → List ℕ → Option Kept
filled st p s xs =
    then (each run_of (point_part p xs))
    (λ rs. then (each aspect_of (signal_part p s xs))
    (λ ss. then (each (train_of (length st.segments) (length st.joints)) (train_part p s xs))
    (λ ts. Some (keeping rs ss ts))))

-- a track has at most 32 points
abbrev pub track_of : Station → List ℕ → Option Kept
track_of st xs =
    cond (nat_le (length st.points) 32)
    (cond (framing (length st.points) (length st.signals) xs) (filled st (length st.points) (length st.signals) xs) None)
    None

-- what holds of a track that was made, or of the refusal; of want of memory nothing is said
abbrev pub MatchMade : Result Motor Unmade → (Motor → Type 0) → (Refusal → Type 0) → Type 0
MatchMade (Ok t) P Q = P t
MatchMade (Err (Refused e)) P Q = Q e
MatchMade (Err Memory) P Q = Unit {0}

-- the answer is a track that keeps this, or the refusal with 40 where there is nothing to keep
abbrev pub Answered : Result Motor Unmade → Option Kept → Type 0
Answered a k = MatchMade a (λ t. k ≡ Some (kept t)) (λ e. (e ≡ Mismatch) × (k ≡ None))
