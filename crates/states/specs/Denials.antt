-- The refusals of an interlocking by number.
use Rattle.std.specs.Prelude.{ℕ, Some, None, Option}
use Rattle.std.specs.Option.{option_map}
use Rattle.track.specs.Refusals as refusals
use Rattle.states.specs.declared.denials.Denial.{Denial}
use Rattle.states.specs.declared.denials.Denial.TheVariants.{Track, Unknown, Occupied, Fails, Idle}

abbrev pub number : Denial → ℕ
number (Track e) = refusals.number e
number Unknown = 31
number Occupied = 32
number (Fails k) = 33
number Idle = 34

-- the place of the test that fails, from 1
abbrev pub place_of : Denial → Option ℕ
place_of (Track e) = None
place_of Unknown = None
place_of Occupied = None
place_of (Fails k) = Some k
place_of Idle = None

-- the place of the first test that fails, where one does
abbrev pub by_test : Option ℕ → Option Denial
by_test o = option_map (λ k. Fails k) o
