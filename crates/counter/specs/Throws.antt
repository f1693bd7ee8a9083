-- The throws of each point, counted up to the most that 32 bits hold.
use Rattle.std.specs.Prelude.{ℕ, ◌+◌, ◌%◌, cond, List, Some, None, Option, nat_lt, slice_index, slice_set}
use Rattle.station.specs.Alike.{same_position}
use Rattle.station.specs.declared.tests.Position.{Position}
use Rattle.track.specs.declared.refusals.Refusal.{Refusal}

abbrev pub one_more : ℕ → ℕ
one_more n = cond (nat_lt n 4294967295) (n + 1) n

abbrev pub throws_at : List ℕ → ℕ → ℕ
throws_at ns i = slice_index ns i

-- a drive that changes the target is a throw
abbrev pub thrown : List ℕ → ℕ → Position → Position → List ℕ
thrown ns i was to = cond (same_position was to) ns (slice_set ns i (one_more (throws_at ns i)))

-- a refused drive is none
abbrev pub counted : Option Refusal → List ℕ → List ℕ → List ℕ
counted None old new = new
counted (Some e) old new = old

-- a point is greased after 4,000 throws
abbrev pub since_greasing : ℕ → ℕ
since_greasing n = n % 4000
