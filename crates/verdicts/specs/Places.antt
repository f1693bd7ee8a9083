-- Where an offset stands in a text: the line ends before it, and the octets since the last of them.
use Rattle.std.specs.Prelude.{ℕ, Bool, not, List, take, count_by, ◌==◌}
use Rattle.std.specs.List.{suffix_len}

-- LF ends a line
abbrev pub ends_line : ℕ → Bool
ends_line b = b == 10

abbrev pub within_line : ℕ → Bool
within_line b = not (ends_line b)

abbrev pub lines_before : List ℕ → ℕ → ℕ
lines_before t at = count_by ends_line (take at t)

abbrev pub octets_since : List ℕ → ℕ → ℕ
octets_since t at = suffix_len within_line (take at t)
