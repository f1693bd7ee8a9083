-- The number and the offset of a word's fault.
use Rattle.std.specs.Prelude.{ℕ}
use Rattle.text.specs.declared.faults.WordFault.{WordFault}
use Rattle.text.specs.declared.faults.WordFault.TheVariants.{Octet, Long}

abbrev pub word_number : WordFault → ℕ
word_number (Octet i) = 2
word_number (Long i) = 3

abbrev pub word_offset : WordFault → ℕ
word_offset (Octet i) = i
word_offset (Long i) = i
