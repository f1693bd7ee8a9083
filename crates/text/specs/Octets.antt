-- Which octets part words, which are marks and which a word may have; and runs of one class.
use Rattle.std.specs.Prelude.{ℕ, ◌+◌, Bool, not, ◌&&◌, ◌||◌, List, drop, ◌==◌, nat_le}
use Rattle.std.specs.List.{prefix_len}
use Rattle.text.specs.declared.octets.Class.{Class}
use Rattle.text.specs.declared.octets.Class.TheVariants.{Blank, Inner, Allowed, Plain, Name}

-- LF, CR and space
abbrev pub blank : ℕ → Bool
blank b = b == 10 || (b == 13 || b == 32)

abbrev pub between : ℕ → ℕ → ℕ → Bool
between low high b = nat_le low b && nat_le b high

abbrev pub letter : ℕ → Bool
letter b = between 97 122 b || between 65 90 b

abbrev pub digit : ℕ → Bool
digit b = between 48 57 b

-- a letter, a digit, `_`, `(` or `)`
abbrev pub allowed : ℕ → Bool
allowed b = letter b || (digit b || (b == 95 || (b == 40 || b == 41)))

-- neither a blank, a star nor a comma
abbrev pub inner : ℕ → Bool
inner b = not (blank b || (b == 42 || b == 44))

-- a letter or a digit: what a joint's name may have
abbrev pub plain : ℕ → Bool
plain b = letter b || digit b

-- what any other name may have
abbrev pub naming : ℕ → Bool
naming b = letter b || (digit b || b == 95)

abbrev pub has : Class → ℕ → Bool
has Blank b = blank b
has Inner b = inner b
has Allowed b = allowed b
has Plain b = plain b
has Name b = naming b

-- the first place from `at` on whose octet is not of the class, or the end
abbrev pub past : Class → List ℕ → ℕ → ℕ
past c t at = at + prefix_len (has c) (drop at t)
