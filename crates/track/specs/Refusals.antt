-- The refusals by number, and what a call answers that is refused or not.
use Rattle.std.specs.Prelude.{ℕ, Some, None, Ok, Err, Option, Result}
use Rattle.track.specs.declared.refusals.Refusal.{Refusal}
use Rattle.track.specs.declared.refusals.Refusal.TheVariants.{Unknown, AtRest, Presence, StopAhead, Extent, Unsignalled, OffTrack, Mismatch}

abbrev pub number : Refusal → ℕ
number Unknown = 31
number AtRest = 34
number Presence = 35
number StopAhead = 36
number Extent = 37
number Unsignalled = 38
number OffTrack = 39
number Mismatch = 40

-- the answer of a call: its refusal, or its value
abbrev pub answer : {A E : Type 0} → Option E → A → Result A E
answer None x = Ok x
answer (Some e) x = Err e

-- the answer of a call that tells no value
abbrev pub plainly : {A : Type 0} → Result A Refusal → Result Unit Refusal
plainly (Ok x) = Ok tt
plainly (Err e) = Err e

-- what a call leaves: all as it was, where it is refused
abbrev pub after : {M E : Type 0} → Option E → M → M → M
after None old new = new
after (Some e) old new = old
