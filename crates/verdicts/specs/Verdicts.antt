-- What the checker answers to a text.
use Rattle.std.specs.Prelude.{◌≡◌, ℕ, List, length, Some, None, Ok, Err, Option, Result}
use Rattle.acceptance.specs.declared.breaches.Breach.{Breach}
use Rattle.acceptance.specs.Breaches.{first_broken}
use Rattle.rows.specs.Faults.{code}
use Rattle.sheets.specs.Outcomes.{Outcome, done, refused}
use Rattle.reading.specs.Reading.{reading}
use Rattle.station.specs.Station.{Station, empty}
use Rattle.verdicts.specs.declared.verdict.Counts.{Counts}
use Rattle.verdicts.specs.declared.verdict.Rejection.{Rejection}
use Rattle.verdicts.specs.declared.verdict.Rejection.TheVariants.{Unread, Broken}

-- how many segments and routes are accepted, the first rule that is broken and by what, or the refusal's number and offset
pub data Verdict : Type 0 where
  accepted : ℕ → ℕ → Verdict
  broken : Breach → Verdict
  unread : ℕ → ℕ → Verdict

abbrev pub checked_by : Station → Option Breach → Verdict
checked_by s None = accepted (length s.segments) (length s.routes)
checked_by s (Some b) = broken b

-- accepted where no rule is broken, else the first breach
abbrev pub checked : Station → Verdict
checked s = checked_by s (first_broken s)

abbrev pub verdict_by : Outcome Station → Verdict
verdict_by (done s) = checked s
verdict_by (refused n i) = unread n i

-- the text is read, and what was read is checked
abbrev pub verdict : List ℕ → Verdict
verdict t = verdict_by (reading t)

-- a fault of reading is the verdict by its number and offset; for want of memory nothing is due
abbrev pub Unreads : Option (ℕ × ℕ) → Verdict → Type 0
Unreads None v = Unit {0}
Unreads (Some p) v = unread p.0 p.1 ≡ v

-- the answer is the verdict, but where there was no memory
abbrev pub Judges : Result Counts Rejection → Verdict → Type 0
Judges (Ok n) v = accepted n.segments n.routes ≡ v
Judges (Err (Broken b)) v = broken b ≡ v
Judges (Err (Unread e)) v = Unreads (code e) v

-- what the tables hold then: what was read, or nothing
abbrev pub Holds : Result Counts Rejection → Station → Outcome Station → Type 0
Holds (Ok n) s o = done s ≡ o
Holds (Err (Broken b)) s o = done s ≡ o
Holds (Err (Unread e)) s o = s ≡ empty

-- what is so of a text that is read, accepted or not
abbrev pub WhenRead : Result Counts Rejection → Type 0 → Type 0
WhenRead (Ok n) P = P
WhenRead (Err (Broken b)) P = P
WhenRead (Err (Unread e)) P = Unit {0}
