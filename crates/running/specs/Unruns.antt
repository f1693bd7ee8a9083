-- Why no call was carried out: opening is refused, or there is no memory for the answers; the trackside comes back as it was.
use Rattle.std.specs.Prelude.{◌≡◌, ℕ, ◌<◌, Some, Option}
use Rattle.states.specs.declared.denials.Denial.{Denial}
use Rattle.running.specs.declared.carrying.Unrun.{Unrun}
use Rattle.running.specs.declared.carrying.Unrun.TheVariants.{Denied, Memory}

-- the trackside t comes back, a refusal is the one that opening gives, and memory is wanting only for the answers to n calls
abbrev pub GivesBack : {T : Type 0} → T → Option Denial → ℕ → Unrun T → Type 0
GivesBack t o n (Denied u d) = (u ≡ t) × (o ≡ Some d)
GivesBack t o n (Memory u) = (u ≡ t) × (0 < n)
