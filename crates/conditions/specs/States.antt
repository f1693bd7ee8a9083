-- The state of an interlocking over its trackside: what it keeps of its own, and what the trackside means.
use Rattle.states.specs.declared.slots.States.{States}
use Rattle.track.specs.Meaning.{Meaning}

pub record State : Type 0 where
  pub own : States
  pub track : Meaning

abbrev pub a_state : States → Meaning → State
a_state own track = record { own = own; track = track }
