-- What becomes of a call that moves a train: it goes down, or the layer itself answers that the train is derailed.
use Rattle.std.specs.Prelude.{◌≡◌, ℕ, Bool, cond, ◌&&◌, List, length, Some, None, Option, ◌==◌}
use Rattle.firsts.specs.Claims.{any_below}
use Rattle.station.specs.Numbers.{point_at}
use Rattle.station.specs.Station.{Station}
use Rattle.track.specs.Meaning.{Meaning}
use Rattle.track.specs.Ways.{way_out}
use Rattle.track.specs.Trains.{Train}
use Rattle.holding.specs.Seen.{holds_back, seen}
use Rattle.holding.specs.declared.courses.Course.{Course}
use Rattle.holding.specs.declared.courses.Course.TheVariants.{Down, Off, Derails}

-- the segment is the point's home, and settlings of the point are held back
abbrev pub held_here : Station → List ℕ → ℕ → ℕ → Bool
held_here s hs t p = (point_at s p).home == t && holds_back hs p

-- some home point of the segment is held
abbrev pub some_held : Station → List ℕ → ℕ → Bool
some_held s hs t = any_below (held_here s hs t) (length s.points)

-- a train that is wholly in a segment with a held point derails
abbrev pub over : Station → List ℕ → Option ℕ → Option ℕ → Course
over s hs (Some t) None = cond (some_held s hs t) Derails Down
over s hs (Some t) (Some u) = Down
over s hs None None = Down
over s hs None (Some u) = Down

-- front and turn
abbrev pub course : Station → List ℕ → Bool → Train → Course
course s hs off None = Down
course s hs off (Some p) = cond off Off (cond p.derailed Down (over s hs p.front p.rear))

-- rear
abbrev pub rear_course : Bool → Train → Course
rear_course off None = Down
rear_course off (Some p) = cond off Off Down

-- over a held point no way fits; elsewhere the way that fits is that of the track below
abbrev pub HeldWays : Station → Type 0
HeldWays s = (m : Meaning) (hs : List ℕ) (offs : List Bool) (t j : ℕ) → way_out s (seen m hs offs) t j ≡ cond (some_held s hs t) None (way_out s m t j)
