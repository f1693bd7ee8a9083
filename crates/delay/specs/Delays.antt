-- What a delay keeps after each call, and which calls go down to the track below.
use Rattle.std.specs.Prelude.{ℕ, ◌-◌, Bool, true, false, cond, is_ok, List, Result, slice_set}
use Rattle.station.specs.Station.{Station}
use Rattle.station.specs.declared.tests.Position.{Position}
use Rattle.track.specs.Calls.{point_refusal, train_refusal}
use Rattle.track.specs.Meaning.{Meaning, state_at, train_at}
use Rattle.track.specs.Refusals.{after, answer}
use Rattle.track.specs.Steps.{enter_step}
use Rattle.track.specs.declared.refusals.Refusal.{Refusal}
use Rattle.holding.specs.Courses.{course, rear_course}
use Rattle.holding.specs.Seen.{count_at, hold, off_at, one_fewer, started}
use Rattle.holding.specs.declared.courses.Course.{Course}
use Rattle.holding.specs.declared.courses.Course.TheVariants.{Down, Off, Derails}
use Rattle.holding.specs.declared.kept.Holding.{Holding}

-- how many settlings are held back after a drive, where n are at each change
abbrev pub counts_driven : Station → Meaning → Holding → ℕ → ℕ → Position → List ℕ
counts_driven s m h n i to =
    after (point_refusal s m i) h.counts (started h.counts i n (state_at m i).target to)

-- how many are after a settling
abbrev pub counts_settled : Station → Meaning → Holding → ℕ → List ℕ
counts_settled s m h i = after (point_refusal s m i) h.counts (one_fewer h.counts i)

-- what is answered to a settling that is held back: whether the point is then seen settled
abbrev pub held_answer : Station → Meaning → Holding → ℕ → Result Bool Refusal
held_answer s m h i = answer (point_refusal s m i) (hold (state_at m i) (count_at h.counts i - 1)).settled

-- which trains are kept derailed after an entry
abbrev pub marks_entered : Station → Meaning → Holding → ℕ → ℕ → List Bool
marks_entered s m h i g = cond (is_ok (enter_step s m i g).answer) (slice_set h.derailed i false) h.derailed

-- what becomes of front and turn of the train i
abbrev pub move_course : Station → Meaning → Holding → ℕ → Course
move_course s m h i = course s h.counts (off_at h.derailed i) (train_at m i)

-- what becomes of its rear
abbrev pub draw_course : Meaning → Holding → ℕ → Course
draw_course m h i = rear_course (off_at h.derailed i) (train_at m i)

abbrev pub goes_down : Course → Bool
goes_down Down = true
goes_down Off = false
goes_down Derails = false

-- a train that derails over a held point is kept derailed
abbrev pub kept_off : Course → List Bool → ℕ → List Bool
kept_off Down offs i = offs
kept_off Off offs i = offs
kept_off Derails offs i = slice_set offs i true

-- which trains are kept derailed after front or turn
abbrev pub marks_moved : Station → Meaning → Holding → ℕ → List Bool
marks_moved s m h i = after (train_refusal s m i) h.derailed (kept_off (move_course s m h i) h.derailed i)
