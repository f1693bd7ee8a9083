-- A train: what it holds, and its record after each move.
use Rattle.std.specs.Prelude.{ℕ, Bool, true, false, List, [], ◌++◌, Some, None, Option, ◌==◌}
use Rattle.std.specs.Option.{option_to_list}
use Rattle.firsts.specs.Lists.{any}
use Rattle.track.specs.declared.states.Place.{Place}

-- a train's record: none where it is absent
abbrev pub Train : Type 0
Train = Option Place

abbrev pub among : List ℕ → ℕ → Bool
among xs t = any (λ x. x == t) xs

-- the segment in which a front is: none outside
abbrev pub front_part : Option ℕ → List ℕ
front_part front = option_to_list front

-- the segments behind the front, the nearest first
abbrev pub behind : Place → List ℕ
behind p = option_to_list p.rear

-- the segments that a train holds, its front's first
abbrev pub held : Train → List ℕ
held None = []
held (Some p) = front_part p.front ++ behind p

abbrev pub holds : Train → ℕ → Bool
holds train t = among (held train) t

abbrev pub present : Option ℕ → ℕ → Option ℕ → Bool → Train
present front joint rear derailed = Some (record { front = front; joint = joint; rear = rear; derailed = derailed })

-- a train come into a segment over a joint, and all of it there
abbrev pub come_in : ℕ → ℕ → Train
come_in t j = present (Some t) j None false

-- one whose front has gone on over a joint out of a segment, which it still holds
abbrev pub gone_on : Option ℕ → ℕ → ℕ → Train
gone_on front j t = present front j (Some t) false

-- one that stands where it was, derailed
abbrev pub off_track : Place → Train
off_track p = present p.front p.joint p.rear true

-- one that has given up what lay behind its front: outside, it is gone
abbrev pub drawn_in : Place → Option ℕ → Train
drawn_in p (Some t) = come_in t p.joint
drawn_in p None = None
