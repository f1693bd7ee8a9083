-- What becomes of a move, step by step: the step of the layer's meaning against that of the track below.
use Rattle.std.proofs.Common.{◌≡◌, ℕ, Bool, true, false, cond, ◌⊎◌, List, Some, None, Option, refl, ap, ◌∙◌, inl, inr}
use Rattle.station.specs.Station.{Station}
use Rattle.track.specs.Meaning.{Meaning}
use Rattle.track.specs.Steps.{derailing, front_by, front_train, in_one, on_track, rear_train, refused, turn_by, turn_train}
use Rattle.track.specs.Ways.{way_out}
use Rattle.track.specs.declared.refusals.Refusal.TheVariants.{Presence, OffTrack}
use Rattle.track.specs.declared.states.Place.{Place}
use Rattle.track.specs.declared.states.Step.{Step}
use Rattle.track.specs.Trains.{Train}
use Rattle.holding.specs.Courses.{HeldWays, course, over, rear_course, some_held}
use Rattle.holding.specs.Seen.{marked, seen}
use Rattle.holding.specs.declared.courses.Course.{Course}
use Rattle.holding.specs.declared.courses.Course.TheVariants.{Down, Off, Derails}

-- front or turn of a train, by what follows once it is known how it leaves its segment
abbrev moving : (ℕ → ℕ → Option ℕ) → (Place → ℕ → Option ℕ → Step) → Train → Step
moving out by None = refused Presence
moving out by (Some p) = on_track p (in_one p (λ t. by p t (out t p.joint)) p.front p.rear)

-- the step T of the layer's meaning, x that of the track below
abbrev pub Becomes : Course → Train → Bool → Step → Step → Type 0
Becomes Down t off T x = (T ≡ x) × ((x.train ≡ None) ⊎ (off ≡ false))
Becomes Off t off T x = T ≡ refused OffTrack
Becomes Derails t off T x = (p : Place) × (t ≡ Some p) × (T ≡ derailing p)

module _ (s : Station) (ways : HeldWays s) (m : Meaning) (hs : List ℕ) (offs : List Bool) (by : Place → ℕ → Option ℕ → Step) (stops : (p : Place) (t : ℕ) → by p t None ≡ derailing p) where
  abbrev above : Train → Step
  above = moving (way_out s (seen m hs offs)) by

  abbrev below : Train → Step
  below = moving (way_out s m) by

  abbrev go_above : Place → ℕ → Step
  go_above p t = by p t (way_out s (seen m hs offs) t p.joint)

  abbrev go_below : Place → ℕ → Step
  go_below p t = by p t (way_out s m t p.joint)

  in_segment : (p : Place) (t : ℕ) (b : Bool) → some_held s hs t ≡ b → Becomes (cond b Derails Down) (Some p) false (go_above p t) (go_below p t)
  in_segment p t true e =
      (p, refl, ap (by p t) (ways m hs offs t p.joint ∙ ap (λ b. cond b None (way_out s m t p.joint)) e) ∙ stops p t)
  in_segment p t false e =
      (ap (by p t) (ways m hs offs t p.joint ∙ ap (λ b. cond b None (way_out s m t p.joint)) e), inr refl)

  in_places : (p : Place) (f : Option ℕ) (r : Option ℕ) → Becomes (over s hs f r) (Some p) false (in_one p (go_above p) f r) (in_one p (go_below p) f r)
  in_places p (Some t) None = in_segment p t (some_held s hs t) refl
  in_places p (Some t) (Some u) = (refl, inr refl)
  in_places p None None = (refl, inr refl)
  in_places p None (Some u) = (refl, inr refl)

  on_rails : (p : Place) (d : Bool) (c : Course) (T x : Step) → Becomes c (Some p) false T x → Becomes (cond d Down c) (Some p) false (cond d (refused OffTrack) T) (cond d (refused OffTrack) x)
  on_rails p true c T x h = (refl, inr refl)
  on_rails p false c T x h = h

  becomes : (t : Train) (off : Bool) → Becomes (course s hs off t) t off (above (marked t off)) (below t)
  becomes None off = (refl, inl refl)
  becomes (Some p) true = refl
  becomes (Some p) false =
      on_rails p p.derailed (over s hs p.front p.rear) (in_one p (go_above p) p.front p.rear) (in_one p (go_below p) p.front p.rear) (in_places p p.front p.rear)

module _ (s : Station) (ways : HeldWays s) (m : Meaning) (hs : List ℕ) (offs : List Bool) where
  pub front_becomes : (t : Train) (off : Bool) → Becomes (course s hs off t) t off (front_train s (seen m hs offs) (marked t off)) (front_train s m t)
  front_becomes None off = (refl, inl refl)
  front_becomes (Some p) off = becomes s ways m hs offs (front_by s m) (λ p t. refl) (Some p) off

  pub turn_becomes : (t : Train) (off : Bool) → Becomes (course s hs off t) t off (turn_train s (seen m hs offs) (marked t off)) (turn_train s m t)
  turn_becomes None off = (refl, inl refl)
  turn_becomes (Some p) off = becomes s ways m hs offs (turn_by s) (λ p t. refl) (Some p) off

pub rear_becomes : (t : Train) (off : Bool) → Becomes (rear_course off t) t off (rear_train (marked t off)) (rear_train t)
rear_becomes None off = (refl, inl refl)
rear_becomes (Some p) true = refl
rear_becomes (Some p) false = (refl, inr refl)
