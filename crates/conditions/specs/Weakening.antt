-- More locks, set routes and occupied segments never make a failing test hold.
use Rattle.std.specs.Prelude.{◌≡◌, ℕ, Bool, true, not, ◌&&◌, ◌||◌, List, [], ◌∷◌, Some, None, Option}
use Rattle.std.proofs.Math.Path.{refl, sym, ap}
use Rattle.std.proofs.Common.{◌∙◌}
use native.Mathlib.Omega.{arith}
use Rattle.firsts.specs.Lists.{all}
use Rattle.station.specs.Alike.{same_position}
use Rattle.station.specs.Station.{Station}
use Rattle.station.specs.declared.tests.Lock.{Lock}
use Rattle.station.specs.declared.tests.PointTest.{PointTest}
use Rattle.station.specs.declared.tests.Position.{Position}
use Rattle.track.specs.Calls.{said}
use Rattle.track.specs.Meaning.{clear}
use Rattle.track.specs.Refusals.{answer}
use Rattle.track.specs.declared.refusals.Refusal.{Refusal}
use Rattle.states.specs.Slots.{is_locked}
use Rattle.conditions.specs.States.{State}
use Rattle.conditions.specs.Tests.{is_clear, is_free, lies, movable, point_told, row_for}
use Rattle.conditions.specs.Weaker.{More}

by_answer : (r : Option Refusal) (a b : Bool) → (a ≡ true → b ≡ true) → said (answer r a) ≡ true → said (answer r b) ≡ true
by_answer None a b f h = f h
by_answer (Some x) a b f h = h

denied : (a b : Bool) → (a ≡ true → b ≡ true) → not b ≡ true → not a ≡ true
denied a b f e = grind arith

both : (a b c d : Bool) → (a ≡ true → c ≡ true) → (b ≡ true → d ≡ true) → (a && b) ≡ true → (c && d) ≡ true
both a b c d f g h = grind arith

either : (a b c d : Bool) → (a ≡ true → c ≡ true) → (b ≡ true → d ≡ true) → (a || b) ≡ true → (c || d) ≡ true
either a b c d f g h = grind arith

module _ (s : Station) (v w : State) (more : More v w) where
  pub free_weaker : (l : Lock) → is_free w.own l ≡ true → is_free v.own l ≡ true
  free_weaker l e = denied (is_locked v.own l) (is_locked w.own l) (more.locks l) e

  rows_weaker : (ts : List PointTest) → all (λ t. is_free w.own t.free) ts ≡ true → all (λ t. is_free v.own t.free) ts ≡ true
  rows_weaker [] e = refl
  rows_weaker (t ∷ ts) e = both (is_free w.own t.free) (all (λ x. is_free w.own x.free) ts) _ _ (free_weaker t.free) (rows_weaker ts) e

  same_point : (p : ℕ) → point_told s w.track p ≡ point_told s v.track p
  same_point p = rw (more.points, more.signals)

  pub movable_weaker : (p : ℕ) (x : Position) → movable s w p x ≡ true → movable s v p x ≡ true
  movable_weaker p x e = either (same_position (point_told s w.track p).target x) _ _ _ (λ h. ap (λ q. same_position q.target x) (sym (same_point p)) ∙ h) (rows_weaker (row_for s p x)) e

  pub lies_weaker : (p : ℕ) (x : Position) → lies s w.track p x ≡ true → lies s v.track p x ≡ true
  lies_weaker p x e = ap (λ q. q.settled && same_position q.target x) (sym (same_point p)) ∙ e

  pub clear_weaker : (t : ℕ) → is_clear s w.track t ≡ true → is_clear s v.track t ≡ true
  clear_weaker t e = rw (more.points, more.signals) (by_answer _ (clear w.track t) (clear v.track t) (more.occupied t) e)
