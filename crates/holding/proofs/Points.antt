-- Calls on points and signals, seen through a layer that holds points in motion.
use Rattle.std.proofs.Common.{◌≡◌, ℕ, ◌-◌, ◌<◌, ◌≤◌, Bool, true, false, cond, ◌&&◌, eqb, ltb, List, length, set, Some, None, Ok, Err, MatchResult, Result, sym, refl, ap, ◌∙◌, subst, arith}
use Rattle.std.proofs.lemmas.List.{get_or-set_same, set-get_or}
use Rattle.std.proofs.lemmas.Bool.{ltb-true}
use Rattle.station.specs.Alike.{same_position}
use Rattle.station.specs.Station.{Station}
use Rattle.station.specs.declared.tests.Position.{Position}
use Rattle.track.specs.Calls.{Drives, Settles, Shows, driven, point_answer, point_refusal, said, settle_refusal, settled_so, signal_refusal}
use Rattle.track.specs.Meaning.{Meaning, a_point, fits, no_state, state_at, with_aspect, with_point}
use Rattle.track.specs.Refusals.{after, answer}
use Rattle.track.specs.declared.refusals.Refusal.{Refusal}
use Rattle.track.specs.declared.refusals.Refusal.TheVariants.{Unknown, AtRest, Mismatch}
use Rattle.track.specs.declared.states.Aspect.{Aspect}
use Rattle.track.specs.declared.states.PointState.{PointState}
use Rattle.holding.specs.Seen.{count_at, hold, one_fewer, seen, started}
use Rattle.holding.proofs.Answered.{after_map, before, denied, granted, known, passed, unchanged}
use Rattle.holding.proofs.Eaches.{length_each, set_each, set_first, set_second, state_seen}

-- on any track
refused_drive : (s : Station) (m : Meaning) (i : ℕ) (to : Position) (e : Refusal) → point_refusal s m i ≡ Some e → Drives s m i to (Err e) m
refused_drive s m i to e R =
    record { answers = sym (ap (λ x. answer x tt) R); leaves = unchanged (point_refusal s m i) e R m (driven m i to (state_at m i).settled) }

refused_settle : (s : Station) (m : Meaning) (i : ℕ) (e : Refusal) → point_refusal s m i ≡ Some e → Settles s m i (Err e) m
refused_settle s m i e R =
    let W : settle_refusal s m i ≡ Some e = before (fits s m) (ltb i (length m.points)) (cond (state_at m i).settled (Some AtRest) None) e R in
    record { answers = sym (ap (λ x. answer x false) W); leaves = unchanged (settle_refusal s m i) e W m m }

module _ (s : Station) (m : Meaning) (hs : List ℕ) (offs : List Bool) where
  abbrev M : Meaning
  M = seen m hs offs

  pub fits_same : fits s M ≡ fits s m
  fits_same = rw length_each refl

  refusal_same : (i : ℕ) → point_refusal s M i ≡ point_refusal s m i
  refusal_same i = rw length_each refl

  pub shows_seen : {i : ℕ} {a : Aspect} {r : Result Unit Refusal} {n : Meaning} → Shows s m i a r n → Shows s M i a r (seen n hs offs)
  shows_seen {i} {a} d = record {
    answers = rw length_each d.answers;
    leaves = rw length_each (ap (λ x. seen x hs offs) d.leaves ∙ after_map (λ x. seen x hs offs) (signal_refusal s m i) m (with_aspect m i a));
  }

  point_denied : {A : Type 0} (i : ℕ) (e : Refusal) (x : A) → Err e ≡ point_answer s m i → Err e ≡ answer (point_refusal s M i) x
  point_denied i e x h = sym (ap (λ R. answer R x) (refusal_same i ∙ denied (point_refusal s m i) e (state_at m i) h))

  point_seen : (i : ℕ) (p : PointState) → Ok p ≡ point_answer s m i → Ok (hold p (count_at hs i)) ≡ point_answer s M i
  point_seen i p e =
      let g = granted (point_refusal s m i) p (state_at m i) e in
      ap (λ q. Ok (hold q (count_at hs i))) g.1
      ∙ ap Ok (sym (state_seen m hs offs i))
      ∙ sym (ap (λ R. answer R (state_at M i)) (refusal_same i ∙ g.0))

  -- what is answered to the question for a point
  pub point_answered : (i : ℕ) (r q : Result PointState Refusal) → r ≡ point_answer s m i → MatchResult r (λ p. q ≡ Ok (hold p (count_at hs i))) (λ e. q ≡ Err e) → q ≡ point_answer s M i
  point_answered i (Ok p) q e is = is ∙ point_seen i p e
  point_answered i (Err r) q e is = is ∙ point_denied i r (state_at M i) e

  pub drive_denied : (i : ℕ) (to : Position) (e : Refusal) → Err e ≡ point_answer s m i → Drives s M i to (Err e) M
  drive_denied i to e told = refused_drive s M i to e (refusal_same i ∙ denied (point_refusal s m i) e (state_at m i) told)

  pub settle_denied : (i : ℕ) (e : Refusal) → Err e ≡ point_answer s m i → Settles s M i (Err e) M
  settle_denied i e told = refused_settle s M i e (refusal_same i ∙ denied (point_refusal s m i) e (state_at m i) told)

  module _ (i : ℕ) where
    target_same : (state_at M i).target ≡ (state_at m i).target
    target_same = ap (λ p. p.target) (state_seen m hs offs i)

    module _ (k : ℕ) (to : Position) (n : Meaning) (within : i < length hs) where
      -- to the same side
      kept : n ≡ driven m i to (state_at n i).settled → same_position (state_at m i).target to ≡ true → seen n hs offs ≡ driven M i to (state_at (seen n hs offs) i).settled
      kept d e =
          ap (λ x. seen x hs offs) (d ∙ ap (λ q. cond q m (with_point m i (a_point to (state_at n i).settled))) e)
          ∙ sym (ap (λ q. cond q M (with_point M i (a_point to (state_at (seen n hs offs) i).settled))) (ap (λ x. same_position x to) target_same ∙ e))

      -- to the other side: the count starts anew
      anew : n ≡ driven m i to (state_at n i).settled → same_position (state_at m i).target to ≡ false → seen n (set hs i k) offs ≡ driven M i to (state_at (seen n (set hs i k) offs) i).settled
      anew d e =
          let c = (state_at n i).settled in
          let N = seen n (set hs i k) offs in
          let settled : (state_at N i).settled ≡ (eqb k 0 && c) = ap (λ p. p.settled) (state_seen n (set hs i k) offs i) ∙ ap (λ h. eqb h 0 && c) (get_or-set_same hs i k 0 within) in
          ap (λ x. seen x (set hs i k) offs) (d ∙ ap (λ q. cond q m (with_point m i (a_point to c))) e)
          ∙ ap (λ ps. record { points = ps; signals = m.signals; trains = M.trains }) (set_each hold m.points hs i (a_point to c) k within)
          ∙ ap (λ x. with_point M i (a_point to x)) (sym settled)
          ∙ sym (ap (λ q. cond q M (with_point M i (a_point to (state_at N i).settled))) (ap (λ x. same_position x to) target_same ∙ e))

      -- a drive that is granted, with what the count is then
      granted_drive : (same : Bool) → same_position (state_at m i).target to ≡ same → point_refusal s m i ≡ None → {r : Result Unit Refusal} → Drives s m i to r n → Drives s M i to r (seen n (cond same hs (set hs i k)) offs)
      granted_drive same e R {r} d =
          let left : n ≡ driven m i to (state_at n i).settled = d.leaves ∙ ap (λ x. after x m (driven m i to (state_at n i).settled)) R in
          let N = seen n (cond same hs (set hs i k)) offs in
          let up : N ≡ driven M i to (state_at N i).settled =
          elim same as (λ q. same_position (state_at m i).target to ≡ q → seen n (cond q hs (set hs i k)) offs ≡ driven M i to (state_at (seen n (cond q hs (set hs i k)) offs) i).settled) [ true ↦ kept left | false ↦ anew left ] e in
          record {
            answers = d.answers ∙ ap (λ x. answer x tt) (sym (refusal_same i));
            leaves = up ∙ sym (ap (λ x. after x M (driven M i to (state_at N i).settled)) (refusal_same i ∙ R));
          }

    -- the point is one of the track's
    module _ (p : PointState) (ok : Ok p ≡ point_answer s m i) (few : length m.points ≤ 32) (long : length hs ≡ 32) where
      free : point_refusal s m i ≡ None
      free = (granted (point_refusal s m i) p (state_at m i) ok).0

      here : p ≡ state_at m i
      here = (granted (point_refusal s m i) p (state_at m i) ok).1

      pub within : i < length hs
      within = let l = ltb-true i (length m.points) (known (fits s m) (ltb i (length m.points)) free).1 in omega arith

      -- a drive, where the counts and marks are then hs' and offs'
      pub drives_seen : (k : ℕ) (to : Position) (hs' : List ℕ) (offs' : List Bool) → hs' ≡ started hs i k p.target to → offs' ≡ offs → {r : Result Unit Refusal} {n : Meaning} → Drives s m i to r n → Drives s M i to r (seen n hs' offs')
      drives_seen k to hs' offs' eh eo {r} {n} d =
          let up = granted_drive k to n within (same_position p.target to) (ap (λ q. same_position q.target to) (sym here)) free d in
          subst (λ x. Drives s M i to r x) (sym (ap (λ x. seen n x offs') eh ∙ ap (seen n (started hs i k p.target to)) eo)) up

    -- a settling that goes down
    module _ (none : count_at hs i ≡ 0) (within : i < length hs) where
      state_same : state_at M i ≡ state_at m i
      state_same = state_seen m hs offs i ∙ ap (hold (state_at m i)) none

      settle_refusal_same : settle_refusal s M i ≡ settle_refusal s m i
      settle_refusal_same =
          ap (λ p. cond (fits s M) (cond (ltb i (length M.points)) (cond p.settled (Some AtRest) None) (Some Unknown)) (Some Mismatch)) state_same
          ∙ rw length_each refl

      settled_same : (b : Bool) → seen (settled_so m i b) hs offs ≡ settled_so M i b
      settled_same true =
          ap (λ ps. record { points = ps; signals = m.signals; trains = M.trains }) (set_first hold no_state 0 m.points hs i (a_point (state_at m i).target true) within)
          ∙ ap (λ h. with_point M i (hold (a_point (state_at m i).target true) h)) none
          ∙ ap (λ x. with_point M i (a_point x true)) (sym target_same)
      settled_same false = refl

      pub settles_seen : {r : Result Bool Refusal} {n : Meaning} → Settles s m i r n → Settles s M i r (seen n hs offs)
      settles_seen {r} d = record {
        answers = d.answers ∙ ap (λ x. answer x (said r)) (sym settle_refusal_same);
        leaves = ap (λ x. seen x hs offs) d.leaves
            ∙ after_map (λ x. seen x hs offs) (settle_refusal s m i) m (settled_so m i (said r))
            ∙ ap (after (settle_refusal s m i) M) (settled_same (said r))
            ∙ ap (λ x. after x M (settled_so M i (said r))) (sym settle_refusal_same);
      }

    -- a settling that is held back
    module _ (some : eqb (count_at hs i) 0 ≡ false) (within : i < length hs) where
      in_motion : (state_at M i).settled ≡ false
      in_motion = ap (λ p. p.settled) (state_seen m hs offs i) ∙ ap (λ x. x && (state_at m i).settled) some

      held_by : (k : ℕ) (b : Bool) → (eqb k 0 && (state_at m i).settled) ≡ b → with_point M i (hold (state_at m i) k) ≡ settled_so M i b
      held_by k true e =
          ap (λ x. with_point M i (a_point (state_at m i).target x)) e ∙ ap (λ x. with_point M i (a_point x true)) (sym target_same)
      held_by k false e =
          let still : hold (state_at m i) k ≡ state_at M i =
          ap (a_point (state_at m i).target) (e ∙ sym in_motion) ∙ ap (λ x. a_point x (state_at M i).settled) (sym target_same) in
          ap (with_point M i) still ∙ ap (λ ps. record { points = ps; signals = m.signals; trains = M.trains }) (set-get_or M.points i no_state)

      pub held_settle : (k : ℕ) (p : PointState) → Ok p ≡ point_answer s m i → Settles s M i (Ok (eqb k 0 && p.settled)) (seen m (set hs i k) offs)
      held_settle k p e =
          let g = granted (point_refusal s m i) p (state_at m i) e in
          let R : settle_refusal s M i ≡ None = passed (fits s M) (ltb i (length M.points)) (cond (state_at M i).settled (Some AtRest) None) (refusal_same i ∙ g.0) ∙ ap (λ x. cond x (Some AtRest) None) in_motion in
          let b = eqb k 0 && p.settled in
          record {
            answers = sym (ap (λ x. answer x b) R);
            leaves = ap (λ ps. record { points = ps; signals = m.signals; trains = M.trains }) (set_second hold no_state m.points hs i k within)
                ∙ held_by k b (ap (λ q. eqb k 0 && q.settled) (sym g.1))
                ∙ sym (ap (λ x. after x M (settled_so M i b)) R);
          }

    -- the counts and marks are then hs' and offs', and the point is seen as q
    module _ (p : PointState) (ok : Ok p ≡ point_answer s m i) (few : length m.points ≤ 32) (long : length hs ≡ 32) (some : eqb (count_at hs i) 0 ≡ false) (hs' : List ℕ) (fewer : hs' ≡ one_fewer hs i) where
      abbrev k : ℕ
      k = count_at hs i - 1

      written : hs' ≡ set hs i k
      written = fewer ∙ ap (λ b. cond b hs (set hs i k)) some

      counted : count_at hs' i ≡ k
      counted = ap (λ l. count_at l i) written ∙ get_or-set_same hs i k 0 (within p ok few long)

      pub settles_held : (offs' : List Bool) → offs' ≡ offs → (q : PointState) → q ≡ hold p (count_at hs' i) → Settles s M i (Ok q.settled) (seen m hs' offs')
      settles_held offs' eo q eq =
          let up = held_settle some (within p ok few long) k p ok in
          let told : (eqb k 0 && p.settled) ≡ q.settled = sym (ap (λ x. x.settled) eq ∙ ap (λ h. eqb h 0 && p.settled) counted) in
          subst (λ b. Settles s M i (Ok b) (seen m hs' offs')) told
          (subst (λ x. Settles s M i (Ok (eqb k 0 && p.settled)) x) (sym (ap (λ x. seen m x offs') written ∙ ap (seen m (set hs i k)) eo)) up)
