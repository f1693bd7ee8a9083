-- Calls on trains, seen through a layer that keeps trains derailed.
use Rattle.std.proofs.Common.{◌≡◌, ℕ, ◌<◌, Bool, true, false, cond, not, ◌||◌, ltb, ◌⊎◌, List, [], ◌∷◌, length, set, Some, None, Ok, Err, Option, MatchResult, Result, sym, refl, ap, ◌∙◌, subst, inl, inr, arith}
use Rattle.std.specs.List.{range_with_len}
use Rattle.std.proofs.lemmas.Bool.{ltb-true}
use Rattle.firsts.specs.Lists.{any}
use Rattle.station.specs.Joints.{across}
use Rattle.station.specs.Numbers.{signal_at}
use Rattle.station.specs.Station.{Station}
use Rattle.track.specs.Calls.{Enters, clear_answer, place_answer, train_refusal}
use Rattle.track.specs.Meaning.{Meaning, aspect_at, clear, fits, put, train_at, with_train}
use Rattle.track.specs.Refusals.{answer, plainly}
use Rattle.track.specs.Steps.{done, enter_step, enter_train, is_outside, on_train, refused}
use Rattle.track.specs.Trains.{come_in, holds, Train}
use Rattle.track.specs.Ways.{is_stop}
use Rattle.track.specs.declared.refusals.Refusal.{Refusal}
use Rattle.track.specs.declared.refusals.Refusal.TheVariants.{Unknown, StopAhead, OffTrack, Mismatch}
use Rattle.track.specs.declared.states.Step.{Step}
use Rattle.holding.specs.Seen.{marked, off_at, seen}
use Rattle.holding.specs.declared.courses.Course.TheVariants.{Down, Off, Derails}
use Rattle.holding.proofs.Answered.{denied, granted, guard, known}
use Rattle.holding.proofs.Eaches.{set_each, set_first, set_second, train_seen, unmarked}
use Rattle.holding.proofs.Moves.{Becomes}
use Rattle.holding.proofs.Points.{fits_same}

holds_same : (t : Train) (off : Bool) (k : ℕ) → holds (marked t off) k ≡ holds t k
holds_same None off k = refl
holds_same (Some p) off k = refl

any_same : (f g : ℕ → Bool) → ((k : ℕ) → f k ≡ g k) → (xs : List ℕ) → any f xs ≡ any g xs
any_same f g h [] = refl
any_same f g h (x ∷ xs) = ap (λ b. b || any f xs) (h x) ∙ ap (λ b. g x || b) (any_same f g h xs)

-- a step that is refused changes no record, and one that is done changes one
abbrev Clean : Step → Type 0
Clean x = MatchResult x.answer (λ n. (t : Train) × (x.train ≡ Some t)) (λ e. x.train ≡ None)

clean_cond : (b : Bool) (x y : Step) → Clean x → Clean y → Clean (cond b x y)
clean_cond true x y a c = a
clean_cond false x y a c = c

module _ (s : Station) (m : Meaning) (hs : List ℕ) (offs : List Bool) where
  abbrev M : Meaning
  M = seen m hs offs

  pub train_refusal_same : (i : ℕ) → train_refusal s M i ≡ train_refusal s m i
  train_refusal_same i = ap (λ b. cond b (cond (ltb i 16) None (Some Unknown)) (Some Mismatch)) (fits_same s m hs offs)

  pub clear_seen : (k : ℕ) → clear_answer s m k ≡ clear_answer s M k
  clear_seen k =
      let same = any_same (λ i. holds (train_at m i) k) (λ i. holds (train_at M i) k) (λ i. sym (ap (λ t. holds t k) (train_seen m hs offs i) ∙ holds_same (train_at m i) (off_at offs i) k)) (range_with_len 0 16) in
      ap (λ b. answer (cond (fits s m) (cond (ltb k (length s.segments)) None (Some Unknown)) (Some Mismatch)) (not b)) same
      ∙ ap (λ b. answer (cond b (cond (ltb k (length s.segments)) None (Some Unknown)) (Some Mismatch)) (clear M k)) (sym (fits_same s m hs offs))

  place_seen : (i : ℕ) (t : Train) → Ok t ≡ place_answer s m i → Ok (marked t (off_at offs i)) ≡ place_answer s M i
  place_seen i t e =
      let g = granted (train_refusal s m i) t (train_at m i) e in
      ap (λ q. Ok (marked q (off_at offs i))) g.1
      ∙ ap Ok (sym (train_seen m hs offs i))
      ∙ sym (ap (λ R. answer R (train_at M i)) (train_refusal_same i ∙ g.0))

  place_denied : (i : ℕ) (e : Refusal) → Err e ≡ place_answer s m i → Err e ≡ place_answer s M i
  place_denied i e h =
      sym (ap (λ R. answer R (train_at M i)) (train_refusal_same i ∙ denied (train_refusal s m i) e (train_at m i) h))

  -- what is answered to the question for a train
  pub place_answered : (i : ℕ) (r q : Result Train Refusal) → r ≡ place_answer s m i → MatchResult r (λ t. q ≡ Ok (marked t (off_at offs i))) (λ e. q ≡ Err e) → q ≡ place_answer s M i
  place_answered i (Ok t) q e is = is ∙ place_seen i t e
  place_answered i (Err r) q e is = is ∙ place_denied i r e

  -- entry: whether the train is present is seen as it is
  enter_marked : (g : ℕ) (t : Train) (off : Bool) → enter_train s M g (marked t off) ≡ enter_train s m g t
  enter_marked g None off = refl
  enter_marked g (Some p) off = refl

  enter_same : (i g : ℕ) → enter_step s M i g ≡ enter_step s m i g
  enter_same i g =
      ap (λ b. cond b (cond (ltb i 16) (cond (ltb g (length m.signals)) (enter_train s M g (train_at M i)) (refused Unknown)) (refused Unknown)) (refused Mismatch)) (fits_same s m hs offs)
      ∙ ap (λ x. on_train s m i (cond (ltb g (length m.signals)) x (refused Unknown))) (ap (enter_train s M g) (train_seen m hs offs i) ∙ enter_marked g (train_at m i) (off_at offs i))

  enter_clean_at : (g : ℕ) (t : Train) → Clean (enter_train s m g t)
  enter_clean_at g None =
      let in_by = done (Some g) (come_in (signal_at s g).segment (signal_at s g).joint) in
      let from_here : Clean in_by = (come_in (signal_at s g).segment (signal_at s g).joint, refl) in
      clean_cond (is_outside (across s (signal_at s g).joint (signal_at s g).segment)) (cond (is_stop (aspect_at m g)) (refused StopAhead) in_by) (refused StopAhead)
      (clean_cond (is_stop (aspect_at m g)) (refused StopAhead) in_by refl from_here)
      refl
  enter_clean_at g (Some p) = refl

  enter_clean : (i g : ℕ) → Clean (enter_step s m i g)
  enter_clean i g =
      clean_cond (fits s m) _ _ (clean_cond (ltb i 16) _ _ (clean_cond (ltb g (length m.signals)) _ _ (enter_clean_at g (train_at m i)) refl) refl) refl

  module _ (i : ℕ) where
    -- a record that is changed, of a train that is not kept derailed
    put_same : (t : Train) → off_at offs i ≡ false → i < length offs → seen (with_train m i t) hs offs ≡ with_train M i t
    put_same t e h =
        ap (λ ts. record { points = M.points; signals = m.signals; trains = ts })
        (set_first marked None false m.trains offs i t h ∙ ap (λ b. set M.trains i (marked t b)) e ∙ ap (set M.trains i) (unmarked t))

    -- a record that is changed, of a train that is kept derailed no longer
    put_new : (t : Train) → i < length offs → seen (with_train m i t) hs (set offs i false) ≡ with_train M i t
    put_new t h =
        ap (λ ts. record { points = M.points; signals = m.signals; trains = ts })
        (set_each marked m.trains offs i t false h ∙ ap (set M.trains i) (unmarked t))

    module _ (g : ℕ) where
      abbrev x : Step
      x = enter_step s m i g

      none_of : (a : Result (Option ℕ) Refusal) (e : Refusal) → MatchResult a (λ n. (t : Train) × (x.train ≡ Some t)) (λ d. x.train ≡ None) → Err e ≡ plainly a → x.train ≡ None
      none_of (Ok n) e c h = absurd (cc)
      none_of (Err d) e c h = c

      one_of : (a : Result (Option ℕ) Refusal) → MatchResult a (λ n. (t : Train) × (x.train ≡ Some t)) (λ d. x.train ≡ None) → Ok tt ≡ plainly a → (t : Train) × (x.train ≡ Some t)
      one_of (Ok n) c h = c
      one_of (Err d) c h = absurd (cc)

      numbered : (a b : Bool) (y : Step) → Ok tt ≡ plainly (cond a (cond b y (refused Unknown)) (refused Mismatch)).answer → b ≡ true
      numbered true true y h = refl
      numbered true false y h = absurd (cc)
      numbered false b y h = absurd (cc)

      pub enter_denied : (e : Refusal) (n : Meaning) → Enters s m i g (Err e) n → Enters s M i g (Err e) (seen n hs offs)
      enter_denied e n d =
          let none = none_of x.answer e (enter_clean i g) d.answers in
          record {
            answers = d.answers ∙ ap (λ y. plainly y.answer) (sym (enter_same i g));
            leaves = ap (λ y. seen y hs offs) (d.leaves ∙ ap (put m i) none) ∙ sym (ap (put M i) (ap (λ y. y.train) (enter_same i g) ∙ none));
          }

      entered : (n : Meaning) → length offs ≡ 16 → Enters s m i g (Ok tt) n → Enters s M i g (Ok tt) (seen n hs (set offs i false))
      entered n long d =
          let one = one_of x.answer (enter_clean i g) d.answers in
          let low = ltb-true i 16 (numbered (fits s m) (ltb i 16) _ d.answers) in
          let within : i < length offs = omega arith in
          record {
            answers = d.answers ∙ ap (λ y. plainly y.answer) (sym (enter_same i g));
            leaves = ap (λ y. seen y hs (set offs i false)) (d.leaves ∙ ap (put m i) one.1)
                ∙ put_new one.0 within
                ∙ sym (ap (put M i) (ap (λ y. y.train) (enter_same i g) ∙ one.1));
          }

      -- the counts and marks are then hs' and offs'
      pub enters_seen : (n : Meaning) → length offs ≡ 16 → Enters s m i g (Ok tt) n → (hs' : List ℕ) (offs' : List Bool) → hs' ≡ hs → offs' ≡ set offs i false → Enters s M i g (Ok tt) (seen n hs' offs')
      enters_seen n long d hs' offs' eh eo =
          subst (Enters s M i g (Ok tt)) (sym (ap (λ l. seen n l offs') eh ∙ ap (seen n hs) eo)) (entered n long d)

    -- front, turn and rear, by the step F that a train's record comes to
    module _ {A : Type 0} (value : Result (Option ℕ) Refusal → Result A Refusal) (plain : (e : Refusal) → value (Err e) ≡ Err e) (F : Meaning → Train → Step) where
      abbrev pub Moves : Meaning → Result A Refusal → Meaning → Type 0
      Moves n r after =
          (r ≡ value (on_train s n i (F n (train_at n i))).answer) × (after ≡ put n i (on_train s n i (F n (train_at n i))).train)

      stopped : (a b : Bool) (y : Step) (e : Refusal) → guard a b None ≡ Some e → cond a (cond b y (refused Unknown)) (refused Mismatch) ≡ refused e
      stopped true true y e h = absurd (cc)
      stopped true false y e h = let w : Unknown ≡ e = cc in ap refused w
      stopped false b y e h = let w : Mismatch ≡ e = cc in ap refused w

      going : (a b : Bool) (y : Step) → guard a b None ≡ None → cond a (cond b y (refused Unknown)) (refused Mismatch) ≡ y
      going true true y h = refl
      going true false y h = absurd (cc)
      going false b y h = absurd (cc)

      abbrev X : Step
      X = on_train s M i (F M (train_at M i))

      -- refused before the train is looked at, on any track
      pub refused_move : (n : Meaning) (e : Refusal) → train_refusal s n i ≡ Some e → Moves n (Err e) n
      refused_move n e R =
          let w = stopped (fits s n) (ltb i 16) (F n (train_at n i)) e R in
          (sym (ap (λ y. value y.answer) w ∙ plain e), sym (ap (λ y. put n i y.train) w))

      module _ (t : Train) (ok : Ok t ≡ place_answer s m i) where
        g : (train_refusal s m i ≡ None) × (t ≡ train_at m i)
        g = granted (train_refusal s m i) t (train_at m i) ok

        above : X ≡ F M (marked t (off_at offs i))
        above =
            going (fits s M) (ltb i 16) (F M (train_at M i)) (train_refusal_same i ∙ g.0)
            ∙ ap (F M) (train_seen m hs offs i ∙ ap (λ q. marked q (off_at offs i)) (sym g.1))

        below : on_train s m i (F m (train_at m i)) ≡ F m t
        below = going (fits s m) (ltb i 16) (F m (train_at m i)) g.0 ∙ ap (F m) (sym g.1)

        low : length offs ≡ 16 → i < length offs
        low long = let l = ltb-true i 16 (known (fits s m) (ltb i 16) g.0).1 in omega arith

        carried : length offs ≡ 16 → (o : Option Train) → (o ≡ None) ⊎ (off_at offs i ≡ false) → seen (put m i o) hs offs ≡ put M i o
        carried long None w = refl
        carried long (Some u) (inl e) = absurd (cc)
        carried long (Some u) (inr e) = put_same u e (low long)

        pub down_move : length offs ≡ 16 → Becomes Down t (off_at offs i) (F M (marked t (off_at offs i))) (F m t) → (r : Result A Refusal) (n : Meaning) → Moves m r n → Moves M r (seen n hs offs)
        down_move long b r n d =
            let e = above ∙ b.0 ∙ sym below in (
              d.0 ∙ ap (λ y. value y.answer) (sym e),
              ap (λ y. seen y hs offs) (d.1 ∙ ap (λ y. put m i y.train) below) ∙ carried long (F m t).train b.1 ∙ sym (ap (λ y. put M i y.train) (above ∙ b.0)),
            )

        pub off_move : Becomes Off t (off_at offs i) (F M (marked t (off_at offs i))) (F m t) → Moves M (Err OffTrack) M
        off_move b = (sym (ap (λ y. value y.answer) (above ∙ b) ∙ plain OffTrack), sym (ap (λ y. put M i y.train) (above ∙ b)))

        pub derail_move : length offs ≡ 16 → Becomes Derails t (off_at offs i) (F M (marked t (off_at offs i))) (F m t) → Moves M (Err OffTrack) (seen m hs (set offs i true))
        derail_move long (p, here, e) = (
          sym (ap (λ y. value y.answer) (above ∙ e) ∙ plain OffTrack),
          ap (λ ts. record { points = M.points; signals = m.signals; trains = ts })
              (set_second marked None m.trains offs i true (low long) ∙ ap (λ q. set M.trains i (marked q true)) (sym g.1 ∙ here))
              ∙ sym (ap (λ y. put M i y.train) (above ∙ e)),
        )
