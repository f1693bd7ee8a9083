-- Entry, front, rear and turn keep what is kept, granted or refused.
use Rattle.std.proofs.Common.{◌≡◌, ℕ, ◌<◌, Bool, true, false, cond, ◌&&◌, ltb, List, [], ◌∷◌, ◌++◌, length, set, Some, None, Option, Result, sym, refl, ap, ◌∙◌, subst, inl, inr}
use Rattle.std.proofs.lemmas.Option.{none-some}
use Rattle.std.specs.Option.{option_map}
use Rattle.std.proofs.lemmas.Bool.{and_from, cond-true, lt-ltb, not_from_false}
use Rattle.station.specs.Station.{Station}
use Rattle.station.specs.Numbers.{signal_at}
use Rattle.station.proofs.Joints.{decides_signalled}
use Rattle.acceptance.specs.Soundness.{Sound}
use Rattle.acceptance.specs.Consequences.{Consequences}
use Rattle.track.specs.Calls.{place_answer}
use Rattle.track.specs.Meaning.{Meaning, aspect_at, fits, train_at, with_aspect, with_train}
use Rattle.track.specs.Steps.{enter_step, front_step, rear_step, refused, turn_step}
use Rattle.track.specs.Trains.{come_in, gone_on, present, Train}
use Rattle.track.specs.Ways.{governor, is_stop}
use Rattle.track.specs.Refusals.{plainly}
use Rattle.track.specs.declared.refusals.Refusal.TheVariants.{Mismatch}
use Rattle.track.specs.declared.states.Aspect.{Aspect}
use Rattle.track.specs.declared.states.Aspect.TheVariants.{Stop}
use Rattle.track.specs.declared.states.Step.{Step}
use Rattle.states.specs.Slots.{note_at, stepped, with_note}
use Rattle.states.specs.declared.denials.Denial.{Denial}
use Rattle.states.specs.declared.slots.Note.{Note}
use Rattle.conditions.specs.States.{State, a_state}
use Rattle.passing.specs.Locks.{has_slots}
use Rattle.passing.specs.Signals.{note_from, passed_routes, signal_of}
use Rattle.calls.specs.Grants.{shown}
use Rattle.calls.specs.Moves as moves
use Rattle.calls.specs.Moves.{Entering, Fronting, Rearing, by_answer, by_front, carried, entering, fronting, guarded, is_inside, lifted, rearing, turning, went_on}
use Rattle.calls.specs.Steps.{done_answer, passed_answer}
use Rattle.calls.specs.declared.values.Answer.{Answer}
use Rattle.calls.specs.declared.values.Answer.TheVariants.{Passed}
use Rattle.safety.specs.Histories.{History, entered, moved_on, passed, turned, where_done, where_passed}
use Rattle.safety.proofs.Situation.{Held, front_of, joint_of, rear_of}
use Rattle.safety.proofs.Stations.{governed, governor_is, is_the_number}
use Rattle.safety.proofs.Kept.{Kept, Next, unchanged}
use Rattle.safety.proofs.Granting.{signal_known}
use Rattle.safety.proofs.Cases as cases
use Rattle.safety.proofs.Cases.{EnterCase, FrontCase, RearCase, TurnCase, enter_case, front_case, rear_case, turn_case}
use Rattle.safety.proofs.Moving.{no_derailing, record_is, changed, shrinks, goes_on, turns_round, after_passing, passes}

-- what is shown at a signal of the track
shown_at : (s : Station) (m : Meaning) (n : ℕ) (x : Aspect) → fits s m ≡ true → n < length m.signals → shown s m (Some n) x ≡ with_aspect m n x
shown_at s m n x fit hn = let k : ltb n (length m.signals) ≡ true = lt-ltb n (length m.signals) hn in rw (fit, k)

-- the state and the history as they are
conclude : (s : Station) (v w new : State) (h k told : History) → w ≡ new → k ≡ told → Next s v new (told ++ h) → Next s v w (k ++ h)
conclude s v w new h k told e d n = subst (λ y. Next s v w (y ++ h)) (sym d) (subst (λ y. Next s v y (told ++ h)) (sym e) n)

module _ (s : Station) (keeps : Sound s) (facts : Consequences s) (v : State) (h : History) (kept : Kept s v h) where
  granted_step : (step : Step) → guarded s v.track step ≡ step
  granted_step step = cond-true (fits s v.track && has_slots s) step (refused Mismatch) (and_from _ _ kept.fitting kept.slots)

  -- a train that has passed the signal, as the interlocking leaves it
  passing_is : (t n : ℕ) (new : Train) → n < length v.track.signals → moves.passed s (a_state v.own (with_train v.track t new)) t n ≡ a_state (with_note (passed_routes s n v.own (length s.routes)) t (note_from s n v.own)) (with_aspect (with_train v.track t new) n Stop)
  passing_is t n new hn = ap (a_state (with_note (passed_routes s n v.own (length s.routes)) t (note_from s n v.own))) (shown_at s (with_train v.track t new) n Stop kept.fitting hn)

  -- a signal that shows proceed is the governor where it stands
  proceeds_there : (n : ℕ) → is_stop (aspect_at v.track n) ≡ false → governor s (signal_at s n).joint (signal_at s n).segment ≡ Some n
  proceeds_there n e =
      let w = kept.inv.signal n (not_from_false _ e) in
      let g = is_the_number (signal_of s w.0) n w.2 in
      subst (λ y. governor s y.joint y.segment ≡ Some n) (governor_is s _ _ n g).1 g

  pub enter_next : (t n : ℕ) (x : Result Unit Denial) (w : State) → Entering s v t n x w → (a : Answer) → a ≡ done_answer x → Next s v w (where_done a (moved_on t (Some n) (train_at w.track t)) ++ h)
  enter_next t n x w m a ea = go (entering s v t n) (subst (EnterCase s v.track t n) (sym (granted_step (enter_step s v.track t n))) (enter_case s v.track t kept.fitting n)) m.leaves (ea ∙ ap done_answer m.answers)
    where
      go : (step : Step) → EnterCase s v.track t n step → w ≡ by_answer step.answer (carried v t step) (moves.passed s (carried v t step) t n) → a ≡ done_answer (lifted (plainly step.answer)) → Next s v w (where_done a (moved_on t (Some n) (train_at w.track t)) ++ h)
      go step (cases.denied e) lw la = unchanged s v w h (where_done a (moved_on t (Some n) (train_at w.track t))) kept lw (ap (λ y. where_done y (moved_on t (Some n) (train_at w.track t))) la)
      go step (cases.enters ht hn absent st) lw la =
          let j = (signal_at s n).joint in
          let y = (signal_at s n).segment in
          let new = come_in y j in
          let is = lw ∙ passing_is t n new hn in
          conclude s v w (after_passing s keeps facts v h kept t ht n j y new (proceeds_there n st) st refl refl refl (λ b e. absurd (none-some _ e)) (set (passed_routes s n v.own (length s.routes)).notes t (note_from s n v.own))) h (where_done a (moved_on t (Some n) (train_at w.track t))) (entered t y ∷ passed t n ∷ []) is
          (ap (λ z. where_done z (moved_on t (Some n) (train_at w.track t))) la ∙ ap (λ z. moved_on t (Some n) (train_at z.track t)) is ∙ ap (moved_on t (Some n)) (record_is s keeps facts v h kept t ht new))
          (passes s keeps facts v h kept t ht n j y new (proceeds_there n st) st refl refl refl (λ b e. absurd (none-some _ e)) (set (passed_routes s n v.own (length s.routes)).notes t (note_from s n v.own)))

  -- what is noted of a train past no signal does not matter
  by_note : (t : ℕ) (ht : t < 16) (new : Train) (w : State) (noted : Option Note) (k : History) → ((notes : List (Option Note)) → Next s v (changed s keeps facts v h kept t ht new notes) k) → (b : Bool) → w ≡ a_state (cond b (with_note v.own t noted) v.own) (with_train v.track t new) → Next s v w k
  by_note t ht new w noted k f true e = subst (λ y. Next s v y k) (sym e) (f (set v.own.notes t noted))
  by_note t ht new w noted k f false e = subst (λ y. Next s v y k) (sym e) (f v.own.notes)

  past_none : (t : ℕ) (ht : t < 16) (new : Train) (w : State) (a : Answer) → a ≡ Passed None → w ≡ went_on s (a_state v.own (with_train v.track t new)) t None → ((notes : List (Option Note)) → Next s v (changed s keeps facts v h kept t ht new notes) (moved_on t None new ++ h)) → Next s v w (where_passed a (λ n. moved_on t n (train_at w.track t)) ++ h)
  past_none t ht new w a la lw f =
      subst (λ y. Next s v w (y ++ h)) (sym told_so) (by_note t ht new w (option_map stepped (note_at v.own t)) (moved_on t None new ++ h) f (is_inside (place_answer s (with_train v.track t new) t)) lw)
    where
      told_so : where_passed a (λ n. moved_on t n (train_at w.track t)) ≡ moved_on t None new
      told_so = ap (λ z. where_passed z (λ n. moved_on t n (train_at w.track t))) la ∙ ap (λ z. moved_on t None (train_at z.track t)) lw ∙ ap (moved_on t None) (record_is s keeps facts v h kept t ht new)

  front_leaves : (t x j k : ℕ) (ht : t < 16) → train_at v.track t ≡ come_in x j → (notes : List (Option Note)) → Next s v (changed s keeps facts v h kept t ht (gone_on None k x) notes) h
  front_leaves t x j k ht e notes = shrinks s keeps facts v h kept t ht (gone_on None k x) notes refl less (λ f d. absurd (none-some _ d)) (λ f d. absurd (none-some _ d)) (λ f d. absurd (none-some _ d))
    where
      less : (y : ℕ) → Held (gone_on None k x) y → Held (train_at v.track t) y
      less y (inl d) = absurd (none-some _ d)
      less y (inr d) = inl (ap front_of e ∙ d)

  pub front_next : (t : ℕ) (x : Result (Option ℕ) Denial) (w : State) → Fronting s v t x w → (a : Answer) → a ≡ passed_answer x → Next s v w (where_passed a (λ n. moved_on t n (train_at w.track t)) ++ h)
  front_next t x w m a ea = go (fronting s v t) (subst (FrontCase s v.track t) (sym (granted_step (front_step s v.track t))) (front_case s v.track t kept.fitting)) m.leaves (ea ∙ ap passed_answer m.answers)
    where
      go : (step : Step) → FrontCase s v.track t step → w ≡ by_front s (carried v t step) t step.answer → a ≡ passed_answer (lifted step.answer) → Next s v w (where_passed a (λ n. moved_on t n (train_at w.track t)) ++ h)
      go step (cases.denied e) lw la = unchanged s v w h (where_passed a (λ n. moved_on t n (train_at w.track t))) kept lw (ap (λ y. where_passed y (λ n. moved_on t n (train_at w.track t))) la)
      go step (cases.derails y j p e d) lw la = absurd (no_derailing s keeps facts v h kept t y j e d)
      go step (cases.leaves y j k ht e d o) lw la = past_none t ht (gone_on None k y) w a la lw (front_leaves t y j k ht e)
      go step (cases.goes y j k u None ht e d o gv hl) lw la = past_none t ht (gone_on (Some u) k y) w a la lw (goes_on s keeps facts v h kept t ht y j k u e d o gv)
      go step (cases.goes y j k u (Some n) ht e d o gv hl) lw la =
          let new = gone_on (Some u) k y in
          let is = lw ∙ passing_is t n new (signal_known s keeps facts v h kept n (governor_is s k u n gv).0) in
          conclude s v w (after_passing s keeps facts v h kept t ht n k u new gv hl refl refl refl (λ b c. inl (ap front_of e ∙ c)) (set (passed_routes s n v.own (length s.routes)).notes t (note_from s n v.own))) h (where_passed a (λ i. moved_on t i (train_at w.track t))) (entered t u ∷ passed t n ∷ []) is
          (ap (λ z. where_passed z (λ i. moved_on t i (train_at w.track t))) la ∙ ap (λ z. moved_on t (Some n) (train_at z.track t)) is ∙ ap (moved_on t (Some n)) (record_is s keeps facts v h kept t ht new))
          (passes s keeps facts v h kept t ht n k u new gv hl refl refl refl (λ b c. inl (ap front_of e ∙ c)) (set (passed_routes s n v.own (length s.routes)).notes t (note_from s n v.own)))

  pub rear_next : (t : ℕ) (x : Result Unit Denial) (w : State) → Rearing s v t x w → Next s v w h
  rear_next t x w m = go (rearing s v t) (subst (RearCase v.track t) (sym (granted_step (rear_step s v.track t))) (rear_case s v.track t kept.fitting)) m.leaves
    where
      draws_in : (y j b : ℕ) → train_at v.track t ≡ present (Some y) j (Some b) false → (z : ℕ) → Held (come_in y j) z → Held (train_at v.track t) z
      draws_in y j b e z (inl d) = inl (ap front_of e ∙ d)
      draws_in y j b e z (inr d) = absurd (none-some _ d)

      gone : (z : ℕ) → Held None z → Held (train_at v.track t) z
      gone z (inl d) = absurd (none-some _ d)
      gone z (inr d) = absurd (none-some _ d)

      go : (step : Step) → RearCase v.track t step → w ≡ carried v t step → Next s v w h
      go step (cases.denied e) lw = unchanged s v w h [] kept lw refl
      go step (cases.draws y j b ht e) lw =
          subst (λ z. Next s v z h) (sym lw) (shrinks s keeps facts v h kept t ht (come_in y j) v.own.notes refl (draws_in y j b e) (λ f d. ap front_of e ∙ d) (λ f d. sym (ap joint_of e)) (λ f d c. none-some _ (sym (sym (ap rear_of e) ∙ c))))
      go step (cases.ends j b ht e) lw =
          subst (λ z. Next s v z h) (sym lw) (shrinks s keeps facts v h kept t ht None v.own.notes refl gone (λ f d. absurd (none-some _ d)) (λ f d. absurd (none-some _ d)) (λ f d. absurd (none-some _ d)))

  pub turn_next : (t : ℕ) (x : Result Unit Denial) (w : State) → moves.Turning s v t x w → (a : Answer) → a ≡ done_answer x → Next s v w (where_done a (turned t ∷ []) ++ h)
  turn_next t x w m a ea = go (turning s v t) (subst (TurnCase s v.track t) (sym (granted_step (turn_step s v.track t))) (turn_case s v.track t kept.fitting)) m.leaves (ea ∙ ap done_answer m.answers)
    where
      go : (step : Step) → TurnCase s v.track t step → w ≡ by_answer step.answer (carried v t step) (moves.turned (carried v t step) t) → a ≡ done_answer (lifted (plainly step.answer)) → Next s v w (where_done a (turned t ∷ []) ++ h)
      go step (cases.denied e) lw la = unchanged s v w h (where_done a (turned t ∷ [])) kept lw (ap (λ y. where_done y (turned t ∷ [])) la)
      go step (cases.derails y j p e d) lw la = absurd (no_derailing s keeps facts v h kept t y j e d)
      go step (cases.turns y j k z ht e d o sg) lw la =
          let n = governed s j z ((decides_signalled s j z).0 sg) in
          conclude s v w (changed s keeps facts v h kept t ht (come_in y k) (set v.own.notes t None)) h (where_done a (turned t ∷ [])) (turned t ∷ []) lw (ap (λ i. where_done i (turned t ∷ [])) la)
          (turns_round s keeps facts v h kept t ht y j k z n.0 e d o n.1 (set v.own.notes t None))
