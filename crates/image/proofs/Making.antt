-- A track made from octets: what it keeps, and that nothing else is kept by a track with this image.
use Rattle.std.proofs.Common.{◌≡◌, ℕ, ◌≤◌, true, false, eqb, leb, List, length, drop, Some, None, Ok, Err, Option, Result, ok_or, sym, refl, ap, ◌∙◌, subst, arith, MatchOption}
use Rattle.std.proofs.lemmas.List.{length-take}
use Rattle.std.proofs.lemmas.Bool.{and_from, both_ways, eq-eqb, le-leb}
use Rattle.motor.specs.Kept.{Kept, keeping, kept, may_keep}
use Rattle.motor.specs.Motors.{Motor}
use Rattle.motor.specs.declared.runs.Run.{Run}
use Rattle.track.specs.declared.refusals.Refusal.TheVariants.{Mismatch}
use Rattle.track.specs.declared.states.Aspect.{Aspect}
use Rattle.track.specs.Trains.{Train}
use Rattle.octets.specs.Each.{each}
use Rattle.octets.specs.Reads.{run_of, train_of}
use Rattle.octets.proofs.Inverses.{each_long}
use Rattle.station.specs.Station.{Station}
use Rattle.image.specs.declared.unmade.Unmade.{Unmade}
use Rattle.image.specs.declared.unmade.Unmade.TheVariants.{Memory, Refused}
use Rattle.image.specs.Image.{image}
use Rattle.image.specs.Laws.{Belongs, MadeAgain, MadeFrom}
use Rattle.image.specs.Tracks.{Answered, point_part, track_of, train_part}
use Rattle.image.proofs.Fours.{length_fours}
use Rattle.image.proofs.Wholes.{images_law}

-- what is read makes a track: there are few points, and 16 trains
pub kept_well : (st : Station) (p q : ℕ) (xs : List ℕ) (rs : List Run) (ss : List Aspect) (ts : List Train) → p ≤ 32 → each run_of (point_part p xs) ≡ Some rs → each (train_of (length st.segments) (length st.joints)) (train_part p q xs) ≡ Some ts → may_keep (keeping rs ss ts) ≡ true
kept_well st p q xs rs ss ts few x z =
    let l = each_long run_of (point_part p xs) rs x in
    let m = length-take p (drop 3 xs) in
    let n : length ts ≡ 16 = each_long _ (train_part p q xs) ts z ∙ length_fours 16 _ in
    and_from (leb (length rs) 32) (eqb (length ts) 16) (le-leb (length rs) 32 (omega arith)) (eq-eqb (length ts) 16 n)

-- the answer of one that takes parts of which it can be made
pub made_of : (k : Kept) (x : Option Kept) (o : Option Motor) → MatchOption o (may_keep k ≡ false) (λ t. kept t ≡ k) → may_keep k ≡ true → x ≡ Some k → Answered (ok_or o (Refused Mismatch)) x
made_of k x None denied may e = absurd (both_ways (may_keep k) denied may)
made_of k x (Some t) is may e = e ∙ ap Some (sym is)

-- what is read, and what that says of images
pub record MadeSo (s : Station) (xs : List ℕ) (a : Result Motor Unmade) : Type 0 where
  pub reads : Answered a (track_of s xs)
  pub means : MadeFrom s xs a
  pub again : (k : Kept) → MadeAgain s xs a k

module _ (s : Station) (xs : List ℕ) where
  made_well : (t : Motor) → track_of s xs ≡ Some (kept t) → MadeSo s xs (Ok t)
  made_well t e = record {
    reads = e;
    means = ((images_law s).belongs xs (kept t) e, (images_law s).written xs (kept t) e);
    again = λ k b i. let f = (images_law s).again xs k b i in cc;
  }

  none_so : track_of s xs ≡ None → (k : Kept) → Belongs s k → image k ≡ Some xs → ⊥
  none_so e k b i = let f = (images_law s).again xs k b i in grind arith

  made_none : track_of s xs ≡ None → MadeSo s xs (Err (Refused Mismatch))
  made_none e = record { reads = (refl, e); means = (refl, none_so e); again = none_so e }

  -- of an answer that tells what is read
  pub made_so : (a : Result Motor Unmade) → Answered a (track_of s xs) → MadeSo s xs a
  made_so (Ok t) e = made_well t e
  made_so (Err (Refused r)) e = subst (λ q. MadeSo s xs (Err (Refused q))) (sym e.0) (made_none e.1)
  made_so (Err Memory) e = record { reads = tt; means = tt; again = λ k b i. tt }
