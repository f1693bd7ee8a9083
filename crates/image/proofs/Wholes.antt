-- An image is read as what it is the image of, and as nothing else.
use Rattle.std.proofs.Common.{◌≡◌, ℕ, ◌+◌, ◌≤◌, true, false, cond, leb, List, ◌++◌, length, map, take, drop, Some, None, sym, ap, ◌∙◌, subst, arith}
use Rattle.std.specs.Option.{option_map_or}
use Rattle.std.proofs.lemmas.List.{drop_at, length-append, length-drop, length-map, length-take-le, take-append-drop, take_at}
use Rattle.std.proofs.lemmas.Bool.{cond-true, le-leb, leb-true}
use Rattle.std.proofs.lemmas.Option.{same_Some}
use Rattle.motor.specs.Kept.{Kept, keeping}
use Rattle.motor.specs.declared.runs.Run.{Run}
use Rattle.track.specs.declared.states.Aspect.{Aspect}
use Rattle.track.specs.Trains.{Train}
use Rattle.octets.specs.Each.{each}
use Rattle.octets.specs.Reads.{aspect_of, run_of, train_of}
use Rattle.octets.specs.Writes.{aspect_octet, run_octet, train_octets}
use Rattle.octets.proofs.Inverses.{all_any, all_meant, all_read, all_written, each_long, each_some}
use Rattle.octets.proofs.Records.{guarded, points_law, signals_law, trains_law}
use Rattle.station.specs.Station.{Station}
use Rattle.octets.specs.Frames.{framed, head, rest}
use Rattle.image.specs.Image.{flat, image, then, whole}
use Rattle.image.specs.Laws.{Belongs, ImagesLaw}
use Rattle.image.specs.Tracks.{filled, fours, framing, point_part, signal_part, track_of, train_part}
use Rattle.image.proofs.Fours.{all_four, flat_fours, fours_flat, length_flat, length_fours}
use Rattle.image.proofs.Cuts.{Framed, begins, frame, framing_is, given, is_framed, rest_is}

-- what is kept, by what each part is read as
pub filled_by : (st : Station) (p q : ℕ) (xs : List ℕ) (rs : List Run) (ss : List Aspect) (ts : List Train) → each run_of (point_part p xs) ≡ Some rs → each aspect_of (signal_part p q xs) ≡ Some ss → each (train_of (length st.segments) (length st.joints)) (train_part p q xs) ≡ Some ts → filled st p q xs ≡ Some (keeping rs ss ts)
filled_by st p q xs rs ss ts x y z = rw (x, y, z)

-- the image, by what stands for each part
pub image_by : (rs : List Run) (ss : List Aspect) (ts : List Train) (ps : List ℕ) (us : List (List ℕ)) → each run_octet rs ≡ Some ps → each train_octets ts ≡ Some us → image (keeping rs ss ts) ≡ whole ps (map aspect_octet ss) us
image_by rs ss ts ps us x z = rw (x, z)

-- the octets that signals are read from are those that they are written as
signals_back : (qs : List ℕ) (ss : List Aspect) → each aspect_of qs ≡ Some ss → map aspect_octet ss ≡ qs
signals_back qs ss y = same_Some _ _ (sym (each_some aspect_octet ss) ∙ all_written signals_law qs ss y)

module _ (s : Station) where
  abbrev pts : ℕ
  pts = length s.points

  abbrev sgs : ℕ
  sgs = length s.signals

  -- octets that are read are the image of what they are read as
  module _ (xs : List ℕ) where
    -- all that reading finds
    record Found (k : Kept) : Type 0 where
      n : ℕ
      few : pts ≤ 32
      rest_n : rest pts sgs ≡ Some n
      frame_n : Framed n xs
      rs : List Run
      ss : List Aspect
      ts : List Train
      runs : each run_of (point_part pts xs) ≡ Some rs
      signals : each aspect_of (signal_part pts sgs xs) ≡ Some ss
      trains : each (train_of (length s.segments) (length s.joints)) (train_part pts sgs xs) ≡ Some ts
      all : keeping rs ss ts ≡ k

    found : (k : Kept) → track_of s xs ≡ Some k → Found k
    found k e =
        let a = guarded (leb pts 32) (cond (framing pts sgs xs) (filled s pts sgs xs) None) k e in
        let c = guarded (framing pts sgs xs) (filled s pts sgs xs) k a.1 in
        let b = framing_is pts sgs xs c.0 in
        let d = given (each run_of (point_part pts xs)) _ k c.1 in
        let f = given (each aspect_of (signal_part pts sgs xs)) _ k d.2 in
        let g = given (each (train_of (length s.segments) (length s.joints)) (train_part pts sgs xs)) _ k f.2 in
        let h : keeping d.0 f.0 g.0 ≡ k = cc g.2 in
        record {
          n = b.0;
          few = leb-true pts 32 a.0;
          rest_n = b.1;
          frame_n = frame b.0 xs b.2;
          rs = d.0;
          ss = f.0;
          ts = g.0;
          runs = d.1;
          signals = f.1;
          trains = g.1;
          all = h;
        }

    module _ (k : Kept) (f : Found k) where
      after_head : length (drop 3 xs) ≡ pts + sgs + 64
      after_head = let l = f.frame_n.long in let m = rest_is pts sgs f.n f.rest_n in length-drop 3 xs ∙ omega arith

      points_long : length (point_part pts xs) ≡ pts
      points_long = let l = after_head in length-take-le pts (drop 3 xs) (omega arith)

      after_points : length (drop pts (drop 3 xs)) ≡ sgs + 64
      after_points = let l = after_head in length-drop pts (drop 3 xs) ∙ omega arith

      signals_long : length (signal_part pts sgs xs) ≡ sgs
      signals_long = let l = after_points in length-take-le sgs (drop pts (drop 3 xs)) (omega arith)

      after_signals : length (drop sgs (drop pts (drop 3 xs))) ≡ 64
      after_signals = let l = after_points in length-drop sgs (drop pts (drop 3 xs)) ∙ omega arith

      parts : head f.n ++ (point_part pts xs ++ (signal_part pts sgs xs ++ flat (train_part pts sgs xs))) ≡ xs
      parts =
          ap (λ l. head f.n ++ (point_part pts xs ++ (signal_part pts sgs xs ++ l))) (flat_fours 16 (drop sgs (drop pts (drop 3 xs))) after_signals)
          ∙ ap (λ l. head f.n ++ (point_part pts xs ++ l)) (take-append-drop sgs (drop pts (drop 3 xs)))
          ∙ ap (λ l. head f.n ++ l) (take-append-drop pts (drop 3 xs))
          ∙ sym (begins f.n xs f.frame_n)

      rest_long : rest (length (point_part pts xs)) (length (signal_part pts sgs xs)) ≡ Some f.n
      rest_long = ap (λ m. rest m (length (signal_part pts sgs xs))) points_long ∙ ap (rest pts) signals_long ∙ f.rest_n

      all_of_it : whole (point_part pts xs) (signal_part pts sgs xs) (train_part pts sgs xs) ≡ Some xs
      all_of_it =
          ap (λ o. then o (λ n. Some (head n ++ (point_part pts xs ++ (signal_part pts sgs xs ++ flat (train_part pts sgs xs)))))) rest_long
          ∙ ap Some parts

      its_image : image k ≡ Some xs
      its_image =
          let ps = all_written points_law (point_part pts xs) f.rs f.runs in
          let us = all_written (trains_law (length s.segments) (length s.joints)) (train_part pts sgs xs) f.ts f.trains in
          subst (λ m. image m ≡ Some xs) f.all
          (image_by f.rs f.ss f.ts (point_part pts xs) (train_part pts sgs xs) ps us
          ∙ ap (λ l. whole (point_part pts xs) l (train_part pts sgs xs)) (signals_back (signal_part pts sgs xs) f.ss f.signals)
          ∙ all_of_it)

      belongs : Belongs s k
      belongs =
          subst (Belongs s) f.all
          (record {
            points = each_long run_of (point_part pts xs) f.rs f.runs ∙ points_long;
            few = let l = each_long run_of (point_part pts xs) f.rs f.runs in let m = points_long in let w = f.few in omega arith;
            signals = each_long aspect_of (signal_part pts sgs xs) f.ss f.signals ∙ signals_long;
            sixteen = each_long _ (train_part pts sgs xs) f.ts f.trains ∙ length_fours 16 _;
            declared = all_meant (trains_law (length s.segments) (length s.joints)) (train_part pts sgs xs) f.ts f.trains;
          })

  -- the image of what belongs to the station is read as that
  module _ (xs : List ℕ) (k : Kept) (b : Belongs s k) (ps : List ℕ) (us : List (List ℕ)) (n : ℕ) where
    abbrev qs : List ℕ
    qs = map aspect_octet k.signals

    abbrev tail : List ℕ
    tail = ps ++ (qs ++ flat us)

    module _ (x : each run_octet k.runs ≡ Some ps) (z : each train_octets k.trains ≡ Some us) (w : rest (length ps) (length qs) ≡ Some n) where
      ps_long : length ps ≡ pts
      ps_long = each_long run_octet k.runs ps x ∙ b.points

      qs_long : length qs ≡ sgs
      qs_long = length-map k.signals aspect_octet ∙ b.signals

      us_long : length us ≡ 16
      us_long = each_long train_octets k.trains us z ∙ b.sixteen

      tail_long : length tail ≡ n
      tail_long =
          let l = rest_is (length ps) (length qs) n w in
          let m = length_flat us (all_four k.trains us z) in
          let o = us_long in
          let g = length-append qs (flat us) in
          length-append ps (qs ++ flat us) ∙ omega arith

      past_points : drop pts tail ≡ qs ++ flat us
      past_points = drop_at ps (qs ++ flat us) pts ps_long

      runs_again : each run_of (point_part pts (head n ++ tail)) ≡ Some k.runs
      runs_again = ap (each run_of) (take_at ps (qs ++ flat us) pts ps_long) ∙ all_read points_law k.runs ps (all_any k.runs) x

      signals_again : each aspect_of (signal_part pts sgs (head n ++ tail)) ≡ Some k.signals
      signals_again =
          ap (each aspect_of) (ap (take sgs) past_points ∙ take_at qs (flat us) sgs qs_long)
          ∙ all_read signals_law k.signals qs (all_any k.signals) (each_some aspect_octet k.signals)

      trains_again : each (train_of (length s.segments) (length s.joints)) (train_part pts sgs (head n ++ tail)) ≡ Some k.trains
      trains_again =
          ap (each (train_of (length s.segments) (length s.joints)))
          (ap (fours 16) (ap (drop sgs) past_points ∙ drop_at qs (flat us) sgs qs_long) ∙ ap (λ m. fours m (flat us)) (sym us_long) ∙ fours_flat us (all_four k.trains us z))
          ∙ all_read (trains_law (length s.segments) (length s.joints)) k.trains us b.declared z

      rest_again : rest pts sgs ≡ Some n
      rest_again = ap (λ m. rest m sgs) (sym ps_long) ∙ ap (rest (length ps)) (sym qs_long) ∙ w

      few_again : leb pts 32 ≡ true
      few_again = let l = b.points in let m = b.few in le-leb pts 32 (omega arith)

      whole_again : track_of s (head n ++ tail) ≡ Some k
      whole_again =
          cond-true (leb pts 32) _ None few_again
          ∙ cond-true (framing pts sgs (head n ++ tail)) (filled s pts sgs (head n ++ tail)) None (ap (λ o. option_map_or (λ m. framed m (head n ++ tail)) o false) rest_again ∙ is_framed n tail tail_long)
          ∙ filled_by s pts sgs (head n ++ tail) k.runs k.signals k.trains runs_again signals_again trains_again

  read_again : (xs : List ℕ) (k : Kept) → Belongs s k → image k ≡ Some xs → track_of s xs ≡ Some k
  read_again xs k b e =
      let x = given (each run_octet k.runs) _ xs e in
      let z = given (each train_octets k.trains) _ xs x.2 in
      let w = given (rest (length x.0) (length (map aspect_octet k.signals))) _ xs z.2 in
      let same : head w.0 ++ (x.0 ++ (map aspect_octet k.signals ++ flat z.0)) ≡ xs = cc w.2 in
      subst (λ l. track_of s l ≡ Some k) same (whole_again xs k b x.0 z.0 w.0 x.1 z.1 w.1)

pub images_law : (s : Station) → ImagesLaw s
images_law s = record {
  written = λ xs k e. its_image s xs k (found s xs k e);
  belongs = λ xs k e. belongs s xs k (found s xs k e);
  again = λ xs k b e. read_again s xs k b e;
}
