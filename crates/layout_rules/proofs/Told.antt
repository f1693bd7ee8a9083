-- The test of each rule of the layout tells what the rule says.
use Rattle.std.proofs.Common.{◌≡◌, ℕ, ◌<◌, List, length, Decides, Contains, Option, sym, subst}
use Rattle.std.proofs.lemmas.Bool.Decides.{Decides-eqb, Decides-ltb, Decides-not, Decides-and, Decides-or, Decides-like}
use Rattle.firsts.proofs.Below.{decides_all_below}
use Rattle.firsts.proofs.Elements.{decides_has, decides_some, decides_every}
use Rattle.firsts.proofs.Firsts.{breach_is, pair_is}
use Rattle.station.specs.declared.tests.Position.TheVariants.{Normal}
use Rattle.station.specs.declared.tables.Setting.{Setting}
use Rattle.station.specs.declared.tables.Signal.{Signal}
use Rattle.station.specs.Station.{Station, WayEntry}
use Rattle.station.specs.Numbers.{joint_at, way_at, point_at, signal_at}
use Rattle.station.specs.Joints.{across}
use Rattle.station.proofs.Alike.{decides_setting}
use Rattle.station.proofs.Covers.{decides_where}
use Rattle.station.proofs.Joints.{decides_is_segment, decides_is_stop, decides_touches}
use Rattle.layout_rules.specs.Sides.{Parts, parts, breach_11, Breach11}
use Rattle.layout_rules.specs.Ways.{AtHome, at_home, Names, names, named, SoundWay, sound_way, breach_12, Breach12}
use Rattle.layout_rules.specs.WayPairs.{SameJoints, same_joints, ShareJoint, share_joint, Within, within, WaysApart, ways_apart, PairApart, pair_apart, breach_13, Breach13}
use Rattle.layout_rules.specs.Signals.{SoundSignal, sound_signal, breach_14, Breach14}

pub decides_parts : (s : Station) (j : ℕ) → Decides (parts s j) (Parts s j)
decides_parts s j = Decides-not _ (decides_is_segment (joint_at s j).beyond (joint_at s j).segment)

decides_home : (s : Station) (t p : ℕ) → Decides (at_home s t p) (AtHome s t p)
decides_home s t p = Decides-and _ _ (Decides-ltb p (length s.points)) (Decides-eqb (point_at s p).home t)

decides_names : (xs : List Setting) (p : ℕ) → Decides (names xs p) (Names xs p)
decides_names xs p =
    decides_some (λ x. x.point ≡ p) (record { point = 0; position = Normal }) (λ x. Decides-eqb x.point p) xs

pub decides_way : (s : Station) (w : ℕ) → Decides (sound_way s w) (SoundWay s w)
decides_way s w =
    let t = (way_at s w).segment in
    let a = (way_at s w).from in
    let b = (way_at s w).to in
    let xs = (way_at s w).settings in
    Decides-like (sound_way s w)
    (λ p. record {
      apart = p.0.0;
      from_here = p.0.1.0;
      to_here = p.0.1.1;
      own = p.1.0;
      each = p.1.1.0;
      once = p.1.1.1;
    })
    (λ h. ((h.apart, (h.from_here, h.to_here)), (h.own, (h.each, h.once))))
    (Decides-and _ _
    (Decides-and _ _ (Decides-not _ (Decides-eqb a b)) (Decides-and _ _ (decides_touches s a t) (decides_touches s b t)))
    (Decides-and _ _
    (decides_every (λ x. AtHome s t x.point) (λ x. decides_home s t x.point) xs)
    (Decides-and _ _
    (decides_all_below (λ p. (point_at s p).home ≡ t → Names xs p) (λ p. decides_where _ _ (Decides-eqb (point_at s p).home t) (decides_names xs p)) (length s.points))
    (decides_all_below (λ k. (i : ℕ) → i < k → named xs i ≡ named xs k → ⊥) (λ k. decides_all_below (λ i. named xs i ≡ named xs k → ⊥) (λ i. Decides-not _ (Decides-eqb (named xs i) (named xs k))) k) (length xs)))))

decides_within : (xs ys : List Setting) → Decides (within xs ys) (Within xs ys)
decides_within xs ys = decides_every (λ x. Contains ys x) (λ x. decides_has decides_setting ys x) xs

decides_same_joints : (v w : WayEntry) → Decides (same_joints v w) (SameJoints v w)
decides_same_joints v w =
    Decides-or _ _
    (Decides-and _ _ (Decides-eqb v.from w.from) (Decides-eqb v.to w.to))
    (Decides-and _ _ (Decides-eqb v.from w.to) (Decides-eqb v.to w.from))

decides_share_joint : (v w : WayEntry) → Decides (share_joint v w) (ShareJoint v w)
decides_share_joint v w =
    Decides-or _ _
    (Decides-or _ _ (Decides-eqb v.from w.from) (Decides-eqb v.from w.to))
    (Decides-or _ _ (Decides-eqb v.to w.from) (Decides-eqb v.to w.to))

pub decides_apart : (v w : WayEntry) → Decides (ways_apart v w) (WaysApart v w)
decides_apart v w =
    Decides-like (ways_apart v w) (λ p. record { joints = p.0; points = p.1 }) (λ h. (h.joints, h.points)) (Decides-and _ _
    (Decides-not _ (decides_same_joints v w))
    (decides_where _ _ (Decides-eqb v.segment w.segment)
    (decides_where _ _ (decides_share_joint v w)
    (Decides-not _ (Decides-and _ _ (decides_within v.settings w.settings) (decides_within w.settings v.settings))))))

pub decides_pair : (s : Station) (i j : ℕ) → Decides (pair_apart s (i, j)) (PairApart s i j)
decides_pair s i j = decides_where _ _ (Decides-ltb i j) (decides_apart (way_at s i) (way_at s j))

pub decides_signal_sound : (s : Station) (x : Signal) → Decides (sound_signal s x) (SoundSignal s x)
decides_signal_sound s x =
    Decides-like (sound_signal s x) (λ p. record { here = p.0; open_beyond = p.1 }) (λ h. (h.here, h.open_beyond)) (Decides-and _ _
    (decides_touches s x.joint x.segment)
    (Decides-not _ (decides_is_stop (across s x.joint x.segment))))

-- so what is the first thing of which the test fails is the first that breaks the rule
pub first_11 : (s : Station) (r : Option ℕ) → r ≡ breach_11 s → Breach11 s r
first_11 s r e = subst (Breach11 s) (sym e) (breach_is (parts s) (Parts s) (decides_parts s) (length s.joints))

pub first_12 : (s : Station) (r : Option ℕ) → r ≡ breach_12 s → Breach12 s r
first_12 s r e = subst (Breach12 s) (sym e) (breach_is (sound_way s) (SoundWay s) (decides_way s) (length s.ways))

pub first_13 : (s : Station) (r : Option (ℕ × ℕ)) → r ≡ breach_13 s → Breach13 s r
first_13 s r e = subst (Breach13 s) (sym e) (pair_is (pair_apart s) (PairApart s) (decides_pair s) (length s.ways) (length s.ways))

pub first_14 : (s : Station) (r : Option ℕ) → r ≡ breach_14 s → Breach14 s r
first_14 s r e = subst (Breach14 s) (sym e) (breach_is (λ n. sound_signal s (signal_at s n)) (λ n. SoundSignal s (signal_at s n)) (λ n. decides_signal_sound s (signal_at s n)) (length s.signals))
