-- What follows from the rules.
use Rattle.std.proofs.Common.{◌≡◌, ℕ, suc, ◌-◌, ◌/◌, ◌<◌, Bool, true, false, cond, length, Contains, sym, refl, ap, ◌∙◌, subst, inl, inr, ⊎_elim, arith}
use Rattle.std.proofs.lemmas.Bool.{cases_order, eq-eqb, ne_eqb, cond-true, cond-false}
use Rattle.firsts.proofs.Elements.{found_at}
use Rattle.station.specs.declared.tests.Position.{Position}
use Rattle.station.specs.declared.tests.Lock.{Lock}
use Rattle.station.specs.declared.tests.Lock.TheVariants.{Zone, Subroute}
use Rattle.station.specs.declared.tests.Action.{Action}
use Rattle.station.specs.declared.tests.Action.TheVariants.{Set, Drive}
use Rattle.station.specs.declared.tables.Beyond.TheVariants.{Segment}
use Rattle.station.specs.declared.tables.Setting.{Setting}
use Rattle.station.specs.Station.{Station, WayEntry}
use Rattle.station.specs.Numbers.{joint_at, way_at, route_at}
use Rattle.station.specs.Subroutes.{subroutes, way_of, against, start, end, segment_of}
use Rattle.station.specs.Joints.{Touches, across}
use Rattle.station.specs.Paths.{path, path_length, on_path, Used}
use Rattle.station.specs.Covers.{Guards, RequestGuards}
use Rattle.layout_rules.specs.Ways.{SoundWay}
use Rattle.layout_rules.specs.WayPairs.{ShareJoint, Within}
use Rattle.route_rules.specs.Path.{SoundPath}
use Rattle.route_rules.specs.Request.{action_at, Drives}
use Rattle.conflicts.specs.Conflicts.{Meets}
use Rattle.acceptance.specs.Soundness.{Sound, sound}
use Rattle.acceptance.specs.Consequences.{Lie, Covering, WayFacts, PathFacts, SignalFacts, RowFacts, Consequences}
use Rattle.acceptance.proofs.Verdicts.{sound_keeps}

setting_same : (x y : Setting) → x.point ≡ y.point → x.position ≡ y.position → x ≡ y
setting_same x y p q =
    let f : ℕ → Position → Setting = λ a b. record { point = a; position = b } in ap (λ a. f a x.position) p ∙ ap (f y.point) q

-- a setting of v that lies as w's points do is one of w's
within : (s : Station) (v w : ℕ) → SoundWay s v → SoundWay s w → (way_at s v).segment ≡ (way_at s w).segment → (at : ℕ → Position) → Lie at (way_at s v).settings → Lie at (way_at s w).settings → Within (way_at s v).settings (way_at s w).settings
within s v w sv sw same at lv lw x h =
    let home = sv.own x h in
    let named = sw.each x.point home.0 (home.1 ∙ same) in
    let y = named.0 in
    let e : y ≡ x = setting_same y x named.2 (sym (lw y named.1) ∙ ap at named.2 ∙ lv x h) in
    subst (Contains (way_at s w).settings) e named.1

turned : (v w : WayEntry) → ShareJoint v w → ShareJoint w v
turned v w (inl (inl e)) = inl (inl (sym e))
turned v w (inl (inr e)) = inr (inl (sym e))
turned v w (inr (inl e)) = inl (inr (sym e))
turned v w (inr (inr e)) = inr (inr (sym e))

module _ (s : Station) (keeps : Sound s) where
  two_ways : (v w : ℕ) → v < w → w < length s.ways → (way_at s v).segment ≡ (way_at s w).segment → ShareJoint (way_at s v) (way_at s w) → (at : ℕ → Position) → Lie at (way_at s v).settings → Lie at (way_at s w).settings → ⊥
  two_ways v w l m same joint at lv lw =
      let n : v < length s.ways = omega arith in
      let sv = keeps.layout.rule_12 v n in
      let sw = keeps.layout.rule_12 w m in
      (keeps.layout.rule_13 v w n m l).points same joint (within s v w sv sw same at lv lw, within s w v sw sv (sym same) at lw lv)

  one_way : (v w : ℕ) → v < length s.ways → w < length s.ways → (way_at s v).segment ≡ (way_at s w).segment → ShareJoint (way_at s v) (way_at s w) → (at : ℕ → Position) → Lie at (way_at s v).settings → Lie at (way_at s w).settings → v ≡ w
  one_way v w n m same joint at lv lw =
      ⊎_elim
      (λ e. e)
      (λ o. ⊎_elim
      (λ l. absurd (two_ways v w l m same joint at lv lw))
      (λ l. absurd (two_ways w v l n (sym same) (turned (way_at s v) (way_at s w) joint) at lw lv))
      o)
      (cases_order v w)

  way_known : (u : ℕ) → u < subroutes s → u / 2 < length s.ways
  way_known u l = omega arith

  ends : (u : ℕ) → u < subroutes s → (b : Bool) → Touches s (cond b (way_of s u).to (way_of s u).from) (segment_of s u)
  ends u l true = (keeps.layout.rule_12 (u / 2) (way_known u l)).to_here
  ends u l false = (keeps.layout.rule_12 (u / 2) (way_known u l)).from_here

  ends_back : (u : ℕ) → u < subroutes s → (b : Bool) → Touches s (cond b (way_of s u).from (way_of s u).to) (segment_of s u)
  ends_back u l true = (keeps.layout.rule_12 (u / 2) (way_known u l)).from_here
  ends_back u l false = (keeps.layout.rule_12 (u / 2) (way_known u l)).to_here

  way_facts : WayFacts s
  way_facts =
      record {
        one_way = one_way;
        starts_here = λ u l. ends u l (against u);
        ends_here = λ u l. ends_back u l (against u);
      }

  segment_inside : (a b : ℕ) → Segment a ≡ Segment b → a ≡ b
  segment_inside a b e = cc

  -- across a joint of two segments lies the other
  across_is : (j a b : ℕ) → Touches s j a → Touches s j b → (a ≡ b → ⊥) → across s j a ≡ Segment b
  across_is j a b ta tb ne =
      ⊎_elim
      (λ (e : (joint_at s j).segment ≡ a).
      cond-true _ _ _ (eq-eqb (joint_at s j).segment a e)
      ∙ ⊎_elim (λ f. absurd (ne (sym e ∙ f))) (λ f. f) tb.side)
      (λ (e : (joint_at s j).beyond ≡ Segment a).
      let not_here : (joint_at s j).segment ≡ a → ⊥ = λ f. keeps.layout.rule_11 j ta.declared (e ∙ ap Segment (sym f)) in
      cond-false _ _ _ (ne_eqb (joint_at s j).segment a not_here)
      ∙ ⊎_elim (λ f. ap Segment f) (λ f. absurd (ne (segment_inside a b (sym e ∙ f)))) tb.side)
      ta.side

  module _ (r : ℕ) (within_routes : r < length s.routes) where
    path_at : SoundPath s r
    path_at = keeps.routes.rule_21 r within_routes

    joined : (k : ℕ) → suc k < path_length s r → end s (on_path s r k) ≡ start s (on_path s r (suc k))
    joined k l =
        let e : suc k - 1 ≡ k = omega arith in
        ap (λ i. end s (on_path s r i)) (sym e) ∙ path_at.joined (suc k) l (omega arith)

    once : (i k : ℕ) → i < path_length s r → k < path_length s r → segment_of s (on_path s r i) ≡ segment_of s (on_path s r k) → i ≡ k
    once i k l m e =
        ⊎_elim (λ q. q) (λ o. ⊎_elim (λ q. absurd (path_at.once k m i q e)) (λ q. absurd (path_at.once i l k q (sym e))) o) (cases_order i k)

    next : (k : ℕ) → suc k < path_length s r → across s (end s (on_path s r k)) (segment_of s (on_path s r k)) ≡ Segment (segment_of s (on_path s r (suc k)))
    next k l =
        let m : k < path_length s r = omega arith in
        across_is (end s (on_path s r k)) _ _
        (way_facts.ends_here (on_path s r k) (path_at.runs k m))
        (subst (λ j. Touches s j (segment_of s (on_path s r (suc k)))) (sym (joined k l)) (way_facts.starts_here (on_path s r (suc k)) (path_at.runs (suc k) l)))
        (λ e. let q = once k (suc k) m l e in omega arith)

    path_facts : PathFacts s r
    path_facts = record { some = path_at.some; runs = path_at.runs; joined = joined; next = next; once = once }

    signal_facts : SignalFacts s r
    signal_facts =
        let h = keeps.routes.rule_22 r within_routes in
        record { entry = h.entry; inner = λ k l. h.inner (suc k) l (omega arith); exit = h.exit }

    -- the places of two actions that drive one point
    one_place : (p i k : ℕ) → i < length (route_at s r).actions → k < length (route_at s r).actions → Drives (action_at (route_at s r).actions i) p → Drives (action_at (route_at s r).actions k) p → i ≡ k
    one_place p i k l m a b =
        let h = keeps.routes.rule_23 r within_routes in
        ⊎_elim (λ q. q) (λ o. ⊎_elim (λ q. absurd (h.once k m i q p b a)) (λ q. absurd (h.once i l k q p a b)) o) (cases_order i k)

    driven_at : (p : ℕ) (x : Position) (a : Action) → a ≡ Drive p x → Drives a p
    driven_at p x a e = subst (λ b. Drives b p) (sym e) refl

    side_inside : (p : ℕ) (x y : Position) → Drive p x ≡ Drive p y → x ≡ y
    side_inside p x y e = cc

    one_side : (p : ℕ) (x y : Position) → Contains (route_at s r).actions (Drive p x) → Contains (route_at s r).actions (Drive p y) → x ≡ y
    one_side p x y h g =
        let at_x : action_at (route_at s r).actions h.0 ≡ Drive p x = found_at (route_at s r).actions (Drive p x) h (Set 0) in
        let at_y : action_at (route_at s r).actions g.0 ≡ Drive p y = found_at (route_at s r).actions (Drive p y) g (Set 0) in
        let e = one_place p h.0 g.0 h.1 g.1 (driven_at p x _ at_x) (driven_at p y _ at_y) in
        side_inside p x y (sym at_x ∙ ap (action_at (route_at s r).actions) e ∙ at_y)

    -- a used subroute stands on the path of some route
    guarded : (u : ℕ) → Used s u → Meets s r (segment_of s u) → RequestGuards s (route_at s r).tests u
    guarded u h m =
        let o = h.0 in
        let place = h.2 in
        let e : on_path s o place.0 ≡ u = found_at (path s o) u place 0 in
        subst (RequestGuards s (route_at s r).tests) e (keeps.rule_27 r o within_routes h.1 place.0 place.1 (subst (λ v. Meets s r (segment_of s v)) (sym e) m))

    row_facts : RowFacts s r
    row_facts =
        record {
          request = keeps.routes.rule_23 r within_routes;
          one_side = one_side;
          activation = keeps.routes.rule_24 r within_routes;
          guarded = guarded;
        }

  known : (u : ℕ) → Used s u → u < subroutes s
  known u h = subst (λ v. v < subroutes s) (found_at (path s h.0) u h.2 0) ((keeps.routes.rule_21 h.0 h.1).runs h.2.0 h.2.1)

  frees : (free : Lock → Bool) → Covering s free → (l : Lock) (u : ℕ) → Guards s u l → free l ≡ true → free (Subroute u) ≡ true
  frees free cover (Zone z) u g e = cover z u g e
  frees free cover (Subroute v) u g e = ap (λ w. free (Subroute w)) (sym g) ∙ e

  facts : Consequences s
  facts =
      record {
        ways = way_facts;
        paths = path_facts;
        signals = signal_facts;
        rows = row_facts;
        known = known;
        releases = λ u h. keeps.rule_25 u (known u h) h;
        points = λ p u l h e. keeps.rule_26 p u l (known u h) e h;
        request_frees = λ free cover ts all u g. frees free cover g.lock u g.guard (all g.lock g.tested);
        point_frees = λ free cover ts all u g. frees free cover g.test.free u g.guard (all g.test g.tested);
      }

-- of every station that passes the check
pub consequences : (s : Station) → sound s ≡ true → Consequences s
consequences s e = facts s (sound_keeps s e)
