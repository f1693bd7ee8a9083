-- A station's lookups as a plan, and what the rules give it.
use Rattle.std.proofs.Common.{◌≡◌, ℕ, suc, ◌+◌, ◌-◌, ◌/◌, ◌%◌, ◌<◌, Bool, true, false, cond, eqb, ◌≢◌, ◌⊎◌, length, Some, None, Option, sym, refl, ap, ◌∙◌, subst, inl, inr, arith, eq-eqb, ne_eqb, eqb-true}
use Rattle.std.specs.Option.{option_map_or}
use Rattle.std.proofs.lemmas.Bool.Decides.{eqb_tells}
use Rattle.std.proofs.lemmas.Option.{cond_some}
use Rattle.firsts.specs.Search.{First}
use Rattle.firsts.proofs.Firsts.{first_is, none_below}
use Rattle.firsts.proofs.Elements.{found_at}
use Rattle.station.specs.Station.{Station}
use Rattle.station.specs.Numbers.{way_at, point_at, signal_at, no_signal}
use Rattle.station.specs.Subroutes.{subroutes, way_of, against, start, end, segment_of, settings_of}
use Rattle.station.specs.Joints.{across, Signalled}
use Rattle.station.specs.Paths.{path_length, on_path}
use Rattle.station.specs.declared.tables.Beyond.{Beyond}
use Rattle.station.specs.declared.tables.Beyond.TheVariants.{Segment, Outside, BufferStop}
use Rattle.station.specs.declared.tests.Position.{Position}
use Rattle.station.proofs.Alike.{decides_signal}
use Rattle.layout_rules.specs.WayPairs.{ShareJoint}
use Rattle.route_rules.specs.Signals.{Onward, last_of, past}
use Rattle.acceptance.specs.Soundness.{Sound}
use Rattle.acceptance.specs.Consequences.{Consequences, Lie}
use Rattle.track.specs.Ways.{governs, governor}
use Rattle.passing.specs.Signals.{signal_of, from_signal}
use Rattle.safety.proofs.Plan.{Plan, Ending, Facts}

-- the subroute that runs the same way in the other direction
abbrev pub back_of : ℕ → ℕ
back_of u = cond (against u) (u - 1) (u + 1)

abbrev pub plan : Station → Plan
plan s =
    record {
      routes = length s.routes;
      subs = subroutes s;
      points = length s.points;
      len = path_length s;
      sub = on_path s;
      seg = segment_of s;
      from = start s;
      to = end s;
      back = back_of;
      settings = settings_of s;
      home = λ p. (point_at s p).home;
      beyond = across s;
      signal = governor s;
      starts = λ r n. from_signal s n r;
    }

found : {X : Type 0} (f : ℕ → Option X) (n : ℕ) (x : X) (r : Option X) → First f n r → r ≡ Some x → (k : ℕ) × (k < n) × (f k ≡ Some x)
found f n x None h e = cc
found f n x (Some y) h e = (h.place, h.within, h.answer ∙ e)

-- the governor of a joint and a segment is declared, and stands there
pub governor_is : (s : Station) (j x n : ℕ) → governor s j x ≡ Some n → (n < length s.signals) × (record { joint = j; segment = x } ≡ signal_at s n)
governor_is s j x n e =
    let w = found (governs s j x) (length s.signals) n (governor s j x) (first_is (governs s j x) (length s.signals)) e in
    let a = cond_some _ w.0 n w.2 in
    let b = (decides_signal (record { joint = j; segment = x }) (signal_at s w.0)).0 a.0 in
    (subst (λ y. y < length s.signals) a.1 w.1, b ∙ ap (signal_at s) a.1)

some_or_none : (o : Option ℕ) → ((n : ℕ) × (o ≡ Some n)) ⊎ (o ≡ None)
some_or_none None = inr refl
some_or_none (Some n) = inl (n, refl)

-- where a signal stands there is a governor
pub governed : (s : Station) (j x : ℕ) → Signalled s j x → (n : ℕ) × (governor s j x ≡ Some n)
governed s j x h = elim (some_or_none (governor s j x)) [ inl a ↦ a | inr a ↦ absurd (missing a) ]
  where
    missing : governor s j x ≡ None → ⊥
    missing e =
        let k = h.0 in
        let a : signal_at s k ≡ record { joint = j; segment = x } = found_at s.signals (record { joint = j; segment = x }) h no_signal in
        let b = (decides_signal (record { joint = j; segment = x }) (signal_at s k)).1 (sym a) in
        let c : cond true (Some k) None ≡ None = rw b at (none_below (governs s j x) (length s.signals) e k h.1) in
        cc

pub is_the_number : (o : Option ℕ) (n : ℕ) → option_map_or (λ k. eqb k n) o false ≡ true → o ≡ Some n
is_the_number None n e = cc
is_the_number (Some k) n e = ap Some (eqb-true k n e)

module _ (s : Station) (keeps : Sound s) (facts : Consequences s) where
  one_signal : (j x k y n : ℕ) → governor s j x ≡ Some n → governor s k y ≡ Some n → (j ≡ k) × (x ≡ y)
  one_signal j x k y n a b =
      let p = (governor_is s j x n a).1 in
      let q = (governor_is s k y n b).1 in
      (ap (λ z. z.joint) (p ∙ sym q), ap (λ z. z.segment) (p ∙ sym q))

  ending : (j : ℕ) (x : Beyond) → Onward s j x → (x ≡ Outside) ⊎ ((x ≡ BufferStop) ⊎ ((y : ℕ) × (n : ℕ) × (x ≡ Segment y) × (governor s j y ≡ Some n)))
  ending j (Segment y) h = let w = governed s j y h in inr (inr (y, w.0, refl, w.1))
  ending j Outside h = inl refl
  ending j BufferStop h = inr (inl refl)

  ends : (r i : ℕ) → r < length s.routes → suc i ≡ path_length s r → Ending (plan s) (on_path s r i)
  ends r i hr e =
      let k : path_length s r - 1 ≡ i = omega arith in
      subst (λ y. Ending (plan s) (on_path s r y)) k (ending (end s (last_of s r)) (past s (last_of s r)) (facts.signals r hr).exit)

  half : (u : ℕ) → u < subroutes s → u / 2 < length s.ways
  half u h = omega arith

  -- the other direction runs the same way
  back_half : (u : ℕ) → (back_of u / 2 ≡ u / 2) × (against (back_of u) ≡ cond (against u) false true)
  back_half u = elim (eqb_tells (u % 2) 1) [ inl a ↦ odd a.0 a.1 | inr a ↦ even a.0 a.1 ]
    where
      odd : against u ≡ true → u % 2 ≡ 1 → (back_of u / 2 ≡ u / 2) × (against (back_of u) ≡ cond (against u) false true)
      odd d e =
          let x : (u - 1) / 2 ≡ u / 2 = omega arith in
          let y : (u - 1) % 2 ≢ 1 = omega arith in
          rw d (x, ne_eqb ((u - 1) % 2) 1 y)

      even : against u ≡ false → u % 2 ≢ 1 → (back_of u / 2 ≡ u / 2) × (against (back_of u) ≡ cond (against u) false true)
      even d e =
          let x : (u + 1) / 2 ≡ u / 2 = omega arith in
          let y : (u + 1) % 2 ≡ 1 = omega arith in
          rw d (x, eq-eqb ((u + 1) % 2) 1 y)

  back_from : (u : ℕ) → start s (back_of u) ≡ end s u
  back_from u =
      let h = back_half u in
      rw (h.1, h.0) (elim (against u) as (λ d. cond (cond d false true) (way_of s u).to (way_of s u).from ≡ cond d (way_of s u).from (way_of s u).to) [ true ↦ refl | false ↦ refl ])

  back_to : (u : ℕ) → end s (back_of u) ≡ start s u
  back_to u =
      let h = back_half u in
      rw (h.1, h.0) (elim (against u) as (λ d. cond (cond d false true) (way_of s u).from (way_of s u).to ≡ cond d (way_of s u).to (way_of s u).from) [ true ↦ refl | false ↦ refl ])

  back_known : (u : ℕ) → u < subroutes s → back_of u < subroutes s
  back_known u h = let w = (back_half u).0 in omega arith

  shared : (v w : ℕ) → start s v ≡ start s w → ShareJoint (way_of s v) (way_of s w)
  shared v w e = go (against v) (against w) e
    where
      go : (x y : Bool) → cond x (way_of s v).to (way_of s v).from ≡ cond y (way_of s w).to (way_of s w).from → ShareJoint (way_of s v) (way_of s w)
      go true true e = inr (inr e)
      go true false e = inr (inl e)
      go false true e = inl (inr e)
      go false false e = inl (inl e)

  -- one way at one joint has one direction
  one_direction : (v w : ℕ) → w < subroutes s → v / 2 ≡ w / 2 → start s v ≡ start s w → v ≡ w
  one_direction v w hw e ef = go (eqb_tells (v % 2) 1) (eqb_tells (w % 2) 1)
    where
      ew : way_of s v ≡ way_of s w
      ew = ap (way_at s) e

      apart : (way_of s w).from ≡ (way_of s w).to → ⊥
      apart = (keeps.layout.rule_12 (w / 2) (half w hw)).apart

      go : ((eqb (v % 2) 1 ≡ true) × (v % 2 ≡ 1)) ⊎ ((eqb (v % 2) 1 ≡ false) × (v % 2 ≡ 1 → ⊥)) → ((eqb (w % 2) 1 ≡ true) × (w % 2 ≡ 1)) ⊎ ((eqb (w % 2) 1 ≡ false) × (w % 2 ≡ 1 → ⊥)) → v ≡ w
      go (inl a) (inl b) = let x = a.1 in let y = b.1 in omega arith
      go (inr a) (inr b) = let x : v % 2 ≢ 1 = a.1 in let y : w % 2 ≢ 1 = b.1 in omega arith
      go (inl a) (inr b) = absurd (apart (let f : (way_of s v).to ≡ (way_of s w).from = rw (a.0, b.0) at ef in sym f ∙ ap (λ y. y.to) ew))
      go (inr a) (inl b) = absurd (apart (let f : (way_of s v).from ≡ (way_of s w).to = rw (a.0, b.0) at ef in ap (λ y. y.from) (sym ew) ∙ f))

  one_way : (v w : ℕ) → v < subroutes s → w < subroutes s → segment_of s v ≡ segment_of s w → start s v ≡ start s w → (at : ℕ → Position) → Lie at (settings_of s v) → Lie at (settings_of s w) → v ≡ w
  one_way v w hv hw es ef at lv lw =
      one_direction v w hw (facts.ways.one_way (v / 2) (w / 2) (half v hv) (half w hw) es (shared v w ef) at lv lw) ef

  -- What the proof needs to know of a station follows from the rules.
  pub known_facts : Facts (plan s)
  known_facts =
      record {
        some_path = λ r hr. (facts.paths r hr).some;
        known = λ r i hr hi. (facts.paths r hr).runs i hi;
        joined = λ r i hr hi. (facts.paths r hr).joined i hi;
        next_segment = λ r i hr hi. (facts.paths r hr).next i hi;
        ends = ends;
        first_signal = λ r n hr e. is_the_number (signal_of s r) n e;
        one_signal = one_signal;
        one_way = one_way;
        back_known = back_known;
        back_seg = λ v. ap (λ n. (way_at s n).segment) (back_half v).0;
        back_from = back_from;
        back_to = back_to;
        back_settings = λ v. ap (λ n. (way_at s n).settings) (back_half v).0;
        names = λ v p hv h. (keeps.layout.rule_12 (v / 2) (half v hv)).each p h.0 h.1;
        own = λ v x hv h. (keeps.layout.rule_12 (v / 2) (half v hv)).own x h;
      }
