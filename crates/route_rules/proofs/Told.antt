-- The test of each rule of routes tells what the rule says.
use Rattle.std.proofs.Common.{◌≡◌, ℕ, ◌-◌, ◌<◌, List, length, Decides, Contains, Option, sym, refl, subst, arith}
use Rattle.std.proofs.lemmas.Bool.Decides.{Decides-eqb, Decides-ltb, Decides-not, Decides-and, Decides-like}
use Rattle.firsts.proofs.Below.{decides_all_below}
use Rattle.firsts.proofs.Elements.{decides_has, decides_every}
use Rattle.firsts.proofs.Firsts.{breach_is}
use Rattle.station.specs.declared.tests.Position.{Position}
use Rattle.station.specs.declared.tests.RequestTest.{RequestTest}
use Rattle.station.specs.declared.tests.RequestTest.TheVariants.{Unset, Movable}
use Rattle.station.specs.declared.tests.Action.{Action}
use Rattle.station.specs.declared.tests.Action.TheVariants.{Set, Drive, Take}
use Rattle.station.specs.declared.tests.ActivationTest.{ActivationTest}
use Rattle.station.specs.declared.tests.ActivationTest.TheVariants.{Lies, Clear}
use Rattle.station.specs.declared.tables.Setting.{Setting}
use Rattle.station.specs.declared.tables.Beyond.{Beyond}
use Rattle.station.specs.declared.tables.Beyond.TheVariants.{Segment, Outside, BufferStop}
use Rattle.station.specs.Station.{Station}
use Rattle.station.specs.Numbers.{route_at}
use Rattle.station.specs.Subroutes.{subroutes, start, end, segment_of, settings_of}
use Rattle.station.specs.Paths.{path_length, on_path}
use Rattle.station.proofs.Alike.{decides_request, decides_action, decides_activation}
use Rattle.station.proofs.Covers.{decides_where}
use Rattle.station.proofs.Joints.{decides_signalled}
use Rattle.route_rules.specs.Path.{SoundPath, sound_at, sound_path, breach_21, Breach21}
use Rattle.route_rules.specs.Signals.{Into, into, Onward, onward, last_of, past, SoundSignals, sound_signals, breach_22, Breach22}
use Rattle.route_rules.specs.Request.{action_at, Drives, drives, SoundRequest, fits, first_drive, drives_all, sound_request, breach_23, Breach23}
use Rattle.route_rules.specs.Activation.{Asks, asks, SoundActivation, sound_activation, breach_24, Breach24}

-- what rule 21 says of the k-th subroute
record StepSound (s : Station) (r k : ℕ) : Type 0 where
  runs : on_path s r k < subroutes s
  joined : 0 < k → end s (on_path s r (k - 1)) ≡ start s (on_path s r k)
  once : (i : ℕ) → i < k → segment_of s (on_path s r i) ≡ segment_of s (on_path s r k) → ⊥

decides_step : (s : Station) (r k : ℕ) → Decides (sound_at s r k) (StepSound s r k)
decides_step s r k =
    Decides-like (sound_at s r k) (λ p. record { runs = p.0; joined = p.1.0; once = p.1.1 }) (λ h. (h.runs, (h.joined, h.once))) (Decides-and _ _
    (Decides-ltb (on_path s r k) (subroutes s))
    (Decides-and _ _
    (decides_where _ _ (Decides-ltb 0 k) (Decides-eqb (end s (on_path s r (k - 1))) (start s (on_path s r k))))
    (decides_all_below (λ i. segment_of s (on_path s r i) ≡ segment_of s (on_path s r k) → ⊥) (λ i. Decides-not _ (Decides-eqb (segment_of s (on_path s r i)) (segment_of s (on_path s r k)))) k)))

pub decides_path : (s : Station) (r : ℕ) → Decides (sound_path s r) (SoundPath s r)
decides_path s r =
    Decides-like (sound_path s r)
    (λ p. record { some = p.0; runs = λ k l. (p.1 k l).runs; joined = λ k l. (p.1 k l).joined; once = λ k l. (p.1 k l).once })
    (λ h. (h.some, λ k l. record { runs = h.runs k l; joined = h.joined k l; once = h.once k l }))
    (Decides-and _ _ (Decides-ltb 0 (path_length s r)) (decides_all_below (StepSound s r) (decides_step s r) (path_length s r)))

decides_into : (s : Station) (u : ℕ) → Decides (into s u) (Into s u)
decides_into s u = decides_signalled s (start s u) (segment_of s u)

decides_onward : (s : Station) (j : ℕ) (b : Beyond) → Decides (onward s j b) (Onward s j b)
decides_onward s j (Segment t) = decides_signalled s j t
decides_onward s j Outside = (λ e. tt, λ h. refl)
decides_onward s j BufferStop = (λ e. tt, λ h. refl)

pub decides_signals : (s : Station) (r : ℕ) → Decides (sound_signals s r) (SoundSignals s r)
decides_signals s r =
    Decides-like (sound_signals s r) (λ p. record { entry = p.0; inner = p.1.0; exit = p.1.1 }) (λ h. (h.entry, (h.inner, h.exit))) (Decides-and _ _
    (decides_into s (on_path s r 0))
    (Decides-and _ _
    (decides_all_below (λ k. 0 < k → Into s (on_path s r k) → ⊥) (λ k. decides_where _ _ (Decides-ltb 0 k) (Decides-not _ (decides_into s (on_path s r k)))) (path_length s r))
    (decides_onward s (end s (last_of s r)) (past s (last_of s r)))))

decides_drives : (a : Action) (p : ℕ) → Decides (drives a p) (Drives a p)
decides_drives (Set r) p = (λ e. let w : ◌≡◌ {A = ℕ} 0 1 = cc in omega arith, λ h. absurd h)
decides_drives (Drive q x) p = Decides-eqb q p
decides_drives (Take l) p = (λ e. let w : ◌≡◌ {A = ℕ} 0 1 = cc in omega arith, λ h. absurd h)

-- what a fitting action does
abbrev Fits : ℕ → List RequestTest → Action → Type 0
Fits r ts (Set x) = x ≡ r
Fits r ts (Drive p x) = Contains ts (Movable p x)
Fits r ts (Take l) = Unit {0}

decides_fits : (r : ℕ) (ts : List RequestTest) (a : Action) → Decides (fits r ts a) (Fits r ts a)
decides_fits r ts (Set x) = Decides-eqb x r
decides_fits r ts (Drive p x) = decides_has decides_request ts (Movable p x)
decides_fits r ts (Take l) = (λ e. tt, λ h. refl)

every_fits : (r : ℕ) (ts : List RequestTest) (acts : List Action) → ((x : ℕ) → Contains acts (Set x) → x ≡ r) → ((p : ℕ) (x : Position) → Contains acts (Drive p x) → Contains ts (Movable p x)) → (a : Action) → Contains acts a → Fits r ts a
every_fits r ts acts f g (Set x) h = f x h
every_fits r ts acts f g (Drive p x) h = g p x h
every_fits r ts acts f g (Take l) h = tt

abbrev Unshared : List Action → ℕ → Action → Type 0
Unshared acts k a = (i : ℕ) → i < k → (p : ℕ) → Drives a p → Drives (action_at acts i) p → ⊥

decides_first_drive : (acts : List Action) (k : ℕ) (a : Action) → Decides (first_drive acts k a) (Unshared acts k a)
decides_first_drive acts k (Set r) = (λ e i l p h. absurd h, λ h. refl)
decides_first_drive acts k (Drive p x) =
    Decides-like (first_drive acts k (Drive p x))
    (λ f i l q e d. f i l (subst (Drives (action_at acts i)) (sym e) d))
    (λ f i l d. f i l p refl d)
    (decides_all_below (λ i. Drives (action_at acts i) p → ⊥) (λ i. Decides-not _ (decides_drives (action_at acts i) p)) k)
decides_first_drive acts k (Take l) = (λ e i l p h. absurd h, λ h. refl)

decides_driven : (acts : List Action) (xs : List Setting) → Decides (drives_all acts xs) ((x : Setting) → Contains xs x → Contains acts (Drive x.point x.position))
decides_driven acts xs =
    decides_every (λ x. Contains acts (Drive x.point x.position)) (λ x. decides_has decides_action acts (Drive x.point x.position)) xs

pub decides_sound_request : (s : Station) (r : ℕ) → Decides (sound_request s r) (SoundRequest s r)
decides_sound_request s r =
    let ts = (route_at s r).tests in
    let acts = (route_at s r).actions in
    Decides-like (sound_request s r)
    (λ p. record {
      own = p.0.0;
      sets = p.0.1.0;
      only = λ x h. p.0.1.1.0 (Set x) h;
      tested = λ q x h. p.0.1.1.0 (Drive q x) h;
      once = p.0.1.1.1;
      driven = p.1;
    })
    (λ h. ((h.own, (h.sets, (every_fits r ts acts h.only h.tested, h.once))), h.driven))
    (Decides-and _ _
    (Decides-and _ _ (decides_has decides_request ts (Unset r))
    (Decides-and _ _ (decides_has decides_action acts (Set r))
    (Decides-and _ _ (decides_every (Fits r ts) (decides_fits r ts) acts)
    (decides_all_below (λ k. Unshared acts k (action_at acts k)) (λ k. decides_first_drive acts k (action_at acts k)) (length acts)))))
    (decides_all_below (λ k. (x : Setting) → Contains (settings_of s (on_path s r k)) x → Contains acts (Drive x.point x.position)) (λ k. decides_driven acts (settings_of s (on_path s r k))) (path_length s r)))

decides_asks : (s : Station) (ts : List ActivationTest) (u : ℕ) → Decides (asks s ts u) (Asks s ts u)
decides_asks s ts u =
    Decides-like (asks s ts u) (λ p. record { clear = p.0; lie = p.1 }) (λ h. (h.clear, h.lie)) (Decides-and _ _
    (decides_has decides_activation ts (Clear (segment_of s u)))
    (decides_every (λ x. Contains ts (Lies x.point x.position)) (λ x. decides_has decides_activation ts (Lies x.point x.position)) (settings_of s u)))

pub decides_sound_activation : (s : Station) (r : ℕ) → Decides (sound_activation s r) (SoundActivation s r)
decides_sound_activation s r =
    decides_all_below (λ k. Asks s (route_at s r).activation (on_path s r k)) (λ k. decides_asks s (route_at s r).activation (on_path s r k)) (path_length s r)

-- so the first route of which the test fails is the first that breaks the rule
pub first_21 : (s : Station) (r : Option ℕ) → r ≡ breach_21 s → Breach21 s r
first_21 s r e = subst (Breach21 s) (sym e) (breach_is (sound_path s) (SoundPath s) (decides_path s) (length s.routes))

pub first_22 : (s : Station) (r : Option ℕ) → r ≡ breach_22 s → Breach22 s r
first_22 s r e = subst (Breach22 s) (sym e) (breach_is (sound_signals s) (SoundSignals s) (decides_signals s) (length s.routes))

pub first_23 : (s : Station) (r : Option ℕ) → r ≡ breach_23 s → Breach23 s r
first_23 s r e = subst (Breach23 s) (sym e) (breach_is (sound_request s) (SoundRequest s) (decides_sound_request s) (length s.routes))

pub first_24 : (s : Station) (r : Option ℕ) → r ≡ breach_24 s → Breach24 s r
first_24 s r e = subst (Breach24 s) (sym e) (breach_is (sound_activation s) (SoundActivation s) (decides_sound_activation s) (length s.routes))
