-- The first breach tells that its things are the first to break their rule and that all lower rules hold; where there is none, all rules hold.
use Rattle.std.proofs.Common.{◌≡◌, ℕ, true, not, is_some, Some, None, Option, refl, subst, arith, MatchOption}
use Rattle.std.specs.Option.{option_map}
use Rattle.firsts.specs.Search.{or_else}
use Rattle.station.specs.Station.{Station}
use Rattle.layout_rules.specs.Sides.{breach_11, Breach11}
use Rattle.layout_rules.specs.Ways.{breach_12, Breach12}
use Rattle.layout_rules.specs.WayPairs.{breach_13, Breach13}
use Rattle.layout_rules.specs.Signals.{breach_14, Breach14}
use Rattle.layout_rules.proofs.Told.{first_11, first_12, first_13, first_14}
use Rattle.route_rules.specs.Path.{breach_21, Breach21}
use Rattle.route_rules.specs.Signals.{breach_22, Breach22}
use Rattle.route_rules.specs.Request.{breach_23, Breach23}
use Rattle.route_rules.specs.Activation.{breach_24, Breach24}
use Rattle.route_rules.proofs.Told.{first_21, first_22, first_23, first_24}
use Rattle.lock_rules.specs.Release.{breach_25, Breach25}
use Rattle.lock_rules.specs.Points.{breach_26, Breach26}
use Rattle.lock_rules.proofs.Told.{first_25, first_26}
use Rattle.conflicts.specs.Conflicts.{breach_27, Breach27}
use Rattle.conflicts.proofs.Told.{first_27}
use Rattle.acceptance.specs.declared.breaches.Breach.{Breach}
use Rattle.acceptance.specs.declared.breaches.Breach.TheVariants.{Joint, Way, Ways, Signal, Path, Signals, Request, Activation, Release, Row, Conflict}
use Rattle.acceptance.specs.Breaches.{by_two, by_three, layout_breach, route_breach, lock_breach, conflict_breach, first_broken}
use Rattle.acceptance.specs.Soundness.{Rule25, Rule26, SoundLayout, SoundRoutes, Sound, sound, FirstBroken}

-- one search after another
chain : {X : Type 0} (P Q : Type 0) (F : X → Type 0) (x y : Option X) → MatchOption x P F → (P → MatchOption y Q F) → MatchOption (or_else x y) Q F
chain P Q F None y h g = g h
chain P Q F (Some b) y h g = h

module _ (s : Station) where
  layout_from : (a b : Option ℕ) (c : Option (ℕ × ℕ)) (d : Option ℕ) → Breach11 s a → Breach12 s b → Breach13 s c → Breach14 s d
      → MatchOption (or_else (option_map Joint a) (or_else (option_map Way b) (or_else (by_two Ways c) (option_map Signal d)))) (SoundLayout s) (FirstBroken s)
  layout_from (Some j) b c d f g h i = f
  layout_from None (Some w) c d f g h i = (f, g)
  layout_from None None (Some q) d f g h i = (f, g, h)
  layout_from None None None (Some x) f g h i = (f, g, h, i)
  layout_from None None None None f g h i = record { rule_11 = f; rule_12 = g; rule_13 = h; rule_14 = i }

  layout_told : MatchOption (layout_breach s) (SoundLayout s) (FirstBroken s)
  layout_told = layout_from (breach_11 s) (breach_12 s) (breach_13 s) (breach_14 s) (first_11 s _ refl) (first_12 s _ refl) (first_13 s _ refl) (first_14 s _ refl)

  routes_from : SoundLayout s → (a b c d : Option ℕ) → Breach21 s a → Breach22 s b → Breach23 s c → Breach24 s d
      → MatchOption (or_else (option_map Path a) (or_else (option_map Signals b) (or_else (option_map Request c) (option_map Activation d)))) (SoundLayout s × SoundRoutes s) (FirstBroken s)
  routes_from l (Some r) b c d f g h i = (l, f)
  routes_from l None (Some r) c d f g h i = (l, f, g)
  routes_from l None None (Some r) d f g h i = (l, f, g, h)
  routes_from l None None None (Some r) f g h i = (l, f, g, h, i)
  routes_from l None None None None f g h i = (l, record { rule_21 = f; rule_22 = g; rule_23 = h; rule_24 = i })

  routes_told : SoundLayout s → MatchOption (route_breach s) (SoundLayout s × SoundRoutes s) (FirstBroken s)
  routes_told l = routes_from l (breach_21 s) (breach_22 s) (breach_23 s) (breach_24 s) (first_21 s _ refl) (first_22 s _ refl) (first_23 s _ refl) (first_24 s _ refl)

  abbrev Locked : Type 0
  Locked = SoundLayout s × SoundRoutes s × Rule25 s × Rule26 s

  locks_from : SoundLayout s × SoundRoutes s → (a : Option ℕ) (b : Option (ℕ × ℕ)) → Breach25 s a → Breach26 s b
      → MatchOption (or_else (option_map Release a) (by_two Row b)) Locked (FirstBroken s)
  locks_from l (Some u) b f g = (l.0, l.1, f)
  locks_from l None (Some q) f g = (l.0, l.1, f, g)
  locks_from l None None f g = (l.0, l.1, f, g)

  locks_told : SoundLayout s × SoundRoutes s → MatchOption (lock_breach s) Locked (FirstBroken s)
  locks_told l = locks_from l (breach_25 s) (breach_26 s) (first_25 s _ refl) (first_26 s _ refl)

  conflict_from : Locked → (a : Option (ℕ × ℕ × ℕ)) → Breach27 s a → MatchOption (by_three Conflict a) (Sound s) (FirstBroken s)
  conflict_from l (Some q) f = (l.0, l.1, l.2, l.3, f)
  conflict_from l None f = record { layout = l.0; routes = l.1; rule_25 = l.2; rule_26 = l.3; rule_27 = f }

  conflict_told : Locked → MatchOption (conflict_breach s) (Sound s) (FirstBroken s)
  conflict_told l = conflict_from l (breach_27 s) (first_27 s)

  -- what the first breach tells
  pub told : MatchOption (first_broken s) (Sound s) (FirstBroken s)
  told =
      chain (SoundLayout s) (Sound s) (FirstBroken s) (layout_breach s) _ layout_told (λ l.
      chain (SoundLayout s × SoundRoutes s) (Sound s) (FirstBroken s) (route_breach s) _ (routes_told l) (λ m.
      chain Locked (Sound s) (FirstBroken s) (lock_breach s) (conflict_breach s) (locks_told m) conflict_told))

  sound_from : (x : Option Breach) → MatchOption x (Sound s) (FirstBroken s) → x ≡ None → Sound s
  sound_from None h e = h
  sound_from (Some b) h e = let z : ◌≡◌ {A = ℕ} 0 1 = cc in absurd (omega arith)

  -- where there is no first breach, all rules hold
  pub sound_none : first_broken s ≡ None → Sound s
  sound_none e = sound_from (first_broken s) told e

  broken_from : (x : Option Breach) (b : Breach) → MatchOption x (Sound s) (FirstBroken s) → x ≡ Some b → FirstBroken s b
  broken_from None b h e = let z : ◌≡◌ {A = ℕ} 0 1 = cc in absurd (omega arith)
  broken_from (Some c) b h e = let p : c ≡ b = cc in subst (FirstBroken s) p h

  pub broken_some : (b : Breach) → first_broken s ≡ Some b → FirstBroken s b
  broken_some b e = broken_from (first_broken s) b told e

none_from : {X : Type 0} (o : Option X) → not (is_some o) ≡ true → o ≡ None
none_from None e = refl
none_from (Some x) e = cc

-- the test of all rules tells that they hold
pub sound_keeps : (s : Station) → sound s ≡ true → Sound s
sound_keeps s e = sound_none s (none_from (first_broken s) e)
