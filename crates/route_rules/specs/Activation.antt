-- Rule 24: a route's activation tests each point of its path as its way says, and each segment clear.
use Rattle.std.specs.Prelude.{ℕ, ◌<◌, Bool, ◌&&◌, List, length, Contains, Option}
use Rattle.firsts.specs.Claims.{all_below, first_failing, FirstBreach}
use Rattle.firsts.specs.Lists.{all, any}
use Rattle.station.specs.declared.tests.ActivationTest.{ActivationTest}
use Rattle.station.specs.declared.tests.ActivationTest.TheVariants.{Lies, Clear}
use Rattle.station.specs.declared.tables.Setting.{Setting}
use Rattle.station.specs.Station.{Station}
use Rattle.station.specs.Numbers.{route_at}
use Rattle.station.specs.Alike.{same_activation}
use Rattle.station.specs.Subroutes.{segment_of, settings_of}
use Rattle.station.specs.Paths.{path_length, on_path}

-- the tests ask for the subroute: its segment clear, and its points as its way says
pub record Asks (s : Station) (ts : List ActivationTest) (u : ℕ) : Type 0 where
  pub clear : Contains ts (Clear (segment_of s u))
  pub lie : (x : Setting) → Contains (settings_of s u) x → Contains ts (Lies x.point x.position)

abbrev pub asks : Station → List ActivationTest → ℕ → Bool
asks s ts u =
    any (same_activation (Clear (segment_of s u))) ts
    && all (λ x. any (same_activation (Lies x.point x.position)) ts) (settings_of s u)

abbrev pub SoundActivation : Station → ℕ → Type 0
SoundActivation s r = (k : ℕ) → k < path_length s r → Asks s (route_at s r).activation (on_path s r k)

abbrev pub sound_activation : Station → ℕ → Bool
sound_activation s r = all_below (λ k. asks s (route_at s r).activation (on_path s r k)) (path_length s r)

-- the first route that breaks the rule
abbrev pub breach_24 : Station → Option ℕ
breach_24 s = first_failing (sound_activation s) (length s.routes)

abbrev pub Breach24 : Station → Option ℕ → Type 0
Breach24 s = FirstBreach (SoundActivation s) (length s.routes)
