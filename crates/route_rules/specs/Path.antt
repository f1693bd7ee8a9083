-- Rule 21: a route's path has a subroute, each runs a way and is joined to the one before it, and no segment comes twice.
use Rattle.std.specs.Prelude.{◌≡◌, ℕ, ◌-◌, ◌<◌, Bool, true, cond, not, ◌&&◌, length, Option, ◌==◌, ◌≢◌, nat_lt}
use Rattle.firsts.specs.Claims.{all_below, first_failing, FirstBreach}
use Rattle.station.specs.Station.{Station}
use Rattle.station.specs.Subroutes.{subroutes, start, end, segment_of}
use Rattle.station.specs.Paths.{path_length, on_path}

pub record SoundPath (s : Station) (r : ℕ) : Type 0 where
  pub some : 0 < path_length s r
  pub runs : (k : ℕ) → k < path_length s r → on_path s r k < subroutes s
  pub joined : (k : ℕ) → k < path_length s r → 0 < k → end s (on_path s r (k - 1)) ≡ start s (on_path s r k)
  pub once : (k : ℕ) → k < path_length s r → (i : ℕ) → i < k → segment_of s (on_path s r i) ≢ segment_of s (on_path s r k)

-- the k-th subroute is joined to the one before it
abbrev pub joined_at : Station → ℕ → ℕ → Bool
joined_at s r k = cond (nat_lt 0 k) (end s (on_path s r (k - 1)) == start s (on_path s r k)) true

-- its segment did not come before
abbrev pub fresh_at : Station → ℕ → ℕ → Bool
fresh_at s r k = all_below (λ i. not (segment_of s (on_path s r i) == segment_of s (on_path s r k))) k

abbrev pub sound_at : Station → ℕ → ℕ → Bool
sound_at s r k = nat_lt (on_path s r k) (subroutes s) && (joined_at s r k && fresh_at s r k)

abbrev pub sound_path : Station → ℕ → Bool
sound_path s r = nat_lt 0 (path_length s r) && all_below (sound_at s r) (path_length s r)

-- the first route that breaks the rule
abbrev pub breach_21 : Station → Option ℕ
breach_21 s = first_failing (sound_path s) (length s.routes)

abbrev pub Breach21 : Station → Option ℕ → Type 0
Breach21 s = FirstBreach (SoundPath s) (length s.routes)
