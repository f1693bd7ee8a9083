-- Rule 27: of every two routes, a route and itself too, the request of the one tests free each subroute of the other that lies in a common segment, or a zone that covers it.
use Rattle.std.specs.Prelude.{◌≡◌, ℕ, ◌<◌, Bool, cond, not, ◌&&◌, length, Some, None, Option, MatchOption, nat_eq}
use Rattle.firsts.specs.Claims.{any_below, paired}
use Rattle.firsts.specs.Least.{least_below}
use Rattle.firsts.specs.Search.{first_below}
use Rattle.station.specs.Station.{Station}
use Rattle.station.specs.Numbers.{route_at}
use Rattle.station.specs.Subroutes.{segment_of}
use Rattle.station.specs.Paths.{path_length, on_path}
use Rattle.station.specs.Covers.{request_guards, RequestGuards}

-- the route's path comes into the segment
abbrev pub Meets : Station → ℕ → ℕ → Type 0
Meets s r t = (k : ℕ) × (k < path_length s r) × (segment_of s (on_path s r k) ≡ t)

abbrev pub meets : Station → ℕ → ℕ → Bool
meets s r t = any_below (λ k. nat_eq (segment_of s (on_path s r k)) t) (path_length s r)

-- the rule, of the route r and the other route o
abbrev pub Kept27 : Station → ℕ → ℕ → Type 0
Kept27 s r o =
    (k : ℕ) → k < path_length s o → Meets s r (segment_of s (on_path s o k)) → RequestGuards s (route_at s r).tests (on_path s o k)

-- the k-th subroute of o lies in the segment t, which is common, and r's request leaves it open
pub record ExposedAt (s : Station) (r o k t : ℕ) : Type 0 where
  pub here : segment_of s (on_path s o k) ≡ t
  pub common : Meets s r t
  pub unguarded : RequestGuards s (route_at s r).tests (on_path s o k) → ⊥

abbrev pub Exposed : Station → ℕ → ℕ → ℕ → Type 0
Exposed s r o t = (k : ℕ) × (k < path_length s o) × ExposedAt s r o k t

-- the first route and other route that break the rule, and the lowest segment in which they do
pub record FirstConflict (s : Station) (q : ℕ × ℕ × ℕ) : Type 0 where
  pub within : q.0 < length s.routes
  pub inside : q.1 < length s.routes
  pub exposed : Exposed s q.0 q.1 q.2
  pub lowest : (t : ℕ) → t < q.2 → Exposed s q.0 q.1 t → ⊥
  pub beside : (o : ℕ) → o < q.1 → Kept27 s q.0 o
  pub before : (r o : ℕ) → r < q.0 → o < length s.routes → Kept27 s r o

abbrev pub Breach27 : Station → Option (ℕ × ℕ × ℕ) → Type 0
Breach27 s x = MatchOption x ((r o : ℕ) → r < length s.routes → o < length s.routes → Kept27 s r o) (FirstConflict s)

-- the segment of the k-th subroute of o, where it breaks the rule
abbrev pub open_at : Station → ℕ → ℕ → ℕ → Option ℕ
open_at s r o k =
    cond (meets s r (segment_of s (on_path s o k)) && not (request_guards s (route_at s r).tests (on_path s o k)))
    (Some (segment_of s (on_path s o k))) None

-- the lowest such segment
abbrev pub lowest_open : Station → ℕ → ℕ → Option ℕ
lowest_open s r o = least_below (open_at s r o) (path_length s o)

-- the first other route with such a segment
abbrev pub first_other : Station → ℕ → Option (ℕ × ℕ)
first_other s r = first_below (λ o. paired o (lowest_open s r o)) (length s.routes)

abbrev pub tripled : ℕ → Option (ℕ × ℕ) → Option (ℕ × ℕ × ℕ)
tripled r None = None
tripled r (Some q) = Some (r, q.0, q.1)

-- the first route that breaks the rule, with the other and the segment
abbrev pub breach_27 : Station → Option (ℕ × ℕ × ℕ)
breach_27 s = first_below (λ r. tripled r (first_other s r)) (length s.routes)
