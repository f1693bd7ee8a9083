-- What the proof needs to know of a station, by number: paths, subroutes, signals and home points.
use Rattle.std.proofs.Common.{◌≡◌, ℕ, suc, ◌<◌, Bool, true, ◌⊎◌, List, Some, Contains, Option}
use Rattle.station.specs.declared.tests.Position.{Position}
use Rattle.station.specs.declared.tables.Beyond.{Beyond}
use Rattle.station.specs.declared.tables.Beyond.TheVariants.{Segment, Outside, BufferStop}
use Rattle.station.specs.declared.tables.Setting.{Setting}
use Rattle.layout_rules.specs.Ways.{Names}
use Rattle.acceptance.specs.Consequences.{Lie}

-- A route's path is `sub r 0` to `sub r (len r - 1)`; `back v` runs the way of v the other way; `signal j x` governs entering x over j.
pub record Plan : Type 0 where
  pub routes : ℕ
  pub subs : ℕ
  pub points : ℕ
  pub len : ℕ → ℕ
  pub sub : ℕ → ℕ → ℕ
  pub seg : ℕ → ℕ
  pub from : ℕ → ℕ
  pub to : ℕ → ℕ
  pub back : ℕ → ℕ
  pub settings : ℕ → List Setting
  pub home : ℕ → ℕ
  pub beyond : ℕ → ℕ → Beyond
  pub signal : ℕ → ℕ → Option ℕ
  pub starts : ℕ → ℕ → Bool

-- the point is declared, and the segment is its home
abbrev pub Home : Plan → ℕ → ℕ → Type 0
Home S p x = (p < S.points) × (S.home p ≡ x)

-- what ends a path: outside, a buffer stop, or a signal onward
abbrev pub Ending : Plan → ℕ → Type 0
Ending S u =
    (S.beyond (S.to u) (S.seg u) ≡ Outside) ⊎ ((S.beyond (S.to u) (S.seg u) ≡ BufferStop) ⊎ ((x : ℕ) × (n : ℕ) × (S.beyond (S.to u) (S.seg u) ≡ Segment x) × (S.signal (S.to u) x ≡ Some n)))

-- what the rules give
pub record Facts (S : Plan) : Type 0 where
  pub some_path : (r : ℕ) → r < S.routes → 0 < S.len r
  pub known : (r i : ℕ) → r < S.routes → i < S.len r → S.sub r i < S.subs
  pub joined : (r i : ℕ) → r < S.routes → suc i < S.len r → S.to (S.sub r i) ≡ S.from (S.sub r (suc i))
  pub next_segment : (r i : ℕ) → r < S.routes → suc i < S.len r → S.beyond (S.to (S.sub r i)) (S.seg (S.sub r i)) ≡ Segment (S.seg (S.sub r (suc i)))
  pub ends : (r i : ℕ) → r < S.routes → suc i ≡ S.len r → Ending S (S.sub r i)
  pub first_signal : (r n : ℕ) → r < S.routes → S.starts r n ≡ true → S.signal (S.from (S.sub r 0)) (S.seg (S.sub r 0)) ≡ Some n
  pub one_signal : (j x k y n : ℕ) → S.signal j x ≡ Some n → S.signal k y ≡ Some n → (j ≡ k) × (x ≡ y)
  pub one_way : (v w : ℕ) → v < S.subs → w < S.subs → S.seg v ≡ S.seg w → S.from v ≡ S.from w → (at : ℕ → Position) → Lie at (S.settings v) → Lie at (S.settings w) → v ≡ w
  pub back_known : (v : ℕ) → v < S.subs → S.back v < S.subs
  pub back_seg : (v : ℕ) → S.seg (S.back v) ≡ S.seg v
  pub back_from : (v : ℕ) → S.from (S.back v) ≡ S.to v
  pub back_to : (v : ℕ) → S.to (S.back v) ≡ S.from v
  pub back_settings : (v : ℕ) → S.settings (S.back v) ≡ S.settings v
  pub names : (v p : ℕ) → v < S.subs → Home S p (S.seg v) → Names (S.settings v) p
  pub own : (v : ℕ) (x : Setting) → v < S.subs → Contains (S.settings v) x → Home S x.point (S.seg v)
