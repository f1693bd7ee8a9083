-- Which words are names, and which name a word of a given form has.
use Rattle.std.specs.Prelude.{ℕ, ◌-◌, Bool, cond, not, ◌&&◌, List, length, take, drop, Some, None, codes, Option, ◌==◌, nat_le, nat_lt, slice_index}
use Rattle.std.specs.Borrow.{Bor}
use Rattle.std.specs.List.{list_all, prefix_len}
use Rattle.std.specs.Str.{bytes_eq}
use Rattle.text.specs.Octets.{plain, naming}

-- 1 to 8 letters, digits or `_`
abbrev pub is_name : List ℕ → Bool
is_name w = nat_lt 0 (length w) && (nat_le (length w) 8 && list_all naming w)

-- 1 to 6 letters or digits, neither OUT nor END
abbrev pub is_joint : List ℕ → Bool
is_joint w =
    nat_lt 0 (length w)
    && (nat_le (length w) 6
    && (list_all plain w && (not (bytes_eq w (codes "OUT")) && not (bytes_eq w (codes "END")))))

-- what follows a front
abbrev pub after : List ℕ → List ℕ → Option (List ℕ)
after front w = cond (bytes_eq (take (length front) w) front) (Some (drop (length front) w)) None

-- what comes before a last octet
abbrev pub before : ℕ → List ℕ → Option (List ℕ)
before last w =
    cond (nat_lt 0 (length w)) (cond (slice_index w (length w - 1) == last) (Some (take (length w - 1) w)) None) None

-- only where a test holds
abbrev pub when : (List ℕ → Bool) → Option (List ℕ) → Option (List ℕ)
when test None = None
when test (Some x) = cond (test x) (Some x) None

abbrev pub then_after : List ℕ → Option (List ℕ) → Option (List ℕ)
then_after front None = None
then_after front (Some w) = after front w

-- the front and a name
abbrev pub prefixed : List ℕ → List ℕ → Option (List ℕ)
prefixed front w = when is_name (after front w)

-- the front, a name and a last octet
abbrev pub bracketed : List ℕ → ℕ → List ℕ → Option (List ℕ)
bracketed front last w = when is_name (then_after front (before last w))

abbrev pub if_joints : List ℕ → Option (List ℕ) → Option (List ℕ × List ℕ)
if_joints a None = None
if_joints a (Some b) = cond (is_joint a) (cond (is_joint b) (Some (a, b)) None) None

-- two joints with `_`, which no joint's name has, between them
abbrev pub two_joints : List ℕ → Option (List ℕ × List ℕ)
two_joints x = if_joints (take (prefix_len plain x) x) (after (codes "_") (drop (prefix_len plain x) x))

abbrev pub then_joints : Option (List ℕ) → Option (List ℕ × List ℕ)
then_joints None = None
then_joints (Some x) = two_joints x

-- the front, and two joints
abbrev pub joined : List ℕ → List ℕ → Option (List ℕ × List ℕ)
joined front w = then_joints (after front w)

abbrev pub both : Bor (List ℕ) × Bor (List ℕ) → List ℕ × List ℕ
both p = (p.0.now, p.1.now)
