-- What the answer of a call tells of its refusal.
use Rattle.std.proofs.Common.{◌≡◌, Bool, true, false, cond, Some, None, Ok, Err, Option, sym, refl, ap}
use Rattle.track.specs.Refusals.{after, answer}
use Rattle.track.specs.declared.refusals.Refusal.{Refusal}
use Rattle.track.specs.declared.refusals.Refusal.TheVariants.{Unknown, Mismatch}

-- a value comes from a call that is not refused
pub granted : {A : Type 0} (R : Option Refusal) (x y : A) → Ok x ≡ answer R y → (R ≡ None) × (x ≡ y)
granted None x y e = (refl, cc)
granted (Some r) x y e = absurd (cc)

pub denied : {A : Type 0} (R : Option Refusal) (e : Refusal) (y : A) → Err e ≡ answer R y → R ≡ Some e
denied None e y h = absurd (cc)
denied (Some r) e y h = cc

-- the first two refusals of every call
abbrev pub guard : Bool → Bool → Option Refusal → Option Refusal
guard a b rest = cond a (cond b rest (Some Unknown)) (Some Mismatch)

pub known : (a b : Bool) → guard a b None ≡ None → (a ≡ true) × (b ≡ true)
known true true e = (refl, refl)
known true false e = absurd (cc)
known false b e = absurd (cc)

-- they come before any other
pub before : (a b : Bool) (rest : Option Refusal) (e : Refusal) → guard a b None ≡ Some e → guard a b rest ≡ Some e
before true true rest e h = absurd (cc)
before true false rest e h = h
before false b rest e h = h

pub passed : (a b : Bool) (rest : Option Refusal) → guard a b None ≡ None → guard a b rest ≡ rest
passed true true rest e = refl
passed true false rest e = absurd (cc)
passed false b rest e = absurd (cc)

pub after_map : {M N : Type 0} (f : M → N) (R : Option Refusal) (m n : M) → f (after R m n) ≡ after R (f m) (f n)
after_map f None m n = refl
after_map f (Some e) m n = refl

-- what a call leaves that is refused, and one that is not
pub unchanged : {M : Type 0} (R : Option Refusal) (e : Refusal) → R ≡ Some e → (x y : M) → x ≡ after R x y
unchanged R e h x y = sym (ap (λ r. after r x y) h)

pub changed : {M : Type 0} (R : Option Refusal) → R ≡ None → (x y : M) → y ≡ after R x y
changed R h x y = sym (ap (λ r. after r x y) h)
