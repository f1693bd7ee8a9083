-- A word chooses a state exactly when it is the state's word and the state is among those to choose from.
use Rattle.std.proofs.Common.{◌≡◌, ℕ, Bool, true, false, cond, ◌⊎◌, List, [], ◌∷◌, Some, codes, sym, refl, ap, ◌∙◌, inl, inr, arith}
use Rattle.std.specs.Str.{bytes_eq}
use Rattle.std.proofs.lemmas.Slice.Eq.{bytes_eq-Decides}
use Rattle.std.proofs.lemmas.Bool.{both_ways}
use Rattle.std.proofs.lemmas.Bool.Decides.{nat_tests}
use Rattle.forms.specs.declared.states.State.{State}
use Rattle.forms.specs.declared.states.State.TheVariants.{Xs, Cfn, Cfr, S, Cn, Cr, N, R, F, L, C}
use Rattle.forms.specs.States.{state_word}
use Rattle.forms.specs.Lists.{admits, picked}
use Rattle.writing.specs.Forms.{Among}

-- the state that a word writes
abbrev state_at : List ℕ → State
state_at w =
    cond (bytes_eq w (codes "xs")) Xs
    (cond (bytes_eq w (codes "cfn")) Cfn
    (cond (bytes_eq w (codes "cfr")) Cfr
    (cond (bytes_eq w (codes "s")) S
    (cond (bytes_eq w (codes "cn")) Cn
    (cond (bytes_eq w (codes "cr")) Cr
    (cond (bytes_eq w (codes "n")) N
    (cond (bytes_eq w (codes "r")) R
    (cond (bytes_eq w (codes "f")) F
    (cond (bytes_eq w (codes "l")) L C)))))))))

-- the word of a state writes it
state_back : (s : State) → state_at (state_word s) ≡ s
state_back Xs = refl
state_back Cfn = refl
state_back Cfr = refl
state_back S = refl
state_back Cn = refl
state_back Cr = refl
state_back N = refl
state_back R = refl
state_back F = refl
state_back L = refl
state_back C = refl

-- different states have different words
words_differ : (s t : State) → state_word s ≡ state_word t → s ≡ t
words_differ s t e = sym (state_back s) ∙ ap state_at e ∙ state_back t

-- a word that chooses a state writes it
pub picked_sound : (c : List State) (w : List ℕ) (x : State) → picked c w ≡ Some x → (w ≡ state_word x) × Among c x
picked_sound [] w x e = let z : ◌≡◌ {A = ℕ} 0 1 = cc in absurd (omega arith)
picked_sound (s ∷ c) w x e = by _ refl e (picked_sound c w x)
  where
    by : (b : Bool) → bytes_eq w (state_word s) ≡ b → cond b (Some s) (picked c w) ≡ Some x → (picked c w ≡ Some x → (w ≡ state_word x) × Among c x) → (w ≡ state_word x) × Among (s ∷ c) x
    by false t f ih = let h = ih f in (h.0, inr h.1)
    by true t f ih = let g : s ≡ x = cc in ((bytes_eq-Decides _ _).0 t ∙ ap state_word g, inl (sym g))

-- a state among those to choose from is chosen by its word
pub picked_is : (c : List State) (x : State) → Among c x → picked c (state_word x) ≡ Some x
picked_is [] x h = absurd h
picked_is (s ∷ c) x h = by _ refl h (picked_is c x)
  where
    by : (b : Bool) → bytes_eq (state_word x) (state_word s) ≡ b → (x ≡ s) ⊎ Among c x → (Among c x → picked c (state_word x) ≡ Some x) → cond b (Some s) (picked c (state_word x)) ≡ Some x
    by true t h ih = ap Some (sym (words_differ x s ((bytes_eq-Decides _ _).0 t)))
    by false t (inl e) ih = absurd (both_ways _ t ((bytes_eq-Decides _ _).1 (ap state_word e)))
    by false t (inr h) ih = ih h

-- a choice with something to choose admits its thing
pub among_admits : (c : List State) (x : State) → Among c x → admits c ≡ true
among_admits [] x h = absurd h
among_admits (s ∷ c) x h = grind (arith, nat_tests)
