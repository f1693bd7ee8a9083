-- A text has these tokens exactly when it is made of them and of blanks.
use Rattle.std.proofs.Common.{◌≡◌, ℕ, ◌+◌, ◌≤◌, true, List, [], ◌++◌, length, take, drop, Some, None, Ok, Err, Option, Result, sym, refl, ap, ◌∙◌, subst, append-nil, arith}
use Rattle.std.specs.List.{prefix_len}
use Rattle.std.proofs.lemmas.List.{length-append, length-drop, length-take-le, take-append-drop, take_all, drop-drop, drop_at, drop_all}
use Rattle.std.proofs.lemmas.List.Sums.{prefix_len-le-length}
use Rattle.text.specs.declared.faults.WordFault.{WordFault}
use Rattle.text.specs.Octets.{blank}
use Rattle.text.specs.Tokens.{Item, next_place}
use Rattle.text.specs.Ahead.{Ahead, ends, spoilt, token, follow, tokens_from}
use Rattle.text.proofs.Steps.{tokens_step}
use Rattle.writing.specs.Texts.{only, octets_of, offset_of, Sets, Sound}
use Rattle.writing.proofs.Runs.{leading_run, leading_none, only_take, stops_after}
use Rattle.writing.proofs.Tokens.{token_on, width, token_at_is, end_at_is}
use Rattle.writing.proofs.Fronts.{none_on, found, seen}

-- the tokens end where there is none
follow_ends : (o : Result (Option Item) WordFault) (n m : ℕ) (rest : Ahead) → follow o n rest ≡ ends m → (o ≡ Ok None) × (m ≡ n)
follow_ends (Ok None) n m rest e = let f : n ≡ m = cc in (refl, sym f)
follow_ends (Ok (Some x)) n m rest e = let z : ◌≡◌ {A = ℕ} 0 1 = cc in absurd (omega arith)
follow_ends (Err g) n m rest e = let z : ◌≡◌ {A = ℕ} 0 1 = cc in absurd (omega arith)

-- the first token and those behind it
follow_token : (o : Result (Option Item) WordFault) (n : ℕ) (rest : Ahead) (x : Item) (ts : Ahead) → follow o n rest ≡ token x ts → (o ≡ Ok (Some x)) × (rest ≡ ts)
follow_token (Ok None) n rest x ts e = let z : ◌≡◌ {A = ℕ} 0 1 = cc in absurd (omega arith)
follow_token (Ok (Some y)) n rest x ts e = let f : y ≡ x = cc in let g : rest ≡ ts = cc in (ap (λ z. Ok (Some z)) f, g)
follow_token (Err g) n rest x ts e = let z : ◌≡◌ {A = ℕ} 0 1 = cc in absurd (omega arith)

module _ (t : List ℕ) where
  -- the token at the front of what is left past the blanks, and those after it
  abbrev from_front : ℕ → List ℕ → Ahead
  from_front i v = follow (token_on i v) (length t) (tokens_from t (i + width v))

  -- the tokens from a place are that of the front and those behind it
  front_step : (p : ℕ) (u : List ℕ) → drop p t ≡ u → tokens_from t p ≡ from_front (p + prefix_len blank u) (drop (prefix_len blank u) u)
  front_step p u d =
      let i : ℕ = p + prefix_len blank (drop p t) in
      let v : List ℕ = drop (prefix_len blank (drop p t)) (drop p t) in
      let e : drop i t ≡ v = sym (drop-drop (prefix_len blank (drop p t)) p t) in
      subst (λ y. tokens_from t p ≡ from_front (p + prefix_len blank y) (drop (prefix_len blank y) y)) d
      (
      tokens_step t p
      ∙ ap (λ o. follow o (length t) (tokens_from t (next_place t p))) (token_at_is t i v e)
      ∙ ap (λ n. follow (token_on i v) (length t) (tokens_from t n)) (end_at_is t i v e)
      )

  -- where there is no token there are only blanks
  end_set : (p : ℕ) (u : List ℕ) (n : ℕ) → drop p t ≡ u → p ≤ length t → tokens_from t p ≡ ends n → Sets p u (ends n)
  end_set p u n d l e =
      let g : ℕ = prefix_len blank u in
      let f = follow_ends (token_on (p + g) (drop g u)) (length t) n (tokens_from t (p + g + width (drop g u))) (sym (front_step p u d) ∙ e) in
      let m : length (drop (prefix_len blank u) u) ≡ 0 = ap length (none_on (p + g) (drop g u) f.0) in
      let k = length-drop (prefix_len blank u) u in
      let h : length u ≤ prefix_len blank u = omega arith in
      let a : length (drop p t) ≡ length u = ap length d in
      let b = length-drop p t in
      let c = f.1 in
      (subst (λ y. only blank y ≡ true) (take_all g u h) (only_take blank g u (omega arith)), omega arith)

  -- where the next token begins, past one that is set here
  behind_is : (p i : ℕ) (u v oct behind : List ℕ) → drop p t ≡ u → drop i t ≡ v → v ≡ oct ++ behind → drop (i + length oct) t ≡ behind
  behind_is p i u v oct behind d e f = sym (drop-drop (length oct) i t) ∙ ap (drop (length oct)) (e ∙ f) ∙ drop_at oct behind (length oct) refl

  -- the tokens of a text are set in it
  pub sets_sound : (ts : Ahead) (p : ℕ) (u : List ℕ) → drop p t ≡ u → p ≤ length t → tokens_from t p ≡ ts → Sound ts → Sets p u ts
  sets_sound (ends n) p u d l e s = end_set p u n d l e
  sets_sound (spoilt n i) p u d l e s = absurd s
  sets_sound (token x ts) p u d l e s =
      let g : ℕ = prefix_len blank u in
      let v : List ℕ = drop g u in
      let i : ℕ = p + g in
      let f = follow_token (token_on i v) (length t) (tokens_from t (i + width v)) x ts (sym (front_step p u d) ∙ e) in
      let k = found i v x (stops_after blank u) f.0 in
      let behind : List ℕ = k.0 in
      let oct : List ℕ = octets_of x in
      let long : length (take (prefix_len blank u) u) ≡ prefix_len blank u = length-take-le g u (prefix_len-le-length blank u) in
      let all : u ≡ take g u ++ (oct ++ behind) = sym (take-append-drop g u) ∙ ap (λ y. take g u ++ y) k.1 in
      let at : offset_of x ≡ p + prefix_len blank u = k.2 in
      let wide : width v ≡ length (octets_of x) = k.4 in
      let here : drop i t ≡ v = sym (drop-drop g p t) ∙ ap (drop g) d in
      let next : offset_of x + length (octets_of x) ≡ i + width v = ap (λ n. n + length (octets_of x)) at ∙ ap (λ n. i + n) (sym wide) in
      let rest : drop (offset_of x + length (octets_of x)) t ≡ behind =
      ap (λ n. drop (n + length (octets_of x)) t) at ∙ behind_is p i u v oct behind d here k.1 in
      let la : length u ≡ length (take (prefix_len blank u) u) + (length (octets_of x) + length k.0) =
      ap length all ∙ length-append (take g u) (oct ++ behind) ∙ ap (λ n. length (take g u) + n) (length-append oct behind) in
      let lb : length (drop p t) ≡ length u = ap length d in
      let lc = length-drop p t in
      let within : offset_of x + length (octets_of x) ≤ length t = omega arith in (
        take g u,
        behind,
        all,
        only_take blank g u (omega arith),
        at ∙ ap (λ n. p + n) (sym long),
        k.3,
        sets_sound ts (offset_of x + length (octets_of x)) behind rest within (ap (tokens_from t) next ∙ f.1) s,
      )

  -- tokens that are set in a text are its tokens
  pub sets_is : (ts : Ahead) (p : ℕ) (u : List ℕ) → drop p t ≡ u → p ≤ length t → Sets p u ts → tokens_from t p ≡ ts
  sets_is (ends n) p u d l s =
      let r : prefix_len blank (u ++ []) ≡ length u + 0 = leading_run blank u [] s.0 in
      let g : prefix_len blank u ≡ length u + 0 = ap (prefix_len blank) (sym (append-nil u)) ∙ r in
      let h : length u ≤ prefix_len blank u = omega arith in
      let a : length (drop p t) ≡ length u = ap length d in
      let b = length-drop p t in
      let c = s.1 in
      let m : length t ≡ n = omega arith in
      front_step p u d ∙ ap (from_front (p + prefix_len blank u)) (drop_all (prefix_len blank u) u h) ∙ ap ends m
  sets_is (spoilt n i) p u d l s = absurd s
  sets_is (token x ts) p u d l s =
      let gap : List ℕ = s.0 in
      let behind : List ℕ = s.1 in
      let oct : List ℕ = octets_of x in
      let k = seen x behind s.5 in
      let run : prefix_len blank (s.0 ++ (octets_of x ++ s.1)) ≡ length s.0 + prefix_len blank (octets_of x ++ s.1) = leading_run blank gap (oct ++ behind) s.3 in
      let none : prefix_len blank (octets_of x ++ s.1) ≡ 0 = leading_none blank (oct ++ behind) k.2 in
      let front : prefix_len blank u ≡ prefix_len blank (s.0 ++ (octets_of x ++ s.1)) = ap (prefix_len blank) s.2 in
      let g : prefix_len blank u ≡ length s.0 = omega arith in
      let at : offset_of x ≡ p + length s.0 = s.4 in
      let i : p + prefix_len blank u ≡ offset_of x = omega arith in
      let v : drop (prefix_len blank u) u ≡ oct ++ behind = ap (λ n. drop n u) g ∙ ap (drop (length gap)) s.2 ∙ drop_at gap (oct ++ behind) (length gap) refl in
      let here : drop (offset_of x) t ≡ oct ++ behind =
      ap (λ n. drop n t) (sym i) ∙ sym (drop-drop (prefix_len blank u) p t) ∙ ap (drop (prefix_len blank u)) d ∙ v in
      let rest : drop (offset_of x + length (octets_of x)) t ≡ behind = behind_is p (offset_of x) u (oct ++ behind) oct behind d here refl in
      let la : length u ≡ length s.0 + (length (octets_of x) + length s.1) =
      ap length s.2 ∙ length-append gap (oct ++ behind) ∙ ap (λ n. length gap + n) (length-append oct behind) in
      let lb : length (drop p t) ≡ length u = ap length d in
      let lc = length-drop p t in
      let within : offset_of x + length (octets_of x) ≤ length t = omega arith in
      let ih = sets_is ts (offset_of x + length (octets_of x)) behind rest within s.6 in
      front_step p u d
      ∙ ap (λ n. from_front n (drop (prefix_len blank u) u)) i
      ∙ ap (from_front (offset_of x)) v
      ∙ ap (λ o. follow o (length t) (tokens_from t (offset_of x + width (oct ++ behind)))) k.0
      ∙ ap (λ n. token x (tokens_from t (offset_of x + n))) k.1
      ∙ ap (token x) ih
