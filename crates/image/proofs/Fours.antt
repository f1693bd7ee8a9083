-- The octets of trains, four by four and one after another.
use Rattle.std.proofs.Common.{◌≡◌, ℕ, zero, suc, ◌*◌, List, [], ◌∷◌, ◌++◌, length, take, drop, Some, All, sym, refl, ap, ◌∙◌, arith}
use Rattle.std.specs.Simd.{first_chunks}
use Rattle.std.proofs.lemmas.List.{drop_at, length-append, length-drop, nil_from_length, take-append-drop, take_at}
use Rattle.std.proofs.lemmas.List.Elements.{All-head, All-tail}
use Rattle.octets.specs.Each.{each}
use Rattle.octets.specs.Writes.{train_octets}
use Rattle.octets.proofs.Inverses.{each_has}
use Rattle.octets.proofs.Records.{train_long}
use Rattle.image.specs.Image.{flat}
use Rattle.image.specs.Tracks.{fours}
use Rattle.track.specs.Trains.{Train}

pub fours_is : (n m : ℕ) (xs : List ℕ) → n ≡ m → first_chunks 4 n xs ≡ fours m xs
unfolding fours
fours_is n m xs e = ap (λ k. first_chunks 4 k xs) e

pub length_fours : (n : ℕ) (xs : List ℕ) → length (fours n xs) ≡ n
unfolding fours
length_fours zero xs = refl
length_fours (suc n) xs = ap suc (length_fours n (drop 4 xs))

pub flat_fours : (n : ℕ) (xs : List ℕ) → length xs ≡ 4 * n → flat (fours n xs) ≡ xs
unfolding fours
flat_fours zero xs e = sym (nil_from_length xs (omega arith))
flat_fours (suc n) xs e =
    let left : length (drop 4 xs) ≡ 4 * n = length-drop 4 xs ∙ omega arith in
    ap (λ l. take 4 xs ++ l) (flat_fours n (drop 4 xs) left) ∙ take-append-drop 4 xs

abbrev pub Four : List ℕ → Type 0
Four q = length q ≡ 4

pub length_flat : (qs : List (List ℕ)) → All Four qs → length (flat qs) ≡ 4 * length qs
length_flat [] a = refl
length_flat (q ∷ qs) a = let more = length_flat qs (All-tail Four q qs a) in let one : length q ≡ 4 = All-head Four q qs a in length-append q (flat qs) ∙ omega arith

pub fours_flat : (qs : List (List ℕ)) → All Four qs → fours (length qs) (flat qs) ≡ qs
unfolding fours
fours_flat [] a = refl
fours_flat (q ∷ qs) a =
    ap (λ l. l ∷ first_chunks 4 (length qs) (drop 4 (q ++ flat qs))) (take_at q (flat qs) 4 (All-head Four q qs a))
    ∙ ap (λ l. q ∷ first_chunks 4 (length qs) l) (drop_at q (flat qs) 4 (All-head Four q qs a))
    ∙ ap (λ l. q ∷ l) (fours_flat qs (All-tail Four q qs a))

-- the octets of trains are four by four
pub all_four : (ts : List Train) (qs : List (List ℕ)) → each train_octets ts ≡ Some qs → All Four qs
all_four ts qs e = each_has train_octets Four train_long ts qs e
