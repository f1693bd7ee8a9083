-- A board that shows a route's segments answers as its path does.
use Rattle.std.proofs.Common.{◌≡◌, ℕ, Bool, true, false, cond, not, ◌&&◌, eqb, List, length, Some, None, refl, ap, ◌∙◌, ⊎_elim}
use Rattle.std.proofs.lemmas.Bool.{cases_lt, lt-ltb, le-ltb, cond-true, cond-false}
use Rattle.firsts.specs.Claims.{paired}
use Rattle.firsts.specs.Search.{first_below}
use Rattle.firsts.proofs.Firsts.{first_same}
use Rattle.firsts.proofs.Lowest.{least_same}
use Rattle.station.specs.Station.{Station}
use Rattle.station.specs.Numbers.{route_at}
use Rattle.station.specs.Subroutes.{segment_of}
use Rattle.station.specs.Paths.{path_length, on_path}
use Rattle.station.specs.Covers.{request_guards}
use Rattle.conflicts.specs.Conflicts.{meets, open_at, lowest_open, first_other}
use Rattle.conflicts.specs.Marks.{Shows, marked, open_on, lowest_on}

flip : (b : Bool) → not (eqb (cond b 1 0) 0) ≡ b
flip true = refl
flip false = refl

module _ (b : List ℕ) (s : Station) (r : ℕ) (shows : Shows b s r) where
  marked_is : (t : ℕ) → marked b s r t ≡ meets s r t
  marked_is t =
      ⊎_elim
      (λ l. cond-true _ _ _ (lt-ltb t 64 l) ∙ ap (λ v. not (eqb v 0)) (shows t l) ∙ flip (meets s r t))
      (λ l. cond-false _ _ _ (le-ltb t 64 l))
      (cases_lt t 64)

  open_is : (o k : ℕ) → open_on b s r o k ≡ open_at s r o k
  open_is o k =
      ap (λ m. cond (m && not (request_guards s (route_at s r).tests (on_path s o k))) (Some (segment_of s (on_path s o k))) None)
      (marked_is (segment_of s (on_path s o k)))

  others_are : first_below (λ o. paired o (lowest_on b s r o)) (length s.routes) ≡ first_other s r
  others_are =
      first_same (λ o. paired o (lowest_on b s r o)) (λ o. paired o (lowest_open s r o)) (λ o. ap (paired o) (least_same (open_on b s r o) (open_at s r o) (open_is o) (path_length s o))) (length s.routes)

-- as a search over a board that is lent answers it
pub other_is : (b c : List ℕ) (s : Station) (r : ℕ) → b ≡ c → Shows c s r → first_below (λ o. paired o (lowest_on b s r o)) (length s.routes) ≡ first_other s r
other_is b c s r e shows = ap (λ x. first_below (λ o. paired o (lowest_on x s r o)) (length s.routes)) e ∙ others_are c s r shows
