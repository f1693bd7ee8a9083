-- Lists of pairs, read off the tokens ahead.
use Rattle.std.specs.Prelude.{ℕ, zero, suc, Bool, true, false, cond, not, ◌&&◌, ◌||◌, List, [], ◌∷◌, ◌++◌, map, length, Some, None, vec_items, codes, count_by, Option, Vec, nat_le}
use Rattle.std.specs.declared.alloc.Global.{Global}
use Rattle.std.specs.Str.{bytes_eq}
use Rattle.text.specs.Tokens.{star, comma, word}
use Rattle.text.specs.Ahead.{Ahead, ends, spoilt, token}
use Rattle.text.specs.Out.{Out, got, bad, bind, a_comma}
use Rattle.forms.specs.declared.states.State.{State}
use Rattle.forms.specs.declared.lists.Listing.{Listing}
use Rattle.forms.specs.declared.lists.Listing.TheVariants.{Settings, RequestTests, Actions, ActivationTests, PointTests, ReleaseTests}
use Rattle.forms.specs.Lists.{choice, admits, picked, most}
use Rattle.forms.specs.Things.{Spot, Thing, segment, point, route, zone, subroute, thing_of}
use Rattle.rows.specs.declared.rows.Pair as pair_type
use Rattle.rows.specs.Rows.{Pair, placed_pair}
use Rattle.steps.specs.Words.{a_word}

abbrev pub runs : {N : Type 0} → Thing N → Bool
runs (segment x) = false
runs (point x) = false
runs (route x) = false
runs (zone x) = false
runs (subroute x y) = true

-- the subroutes that a request locks are its route's path
abbrev pub in_path : Listing → Bool
in_path Settings = false
in_path RequestTests = false
in_path Actions = true
in_path ActivationTests = false
in_path PointTests = false
in_path ReleaseTests = false

unfoldable pub subroutes : {N : Type 0} → List (Pair N) → ℕ
subroutes ps = count_by (λ p. runs p.thing) ps

-- the list's subroutes are a path, and this would be the thirteenth
abbrev pub path_full : {N : Type 0} → Listing → List (Pair N) → Thing N → Bool
path_full list taken th = in_path list && (runs th && nat_le 12 (subroutes taken))

-- one pair more, about this thing, passes the list's limit or the path's
abbrev pub too_many : {N : Type 0} → Listing → List (Pair N) → Thing N → Bool
too_many list taken th = nat_le (most list) (length taken) || path_full list taken th

abbrev pub as_pair : Thing Spot → Spot → Option State → Ahead → Out (Pair Spot)
as_pair th s None ts = bad 3 s.0
as_pair th s (Some x) ts = got (record { thing = th; state = x }) ts

-- a thing that may stand in the list, then, unless it is too many, a state that it takes there
abbrev pub pair_of : Listing → List (Pair Spot) → Spot → Option (Thing Spot) → Ahead → Out (Pair Spot)
pair_of list taken w None ts = bad 3 w.0
pair_of list taken w (Some th) ts =
    cond (admits (choice list th))
    (cond (too_many list taken th) (bad 4 w.0) (bind (a_word ts) (λ s us. as_pair th s (picked (choice list th) s.1) us)))
    (bad 3 w.0)

abbrev pub a_pair : Listing → List (Pair Spot) → Ahead → Out (Pair Spot)
a_pair list taken ts = bind (a_word ts) (λ w us. pair_of list taken w (thing_of w) us)

-- a list has a first pair where a word comes next that is not `then`
abbrev pub a_list_begins : Ahead → Out Bool
a_list_begins (ends n) = got false (ends n)
a_list_begins (spoilt n i) = bad n i
a_list_begins (token (star i) ts) = got false (token (star i) ts)
a_list_begins (token (comma i) ts) = got false (token (comma i) ts)
a_list_begins (token (word i w) ts) = got (not (bytes_eq w (codes "then"))) (token (word i w) ts)

-- at most k pairs more where one is due, and after each comma one is
unfoldable pub pairs_from : ℕ → Listing → List (Pair Spot) → Bool → Ahead → Out (List (Pair Spot))
pairs_from zero list taken due ts = got taken ts
pairs_from (suc k) list taken due ts =
    cond due
    (bind (a_pair list taken ts) (λ p us. bind (a_comma us) (λ b vs. pairs_from k list (taken ++ p ∷ []) b vs)))
    (got taken ts)

-- no list has room for more than 32
unfoldable pub a_list : Listing → Ahead → Out (List (Pair Spot))
a_list list ts = bind (a_list_begins ts) (λ b us. pairs_from 33 list [] b us)

abbrev pub pairs_of : Vec pair_type.Pair Global → List (Pair Spot)
pairs_of v = map placed_pair (vec_items v)
