-- Which things may stand in which list of pairs, in which states, and how many.
use Rattle.std.specs.Prelude.{ℕ, Bool, not, ◌==◌, List, [], ◌∷◌, length, find, Option}
use Rattle.std.specs.Str.{bytes_eq}
use Rattle.forms.specs.declared.states.State.{State}
use Rattle.forms.specs.declared.states.State.TheVariants.{Xs, Cfn, Cfr, S, Cn, Cr, N, R, F, L, C}
use Rattle.forms.specs.declared.lists.Listing.{Listing}
use Rattle.forms.specs.declared.lists.Listing.TheVariants.{Settings, RequestTests, Actions, ActivationTests, PointTests, ReleaseTests}
use Rattle.forms.specs.States.{state_word}
use Rattle.forms.specs.Things.{Thing, segment, point, route, zone, subroute}

-- a way sets points; a request tests routes, points and locks, and sets, drives and locks; an activation tests
-- points and segments; a point's row tests locks; a release tests routes, subroutes and segments
abbrev pub choice : {X : Type 0} → Listing → Thing X → List State
choice Settings (segment x) = []
choice Settings (point x) = N ∷ R ∷ []
choice Settings (route x) = []
choice Settings (zone x) = []
choice Settings (subroute x y) = []
choice RequestTests (segment x) = []
choice RequestTests (point x) = Cfn ∷ Cfr ∷ []
choice RequestTests (route x) = Xs ∷ []
choice RequestTests (zone x) = F ∷ []
choice RequestTests (subroute x y) = F ∷ []
choice Actions (segment x) = []
choice Actions (point x) = Cn ∷ Cr ∷ []
choice Actions (route x) = S ∷ []
choice Actions (zone x) = L ∷ []
choice Actions (subroute x y) = L ∷ []
choice ActivationTests (segment x) = C ∷ []
choice ActivationTests (point x) = N ∷ R ∷ []
choice ActivationTests (route x) = []
choice ActivationTests (zone x) = []
choice ActivationTests (subroute x y) = []
choice PointTests (segment x) = []
choice PointTests (point x) = []
choice PointTests (route x) = []
choice PointTests (zone x) = F ∷ []
choice PointTests (subroute x y) = F ∷ []
choice ReleaseTests (segment x) = C ∷ []
choice ReleaseTests (point x) = []
choice ReleaseTests (route x) = Xs ∷ []
choice ReleaseTests (zone x) = []
choice ReleaseTests (subroute x y) = F ∷ []

-- at most 4 pairs in a way, 32 actions, 24 tests
abbrev pub most : Listing → ℕ
most Settings = 4
most RequestTests = 24
most Actions = 32
most ActivationTests = 24
most PointTests = 24
most ReleaseTests = 24

-- there is a state to choose
abbrev pub admits : List State → Bool
admits states = not (length states == 0)

-- the first of these states that the word writes
abbrev pub picked : List State → List ℕ → Option State
picked states w = find (λ s. bytes_eq w (state_word s)) states
