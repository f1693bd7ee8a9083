-- Rows of the data, read off the tokens ahead: the rows so far, what the row is about, the tokens.
use Rattle.std.specs.Prelude.{ℕ, cond, [], codes}
use Rattle.text.specs.Ahead.{Ahead}
use Rattle.text.specs.Out.{Out, got, bad, bind}
use Rattle.station.specs.declared.tests.Position.{Position}
use Rattle.forms.specs.declared.lists.Listing.TheVariants.{RequestTests, Actions, ActivationTests, PointTests, ReleaseTests}
use Rattle.forms.specs.Heads as heads
use Rattle.forms.specs.Heads.{Head}
use Rattle.forms.specs.Things.{Spot}
use Rattle.rows.specs.declared.filters.Kind.TheVariants as kind
use Rattle.rows.specs.Filters.{move_kind, full, known}
use Rattle.rows.specs.Rows.{Row, request_row, activation_row, move_row, release_row, zone_row}
use Rattle.steps.specs.Words.{a_keyword}
use Rattle.steps.specs.Pairs.{a_list}
use Rattle.sheets.specs.Layout.{Sofar}

-- `*Q_R(x) if` tests `then` actions
abbrev pub a_request_row : Sofar → Spot → Ahead → Out (Row Spot)
a_request_row rows x ts =
    cond (full rows kind.Request 48) (bad 4 x.0)
    (cond (known rows kind.Request x.1 []) (bad 5 x.0)
    (bind (a_keyword (codes "if") ts) (λ i us.
    bind (a_list RequestTests us) (λ tests vs.
    bind (a_keyword (codes "then") vs) (λ j ws.
    bind (a_list Actions ws) (λ actions xs. got (request_row x tests actions) xs))))))

-- `*A_R(x)` and its tests
abbrev pub an_activation_row : Sofar → Spot → Ahead → Out (Row Spot)
an_activation_row rows x ts =
    cond (known rows kind.Activation x.1 []) (bad 5 x.0)
    (bind (a_list ActivationTests ts) (λ tests us. got (activation_row x tests) us))

-- `*P_xN` or `*P_xR` and its tests
abbrev pub a_move_row : Sofar → Spot → Position → Ahead → Out (Row Spot)
a_move_row rows x p ts =
    cond (known rows (move_kind p) x.1 []) (bad 5 x.0)
    (bind (a_list PointTests ts) (λ tests us. got (move_row x p tests) us))

-- `*U_a_b` and its tests
abbrev pub a_release_row : Sofar → Spot → Spot → Ahead → Out (Row Spot)
a_release_row rows a b ts =
    cond (known rows kind.Release a.1 b.1) (bad 5 a.0)
    (bind (a_list ReleaseTests ts) (λ tests us. got (release_row a b tests) us))

-- `*U_IR(x)` and its tests
abbrev pub a_zone_row : Sofar → Spot → Ahead → Out (Row Spot)
a_zone_row rows x ts =
    cond (full rows kind.Zone 32) (bad 4 x.0)
    (cond (known rows kind.Zone x.1 []) (bad 5 x.0)
    (bind (a_list ReleaseTests ts) (λ tests us. got (zone_row x tests) us)))

-- a row of the data after its head; no row of the layout, and no second `DATA`
abbrev pub a_data_row : Sofar → ℕ → Head → Ahead → Out (Row Spot)
a_data_row rows at heads.a_segment ts = bad 3 at
a_data_row rows at heads.a_joint ts = bad 3 at
a_data_row rows at heads.a_point ts = bad 3 at
a_data_row rows at heads.a_way ts = bad 3 at
a_data_row rows at heads.a_signal ts = bad 3 at
a_data_row rows at heads.the_data ts = bad 3 at
a_data_row rows at (heads.a_request x) ts = a_request_row rows x ts
a_data_row rows at (heads.an_activation x) ts = an_activation_row rows x ts
a_data_row rows at (heads.a_point_row x p) ts = a_move_row rows x p ts
a_data_row rows at (heads.a_release a b) ts = a_release_row rows a b ts
a_data_row rows at (heads.a_zone x) ts = a_zone_row rows x ts
