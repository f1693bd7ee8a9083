-- The words that write states.
use Rattle.std.specs.Prelude.{ℕ, List, codes}
use Rattle.forms.specs.declared.states.State.{State}
use Rattle.forms.specs.declared.states.State.TheVariants.{Xs, Cfn, Cfr, S, Cn, Cr, N, R, F, L, C}

abbrev pub state_word : State → List ℕ
state_word Xs = codes "xs"
state_word Cfn = codes "cfn"
state_word Cfr = codes "cfr"
state_word S = codes "s"
state_word Cn = codes "cn"
state_word Cr = codes "cr"
state_word N = codes "n"
state_word R = codes "r"
state_word F = codes "f"
state_word L = codes "l"
state_word C = codes "c"
