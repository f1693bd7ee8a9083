-- One answer or else another, seen in plain lists.
use Rattle.std.proofs.Common.{◌≡◌, Some, None, Option, refl}
use Rattle.std.specs.Option.{option_map, option_or}

pub or_seen : {A B : Type 0} (view : A → B) (a b : Option A) → option_map view (option_or a b) ≡ option_or (option_map view a) (option_map view b)
or_seen view None b = refl
or_seen view (Some x) b = refl
