-- Rule 11: a joint has not the same segment on both sides.
use Rattle.std.specs.Prelude.{◌≡◌, ℕ, Bool, not, length, Option}
use Rattle.firsts.specs.Claims.{first_failing, FirstBreach}
use Rattle.station.specs.declared.tables.Beyond.TheVariants.{Segment}
use Rattle.station.specs.Station.{Station}
use Rattle.station.specs.Numbers.{joint_at}
use Rattle.station.specs.Joints.{is_segment}

abbrev pub Parts : Station → ℕ → Type 0
Parts s j = (joint_at s j).beyond ≡ Segment (joint_at s j).segment → ⊥

abbrev pub parts : Station → ℕ → Bool
parts s j = not (is_segment (joint_at s j).beyond (joint_at s j).segment)

-- the first joint that breaks the rule
abbrev pub breach_11 : Station → Option ℕ
breach_11 s = first_failing (parts s) (length s.joints)

abbrev pub Breach11 : Station → Option ℕ → Type 0
Breach11 s = FirstBreach (Parts s) (length s.joints)
