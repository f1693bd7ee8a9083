-- A subroute by its number: its way, its direction, where it starts and ends, its segment and its points.
use Rattle.std.specs.Prelude.{ℕ, ◌*◌, ◌/◌, ◌%◌, Bool, cond, List, length, ◌==◌}
use Rattle.station.specs.declared.tables.Setting.{Setting}
use Rattle.station.specs.Station.{Station, WayEntry}
use Rattle.station.specs.Numbers.{way_at}

-- each way is run in two directions
abbrev pub subroutes : Station → ℕ
subroutes s = 2 * length s.ways

abbrev pub way_of : Station → ℕ → WayEntry
way_of s u = way_at s (u / 2)

-- it runs its way against written order
abbrev pub against : ℕ → Bool
against u = u % 2 == 1

abbrev pub start : Station → ℕ → ℕ
start s u = cond (against u) (way_of s u).to (way_of s u).from

abbrev pub end : Station → ℕ → ℕ
end s u = cond (against u) (way_of s u).from (way_of s u).to

abbrev pub segment_of : Station → ℕ → ℕ
segment_of s u = (way_of s u).segment

abbrev pub settings_of : Station → ℕ → List Setting
settings_of s u = (way_of s u).settings
