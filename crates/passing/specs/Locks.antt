-- The locks of a station, their release rows, and whether an interlocking has slots for a station.
use Rattle.std.specs.Prelude.{Bool, ◌&&◌, List, length, nat_le, nat_lt}
use Rattle.station.specs.Numbers.{release_at, zone_at}
use Rattle.station.specs.Station.{Station}
use Rattle.station.specs.Subroutes.{subroutes}
use Rattle.station.specs.declared.tests.Lock.{Lock}
use Rattle.station.specs.declared.tests.Lock.TheVariants.{Zone, Subroute}
use Rattle.station.specs.declared.tests.ReleaseTest.{ReleaseTest}

-- the subroute or zone is in its table
abbrev pub is_declared : Station → Lock → Bool
is_declared s (Zone z) = nat_lt z (length s.zones)
is_declared s (Subroute u) = nat_lt u (subroutes s)

abbrev pub release_row : Station → Lock → List ReleaseTest
release_row s (Zone z) = (zone_at s z).tests
release_row s (Subroute u) = release_at s u

-- at most 48 routes, 96 ways and 32 zones, as every station has that is read from a text
abbrev pub has_slots : Station → Bool
has_slots s = nat_le (length s.routes) 48 && (nat_le (length s.ways) 96 && nat_le (length s.zones) 32)
