-- The numbers of things: their places among the rows that declare them.
use Rattle.std.specs.Prelude.{ℕ, ◌+◌, ◌*◌, Bool, cond, ◌||◌, List, [], nat_le}
use Rattle.forms.specs.Things.{Spot, Thing, segment, point, route, zone, subroute}
use Rattle.rows.specs.declared.filters.Kind.TheVariants as kind
use Rattle.rows.specs.Rows.{Row}
use Rattle.naming.specs.declared.index.Index as index_type
use Rattle.naming.specs.Keys.{Names, names_of, keys_of, place, declared}

pub record Index : Type 0 where
  pub segments : List Names
  pub joints : List Names
  pub points : List Names
  pub routes : List Names
  pub zones : List Names
  pub ways : List Names

abbrev pub indexed : index_type.Index → Index
indexed x =
    record {
      segments = names_of x.segments;
      joints = names_of x.joints;
      points = names_of x.points;
      routes = names_of x.routes;
      zones = names_of x.zones;
      ways = names_of x.ways;
    }

abbrev pub index_of : List (Row Spot) → Index
index_of rows =
    record {
      segments = keys_of kind.Segment rows;
      joints = keys_of kind.Joint rows;
      points = keys_of kind.Point rows;
      routes = keys_of kind.Request rows;
      zones = keys_of kind.Zone rows;
      ways = keys_of kind.Way rows;
    }

abbrev pub segment_number : Index → Spot → ℕ
segment_number ix x = place ix.segments x.1 []

abbrev pub joint_number : Index → Spot → ℕ
joint_number ix x = place ix.joints x.1 []

abbrev pub point_number : Index → Spot → ℕ
point_number ix x = place ix.points x.1 []

abbrev pub route_number : Index → Spot → ℕ
route_number ix x = place ix.routes x.1 []

abbrev pub zone_number : Index → Spot → ℕ
zone_number ix x = place ix.zones x.1 []

-- twice the number of the first way between the joints in either order, plus one against written order
abbrev pub subroute_number : Index → Spot → Spot → ℕ
subroute_number ix a b =
    cond (nat_le (place ix.ways a.1 b.1) (place ix.ways b.1 a.1))
    (place ix.ways a.1 b.1 * 2)
    (place ix.ways b.1 a.1 * 2 + 1)

-- some row declares the thing; a subroute is there where a way joins its joints in either order
abbrev pub is_declared : Index → Thing Spot → Bool
is_declared ix (segment x) = declared ix.segments x.1 []
is_declared ix (point x) = declared ix.points x.1 []
is_declared ix (route x) = declared ix.routes x.1 []
is_declared ix (zone x) = declared ix.zones x.1 []
is_declared ix (subroute a b) = declared ix.ways a.1 b.1 || declared ix.ways b.1 a.1
