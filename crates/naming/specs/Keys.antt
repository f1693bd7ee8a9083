-- The names of the rows of one kind, and the number that a name has among them.
use Rattle.std.specs.Prelude.{ℕ, Bool, ◌&&◌, List, map, filter, vec_items}
use Rattle.std.specs.List.{list_any, position_or_len}
use Rattle.std.specs.Str.{bytes_eq}
use Rattle.forms.specs.Things.{Spot}
use Rattle.rows.specs.declared.filters.Key.{Key}
use Rattle.rows.specs.declared.filters.Kind.{Kind}
use Rattle.rows.specs.Filters.{first_of, second_of, of_head}
use Rattle.rows.specs.Rows.{Row}
use Rattle.naming.specs.declared.keys.Keys.{Keys}

-- one name and nothing, or two names
abbrev pub Names : Type 0
Names = List ℕ × List ℕ

abbrev pub names : Key → Names
names k = (k.first.now, k.second.now)

abbrev pub names_of : Keys → List Names
names_of ks = map names (vec_items ks.list)

abbrev pub names_in : Row Spot → Names
names_in r = (first_of r, second_of r)

-- the names of the rows of a kind, in order
unfoldable pub keys_of : Kind → List (Row Spot) → List Names
keys_of k rows = map names_in (filter (of_head k) rows)

abbrev pub is_key : List ℕ → List ℕ → Names → Bool
is_key a b k = bytes_eq k.0 a && bytes_eq k.1 b

-- the number of the first that has these names; how many there are where none has them
unfoldable pub place : List Names → List ℕ → List ℕ → ℕ
place ks a b = position_or_len (is_key a b) ks

abbrev pub declared : List Names → List ℕ → List ℕ → Bool
declared ks a b = list_any (is_key a b) ks
