-- The shape of a way, as an entry of the station.
use Rattle.lookups.specs.declared.shapes.Shape.{Shape}
use Rattle.station.specs.Station.{WayEntry}

abbrev pub shape_entry : Shape → WayEntry
shape_entry x = record { segment = x.segment; from = x.from; to = x.to; settings = x.settings.now }
