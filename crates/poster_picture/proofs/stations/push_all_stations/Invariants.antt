use Rattle.std.proofs.Common.{◌≡◌, ◌++◌, string_bytes}
use Rattle.std.specs.List.{flat_map, range_with_len}
use Rattle.poster_rules.specs.Elements.{texts}
use Rattle.poster_picture.specs.Parts.{station_at}
use Rattle.poster_picture.specs.Sheets.{plain}
use Rattle.poster_picture.proofs.stations.push_all_stations.Given as goal

abbrev pub invariant-loop-n : goal.invariant-loop-n
invariant-loop-n l = string_bytes l.text ≡ string_bytes l.fn.text ++ texts (flat_map (station_at (plain l.sheet)) (range_with_len 0 l.n))
