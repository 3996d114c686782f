-- Where names stand between walks.
use Rattle.std.proofs.Common.{◌≡◌, ℕ, ◌+◌, pos, List, [], ◌∷◌, codes, map, replicate, None, Some, refl}
use Rattle.std.specs.List.{range_with_len}
use Rattle.std.specs.Str.{chars}
use lib.Utf8.{encode}
use Rattle.map_base.specs.declared.ids.NodeId.{NodeId}
use Rattle.map_base.specs.declared.ids.SegId.{SegId}
use Rattle.graph_core.specs.declared.parts.NodeKind.{NodeKind}
use Rattle.graph_core.specs.declared.parts.NodeKind.TheVariants.{Station}
use Rattle.graph_core.specs.declared.parts.GraphParts.{GraphParts}
use Rattle.octi_grid.specs.declared.dir.Dir.{Dir}
use Rattle.octi_grid.specs.declared.dir.Dir.TheVariants as dir
use Rattle.octi_grid.specs.Walks.{PlainWalk}
use Rattle.svg_writer.specs.declared.names.Names.{Names}
use Rattle.label_place.specs.declared.place.Place.TheVariants as place
use Rattle.label_place.specs.Places.{places_of}
use Rattle.label_place.specs.Strokes.{units}

abbrev station : ℕ → NodeKind
station n = Station (record { 0 = n })

abbrev spoke : ℕ → NodeId × NodeId
spoke s = (record { 0 = 0 }, record { 0 = s + 1 })

abbrev segment : ℕ → SegId
segment s = record { 0 = s }

abbrev alone : ℕ → List SegId
alone s = segment s ∷ []

-- a station, and eight more round it from north clockwise, each joined to it by a segment of one line
abbrev star : GraphParts
star = record {
  kinds = map station (range_with_len 0 9);
  places = replicate 9 (record { x = pos 0; y = pos 0 });
  ends = map spoke (range_with_len 0 8);
  lines = replicate 8 (record { 0 = 0 } ∷ []);
  rounds = map segment (range_with_len 0 8) ∷ map alone (range_with_len 0 8);
  joins = replicate 9 [];
}

abbrev ray : Dir → PlainWalk
ray d = record { start = record { x = pos 0; y = pos 0 }; steps = replicate 10 d }

abbrev rays : List PlainWalk
rays = map ray (dir.N ∷ dir.NE ∷ dir.E ∷ dir.SE ∷ dir.S ∷ dir.SW ∷ dir.W ∷ dir.NW ∷ [])

abbrev names : Names
names = record { stations = replicate 9 (codes "X"); lines = (codes "A", 0xe6 ∷ 0x19 ∷ 0x4b ∷ []) ∷ [] }

-- Walks leave the first station in all eight directions, so its name has no place. The others have theirs above them on the
-- right, but for the one in the south-west, which its walk reaches from there: its name stands below.
between_eight_walks : places_of names star rays
    ≡ None ∷ Some place.NE ∷ Some place.NE ∷ Some place.NE ∷ Some place.NE ∷ Some place.NE ∷ Some place.SE
    ∷ Some place.NE ∷ Some place.NE ∷ []
unfolding chars encode units
between_eight_walks = refl
