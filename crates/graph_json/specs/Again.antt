-- What a file that was written is read as.
use Rattle.std.specs.Prelude.{ℕ, ◌<◌, ◌≤◌, ◌≡◌, ◌^◌, List, length, map, Option, Some, None}
use Rattle.std.specs.List.{range_with_len}
use Rattle.graph_core.specs.declared.parts.GraphParts.{GraphParts}
use Rattle.graph_core.specs.declared.parts.NodeKind.{NodeKind}
use Rattle.graph_core.specs.declared.parts.NodeKind.TheVariants.{Station, Junction}
use Rattle.svg_writer.specs.declared.names.Names.{Names}
use Rattle.svg_writer.specs.Picture.{name_of, colour_of, station_name}
use Rattle.hex.specs.Hex.{IsBytes}
use Rattle.graph_json.specs.declared.imported.Imported.{Imported}
use Rattle.graph_json.specs.Limits.{names_in}
use Rattle.graph_json.specs.References.{kinds_from}
use Rattle.graph_json.specs.Written.{lines_listed, importance_at}

-- the name of the station that a node is, if it is one
abbrev pub node_name : Names → NodeKind → Option (List ℕ)
node_name names (Station s) = Some (station_name names s.0)
node_name names Junction = None

-- the name and the colour of the line of this number
abbrev pub name_and_colour : Names → ℕ → List ℕ × List ℕ
name_and_colour names l = (name_of names (record { 0 = l }), colour_of names (record { 0 = l }))

-- The graph with its stations numbered in the order of nodes; the names of these, in that order; and the names, colours and
-- importances of the lines from 0 to the greatest on a segment.
abbrev pub read_again : GraphParts → Names → List ℕ → Imported
read_again g names importance = record {
  graph = record g { kinds = kinds_from 0 (map (node_name names) g.kinds) };
  names = record {
    stations = names_in (map (node_name names) g.kinds);
    lines = map (name_and_colour names) (range_with_len 0 (lines_listed g.lines));
  };
  importance = map (importance_at importance) (range_with_len 0 (lines_listed g.lines));
}

-- what the numbers of lines, their colours and their importances have to be, where what is written is to be read again
pub record CanBeRead (g : GraphParts) (names : Names) (importance : List ℕ) : Type 0 where
  pub few : lines_listed g.lines ≤ 2 ^ 32
  pub colours : (l : ℕ) → l < lines_listed g.lines → (length (name_and_colour names l).1 ≡ 3) × IsBytes (name_and_colour names l).1
  pub importances : (l : ℕ) → l < lines_listed g.lines → (1 ≤ importance_at importance l) × (importance_at importance l ≤ 16)
