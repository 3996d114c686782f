-- The plan of a line graph's poster: its stations and the straight pieces of its walks.
use Rattle.std.specs.Prelude.{ℕ, ◌*◌, ◌==◌, Bool, max, fold, List, [], ◌∷◌, length, filter, map, if◌then◌else◌}
use Rattle.std.specs.List.{flat_map, list_any, range_with_len}
use Rattle.map_base.specs.declared.ids.NodeId.{NodeId}
use Rattle.map_base.specs.declared.ids.LineId.{LineId}
use Rattle.graph_core.specs.declared.parts.NodeKind.{NodeKind}
use Rattle.graph_core.specs.declared.parts.NodeKind.TheVariants.{Station, Junction}
use Rattle.graph_core.specs.declared.parts.GraphParts.{GraphParts}
use Rattle.octi_grid.specs.declared.dir.Dir.{Dir}
use Rattle.octi_grid.specs.declared.point.GridPoint.{GridPoint}
use Rattle.octi_grid.specs.Walks.{PlainWalk}
use Rattle.octi_grid.specs.Ways.{number_of, step_from}
use Rattle.svg_writer.specs.declared.names.Names.{Names}
use Rattle.svg_writer.specs.Picture.{ends_at, first_of, kind_at, lines_at, name_of, put_at, round_at, walk_at}
use Rattle.name_widths.specs.Widths.{text_width}
use Rattle.poster_plan.specs.declared.plan.Mark.{Mark}
use Rattle.poster_plan.specs.declared.plan.Piece.{Piece}
use Rattle.poster_plan.specs.declared.plan.Plan.{Plan}
use Rattle.poster_rules.specs.Stations.{has_line, leaves_level, radius_at}
use Rattle.poster_rules.specs.Texts.{all_rests, name_width, printed_at}

-- the grid point of node n: where the walk of the first segment of its round puts it
abbrev pub point_of : GraphParts → List PlainWalk → ℕ → GridPoint
point_of g walks n = put_at n (ends_at g.ends (first_of (round_at g.rounds n))) (walk_at walks (first_of (round_at g.rounds n)))

-- node n as a poster has it, where it is a station
abbrev pub node_mark : Names → GraphParts → List PlainWalk → List (List LineId) → ℕ → NodeKind → List Mark
node_mark names g walks callers n (Station s) =
    record {
      node = record { 0 = n };
      at = point_of g walks n;
      radius = radius_at g callers n;
      name = name_width names g callers n (printed_at g (all_rests names g) n);
      level = leaves_level g walks n;
    } ∷ []
node_mark names g walks callers n Junction = []

-- all station nodes, in node order
abbrev pub marks_of : Names → GraphParts → List PlainWalk → List (List LineId) → List Mark
marks_of names g walks callers = flat_map (λ (n : ℕ). node_mark names g walks callers n (kind_at g.kinds n)) (range_with_len 0 (length g.kinds))

-- a straight piece of a walk of a segment with so many lines, between these nodes
abbrev pub piece_between : ℕ → NodeId × NodeId → GridPoint → GridPoint → Piece
piece_between lines ends a b = record { start = a; end = b; lines = lines; ends = ends }

-- the straight pieces of steps from a point: they end where the direction changes. `from` is where the first begins.
abbrev pub pieces_from : ℕ → NodeId × NodeId → GridPoint → GridPoint → List Dir → List Piece
pieces_from lines ends from p [] = []
pieces_from lines ends from p (d ∷ []) = piece_between lines ends from (step_from p d) ∷ []
pieces_from lines ends from p (d ∷ e ∷ ds) =
    if number_of d == number_of e then pieces_from lines ends from (step_from p d) (e ∷ ds)
    else piece_between lines ends from (step_from p d) ∷ pieces_from lines ends (step_from p d) (step_from p d) (e ∷ ds)

-- the straight pieces of segment s
abbrev pub segment_pieces : GraphParts → List PlainWalk → ℕ → List Piece
segment_pieces g walks s =
    pieces_from (length (lines_at g.lines s)) (ends_at g.ends s) (walk_at walks s).start (walk_at walks s).start (walk_at walks s).steps

-- those of all segments
abbrev pub pieces_of : GraphParts → List PlainWalk → List Piece
pieces_of g walks = flat_map (segment_pieces g walks) (range_with_len 0 (length g.ends))

abbrev pub plan_of : Names → GraphParts → List PlainWalk → List (List LineId) → Plan
plan_of names g walks callers = record { marks = marks_of names g walks callers; pieces = pieces_of g walks }

-- ---- the legend

-- the line of a number
abbrev pub line_numbered : ℕ → LineId
line_numbered n = record { 0 = n }

-- a line is on some segment
abbrev pub is_on_some : GraphParts → ℕ → Bool
is_on_some g n = list_any (has_line (line_numbered n)) g.lines

-- the lines that are on a segment, rising, of so many
abbrev pub lines_shown : ℕ → GraphParts → List LineId
lines_shown count g = map line_numbered (filter (is_on_some g) (range_with_len 0 count))

-- how wide the widest of their names is, at a size of 30 units
abbrev pub widest : Names → List LineId → ℕ
widest names lines = fold (λ (most : ℕ) (l : LineId). max most (3 * text_width (name_of names l))) 0 lines
