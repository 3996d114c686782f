-- The certificate of a map.
use Rattle.std.specs.Prelude.{ℕ, nat_lt, Bool, List, length, map, filter, slice_index_or}
use Rattle.std.specs.List.{list_any, range_with_len}
use Rattle.map_base.specs.declared.ids.LineId.{LineId}
use Rattle.graph_core.specs.declared.parts.GraphParts.{GraphParts}
use Rattle.order_model.specs.declared.problem.ProblemParts.{ProblemParts}
use Rattle.order_model.specs.Costs.{cost_of}
use Rattle.order_model.specs.Places.{has_line}
use Rattle.order_proof.specs.Plain.{PlainPart, PlainProof}
use Rattle.cert_file.specs.Plain.{PlainCertificate}
use Rattle.graph_maps.specs.Problems.{Drawn, untangling_rules}
use Rattle.graph_maps.specs.Solving.{SolvedPart}
use Rattle.graph_maps.specs.Lifted.{lifted_by}

-- the line of a number
abbrev pub line_numbered : ℕ → LineId
line_numbered n = record { 0 = n }

-- the line stands on a segment of the graph
abbrev pub is_drawn : GraphParts → LineId → Bool
is_drawn graph a = list_any (λ (lines : List LineId). has_line lines a) graph.lines

-- of so many lines those that stand on segments, rising
abbrev pub drawn_lines : ℕ → GraphParts → List LineId
drawn_lines count graph = filter (is_drawn graph) (map line_numbered (range_with_len 0 count))

-- how many lines stand on segments
abbrev pub line_count : List ℕ → GraphParts → ℕ
line_count importance graph = length (drawn_lines (length importance) graph)

-- a line with how much it counts
abbrev pub weighed_line : List ℕ → LineId → LineId × ℕ
weighed_line importance a = (a, slice_index_or importance a.0 1)

-- it counts more than 1
abbrev pub is_weighty : LineId × ℕ → Bool
is_weighty pair = nat_lt 1 pair.1

-- the lines on segments that count more than 1, rising, each with its number
abbrev pub weighty_lines : List ℕ → GraphParts → List (LineId × ℕ)
weighty_lines importance graph =
    filter is_weighty (map (weighed_line importance) (drawn_lines (length importance) graph))

-- a solved part as a proof has it
abbrev pub proof_part : SolvedPart → PlainPart
proof_part s = record { segs = s.segs; target = s.target; tree = s.tree }

-- the proof of a problem's line orders: the rules that untangle it, and the trees of the untangled problem's solved
-- parts
abbrev pub proof_of : ProblemParts → List SolvedPart → PlainProof
proof_of p parts = record { rules = untangling_rules p; parts = map proof_part parts }

-- the certificate of a drawing with the solved parts of its untangled problem
abbrev pub certificate_of : List ℕ → Drawn → List SolvedPart → PlainCertificate
certificate_of importance drawn parts = record {
  nodes = length drawn.graph.kinds;
  segs = length drawn.graph.ends;
  lines = line_count importance drawn.graph;
  importance = weighty_lines importance drawn.graph;
  walks = drawn.walks;
  orders = lifted_by drawn.problem parts;
  cost = cost_of drawn.problem.terms (lifted_by drawn.problem parts);
  proof = proof_of drawn.problem parts;
}
