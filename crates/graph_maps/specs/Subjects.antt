-- What a map is made of beside a line graph: what its stations and lines are called, and how much each line counts.
use Rattle.std.specs.Prelude.{ℕ, ◌<◌, List, length, All}
use Rattle.map_base.specs.declared.ids.LineId.{LineId}
use Rattle.graph_core.specs.declared.parts.GraphParts.{GraphParts}
use Rattle.svg_writer.specs.declared.names.Names.{Names}

-- names and colours by the numbers of stations and lines, and a number from 1 to 16 for each line
pub record Subject : Type 0 where
  pub names : Names
  pub importance : List ℕ

-- what these tell
abbrev pub told_by : Names → List ℕ → Subject
told_by names importance = record { names = names; importance = importance }

-- each line on a segment is one of those that have a number
abbrev pub AreListed : List ℕ → GraphParts → Type 0
AreListed importance graph = All (All (λ (a : LineId). a.0 < length importance)) graph.lines
