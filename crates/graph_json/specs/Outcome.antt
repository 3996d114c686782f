-- What a graph file is read as, from its bytes.
use Rattle.std.specs.Prelude.{◌≡◌, ◌≢◌, ◌<◌, ◌⊎◌, ◌^◌, ℕ, ◌+◌, ◌-◌, ◌==◌, List, [], ◌∷◌, All, length, map, take, slice_index, Option, Some, None, Result, Ok, Err, if◌then◌else◌}
use Rattle.std.specs.Str.{is_utf8}
use Rattle.map_base.specs.declared.ids.LineId.{LineId}
use Rattle.map_base.specs.declared.limit.Limit.{Limit}
use Rattle.map_base.specs.Settings.{IsImportance}
use Rattle.graph_core.specs.declared.parts.GraphParts.{GraphParts}
use Rattle.graph_core.specs.declared.parts.NodeKind.{NodeKind}
use Rattle.graph_core.specs.declared.parts.NodeKind.TheVariants.{Station, Junction}
use Rattle.graph_core.specs.Consistent.{IsNear}
use Rattle.serde_json.specs.Data.{Data}
use Rattle.serde_json.specs.View.{view}
use Rattle.serde_json.specs.declared.value.Value.{Value}
use Rattle.serde_json.specs.Read.{read}
use Rattle.graph_json.specs.declared.fault.JsonFault.{JsonFault}
use Rattle.graph_json.specs.declared.fault.JsonFault.TheVariants as fault
use Rattle.graph_json.specs.declared.forms.LineForm.{LineForm}
use Rattle.graph_json.specs.declared.forms.Feature.{Feature}
use Rattle.graph_json.specs.declared.forms.Feature.TheVariants.{Node, Segment}
use Rattle.graph_json.specs.declared.imported.Imported.{Imported}
use Rattle.graph_json.specs.Forms.{line_of, feature_of, arrays_of}
use Rattle.graph_json.specs.Limits.{limit_met, names_in}
use Rattle.graph_json.specs.References.{nodes_in, segments_in, names_of_nodes, graph_of, is_node, broken_from}

-- one in front of what comes of the rest, or the number of the first of which nothing comes
abbrev pub in_order : {B : Type 0} → Option B → ℕ → Result (List B) ℕ → Result (List B) ℕ
in_order None i rest = Err i
in_order (Some y) i (Ok ys) = Ok (y ∷ ys)
in_order (Some y) i (Err j) = Err j

-- what comes of each from number i on, or the number of the first of which nothing comes
abbrev pub each_or_first : {A B : Type 0} → (A → Option B) → ℕ → List A → Result (List B) ℕ
each_or_first f i [] = Ok []
each_or_first f i (x ∷ xs) = in_order (f x) i (each_or_first f (i + 1) xs)

abbrev pub graph_made : List Feature → GraphParts
graph_made features = graph_of (nodes_in features) (segments_in features)

-- a graph with the names of its stations in the order of nodes, and with the names, colours and importances of lines
abbrev pub imported_with : List LineForm → GraphParts → List (List ℕ) → Imported
imported_with lines graph stations = record {
  graph = graph;
  names = record { stations = stations; lines = map (λ (l : LineForm). (l.name, l.colour)) lines };
  importance = map (λ (l : LineForm). l.importance) lines;
}

abbrev pub imported_of : List LineForm → List Feature → Imported
imported_of lines features = imported_with lines (graph_made features) (names_in (names_of_nodes (nodes_in features)))

abbrev pub unless_broken : List LineForm → List Feature → Option ℕ → Result Imported JsonFault
unless_broken lines features None = Ok (imported_of lines features)
unless_broken lines features (Some i) = Err (fault.Feature i)

-- the first feature whose references don't hold, where so many lines are listed
abbrev pub broken_in : List Feature → ℕ → Option ℕ
broken_in features listed = broken_from (graph_made features) listed 0 0 0 (map is_node features)

abbrev pub within_limits : List LineForm → List Feature → Option Limit → Result Imported JsonFault
within_limits lines features (Some limit) = Err (fault.Limit limit)
within_limits lines features None = unless_broken lines features (broken_in features (length lines))

abbrev pub limit_of_features : List Feature → Option Limit
limit_of_features features = limit_met (graph_made features).lines (names_of_nodes (nodes_in features))

abbrev pub with_features : List LineForm → Result (List Feature) ℕ → Result Imported JsonFault
with_features lines (Err i) = Err (fault.Feature i)
with_features lines (Ok features) = within_limits lines features (limit_of_features features)

abbrev pub with_lines : List Data → Result (List LineForm) ℕ → Result Imported JsonFault
with_lines features (Err i) = Err (fault.Line i)
with_lines features (Ok lines) = with_features lines (each_or_first feature_of 0 features)

abbrev pub of_arrays : Option (List Data × List Data) → Result Imported JsonFault
of_arrays None = Err fault.Whole
of_arrays (Some both) = with_lines both.1 (each_or_first line_of 0 both.0)

abbrev pub of_value : Option Data → Result Imported JsonFault
of_value None = Err fault.Json
of_value (Some value) = of_arrays (arrays_of value)

-- the bytes without a line feed at their end, where JSON has any white space
abbrev pub without_feed : List ℕ → List ℕ
without_feed bytes = if slice_index bytes (length bytes - 1) == 10 then take (length bytes - 1) bytes else bytes

-- the value of a text, where it is JSON in UTF-8
abbrev pub text_value : List ℕ → Option Data
text_value text = if is_utf8 text then read text else None

abbrev pub value_of : List ℕ → Option Data
value_of bytes = text_value (without_feed bytes)

-- The graph of a file, or the first thing that is wrong with it: the text, the whole, a line, a feature, a limit, and last
-- the references of a feature.
abbrev pub graph_outcome : List ℕ → Result Imported JsonFault
graph_outcome bytes = of_value (value_of bytes)

-- ---- what calls answer; want of memory is free in each

-- the reading is the one that comes by definition
abbrev pub Reads : Result Imported JsonFault → Result Imported JsonFault → Type 0
Reads (Ok imported) outcome = outcome ≡ Ok imported
Reads (Err refused) outcome = refused ≢ fault.NoMemory → outcome ≡ Err refused

-- a value comes where there is one by definition
abbrev pub ReadsValue : Result Value JsonFault → Option Data → Type 0
ReadsValue (Ok value) outcome = outcome ≡ Some (view value)
ReadsValue (Err refused) outcome = (refused ≡ fault.NoMemory) ⊎ (refused ≡ fault.Json) × (outcome ≡ None)

-- a station's number is below the number of names
abbrev pub IsNamed : ℕ → NodeKind → Type 0
IsNamed names (Station s) = s.0 < names
IsNamed names Junction = Unit {0}

abbrev pub IsImportant : LineForm → Type 0
IsImportant l = IsImportance l.importance

abbrev pub LiesNear : Feature → Type 0
LiesNear (Node n) = IsNear n.place
LiesNear (Segment s) = Unit {0}

-- What else is known of a graph that was read: there is a name for each of its stations and lines, and an importance from 1
-- to 16 for each line of the file, of which there are as many as numbers for them at most.
pub record IsComplete (read : Imported) : Type 0 where
  pub stations : All (IsNamed (length read.names.stations)) read.graph.kinds
  pub lines : All (All (λ (l : LineId). l.0 < length read.names.lines)) read.graph.lines
  pub importance_each : length read.importance ≡ length read.names.lines
  pub few : length read.importance < 2 ^ 32
  pub importance : All IsImportance read.importance
