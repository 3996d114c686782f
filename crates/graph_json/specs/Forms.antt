-- What the entries of a graph file are read as. Members that no form names are passed over.
use Rattle.std.specs.Prelude.{ℕ, ◌^◌, ◌&&◌, Bool, false, ℤ, pos, negsuc, List, [], ◌∷◌, codes, nat_lt, nat_le, int_le, if◌then◌else◌, Option, Some, None, option_map, option_and_then}
use Rattle.std.specs.Str.{bytes_eq}
use Rattle.std.specs.Result.{result_ok}
use Rattle.map_base.specs.declared.ids.LineId.{LineId}
use Rattle.map_base.specs.declared.ids.NodeId.{NodeId}
use Rattle.map_base.specs.declared.ids.SegId.{SegId}
use Rattle.map_base.specs.declared.point.Point.{Point}
use Rattle.graph_core.specs.declared.parts.Join.{Join}
use Rattle.hex.specs.Hex.{decode_sized}
use Rattle.serde_json.specs.Data.{Data, Items, no_items, item}
use Rattle.serde_json.specs.Find.{get, as_str, as_array, as_number, as_u64, as_i64}
use Rattle.graph_json.specs.declared.forms.LineForm.{LineForm}
use Rattle.graph_json.specs.declared.forms.NodeForm.{NodeForm}
use Rattle.graph_json.specs.declared.forms.SegmentForm.{SegmentForm}
use Rattle.graph_json.specs.declared.forms.Feature.{Feature}
use Rattle.graph_json.specs.declared.forms.Feature.TheVariants.{Node, Segment}

-- ---- values

abbrev pub elements : Items → List Data
elements no_items = []
elements (item d ds) = d ∷ elements ds

-- the elements of an array
abbrev pub array_of : Data → Option (List Data)
array_of value = option_map elements (as_array value)

-- one in front of others, where all are there
abbrev pub in_front : {A : Type 0} → Option A → Option (List A) → Option (List A)
in_front None rest = None
in_front (Some x) rest = option_map (λ xs. x ∷ xs) rest

-- what comes of each, where something comes of each
abbrev pub of_each : {A B : Type 0} → (A → Option B) → List A → Option (List B)
of_each f [] = Some []
of_each f (x ∷ xs) = in_front (f x) (of_each f xs)

-- an array of which something comes of each element
abbrev pub array_of_each : {A : Type 0} → (Data → Option A) → Data → Option (List A)
array_of_each f value = option_and_then (of_each f) (array_of value)

-- the value passes a test
abbrev pub where_true : {A : Type 0} → Bool → Option A → Option A
where_true test value = if test then value else None

-- the text of a member
abbrev pub text_at : List ℕ → Data → Option (List ℕ)
text_at key value = option_and_then as_str (get key value)

abbrev pub is_text : List ℕ → Option (List ℕ) → Bool
is_text wanted None = false
is_text wanted (Some text) = bytes_eq text wanted

-- a whole number of 32 bits that is not negative
abbrev pub small : ℕ → Option ℕ
small n = where_true (nat_lt n (2 ^ 32)) (Some n)

abbrev pub small_of : Data → Option ℕ
small_of value = option_and_then small (option_and_then as_u64 (as_number value))

-- a coordinate: a whole number within 300,000,000 decimetres either way
abbrev pub near_enough : ℤ → Option ℤ
near_enough z = where_true (int_le (negsuc 299999999) z && int_le z (pos 300000000)) (Some z)

abbrev pub coordinate_of : Data → Option ℤ
coordinate_of value = option_and_then near_enough (option_and_then as_i64 (as_number value))

-- what two values make, where there are exactly two and something comes of each
abbrev pub of_two : {A B : Type 0} → (Data → Option A) → (A → A → B) → List Data → Option B
of_two f make (a ∷ b ∷ []) = option_and_then (λ x. option_map (make x) (f b)) (f a)
of_two f make _ = None

-- what three values make
abbrev pub of_three : {A B : Type 0} → (Data → Option A) → (A → A → A → B) → List Data → Option B
of_three f make (a ∷ b ∷ c ∷ []) = option_and_then (λ x. option_and_then (λ y. option_map (make x y) (f c)) (f b)) (f a)
of_three f make _ = None

-- ---- lines

-- a colour: three bytes, each as two hexadecimal digits of either case
abbrev pub colour_of_text : List ℕ → Option (List ℕ)
colour_of_text text = result_ok (decode_sized text 3)

abbrev pub importance : ℕ → Option ℕ
importance n = where_true (nat_le 1 n && nat_le n 16) (Some n)

abbrev pub importance_of : Data → Option ℕ
importance_of value = option_and_then importance (small_of value)

abbrev pub line_with : List ℕ → List ℕ → ℕ → LineForm
line_with name colour importance = record { name = name; colour = colour; importance = importance }

-- a line: an object with its name, its colour and its importance
abbrev pub line_of : Data → Option LineForm
line_of value =
    option_and_then (λ name. option_and_then (λ colour. option_map (line_with name colour)
    (option_and_then importance_of (get (codes "importance") value)))
    (option_and_then colour_of_text (text_at (codes "colour") value)))
    (text_at (codes "name") value)

-- ---- features

abbrev pub seg_of : Data → Option SegId
seg_of value = option_map (λ n. record { 0 = n }) (small_of value)

abbrev pub line_id_of : Data → Option LineId
line_id_of value = option_map (λ n. record { 0 = n }) (small_of value)

abbrev pub join_with : ℕ → ℕ → ℕ → Join
join_with e f line = record { e = record { 0 = e }; f = record { 0 = f }; line = record { 0 = line } }

-- a connection: the numbers of two segments and of a line
abbrev pub join_of : Data → Option Join
join_of value = option_and_then (of_three small_of join_with) (array_of value)

-- a name that may be missing: nothing where it is no text
abbrev pub name_or_none : Option Data → Option (Option (List ℕ))
name_or_none None = Some None
name_or_none (Some value) = option_map Some (as_str value)

abbrev pub point_with : ℤ → ℤ → Point
point_with x y = record { x = x; y = y }

-- two coordinates
abbrev pub place_of : Data → Option Point
place_of value = option_and_then (of_two coordinate_of point_with) (array_of value)

abbrev pub node_with : Point → Option (List ℕ) → List SegId → List Join → NodeForm
node_with place name round joins = record { place = place; name = name; round = round; joins = joins }

-- a node, by its geometry and its properties
abbrev pub node_of : Data → Data → Option NodeForm
node_of geometry properties =
    option_and_then (λ place. option_and_then (λ name. option_and_then (λ round. option_map (node_with place name round)
    (option_and_then (array_of_each join_of) (get (codes "joins") properties)))
    (option_and_then (array_of_each seg_of) (get (codes "round") properties)))
    (name_or_none (get (codes "name") properties)))
    (option_and_then place_of (get (codes "coordinates") geometry))

abbrev pub ends_with : ℕ → ℕ → NodeId × NodeId
ends_with lower upper = (record { 0 = lower }, record { 0 = upper })

-- the numbers of two nodes
abbrev pub ends_of : Data → Option (NodeId × NodeId)
ends_of value = option_and_then (of_two small_of ends_with) (array_of value)

abbrev pub segment_with : NodeId × NodeId → List LineId → SegmentForm
segment_with ends lines = record { ends = ends; lines = lines }

-- a segment: its coordinates are any array
abbrev pub segment_of : Data → Data → Option SegmentForm
segment_of geometry properties =
    option_and_then (λ _. option_and_then (λ ends. option_map (segment_with ends)
    (option_and_then (array_of_each line_id_of) (get (codes "lines") properties)))
    (option_and_then ends_of (get (codes "ends") properties)))
    (option_and_then as_array (get (codes "coordinates") geometry))

-- a node or a segment, by the type of its geometry
abbrev pub shaped : Data → Data → Option Feature
shaped geometry properties =
    if is_text (codes "Point") (text_at (codes "type") geometry) then option_map Node (node_of geometry properties)
    else if is_text (codes "LineString") (text_at (codes "type") geometry) then option_map Segment (segment_of geometry properties)
    else None

abbrev pub feature_of : Data → Option Feature
feature_of value =
    where_true (is_text (codes "Feature") (text_at (codes "type") value))
    (option_and_then (λ geometry. option_and_then (shaped geometry) (get (codes "properties") value)) (get (codes "geometry") value))

-- ---- the whole

-- the lines and the features of a file
abbrev pub arrays_of : Data → Option (List Data × List Data)
arrays_of value =
    where_true (is_text (codes "FeatureCollection") (text_at (codes "type") value))
    (option_and_then (λ lines. option_map (λ features. (lines, features)) (option_and_then array_of (get (codes "features") value)))
    (option_and_then array_of (get (codes "lines") value)))
