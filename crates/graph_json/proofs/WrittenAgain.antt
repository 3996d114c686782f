-- What was written of a consistent graph is read as this graph.
use Rattle.std.proofs.Common.{◌≡◌, refl, sym, ap, ap₂, subst, ◌∙◌, ℕ, suc, ◌+◌, ◌-◌, ◌<◌, ◌≤◌, ◌^◌, ◌==◌, Bool, true, false, List, [], ◌∷◌, ◌++◌, length, map, take, get_or, arith, length-append, append-nil}
use Rattle.std.specs.Prelude.{All, Contains, Option, Some, None, option_map, option_and_then, unwrap_or, slice_get, nat_lt, pos, IsUtf8, Ok, if◌then◌else◌}
use Rattle.std.specs.List.{AllByRecursion as ByRecursion, range_with_len}
use Rattle.std.proofs.lemmas.Bool.{ltb-true}
use Rattle.std.proofs.lemmas.List.{length-map}
use Rattle.std.proofs.lemmas.List.Elements.{All-get_or, recursion_from_All, All-from_recursion, filter_map-append}
use Rattle.std.proofs.lemmas.List.FromFn.{length-range_with_len}
use Rattle.std.proofs.lemmas.List.Sorted.{All-permutation}
use Rattle.std.proofs.lemmas.Option.{unwrap_or-slice_get}
use Rattle.std.specs.Option.{option_or}
use Rattle.map_base.specs.declared.ids.LineId.{LineId}
use Rattle.map_base.specs.declared.ids.NodeId.{NodeId}
use Rattle.map_base.specs.declared.ids.SegId.{SegId}
use Rattle.map_base.specs.declared.limit.LimitKind.{LimitKind}
use Rattle.map_base.specs.declared.limit.LimitKind.TheVariants as kind
use Rattle.map_base.specs.declared.point.Point.{Point}
use Rattle.map_base.specs.Limits.{limit_of, limit_most}
use Rattle.graph_core.specs.declared.parts.GraphParts.{GraphParts}
use Rattle.graph_core.specs.declared.parts.Join.{Join}
use Rattle.graph_core.specs.declared.parts.NodeKind.{NodeKind}
use Rattle.graph_core.specs.declared.parts.NodeKind.TheVariants.{Junction}
use Rattle.graph_core.specs.Consistent.{IsConsistent, IsNear, AreEnds}
use Rattle.graph_core.specs.Round.{ends_at, segments_from, segments_at}
use Rattle.svg_writer.specs.declared.names.Names.{Names}
use Rattle.svg_writer.specs.Picture as p
use Rattle.serde_json.specs.Data.{Data, depth}
use Rattle.serde_json.specs.Read.{max_depth, read}
use Rattle.serde_json.specs.Written.{has_float, compact_text}
use Rattle.graph_json.specs.declared.forms.LineForm.{LineForm}
use Rattle.graph_json.specs.declared.forms.NodeForm.{NodeForm}
use Rattle.graph_json.specs.declared.forms.SegmentForm.{SegmentForm}
use Rattle.graph_json.specs.declared.forms.Feature.{Feature}
use Rattle.graph_json.specs.declared.forms.Feature.TheVariants.{Node, Segment}
use Rattle.graph_json.specs.Forms as forms
use Rattle.graph_json.specs.Written as w
use Rattle.graph_json.specs.Again.{node_name, name_and_colour, read_again, CanBeRead}
use Rattle.graph_json.specs.Limits.{lines_on, names_in, above, limit_met}
use Rattle.graph_json.specs.References.{node_in, segment_in, nodes_in, segments_in, names_of_nodes, kinds_from, is_node, is_sound_segment, node_holds, segment_holds, broken_from}
use Rattle.graph_json.specs.Outcome.{without_feed, text_value, value_of, of_value, of_arrays, with_lines, with_features, within_limits, unless_broken, limit_of_features, broken_in, graph_made, imported_of, each_or_first, graph_outcome}
use Rattle.graph_json.proofs.Texts.{of_text}
use Rattle.graph_json.proofs.PlainValues.{graph_plain}
use Rattle.graph_json.proofs.Assembly.{length-kinds_from}
use Rattle.graph_json.proofs.ListBack.{of_each_mapped, of_each_append, all_entries, below_range, by_number, map_same, map_map}
use Rattle.graph_json.proofs.ReadBack.{array_back, line_back, node_back, segment_back, IsSmall}
use Rattle.graph_json.proofs.Sound.{nodes_pass, segments_pass, each_listed, few_lines}

-- ---- the text

last_of : (text : List ℕ) → get_or (text ++ 10 ∷ []) (length text) 0 ≡ 10
last_of [] = refl
last_of (x ∷ text) = last_of text

front_of : (text : List ℕ) → take (length text) (text ++ 10 ∷ []) ≡ text
front_of [] = refl
front_of (x ∷ text) = ap (λ l. x ∷ l) (front_of text)

feed_away : (text : List ℕ) → without_feed (text ++ 10 ∷ []) ≡ text
feed_away text =
    let count : length (text ++ 10 ∷ []) - 1 ≡ length text = omega (arith, length-append text (10 ∷ [])) in
    ap (λ (n : ℕ). if get_or (text ++ 10 ∷ []) n 0 == 10 then take n (text ++ 10 ∷ []) else text ++ 10 ∷ []) count
    ∙ ap (λ (b : ℕ). if b == 10 then take (length text) (text ++ 10 ∷ []) else text ++ 10 ∷ []) (last_of text)
    ∙ front_of text

-- a text with a line feed behind it has the text's value
pub text_read : (text : List ℕ) (d : Data) → IsUtf8 text → read text ≡ Some d → value_of (text ++ 10 ∷ []) ≡ Some d
text_read text d utf8 is = ap text_value (feed_away text) ∙ of_text text d utf8 is

-- ---- features apart

module _ {A : Type 0} where
  pub nodes_there : (f : A → NodeForm) (xs : List A) → nodes_in (map (λ x. Node (f x)) xs) ≡ map f xs
  nodes_there f [] = refl
  nodes_there f (x ∷ xs) = ap (λ l. f x ∷ l) (nodes_there f xs)

  no_nodes : (f : A → SegmentForm) (xs : List A) → nodes_in (map (λ x. Segment (f x)) xs) ≡ []
  no_nodes f [] = refl
  no_nodes f (x ∷ xs) = no_nodes f xs

  segments_there : (f : A → SegmentForm) (xs : List A) → segments_in (map (λ x. Segment (f x)) xs) ≡ map f xs
  segments_there f [] = refl
  segments_there f (x ∷ xs) = ap (λ l. f x ∷ l) (segments_there f xs)

  no_segments : (f : A → NodeForm) (xs : List A) → segments_in (map (λ x. Node (f x)) xs) ≡ []
  no_segments f [] = refl
  no_segments f (x ∷ xs) = no_segments f xs

-- ---- tests that pass

within : (of : LimitKind) (count : ℕ) → count ≤ limit_most of → above of count ≡ None
within of count h = by (nat_lt (limit_most of) count) refl
  where
    by : (b : Bool) → nat_lt (limit_most of) count ≡ b → (if b then Some (limit_of of) else None) ≡ None
    by true t = let more : limit_most of < count = ltb-true (limit_most of) count t in absurd (omega arith)
    by false t = refl

named_most : (names : List (Option (List ℕ))) → length (names_in names) ≤ length names
named_most [] = omega arith
named_most (Some name ∷ names) = omega (arith, named_most names)
named_most (None ∷ names) = omega (arith, named_most names)

module _ (g : GraphParts) (listed : ℕ) where
  none_broken : (i n s : ℕ) (fs : List Feature) → ((k : ℕ) → k < length (nodes_in fs) → node_holds g (n + k) ≡ true)
      → ((k : ℕ) → k < length (segments_in fs) → segment_holds g listed (s + k) ≡ true) → broken_from g listed i n s (map is_node fs) ≡ None
  none_broken i n s [] nodes segments = refl
  none_broken i n s (Node x ∷ fs) nodes segments =
      let here : n ≡ n + 0 = omega arith in
      ap (λ (b : Bool). if b then broken_from g listed (i + 1) (n + 1) s (map is_node fs) else Some i) (ap (node_holds g) here ∙ nodes 0 (omega arith))
      ∙ none_broken (i + 1) (n + 1) s fs (λ k h. let next : (n + 1) + k ≡ n + suc k = omega arith in ap (node_holds g) next ∙ nodes (suc k) (omega arith)) segments
  none_broken i n s (Segment x ∷ fs) nodes segments =
      let here : s ≡ s + 0 = omega arith in
      ap (λ (b : Bool). if b then broken_from g listed (i + 1) n (s + 1) (map is_node fs) else Some i) (ap (segment_holds g listed) here ∙ segments 0 (omega arith))
      ∙ none_broken (i + 1) n (s + 1) fs nodes (λ k h. let next : (s + 1) + k ≡ s + suc k = omega arith in ap (segment_holds g listed) next ∙ segments (suc k) (omega arith))

-- the segments at a node are segments of the graph
below_from : (i n : ℕ) (es : List (NodeId × NodeId)) (all : ℕ) → i + length es ≤ all → ByRecursion (λ (s : SegId). s.0 < all) (segments_from i n es)
below_from i n [] all h = tt
below_from i n (e ∷ es) all h = by (ends_at n e) (below_from (i + 1) n es all (omega arith))
  where
    by : (b : Bool) → ByRecursion (λ (s : SegId). s.0 < all) (segments_from (i + 1) n es)
        → ByRecursion (λ (s : SegId). s.0 < all) (if b then record { 0 = i } ∷ segments_from (i + 1) n es else segments_from (i + 1) n es)
    by true rest = (omega arith, rest)
    by false rest = rest

-- ---- the whole

module _ (g : GraphParts) (names : Names) (importance : List ℕ) (fit : IsConsistent g) (can : CanBeRead g names importance) where
  abbrev lines : List ℕ
  lines = range_with_len 0 (w.lines_listed g.lines)

  abbrev nodes : List ℕ
  nodes = range_with_len 0 (length g.kinds)

  abbrev segments : List ℕ
  segments = range_with_len 0 (length g.ends)

  abbrev line_form : ℕ → LineForm
  line_form l = forms.line_with (name_and_colour names l).0 (name_and_colour names l).1 (w.importance_at importance l)

  lines_back : each_or_first forms.line_of 0 (w.lines_data g names importance) ≡ Ok (map line_form lines)
  lines_back = all_entries forms.line_of 0 (w.lines_data g names importance) (map line_form lines)
      (of_each_mapped forms.line_of (w.line_data names importance) line_form lines (below_range (w.lines_listed g.lines) (λ l. forms.line_of (w.line_data names importance l) ≡ Some (line_form l)) (λ l h.
      line_back _ _ _ (can.colours l h).0 (can.colours l h).1 (can.importances l h).0 (can.importances l h).1)))

  abbrev node_form : ℕ → NodeForm
  node_form n = forms.node_with (w.point_at g.places n) (node_name names (p.kind_at g.kinds n)) (p.round_at g.rounds n) (p.joins_at g.joins n)

  abbrev segment_form : ℕ → SegmentForm
  segment_form s = forms.segment_with (p.ends_at g.ends s) (p.lines_at g.lines s)

  abbrev features : List Feature
  features = map (λ n. Node (node_form n)) nodes ++ map (λ s. Segment (segment_form s)) segments

  near : (n : ℕ) → n < length g.kinds → IsNear (w.point_at g.places n)
  near n h = subst IsNear (sym (unwrap_or-slice_get g.places n _)) (All-get_or IsNear g.places n _ (omega (arith, fit.place_each)) fit.places)

  round_below : (n : ℕ) → n < length g.kinds → All (λ (s : SegId). s.0 < length g.ends) (get_or g.rounds n [])
  round_below n h =
      All-permutation (λ (s : SegId). s.0 < length g.ends) (segments_at n g.ends) (get_or g.rounds n []) (fit.rounds n (omega (arith, fit.round_each))).1
      (All-from_recursion _ (segments_at n g.ends) (below_from 0 n g.ends (length g.ends) (omega arith)))

  contained : {X : Type 0} (P : X → Type 0) (xs : List X) (x : X) → All P xs → Contains xs x → P x
  contained P xs x all there = subst P there.2 (all there.0 x there.1)

  line_below : (s : ℕ) → s < length g.ends → All (λ (l : LineId). l.0 < w.lines_listed g.lines) (get_or g.lines s [])
  line_below s h = All-from_recursion _ _ (All-from_recursion _ g.lines (each_listed g.lines) s [] (omega (arith, fit.lines_each)))

  small : (n : ℕ) → n < length g.kinds → All IsSmall (get_or g.joins n [])
  small n h k d i =
      let is = fit.joins n (omega (arith, fit.joins_each)) k d i in
      let lesser = contained (λ (s : SegId). s.0 < length g.ends) (get_or g.rounds n []) _ (round_below n h) is.lesser in
      let greater = contained (λ (s : SegId). s.0 < length g.ends) (get_or g.rounds n []) _ (round_below n h) is.greater in
      let line = contained (λ (l : LineId). l.0 < w.lines_listed g.lines) _ _ (line_below _ lesser) is.on_lesser in
      record { lesser = omega (arith, lesser, fit.few_segments); greater = omega (arith, greater, fit.few_segments); line = omega (arith, line, can.few) }

  at : {X : Type 0} (xs : List (List X)) (n : ℕ) (P : X → Type 0) → All P (get_or xs n []) → ByRecursion P (unwrap_or (slice_get xs n) [])
  at xs n P h = subst (ByRecursion P) (sym (unwrap_or-slice_get xs n [])) (recursion_from_All P (get_or xs n []) h)

  nodes_back : forms.of_each forms.feature_of (map (w.node_data g names) nodes) ≡ Some (map (λ n. Node (node_form n)) nodes)
  nodes_back = of_each_mapped forms.feature_of (w.node_data g names) (λ n. Node (node_form n)) nodes (below_range (length g.kinds) (λ n. forms.feature_of (w.node_data g names n) ≡ Some (Node (node_form n))) (λ n h.
      node_back names (p.joins_at g.joins n) (p.round_at g.rounds n) (p.kind_at g.kinds n) (w.point_at g.places n) (near n h)
      (at g.joins n IsSmall (small n h)) (at g.rounds n (λ (s : SegId). s.0 < 2 ^ 32) (λ k d i. let low = round_below n h k d i in omega (arith, low, fit.few_segments)))))

  abbrev no_ends : NodeId × NodeId
  no_ends = (record { 0 = 0 }, record { 0 = 0 })

  end_below : (s : ℕ) → s < length g.ends → ((p.ends_at g.ends s).0.0 < 2 ^ 32) × ((p.ends_at g.ends s).1.0 < 2 ^ 32)
  end_below s h =
      let is = subst (λ (e : NodeId × NodeId). (e.0.0 < e.1.0) × (e.1.0 < length g.kinds)) (sym (unwrap_or-slice_get g.ends s no_ends)) (All-get_or (AreEnds (length g.kinds)) g.ends s no_ends h fit.ends) in
      (omega (arith, is.0, is.1, fit.few_nodes), omega (arith, is.1, fit.few_nodes))

  segments_back : forms.of_each forms.feature_of (map (w.segment_data g) segments) ≡ Some (map (λ s. Segment (segment_form s)) segments)
  segments_back = of_each_mapped forms.feature_of (w.segment_data g) (λ s. Segment (segment_form s)) segments (below_range (length g.ends) (λ s. forms.feature_of (w.segment_data g s) ≡ Some (Segment (segment_form s))) (λ s h.
      segment_back (w.point_at g.places (p.ends_at g.ends s).0.0) (w.point_at g.places (p.ends_at g.ends s).1.0) (p.ends_at g.ends s) (p.lines_at g.lines s) (end_below s h).0 (end_below s h).1
      (at g.lines s (λ (l : LineId). l.0 < 2 ^ 32) (λ k d i. let low = line_below s h k d i in omega (arith, low, can.few)))))

  features_back : each_or_first forms.feature_of 0 (w.features_data g names) ≡ Ok features
  features_back = all_entries forms.feature_of 0 (w.features_data g names) features
      (of_each_append forms.feature_of (map (w.node_data g names) nodes) (map (w.segment_data g) segments) _ _ nodes_back segments_back)

  found_nodes : nodes_in features ≡ map node_form nodes
  found_nodes =
      filter_map-append node_in (map (λ n. Node (node_form n)) nodes) (map (λ s. Segment (segment_form s)) segments)
      ∙ ap₂ (λ a b. a ++ b) (nodes_there node_form nodes) (no_nodes segment_form segments) ∙ append-nil (map node_form nodes)

  found_segments : segments_in features ≡ map segment_form segments
  found_segments =
      filter_map-append segment_in (map (λ n. Node (node_form n)) nodes) (map (λ s. Segment (segment_form s)) segments)
      ∙ ap₂ (λ a b. a ++ b) (no_segments node_form nodes) (segments_there segment_form segments)

  abbrev again : GraphParts
  again = (read_again g names importance).graph

  abbrev parts : List NodeKind → List Point → List (NodeId × NodeId) → List (List LineId) → List (List SegId) → List (List Join) → GraphParts
  parts kinds places ends lines rounds joins = record { kinds = kinds; places = places; ends = ends; lines = lines; rounds = rounds; joins = joins }

  -- a column of nodes, and of segments
  column : {X Y : Type 0} (d : X) (h : X → Y) (f : NodeForm → Y) (xs : List X) → length xs ≡ length g.kinds → ((n : ℕ) → f (node_form n) ≡ h (unwrap_or (slice_get xs n) d))
      → map f (nodes_in features) ≡ map h xs
  column d h f xs count each =
      ap (map f) found_nodes ∙ map_map node_form f nodes ∙ same nodes ∙ by_number d h xs (length g.kinds) count
    where
      same : (ns : List ℕ) → map (λ n. f (node_form n)) ns ≡ map (λ n. h (unwrap_or (slice_get xs n) d)) ns
      same [] = refl
      same (n ∷ ns) = ap₂ (λ a b. a ∷ b) (each n) (same ns)

  names_made : names_of_nodes (nodes_in features) ≡ map (node_name names) g.kinds
  names_made = column Junction (node_name names) (λ (n : NodeForm). n.name) g.kinds refl (λ n. refl)

  places_made : map (λ (n : NodeForm). n.place) (nodes_in features) ≡ g.places
  places_made = column (record { x = pos 0; y = pos 0 }) (λ (x : Point). x) (λ (n : NodeForm). n.place) g.places fit.place_each (λ n. refl) ∙ map_same g.places

  rounds_made : map (λ (n : NodeForm). n.round) (nodes_in features) ≡ g.rounds
  rounds_made = column [] (λ x. x) (λ (n : NodeForm). n.round) g.rounds fit.round_each (λ n. refl) ∙ map_same g.rounds

  joins_made : map (λ (n : NodeForm). n.joins) (nodes_in features) ≡ g.joins
  joins_made = column [] (λ x. x) (λ (n : NodeForm). n.joins) g.joins fit.joins_each (λ n. refl) ∙ map_same g.joins

  ends_made : map (λ (s : SegmentForm). s.ends) (segments_in features) ≡ g.ends
  ends_made = ap (map (λ (s : SegmentForm). s.ends)) found_segments ∙ map_map segment_form (λ (s : SegmentForm). s.ends) segments
      ∙ by_number (record { 0 = 0 }, record { 0 = 0 }) (λ (x : NodeId × NodeId). x) g.ends (length g.ends) refl ∙ map_same g.ends

  lines_made : map (λ (s : SegmentForm). s.lines) (segments_in features) ≡ g.lines
  lines_made = ap (map (λ (s : SegmentForm). s.lines)) found_segments ∙ map_map segment_form (λ (s : SegmentForm). s.lines) segments
      ∙ by_number [] (λ (x : List LineId). x) g.lines (length g.ends) fit.lines_each ∙ map_same g.lines

  graph_again : graph_made features ≡ again
  graph_again = λ i. parts (kinds_from 0 (names_made i)) (places_made i) (ends_made i) (lines_made i) (rounds_made i) (joins_made i)

  length_again : length again.kinds ≡ length g.kinds
  length_again = length-kinds_from 0 (map (node_name names) g.kinds) ∙ length-map g.kinds (node_name names)

  limits : limit_of_features features ≡ None
  limits =
      ap₂ limit_met lines_made names_made
      ∙ ap₂ (λ a b. option_or a (option_or b (option_or (above kind.Nodes (length (map (node_name names) g.kinds))) (above kind.Segments (length g.lines)))))
      (within kind.Lines (length (lines_on g.lines)) (few_lines 1000 g.lines fit.few_lines.0 fit.few_lines.1 fit.few_lines.2))
      (within kind.Stations (length (names_in (map (node_name names) g.kinds))) (omega (arith, named_most (map (node_name names) g.kinds), length-map g.kinds (node_name names), fit.few_nodes)))
      ∙ ap₂ (λ a b. option_or a b) (within kind.Nodes (length (map (node_name names) g.kinds)) (omega (arith, length-map g.kinds (node_name names), fit.few_nodes)))
      (within kind.Segments (length g.lines) (omega (arith, fit.lines_each, fit.few_segments)))

  count_nodes : length (nodes_in features) ≡ length g.kinds
  count_nodes = ap length found_nodes ∙ length-map nodes node_form ∙ length-range_with_len 0 (length g.kinds)

  count_segments : length (segments_in features) ≡ length g.ends
  count_segments = ap length found_segments ∙ length-map segments segment_form ∙ length-range_with_len 0 (length g.ends)

  listed : length (map line_form lines) ≡ w.lines_listed g.lines
  listed = length-map lines line_form ∙ length-range_with_len 0 (w.lines_listed g.lines)

  holds : broken_in features (length (map line_form lines)) ≡ None
  holds =
      ap₂ (λ g n. broken_from g n 0 0 0 (map is_node features)) graph_again listed
      ∙ none_broken again (w.lines_listed g.lines) 0 0 0 features
      (λ k h. let here : 0 + k ≡ k = omega arith in ap (node_holds again) here ∙ nodes_pass g fit k (omega (arith, h, count_nodes)))
      (λ k h. let here : 0 + k ≡ k = omega arith in ap (segment_holds again (w.lines_listed g.lines)) here ∙ segment k (omega (arith, h, count_segments)))
    where
      segment : (s : ℕ) → s < length g.ends → segment_holds again (w.lines_listed g.lines) s ≡ true
      segment s h = ap (λ (n : ℕ). is_sound_segment n (w.lines_listed g.lines) (get_or g.ends s (record { 0 = 0 }, record { 0 = 0 })) (get_or g.lines s [])) length_again ∙ segments_pass g fit s h

  imported_again : imported_of (map line_form lines) features ≡ read_again g names importance
  imported_again = λ i. record {
    graph = graph_again i;
    names = record { stations = names_in (names_made i); lines = map_map line_form (λ (l : LineForm). (l.name, l.colour)) lines i };
    importance = map_map line_form (λ (l : LineForm). l.importance) lines i;
  }

  pub value_again : of_value (Some (w.graph_data g names importance)) ≡ Ok (read_again g names importance)
  value_again =
      ap₂ (λ a b. of_arrays (option_and_then (λ l. option_map (λ f. (l, f)) b) a)) (array_back (w.lines_data g names importance)) (array_back (w.features_data g names))
      ∙ ap (with_lines (w.features_data g names)) lines_back
      ∙ ap (with_features (map line_form lines)) features_back
      ∙ ap (within_limits (map line_form lines) features) limits
      ∙ ap (unless_broken (map line_form lines) features) holds
      ∙ ap Ok imported_again

  -- of a text with the graph's value and a line feed behind it
  pub outcome_again : (text : List ℕ) → IsUtf8 text → read text ≡ Some (w.graph_data g names importance) → graph_outcome (text ++ 10 ∷ []) ≡ Ok (read_again g names importance)
  outcome_again text utf8 is = ap of_value (text_read text (w.graph_data g names importance) utf8 is) ∙ value_again

-- ---- what is written

pub text_written : (g : GraphParts) (names : Names) (importance : List ℕ) (d : Data) (text : List ℕ) → d ≡ w.graph_data g names importance
    → (has_float d ≡ false → text ≡ compact_text d) → text ++ 10 ∷ [] ≡ w.graph_text g names importance
text_written g names importance d text is means =
    ap (λ l. l ++ 10 ∷ []) (means (subst (λ x. has_float x ≡ false) (sym is) (graph_plain g names importance).whole) ∙ ap compact_text is)

pub text_again : (g : GraphParts) (names : Names) (importance : List ℕ) (d : Data) (text : List ℕ) → d ≡ w.graph_data g names importance → IsConsistent g
    → IsUtf8 text → (depth d ≤ max_depth → read text ≡ Some d) → CanBeRead g names importance → graph_outcome (text ++ 10 ∷ []) ≡ Ok (read_again g names importance)
text_again g names importance d text is fit utf8 back can =
    let shallow : depth d ≤ max_depth = subst (λ x. depth x ≤ max_depth) (sym is) (omega (arith, (graph_plain g names importance).shallow)) in
    outcome_again g names importance fit can text utf8 (back shallow ∙ ap Some is)
