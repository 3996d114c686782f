-- What features of a graph file make: a consistent graph, where limits and references hold.
use Rattle.std.proofs.Common.{◌≡◌, refl, sym, ap, subst, ◌∙◌, ap₂, ℕ, zero, suc, ◌+◌, ◌^◌, ◌<◌, ◌≤◌, Bool, true, false, ◌||◌, List, [], ◌∷◌, ◌++◌, length, map, fold, arith, nat_lt}
use Rattle.std.specs.Prelude.{All, Contains, Option, Some, None, if◌then◌else◌}
use Rattle.std.specs.List.{list_any}
use Rattle.std.proofs.lemmas.Bool.{eqb-true, eq-eqb, ltb-false}
use Rattle.std.proofs.lemmas.List.{length-map}
use Rattle.std.specs.List.{AllByRecursion as ByRecursion}
use Rattle.std.proofs.lemmas.List.Elements.{All-from_recursion, recursion_from_All, All-map}
use Rattle.std.proofs.lemmas.List.Folds.{Any-from_list_any, list_any-append}
use Rattle.std.specs.Option.{option_or}
use Rattle.map_base.specs.declared.ids.LineId.{LineId}
use Rattle.map_base.specs.declared.limit.Limit.{Limit}
use Rattle.map_base.specs.declared.limit.LimitKind.{LimitKind}
use Rattle.map_base.specs.declared.limit.LimitKind.TheVariants as kind
use Rattle.map_base.specs.Limits.{limit_of, limit_most}
use Rattle.map_base.specs.Settings.{IsImportance}
use Rattle.graph_core.specs.declared.parts.GraphParts.{GraphParts}
use Rattle.graph_core.specs.Consistent.{IsConsistent, IsNear, AreFewLines}
use Rattle.graph_json.specs.declared.forms.LineForm.{LineForm}
use Rattle.graph_json.specs.declared.forms.NodeForm.{NodeForm}
use Rattle.graph_json.specs.declared.forms.SegmentForm.{SegmentForm}
use Rattle.graph_json.specs.declared.forms.Feature.{Feature}
use Rattle.graph_json.specs.declared.forms.Feature.TheVariants.{Node, Segment}
use Rattle.graph_json.specs.declared.columns.Columns.{Columns}
use Rattle.graph_json.specs.Columns.{AreColumns}
use Rattle.graph_json.specs.Limits.{is_line, with_line, with_lines, lines_on, names_in, above, limit_met}
use Rattle.graph_json.specs.References.{nodes_in, segments_in, names_of_nodes, kinds_from, is_node, node_holds, segment_holds, broken_from}
use Rattle.graph_json.specs.Outcome.{graph_made, imported_with, imported_of, broken_in, limit_of_features, IsNamed, IsImportant, LiesNear, IsComplete}
use Rattle.graph_json.proofs.Consistency.{IsShaped, consistent, lines_listed}

-- ---- references

module _ (g : GraphParts) (listed : ℕ) where
  nodes_hold : (i n s : ℕ) (fs : List Feature) → broken_from g listed i n s (map is_node fs) ≡ None → (k : ℕ) → k < length (nodes_in fs) → node_holds g (n + k) ≡ true
  nodes_hold i n s [] none k h = absurd (omega arith)
  nodes_hold i n s (Segment x ∷ fs) none k h = by (segment_holds g listed s) none (λ none. nodes_hold (i + 1) n (s + 1) fs none k h)
    where
      by : (b : Bool) → (if b then broken_from g listed (i + 1) n (s + 1) (map is_node fs) else Some i) ≡ None
          → (broken_from g listed (i + 1) n (s + 1) (map is_node fs) ≡ None → node_holds g (n + k) ≡ true) → node_holds g (n + k) ≡ true
      by true none later = later none
      by false none later = absurd (cc)
  nodes_hold i n s (Node x ∷ fs) none k h = by (node_holds g n) refl none (λ none k h. nodes_hold (i + 1) (n + 1) s fs none k h) k h
    where
      by : (b : Bool) → node_holds g n ≡ b → (if b then broken_from g listed (i + 1) (n + 1) s (map is_node fs) else Some i) ≡ None
          → (broken_from g listed (i + 1) (n + 1) s (map is_node fs) ≡ None → (k : ℕ) → k < length (nodes_in fs) → node_holds g ((n + 1) + k) ≡ true)
          → (k : ℕ) → k < suc (length (nodes_in fs)) → node_holds g (n + k) ≡ true
      by true e none later zero h = let here : n + 0 ≡ n = omega arith in ap (node_holds g) here ∙ e
      by true e none later (suc k) h =
          let here : n + suc k ≡ (n + 1) + k = omega arith in
          ap (node_holds g) here ∙ later none k (omega arith)
      by false e none later k h = absurd (cc)

  segments_hold : (i n s : ℕ) (fs : List Feature) → broken_from g listed i n s (map is_node fs) ≡ None → (k : ℕ) → k < length (segments_in fs) → segment_holds g listed (s + k) ≡ true
  segments_hold i n s [] none k h = absurd (omega arith)
  segments_hold i n s (Node x ∷ fs) none k h = by (node_holds g n) none (λ none. segments_hold (i + 1) (n + 1) s fs none k h)
    where
      by : (b : Bool) → (if b then broken_from g listed (i + 1) (n + 1) s (map is_node fs) else Some i) ≡ None
          → (broken_from g listed (i + 1) (n + 1) s (map is_node fs) ≡ None → segment_holds g listed (s + k) ≡ true) → segment_holds g listed (s + k) ≡ true
      by true none later = later none
      by false none later = absurd (cc)
  segments_hold i n s (Segment x ∷ fs) none k h = by (segment_holds g listed s) refl none (λ none k h. segments_hold (i + 1) n (s + 1) fs none k h) k h
    where
      by : (b : Bool) → segment_holds g listed s ≡ b → (if b then broken_from g listed (i + 1) n (s + 1) (map is_node fs) else Some i) ≡ None
          → (broken_from g listed (i + 1) n (s + 1) (map is_node fs) ≡ None → (k : ℕ) → k < length (segments_in fs) → segment_holds g listed ((s + 1) + k) ≡ true)
          → (k : ℕ) → k < suc (length (segments_in fs)) → segment_holds g listed (s + k) ≡ true
      by true e none later zero h = let here : s + 0 ≡ s = omega arith in ap (segment_holds g listed) here ∙ e
      by true e none later (suc k) h =
          let here : s + suc k ≡ (s + 1) + k = omega arith in
          ap (segment_holds g listed) here ∙ later none k (omega arith)
      by false e none later k h = absurd (cc)

-- ---- limits

none_first : (a b : Option Limit) → option_or a b ≡ None → (a ≡ None) × (b ≡ None)
none_first None b e = (refl, e)
none_first (Some x) b e = absurd (cc)

within : (of : LimitKind) (count : ℕ) → above of count ≡ None → count ≤ limit_most of
within of count e = by (nat_lt (limit_most of) count) refl e
  where
    by : (b : Bool) → nat_lt (limit_most of) count ≡ b → (if b then Some (limit_of of) else None) ≡ None → count ≤ limit_most of
    by true t e = absurd (cc)
    by false t e = ltb-false (limit_most of) count t

-- a line is known once it is added, and what was known stays
abbrev In : List LineId → LineId → Type 0
In known l = list_any (is_line l) known ≡ true

kept_one : (known : List LineId) (l x : LineId) → In known x → In (with_line known l) x
kept_one known l x h = by (list_any (is_line l) known)
  where
    by : (b : Bool) → In (if b then known else known ++ l ∷ []) x
    by true = h
    by false = list_any-append (is_line x) known (l ∷ []) ∙ ap (λ (b : Bool). b || list_any (is_line x) (l ∷ [])) h

added_one : (known : List LineId) (l : LineId) → In (with_line known l) l
added_one known l = by (list_any (is_line l) known) refl
  where
    by : (b : Bool) → list_any (is_line l) known ≡ b → In (if b then known else known ++ l ∷ []) l
    by true e = e
    by false e = list_any-append (is_line l) known (l ∷ []) ∙ ap (λ (b : Bool). b || list_any (is_line l) (l ∷ [])) e ∙ ap (λ (b : Bool). b || false) (eq-eqb l.0 l.0 refl)

kept : (known ls : List LineId) (x : LineId) → In known x → In (with_lines known ls) x
kept known [] x h = h
kept known (l ∷ ls) x h = kept (with_line known l) ls x (kept_one known l x h)

kept_all : (known : List LineId) (segments : List (List LineId)) (x : LineId) → In known x → In (fold with_lines known segments) x
kept_all known [] x h = h
kept_all known (ls ∷ segments) x h = kept_all (with_lines known ls) segments x (kept known ls x h)

added : (known ls : List LineId) (segments : List (List LineId)) → ByRecursion (In (fold with_lines (with_lines known ls) segments)) ls
added known [] segments = tt
added known (l ∷ ls) segments = (kept_all _ segments l (kept (with_line known l) ls l (added_one known l)), added (with_line known l) ls segments)

added_all : (known : List LineId) (segments : List (List LineId)) → ByRecursion (ByRecursion (In (fold with_lines known segments))) segments
added_all known [] = tt
added_all known (ls ∷ segments) = (added known ls segments, added_all (with_lines known ls) segments)

contained : (known : List LineId) (x : LineId) → In known x → Contains known x
contained known x t =
    let there = Any-from_list_any (is_line x) known t in
    subst (Contains known) (ap (λ (n : ℕ). record { 0 = n }) (sym (eqb-true x.0 there.1.0 there.4))) (there.0, there.2, there.3)

few_lines : (segments : List (List LineId)) → length (lines_on segments) ≤ 1000 → AreFewLines 1000 segments
few_lines segments h = (
  lines_on segments,
  h,
  λ k d i. λ j e m.
      contained (lines_on segments) _ (All-from_recursion _ _ (All-from_recursion _ segments (added_all [] segments) k d i) j e m),
)

-- ---- the whole

pub length-kinds_from : (s : ℕ) (names : List (Option (List ℕ))) → length (kinds_from s names) ≡ length names
length-kinds_from s [] = refl
length-kinds_from s (Some name ∷ names) = ap suc (length-kinds_from (s + 1) names)
length-kinds_from s (None ∷ names) = ap suc (length-kinds_from s names)

pub kinds_each : (fs : List Feature) → length (graph_made fs).kinds ≡ length (nodes_in fs)
kinds_each fs = length-kinds_from 0 (names_of_nodes (nodes_in fs)) ∙ length-map (nodes_in fs) (λ (n : NodeForm). n.name)

named : (s : ℕ) (names : List (Option (List ℕ))) (all : ℕ) → s + length (names_in names) ≤ all → ByRecursion (IsNamed all) (kinds_from s names)
named s [] all h = tt
named s (Some name ∷ names) all h = (omega arith, named (s + 1) names all (omega arith))
named s (None ∷ names) all h = (tt, named s names all h)

near_places : (fs : List Feature) → ByRecursion LiesNear fs → ByRecursion (λ (n : NodeForm). IsNear n.place) (nodes_in fs)
near_places [] h = tt
near_places (Node n ∷ fs) h = (h.0, near_places fs h.1)
near_places (Segment s ∷ fs) h = near_places fs h.1

-- what columns meet, the features meet
pub limits_of_columns : (columns : Columns) (fs : List Feature) → AreColumns columns fs → limit_met columns.lines.items columns.names.items ≡ None
    → limit_of_features fs ≡ None
limits_of_columns columns fs are none = ap₂ limit_met (sym are.lines) (sym are.names) ∙ none

module _ (fs : List Feature) (limits : limit_of_features fs ≡ None) where
  pub shaped : IsShaped (graph_made fs)
  shaped =
      let first = none_first (above kind.Lines (length (lines_on (graph_made fs).lines)))
      (option_or (above kind.Stations (length (names_in (names_of_nodes (nodes_in fs)))))
      (option_or (above kind.Nodes (length (names_of_nodes (nodes_in fs)))) (above kind.Segments (length (graph_made fs).lines)))) limits in
      let names = names_of_nodes (nodes_in fs) in
      let second = none_first (above kind.Stations (length (names_in names))) (option_or (above kind.Nodes (length names)) (above kind.Segments (length (graph_made fs).lines))) first.1 in
      let third = none_first (above kind.Nodes (length names)) (above kind.Segments (length (graph_made fs).lines)) second.1 in
      let kinds = kinds_each fs in
      record {
        place_each = length-map (nodes_in fs) (λ (n : NodeForm). n.place) ∙ sym kinds;
        round_each = length-map (nodes_in fs) (λ (n : NodeForm). n.round) ∙ sym kinds;
        joins_each = length-map (nodes_in fs) (λ (n : NodeForm). n.joins) ∙ sym kinds;
        lines_each = length-map (segments_in fs) (λ (s : SegmentForm). s.lines) ∙ sym (length-map (segments_in fs) (λ (s : SegmentForm). s.ends));
        few_nodes = omega (arith, within kind.Nodes (length (names_of_nodes (nodes_in fs))) third.0, kinds, length-map (nodes_in fs) (λ (n : NodeForm). n.name));
        few_segments = omega (arith, within kind.Segments (length (graph_made fs).lines) third.1, length-map (segments_in fs) (λ (s : SegmentForm). s.lines), length-map (segments_in fs) (λ (s : SegmentForm). s.ends));
        few_lines = few_lines (graph_made fs).lines (within kind.Lines (length (lines_on (graph_made fs).lines)) first.0);
      }

module _ (lines : List LineForm) (fs : List Feature) (limits : limit_of_features fs ≡ None) (whole : broken_in fs (length lines) ≡ None) (near : All LiesNear fs) where
  abbrev g : GraphParts
  g = graph_made fs

  node : (n : ℕ) → n < length g.kinds → node_holds g n ≡ true
  node n h =
      let here : n ≡ 0 + n = omega arith in
      ap (node_holds g) here ∙ nodes_hold g (length lines) 0 0 0 fs whole n (omega (arith, h, kinds_each fs))

  segment : (s : ℕ) → s < length g.ends → segment_holds g (length lines) s ≡ true
  segment s h =
      let here : s ≡ 0 + s = omega arith in
      ap (segment_holds g (length lines)) here ∙ segments_hold g (length lines) 0 0 0 fs whole s (omega (arith, h, length-map (segments_in fs) (λ (s : SegmentForm). s.ends)))

  places : All IsNear g.places
  places = All-map IsNear (λ (n : NodeForm). n.place) (nodes_in fs) (All-from_recursion _ (nodes_in fs) (near_places fs (recursion_from_All _ fs near)))

  pub made_consistent : IsConsistent g
  made_consistent = consistent g (length lines) (shaped fs limits) node segment places

  pub complete : length lines < 2 ^ 32 → All IsImportant lines → IsComplete (imported_of lines fs)
  complete few important =
      let stations = names_in (names_of_nodes (nodes_in fs)) in
      let within : 0 + length stations ≤ length stations = omega arith in
      let listed : length (map (λ (l : LineForm). (l.name, l.colour)) lines) ≡ length lines = length-map lines (λ (l : LineForm). (l.name, l.colour)) in
      let numbers : length (map (λ (l : LineForm). l.importance) lines) ≡ length lines = length-map lines (λ (l : LineForm). l.importance) in
      record {
        stations = All-from_recursion (IsNamed (length stations)) g.kinds (named 0 (names_of_nodes (nodes_in fs)) (length stations) within);
        lines = subst (λ (n : ℕ). All (All (λ (l : LineId). l.0 < n)) g.lines) (sym listed) (lines_listed g (length lines) (shaped fs limits) node segment);
        importance_each = numbers ∙ sym listed;
        few = subst (λ (n : ℕ). n < 2 ^ 32) (sym numbers) few;
        importance = All-map IsImportance (λ (l : LineForm). l.importance) lines important;
      }

-- ---- by columns

module _ (columns : Columns) (lines : List LineForm) (fs : List Feature) (are : AreColumns columns fs) (limits : limit_met columns.lines.items columns.names.items ≡ None)
    (parts : GraphParts) (is : parts ≡ graph_made fs) where
  pub few_ends : length parts.ends ≤ 20000
  few_ends = subst (λ (g : GraphParts). length g.ends ≤ 20000) (sym is) (shaped fs (limits_of_columns columns fs are limits)).few_segments

module _ (columns : Columns) (lines : List LineForm) (fs : List Feature) (are : AreColumns columns fs) (limits : limit_met columns.lines.items columns.names.items ≡ None)
    (parts : GraphParts) (is : parts ≡ graph_made fs) (nodes : List Bool) (all : nodes ≡ columns.are_nodes.items)
    (sound : broken_from parts (length lines) 0 0 0 nodes ≡ None) (near : All LiesNear fs) where
  whole : broken_in fs (length lines) ≡ None
  whole = ap₂ (λ g b. broken_from g (length lines) 0 0 0 b) (sym is) (sym (all ∙ are.are_nodes)) ∙ sound

  pub parts_consistent : IsConsistent parts
  parts_consistent = subst IsConsistent (sym is) (made_consistent lines fs (limits_of_columns columns fs are limits) whole near)

  pub read_complete : (stations : List (List ℕ)) → stations ≡ names_in columns.names.items → length lines < 2 ^ 32 → All IsImportant lines
      → IsComplete (imported_with lines parts stations)
  read_complete stations called few important =
      let by_features = complete lines fs (limits_of_columns columns fs are limits) whole near few important in
      subst (λ (g : GraphParts). IsComplete (imported_with lines g stations)) (sym is)
      (subst (λ (s : List (List ℕ)). IsComplete (imported_with lines (graph_made fs) s)) (sym (called ∙ ap names_in are.names)) by_features)
