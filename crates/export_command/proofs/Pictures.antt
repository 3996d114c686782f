-- The picture of a graph that is read again is the one that it had.
use Rattle.std.proofs.Common.{◌≡◌, ◌∙◌, ap, ap₂, refl, sym, subst, ℕ, zero, suc, ◌+◌, ◌<◌, List, [], ◌∷◌, ◌++◌, length, get_or}
use Rattle.std.specs.List.{flat_map, range_with_len, AllByRecursion as ByRecursion}
use Rattle.std.proofs.lemmas.Option.{unwrap_or-slice_get}
use Rattle.map_base.specs.declared.ids.LineId.{LineId}
use Rattle.graph_core.specs.declared.parts.GraphParts.{GraphParts}
use Rattle.graph_core.specs.declared.parts.Join.{Join}
use Rattle.graph_core.specs.declared.parts.NodeKind.{NodeKind}
use Rattle.graph_core.specs.declared.parts.NodeKind.TheVariants.{Station, Junction}
use Rattle.octi_grid.specs.Walks.{PlainWalk}
use Rattle.svg_writer.specs.declared.names.Names.{Names}
use Rattle.svg_writer.specs.Courses.{gauge, order_at, Courses}
use Rattle.svg_writer.specs.Elements.{texts, Element, Head, Label, OnSegment, Tail}
use Rattle.svg_writer.specs.Picture.{all_joins, all_labels, all_lines, all_markers, beside, between, bounds_of, colour_of, grid_courses, join_elements, joins_at, kind_at, label, line_elements, line_end, marker, name_of, node_joins, picture_text, radius_in, segment_elements}
use Rattle.svg_writer.specs.Styles.{grid_style}
use Rattle.export_command.proofs.NodeKinds.{IsSameKind}
use Rattle.export_command.proofs.Routes.{with_kinds}
use Rattle.export_command.proofs.Numbers.{AreBelow}

flat_same : {A B : Type 0} (f g : A → List B) → ((x : A) → f x ≡ g x) → (xs : List A) → flat_map f xs ≡ flat_map g xs
flat_same f g same [] = refl
flat_same f g same (x ∷ xs) = ap₂ (λ a b. a ++ b) (same x) (flat_same f g same xs)

-- what holds of all elements of lists holds of the list of a number, and of none where there is no such list
pub at_list : {A : Type 0} (P : A → Type 0) (xs : List (List A)) → ByRecursion (ByRecursion P) xs → (n : ℕ)
    → ByRecursion P (get_or xs n [])
at_list P [] h zero = tt
at_list P [] h (suc n) = tt
at_list P (x ∷ xs) h zero = h.0
at_list P (x ∷ xs) h (suc n) = at_list P xs h.1 n

module _ (g : GraphParts) (kinds : List NodeKind) (count : length kinds ≡ length g.kinds) (old new : Names) (n : ℕ)
    (same : (k : ℕ) → IsSameKind old new (get_or g.kinds k Junction) (get_or kinds k Junction))
    (names : (l : LineId) → l.0 < n → name_of new l ≡ name_of old l)
    (colours : (l : LineId) → l.0 < n → colour_of new l ≡ colour_of old l)
    (joined : (k : ℕ) → ByRecursion (λ (j : Join). j.line.0 < n) (joins_at g.joins k))
    (walks : List PlainWalk) (orders : List (List LineId)) (low : AreBelow n orders) where
  abbrev h : GraphParts
  h = with_kinds kinds g

  abbrev courses : Courses
  courses = grid_courses g walks

  -- ---- lines

  same_lines : (s m i : ℕ) (lines : List LineId) → ByRecursion (λ (l : LineId). l.0 < n) lines
      → line_elements new courses s m i lines ≡ line_elements old courses s m i lines
  same_lines s m i [] are = refl
  same_lines s m i (l ∷ lines) are =
      ap₂ (λ (e : Element) es. e ∷ es)
      (ap₂ (λ (c name : List ℕ). OnSegment s l.0 (courses.path s (gauge m i)) c name) (colours l are.0) (names l are.0))
      (same_lines s m (i + 1) lines are.1)

  same_segment : (s : ℕ) → segment_elements new courses orders s ≡ segment_elements old courses orders s
  same_segment s =
      same_lines s (length (order_at orders s)) 0 (order_at orders s)
      (subst (ByRecursion (λ (l : LineId). l.0 < n)) (sym (unwrap_or-slice_get orders s []))
      (at_list (λ (l : LineId). l.0 < n) orders low s))

  -- ---- connections

  same_joins : (k : ℕ) (js : List Join) → ByRecursion (λ (j : Join). j.line.0 < n) js
      → flat_map (join_elements new h courses orders k) js ≡ flat_map (join_elements old g courses orders k) js
  same_joins k [] are = refl
  same_joins k (j ∷ js) are =
      ap₂ (λ (a b : List Element). a ++ b)
      (ap (λ (c : List ℕ). between k j.line (line_end g courses orders k j.e j.line) (line_end g courses orders k j.f j.line) c)
      (colours j.line are.0)) (same_joins k js are.1)

  same_node : (k : ℕ) → node_joins new h courses orders k ≡ node_joins old g courses orders k
  same_node k = same_joins k (joins_at g.joins k) (joined k)

  -- ---- stations

  marker_of : (k : ℕ) (a b : NodeKind) → IsSameKind old new a b
      → marker grid_style g courses k b ≡ marker grid_style g courses k a
  marker_of k (Station s) (Station t) is = refl
  marker_of k (Station s) Junction is = absurd is
  marker_of k Junction (Station t) is = absurd is
  marker_of k Junction Junction is = refl

  same_marker : (k : ℕ) → marker grid_style h courses k (kind_at kinds k) ≡ marker grid_style g courses k (kind_at g.kinds k)
  same_marker k =
      ap (marker grid_style g courses k) (unwrap_or-slice_get kinds k Junction)
      ∙ marker_of k (get_or g.kinds k Junction) (get_or kinds k Junction) (same k)
      ∙ sym (ap (marker grid_style g courses k) (unwrap_or-slice_get g.kinds k Junction))

  label_of : (k : ℕ) (a b : NodeKind) → IsSameKind old new a b
      → label grid_style new g courses k b ≡ label grid_style old g courses k a
  label_of k (Station s) (Station t) is =
      ap (λ (name : List ℕ). Label (beside grid_style.gap (courses.centre k) (radius_in grid_style g k)) name ∷ []) is
  label_of k (Station s) Junction is = absurd is
  label_of k Junction (Station t) is = absurd is
  label_of k Junction Junction is = refl

  same_label : (k : ℕ) → label grid_style new h courses k (kind_at kinds k) ≡ label grid_style old g courses k (kind_at g.kinds k)
  same_label k =
      ap (label grid_style new g courses k) (unwrap_or-slice_get kinds k Junction)
      ∙ label_of k (get_or g.kinds k Junction) (get_or kinds k Junction) (same k)
      ∙ sym (ap (label grid_style old g courses k) (unwrap_or-slice_get g.kinds k Junction))

  -- ---- the whole

  -- for each node
  each_node : (f e : ℕ → List Element) → ((k : ℕ) → f k ≡ e k)
      → flat_map f (range_with_len 0 (length kinds)) ≡ flat_map e (range_with_len 0 (length g.kinds))
  each_node f e is =
      ap (λ (k : ℕ). flat_map f (range_with_len 0 k)) count ∙ flat_same f e is (range_with_len 0 (length g.kinds))

  abbrev text_with : List Element → List Element → List Element → List Element → List ℕ
  text_with lines joins markers labels =
      texts grid_style (Head (bounds_of walks) ∷ (lines ++ (joins ++ (markers ++ (labels ++ Tail ∷ [])))))

  lines_are : all_lines new h courses orders ≡ all_lines old g courses orders
  lines_are = flat_same (segment_elements new courses orders) (segment_elements old courses orders) same_segment (range_with_len 0 (length g.ends))

  joins_are : all_joins new h courses orders ≡ all_joins old g courses orders
  joins_are = each_node (node_joins new h courses orders) (node_joins old g courses orders) same_node

  markers_are : all_markers grid_style h courses ≡ all_markers grid_style g courses
  markers_are =
      each_node (λ k. marker grid_style h courses k (kind_at kinds k)) (λ k. marker grid_style g courses k (kind_at g.kinds k)) same_marker

  labels_are : all_labels grid_style new h courses ≡ all_labels grid_style old g courses
  labels_are =
      each_node (λ k. label grid_style new h courses k (kind_at kinds k)) (λ k. label grid_style old g courses k (kind_at g.kinds k)) same_label

  pub same_picture : picture_text new h walks orders ≡ picture_text old g walks orders
  same_picture = λ i. text_with (lines_are i) (joins_are i) (markers_are i) (labels_are i)
