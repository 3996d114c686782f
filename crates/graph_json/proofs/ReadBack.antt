-- Each form that was written is read as what it was written of.
use Rattle.std.proofs.Common.{◌≡◌, refl, ap, ap₂, ◌∙◌, ℕ, ◌<◌, ◌≤◌, ◌^◌, true, ◌&&◌, List, [], ◌∷◌, length, map, arith}
use Rattle.std.specs.Prelude.{ℤ, pos, negsuc, ◌≤ℤ◌, int_le, codes, Option, Some, None, option_map, option_and_then, if◌then◌else◌}
use Rattle.std.specs.List.{AllByRecursion as ByRecursion}
use Rattle.std.specs.Result.{result_ok}
use Rattle.std.proofs.lemmas.Bool.{lt-ltb, le-leb}
use Rattle.std.proofs.lemmas.Int.{ints}
use Rattle.map_base.specs.declared.ids.LineId.{LineId}
use Rattle.map_base.specs.declared.ids.NodeId.{NodeId}
use Rattle.map_base.specs.declared.ids.SegId.{SegId}
use Rattle.map_base.specs.declared.point.Point.{Point}
use Rattle.graph_core.specs.declared.parts.Join.{Join}
use Rattle.graph_core.specs.declared.parts.NodeKind.{NodeKind}
use Rattle.graph_core.specs.declared.parts.NodeKind.TheVariants.{Station, Junction}
use Rattle.graph_core.specs.Consistent.{IsNear}
use Rattle.svg_writer.specs.declared.names.Names.{Names}
use Rattle.hex.specs.Hex.{IsBytes}
use Rattle.hex.proofs.HexLemmas.{decode_sized-encode_lower}
use Rattle.serde_json.specs.Data.{Data, object}
use Rattle.serde_json.specs.Find.{as_i64, get, of_integer}
use Rattle.graph_json.specs.declared.forms.Feature.TheVariants.{Node, Segment}
use Rattle.graph_json.specs.Forms as forms
use Rattle.graph_json.specs.Written as w
use Rattle.graph_json.specs.Again.{node_name}
use Rattle.graph_json.proofs.Lists.{elements-items_of}
use Rattle.graph_json.proofs.ListBack.{of_each_mapped, map_same}

-- ---- values

pub small_back : (n : ℕ) → n < 2 ^ 32 → forms.small_of (w.count_data n) ≡ Some n
small_back n h = ap (λ b. forms.where_true b (Some n)) (lt-ltb n (2 ^ 32) h)

integer_back : (z : ℤ) → negsuc 299999999 ≤ℤ z → z ≤ℤ pos 300000000 → as_i64 (of_integer z) ≡ Some z
integer_back (pos n) low high = let h : n < 2 ^ 63 = omega (arith, ints) in ap (λ b. if b then Some (pos n) else None) (lt-ltb n (2 ^ 63) h)
integer_back (negsuc n) low high = refl

int_le-from : (x y : ℤ) → x ≤ℤ y → int_le x y ≡ true
int_le-from x y h = grind (arith, ints)

coordinate_back : (z : ℤ) → negsuc 299999999 ≤ℤ z → z ≤ℤ pos 300000000 → forms.coordinate_of (w.whole_data z) ≡ Some z
coordinate_back z low high =
    ap (option_and_then forms.near_enough) (integer_back z low high)
    ∙ ap₂ (λ a b. forms.where_true (a && b) (Some z)) (int_le-from (negsuc 299999999) z low) (int_le-from z (pos 300000000) high)

pub array_back : (ds : List Data) → forms.array_of (w.list_data ds) ≡ Some ds
array_back ds = ap Some (elements-items_of ds)

module _ {A : Type 0} (f : Data → Option A) (h : A → Data) where
  pub list_back : (xs : List A) → ByRecursion (λ x. f (h x) ≡ Some x) xs → forms.array_of_each f (w.list_data (map h xs)) ≡ Some xs
  list_back xs each =
      ap (option_and_then (forms.of_each f)) (array_back (map h xs)) ∙ of_each_mapped f h (λ x. x) xs each ∙ ap Some (map_same xs)

-- ---- lines

pub line_back : (name colour : List ℕ) (importance : ℕ) → length colour ≡ 3 → IsBytes colour → 1 ≤ importance → importance ≤ 16
    → forms.line_of (w.line_object name colour importance) ≡ Some (forms.line_with name colour importance)
line_back name colour importance three bytes low high =
    let spelt = ap result_ok (decode_sized-encode_lower colour 3 three bytes) in
    let small = ap (option_and_then forms.importance) (small_back importance (omega arith)) in
    let known = ap₂ (λ a b. forms.where_true (a && b) (Some importance)) (le-leb 1 importance low) (le-leb importance 16 high) in
    ap₂ (λ c i. option_and_then (λ colour. option_map (forms.line_with name colour) i) c) spelt (small ∙ known)

-- ---- nodes

place_back : (p : Point) → IsNear p → forms.place_of (w.point_data p) ≡ Some p
place_back p near =
    ap (option_and_then (forms.of_two forms.coordinate_of forms.point_with)) (array_back (w.whole_data p.x ∷ w.whole_data p.y ∷ []))
    ∙ ap₂ (λ x y. option_and_then (λ a. option_map (forms.point_with a) y) x) (coordinate_back p.x near.0 near.1) (coordinate_back p.y near.2 near.3)

pub seg_back : (s : SegId) → s.0 < 2 ^ 32 → forms.seg_of (w.seg_data s) ≡ Some s
seg_back s h = ap (option_map (λ n. record { 0 = n })) (small_back s.0 h)

pub line_id_back : (l : LineId) → l.0 < 2 ^ 32 → forms.line_id_of (w.line_number l) ≡ Some l
line_id_back l h = ap (option_map (λ n. record { 0 = n })) (small_back l.0 h)

-- the numbers of a connection are of 32 bits
pub record IsSmall (j : Join) : Type 0 where
  pub lesser : j.e.0 < 2 ^ 32
  pub greater : j.f.0 < 2 ^ 32
  pub line : j.line.0 < 2 ^ 32

pub join_back : (j : Join) → IsSmall j → forms.join_of (w.join_data j) ≡ Some j
join_back j small =
    ap (option_and_then (forms.of_three forms.small_of forms.join_with)) (array_back (w.count_data j.e.0 ∷ w.count_data j.f.0 ∷ w.count_data j.line.0 ∷ []))
    ∙ ap₂ (λ e f. option_and_then (λ x. option_and_then (λ y. option_map (forms.join_with x y) (forms.small_of (w.count_data j.line.0))) f) e) (small_back j.e.0 small.lesser) (small_back j.f.0 small.greater)
    ∙ ap (option_map (forms.join_with j.e.0 j.f.0)) (small_back j.line.0 small.line)

module _ (names : Names) (joins : List Join) (round : List SegId) where
  abbrev properties : NodeKind → Data
  properties kind = object (w.node_properties names kind joins round)

  name_back : (kind : NodeKind) → forms.name_or_none (get (codes "name") (properties kind)) ≡ Some (node_name names kind)
  name_back (Station s) = refl
  name_back Junction = refl

  round_at : (kind : NodeKind) → get (codes "round") (properties kind) ≡ Some (w.list_data (map w.seg_data round))
  round_at (Station s) = refl
  round_at Junction = refl

  joins_at : (kind : NodeKind) → get (codes "joins") (properties kind) ≡ Some (w.list_data (map w.join_data joins))
  joins_at (Station s) = refl
  joins_at Junction = refl

  pub node_back : (kind : NodeKind) (p : Point) → IsNear p → ByRecursion IsSmall joins → ByRecursion (λ (s : SegId). s.0 < 2 ^ 32) round
      → forms.feature_of (w.feature_data (codes "Point") (w.point_data p) (properties kind))
      ≡ Some (Node (forms.node_with p (node_name names kind) round joins))
  node_back kind p near small few =
      let rounds = ap (option_and_then (forms.array_of_each forms.seg_of)) (round_at kind) ∙ list_back forms.seg_of w.seg_data round (each_seg round few) in
      let joined = ap (option_and_then (forms.array_of_each forms.join_of)) (joins_at kind) ∙ list_back forms.join_of w.join_data joins (each_join joins small) in
      ap (λ place. option_map Node (option_and_then (λ (place : Point). option_and_then (λ name. option_and_then (λ round. option_map (forms.node_with place name round)
      (option_and_then (forms.array_of_each forms.join_of) (get (codes "joins") (properties kind))))
      (option_and_then (forms.array_of_each forms.seg_of) (get (codes "round") (properties kind))))
      (forms.name_or_none (get (codes "name") (properties kind)))) place)) (place_back p near)
      ∙ ap (λ name. option_map Node (option_and_then (λ name. option_and_then (λ round. option_map (forms.node_with p name round)
      (option_and_then (forms.array_of_each forms.join_of) (get (codes "joins") (properties kind))))
      (option_and_then (forms.array_of_each forms.seg_of) (get (codes "round") (properties kind)))) name)) (name_back kind)
      ∙ ap₂ (λ r j. option_map Node (option_and_then (λ round. option_map (forms.node_with p (node_name names kind) round) j) r)) rounds joined
    where
      each_seg : (round : List SegId) → ByRecursion (λ (s : SegId). s.0 < 2 ^ 32) round → ByRecursion (λ (s : SegId). forms.seg_of (w.seg_data s) ≡ Some s) round
      each_seg [] h = tt
      each_seg (s ∷ round) h = (seg_back s h.0, each_seg round h.1)

      each_join : (joins : List Join) → ByRecursion IsSmall joins → ByRecursion (λ (j : Join). forms.join_of (w.join_data j) ≡ Some j) joins
      each_join [] h = tt
      each_join (j ∷ joins) h = (join_back j h.0, each_join joins h.1)

-- ---- segments

pub segment_back : (start end : Point) (ends : NodeId × NodeId) (lines : List LineId) → ends.0.0 < 2 ^ 32 → ends.1.0 < 2 ^ 32 → ByRecursion (λ (l : LineId). l.0 < 2 ^ 32) lines
    → forms.feature_of (w.feature_data (codes "LineString") (w.list_data (w.point_data start ∷ w.point_data end ∷ [])) (object (w.segment_properties ends lines)))
    ≡ Some (Segment (forms.segment_with ends lines))
segment_back start end ends lines lower upper few =
    ap₂ (λ e l. option_map Segment (option_and_then (λ both. option_map (forms.segment_with both) l) e)) ends_back (list_back forms.line_id_of w.line_number lines (each lines few))
  where
    ends_back : forms.ends_of (w.list_data (w.count_data ends.0.0 ∷ w.count_data ends.1.0 ∷ [])) ≡ Some ends
    ends_back =
        ap (option_and_then (forms.of_two forms.small_of forms.ends_with)) (array_back (w.count_data ends.0.0 ∷ w.count_data ends.1.0 ∷ []))
        ∙ ap₂ (λ x y. option_and_then (λ a. option_map (forms.ends_with a) y) x) (small_back ends.0.0 lower) (small_back ends.1.0 upper)

    each : (lines : List LineId) → ByRecursion (λ (l : LineId). l.0 < 2 ^ 32) lines → ByRecursion (λ (l : LineId). forms.line_id_of (w.line_number l) ≡ Some l) lines
    each [] h = tt
    each (l ∷ lines) h = (line_id_back l h.0, each lines h.1)
