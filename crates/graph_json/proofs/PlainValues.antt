-- The values that are written have no floats, and nest at most six deep.
use Rattle.std.proofs.Common.{◌≡◌, refl, ap₂, ℕ, ◌+◌, ◌≤◌, false, ◌||◌, List, [], ◌∷◌, ◌++◌, map, arith}
use Rattle.std.specs.Prelude.{ℤ, pos, negsuc, codes}
use Rattle.std.specs.List.{AllByRecursion as ByRecursion, range_with_len}
use Rattle.map_base.specs.declared.ids.LineId.{LineId}
use Rattle.map_base.specs.declared.ids.SegId.{SegId}
use Rattle.map_base.specs.declared.point.Point.{Point}
use Rattle.graph_core.specs.declared.parts.GraphParts.{GraphParts}
use Rattle.graph_core.specs.declared.parts.Join.{Join}
use Rattle.graph_core.specs.declared.parts.NodeKind.{NodeKind}
use Rattle.graph_core.specs.declared.parts.NodeKind.TheVariants.{Station, Junction}
use Rattle.svg_writer.specs.declared.names.Names.{Names}
use Rattle.svg_writer.specs.Picture.{ends_at, kind_at, round_at, joins_at, lines_at}
use Rattle.serde_json.specs.Data.{Data, object, Items, depth, items_depth}
use Rattle.serde_json.specs.Find.{is_float, of_integer}
use Rattle.serde_json.specs.View.{items_of}
use Rattle.serde_json.specs.Written.{has_float, items_have_float}
use Rattle.graph_json.specs.Written as w

-- a value without floats that nests at most so deep
pub record IsPlain (most : ℕ) (d : Data) : Type 0 where
  pub whole : has_float d ≡ false
  pub shallow : depth d ≤ most

record ArePlain (most : ℕ) (ds : Items) : Type 0 where
  whole : items_have_float ds ≡ false
  shallow : items_depth ds ≤ most

items : (most : ℕ) (ds : List Data) → ByRecursion (IsPlain most) ds → ArePlain most (items_of ds)
items most [] h = record { whole = refl; shallow = omega arith }
items most (d ∷ ds) h =
    let rest = items most ds h.1 in
    let first : IsPlain most d = h.0 in
    record { whole = ap₂ (λ a b. a || b) first.whole rest.whole; shallow = omega (arith, first.shallow, rest.shallow) }

list : (most : ℕ) (ds : List Data) → ByRecursion (IsPlain most) ds → IsPlain (most + 1) (w.list_data ds)
list most ds h =
    let all = items most ds h in
    record { whole = all.whole; shallow = omega (arith, all.shallow) }

mapped : {A : Type 0} (most : ℕ) (f : A → Data) → ((x : A) → IsPlain most (f x)) → (xs : List A) → ByRecursion (IsPlain most) (map f xs)
mapped most f each [] = tt
mapped most f each (x ∷ xs) = (each x, mapped most f each xs)

appended : (most : ℕ) (xs ys : List Data) → ByRecursion (IsPlain most) xs → ByRecursion (IsPlain most) ys → ByRecursion (IsPlain most) (xs ++ ys)
appended most [] ys h k = k
appended most (x ∷ xs) ys h k = (h.0, appended most xs ys h.1 k)

whole_number : (z : ℤ) → is_float (of_integer z) ≡ false
whole_number (pos n) = refl
whole_number (negsuc n) = refl

whole : (z : ℤ) → IsPlain 0 (w.whole_data z)
whole z = record { whole = whole_number z; shallow = omega arith }

count : (n : ℕ) → IsPlain 0 (w.count_data n)
count n = record { whole = refl; shallow = omega arith }

point : (p : Point) → IsPlain 1 (w.point_data p)
point p = list 0 (w.whole_data p.x ∷ w.whole_data p.y ∷ []) (whole p.x, (whole p.y, tt))

join : (j : Join) → IsPlain 1 (w.join_data j)
join j = list 0 (w.count_data j.e.0 ∷ w.count_data j.f.0 ∷ w.count_data j.line.0 ∷ []) (count j.e.0, (count j.f.0, (count j.line.0, tt)))

line : (names : Names) (importance : List ℕ) (l : ℕ) → IsPlain 1 (w.line_data names importance l)
line names importance l = record { whole = refl; shallow = omega arith }

feature : (shape : List ℕ) (coordinates properties : Data) → IsPlain 2 coordinates → IsPlain 3 properties → IsPlain 4 (w.feature_data shape coordinates properties)
feature shape coordinates properties c p = record {
  whole = ap₂ (λ a b. (a || (false || false)) || (b || (false || false))) c.whole p.whole;
  shallow = omega (arith, c.shallow, p.shallow);
}

properties : (names : Names) (kind : NodeKind) (joins : List Join) (round : List SegId) → IsPlain 3 (object (w.node_properties names kind joins round))
properties names kind joins round = by kind (list 1 (map w.join_data joins) (mapped 1 w.join_data join joins)) (list 0 (map w.seg_data round) (mapped 0 w.seg_data (λ (s : SegId). count s.0) round))
  where
    by : (kind : NodeKind) → IsPlain 2 (w.list_data (map w.join_data joins)) → IsPlain 1 (w.list_data (map w.seg_data round)) → IsPlain 3 (object (w.node_properties names kind joins round))
    by (Station s) j r = record { whole = ap₂ (λ a b. a || (false || (b || false))) j.whole r.whole; shallow = omega (arith, j.shallow, r.shallow) }
    by Junction j r = record { whole = ap₂ (λ a b. a || (b || false)) j.whole r.whole; shallow = omega (arith, j.shallow, r.shallow) }

node : (g : GraphParts) (names : Names) (n : ℕ) → IsPlain 4 (w.node_data g names n)
node g names n =
    let place = point (w.point_at g.places n) in
    feature (codes "Point") (w.point_data (w.point_at g.places n)) _ (record { whole = place.whole; shallow = omega (arith, place.shallow) })
    (properties names (kind_at g.kinds n) (joins_at g.joins n) (round_at g.rounds n))

segment : (g : GraphParts) (s : ℕ) → IsPlain 4 (w.segment_data g s)
segment g s =
    let ends = ends_at g.ends s in
    let places = list 1 (w.point_data (w.point_at g.places ends.0.0) ∷ w.point_data (w.point_at g.places ends.1.0) ∷ []) (point (w.point_at g.places ends.0.0), (point (w.point_at g.places ends.1.0), tt)) in
    let numbers = list 0 (w.count_data ends.0.0 ∷ w.count_data ends.1.0 ∷ []) (count ends.0.0, (count ends.1.0, tt)) in
    let lines = list 0 (map w.line_number (lines_at g.lines s)) (mapped 0 w.line_number (λ (l : LineId). count l.0) (lines_at g.lines s)) in
    feature (codes "LineString") _ (object (w.segment_properties ends (lines_at g.lines s))) places
    (record { whole = ap₂ (λ a b. a || (b || false)) numbers.whole lines.whole; shallow = omega (arith, numbers.shallow, lines.shallow) })

pub graph_plain : (g : GraphParts) (names : Names) (importance : List ℕ) → IsPlain 6 (w.graph_data g names importance)
graph_plain g names importance =
    let features = list 4 (w.features_data g names)
    (appended 4 (map (w.node_data g names) (range_with_len 0 _)) (map (w.segment_data g) (range_with_len 0 _))
    (mapped 4 (w.node_data g names) (node g names) (range_with_len 0 _)) (mapped 4 (w.segment_data g) (segment g) (range_with_len 0 _))) in
    let lines = list 1 (w.lines_data g names importance) (mapped 1 (w.line_data names importance) (line names importance) (range_with_len 0 _)) in
    record {
      whole = ap₂ (λ a b. a || (b || (false || false))) features.whole lines.whole;
      shallow = omega (arith, features.shallow, lines.shallow);
    }
