-- Points that are found by nearness.
use Rattle.std.proofs.Common.{◌≡◌, refl, sym, ◌∙◌, ap, subst, ℕ, ◌<◌, ◌≤◌, true, false, cond, ℤ, List, [], ◌∷◌, ◌++◌, All, Contains, Option, Some, None}
use Rattle.std.specs.Option.{is_some, IfSome}
use Rattle.std.proofs.lemmas.Bool.{both_ways}
use Rattle.std.proofs.lemmas.List.Elements.{All-contains}
use Rattle.std.proofs.lemmas.List.Folds.{list_any_at}
use Rattle.map_base.specs.declared.point.Point.{Point}
use Rattle.fixed_plane.specs.Plane.{IsInPlane}
use Rattle.track_net.specs.Nearness.{FindsNear, has_near, is_nearer}
use Rattle.track_net.specs.Nets.{with_sample}
use Rattle.track_net.specs.Cells.{AreKept, CellMap, FindsAround, cell_of, is_cell, listed}
use Rattle.track_net.proofs.Lists.{Contains-from_filter}
use Rattle.track_net.proofs.CellsAround.{has_near-around}

-- a point is found exactly where there is a near one
pub found_where_near : (distance : ℕ) (ps : List Point) (p : Point) (found : Option Point) → FindsNear distance ps p found → is_some found ≡ has_near distance ps p
found_where_near distance ps p None e = sym e
found_where_near distance ps p (Some q) h =
    sym (list_any_at (λ r. is_nearer distance r p) ps h.0.0 q h.0.1 (ap (λ r. is_nearer distance r p) h.0.2 ∙ h.1))

pub none_near : (distance : ℕ) (ps : List Point) (p : Point) (found : Option Point) → FindsNear distance ps p found → is_some found ≡ false → has_near distance ps p ≡ false
none_near distance ps p found h e = sym (found_where_near distance ps p found h) ∙ e

-- it is one of the points
pub found_contained : (distance : ℕ) (ps : List Point) (p : Point) (found : Option Point) → FindsNear distance ps p found → IfSome found (Contains ps)
found_contained distance ps p None h = tt
found_contained distance ps p (Some q) h = h.0

-- a point that stands in a list lies in the plane where all do
pub in_plane_where_all : (ps : List Point) (p : Point) → All IsInPlane ps → Contains ps p → IsInPlane p
in_plane_where_all ps p all h = All-contains IsInPlane ps p all h

-- what is found in a cell
pub found_around : (distance : ℕ) (p : Point) (cells : CellMap Point) (center cell : ℤ × ℤ) (found : Option Point) → FindsNear distance (listed cells cell) p found → is_some found ≡ true →
    FindsAround distance p cells center found
found_around distance p cells center cell None h e = absurd (both_ways false refl e)
found_around distance p cells center cell (Some q) h e = (cell, h)

-- is found among all
pub found_among : (size within : ℕ) (ps : List Point) (at : Point) (cells : CellMap Point) (found : Option Point) → 0 < size → within ≤ size → AreKept size ps cells →
    FindsAround within at cells (cell_of size at) found → FindsNear within ps at found
found_among size within ps at cells None some small is e = sym (has_near-around size within ps at cells some small is) ∙ e
found_among size within ps at cells (Some q) some small is h =
    (Contains-from_filter (λ r. is_cell (cell_of size r) h.0) ps q (subst (λ (qs : List Point). Contains qs q) (is h.0) h.1.0), h.1.1)

-- a sample near which a net point lies changes nothing
pub with_near_sample : (near : ℕ) (ps : List Point) (sample q : Point) → FindsNear near ps sample (Some q) → with_sample near ps sample ≡ ps
with_near_sample near ps sample q h = ap (λ b. cond b ps (ps ++ sample ∷ [])) (sym (found_where_near near ps sample (Some q) h))
