-- The courses of segments: each is one, and all are refused as the line graph is.
use Rattle.std.proofs.Common.{◌≡◌, ◌≢◌, sym, ◌∙◌, ap, subst, ℕ, ◌<◌, ◌≤◌, inl, inr, pos, true, List, [], ◌∷◌, map, length, get_or, All, Result, Ok, Err, arith}
use Rattle.std.proofs.lemmas.Bool.{cases_lt, or_right}
use Rattle.std.proofs.lemmas.List.{length-map, get_or_past}
use Rattle.std.proofs.lemmas.List.Elements.{All-map, All-get_or}
use Rattle.map_base.specs.declared.point.Point.{Point}
use Rattle.map_base.specs.declared.limit.Limit.{Limit}
use Rattle.map_base.specs.declared.limit_fault.LimitFault.{LimitFault}
use Rattle.map_base.specs.declared.limit_fault.LimitFault.TheVariants as fault
use Rattle.map_base.specs.Faults.{HasCause}
use Rattle.fixed_plane.specs.Plane.{IsInPlane}
use Rattle.track_net.specs.Nearness.{point_at}
use Rattle.track_net.specs.Nets.{NetParts}
use Rattle.geo_lines.specs.Courses.{AreApart, IsCourse}
use Rattle.graph_core.specs.declared.parts.GraphParts.{GraphParts}
use Rattle.transit_feed.specs.Feeds.{Feed}
use Rattle.feed_courses.specs.declared.courses.Courses.{Courses}
use Rattle.feed_courses.specs.Outcome.{courses_outcome}
use Rattle.way_network.specs.Edges.{are_ends, runs_over}
use Rattle.way_network.specs.Chains.{Network}
use Rattle.way_network.specs.Segments.{segment_chains}
use Rattle.way_network.specs.Premises.{IsNetwork}
use Rattle.way_network.specs.Pieces.{IsChain}
use Rattle.way_network.proofs.ChainEdges.{runs_at}
use Rattle.way_network.proofs.ChainPaths.{path_of_chain}
use Rattle.way_network.proofs.ChainSegments.{segments_are}
use Rattle.line_graph.specs.Outcome.{net_of_courses, network_of, graph_over_net, graph_of_courses, graph_outcome}
use Rattle.line_graph.specs.SegmentLines.{segment_lines, beside_graph, lines_over_net, lines_of_courses, lines_outcome}

-- ---- each is a course

abbrev origin : Point
origin = record { x = pos 0; y = pos 0 }

point_in_plane : (points : List Point) (i : ℕ) → All IsInPlane points → IsInPlane (point_at points i)
point_in_plane points i all =
    elim (cases_lt i (length points)) [
      | inl low ↦ All-get_or IsInPlane points i origin low all
      | inr past ↦ subst IsInPlane (sym (get_or_past points i origin past)) (record { across = omega arith; along = omega arith })
    ]

apart_along : (points : List Point) (chain : List ℕ) → ((a b : ℕ) → runs_over a b chain ≡ true → point_at points b ≢ point_at points a) → AreApart (map (point_at points) chain)
apart_along points [] each = tt
apart_along points (a ∷ []) each = tt
apart_along points (a ∷ b ∷ rest) each =
    (λ e. each a b (runs_at [] a b rest) (sym e), apart_along points (b ∷ rest) (λ x y runs. each x y (or_right (are_ends x y a b) (runs_over x y (b ∷ rest)) runs)))

module _ (points : List Point) (g : Network) (network : IsNetwork points g) where
  is_course : (chain : List ℕ) → IsChain g chain → IsCourse (map (point_at points) chain)
  is_course chain is =
      let path = path_of_chain g chain network.ways is in
      record {
        long = subst (λ n. 2 ≤ n) (sym (length-map chain (point_at points))) is.long;
        in_plane = All-map IsInPlane (point_at points) chain (λ k d low. point_in_plane points (get_or chain k d) network.in_plane);
        apart = apart_along points chain (λ a b runs. network.apart a b (path.used a b runs));
      }

  pub are_courses : All IsCourse (segment_lines points g)
  are_courses =
      All-map IsCourse (map (point_at points)) (segment_chains points g)
      (λ k d low. is_course (get_or (segment_chains points g) k d) (segments_are points g network.ways k d low).0)

  pub are_known : All (All (λ p. p < length points)) (segment_chains points g)
  are_known k d low =
      subst (λ n. All (λ p. p < n) (get_or (segment_chains points g) k d)) network.count
      (path_of_chain g (get_or (segment_chains points g) k d) network.ways (segments_are points g network.ways k d low).0).known

-- ---- what comes of them

-- they are refused as the graph is
refused_as : (near n : ℕ) (courses : Result Courses Limit) (limit : Limit) → graph_of_courses near n courses ≡ Err limit → lines_of_courses near n courses ≡ Err limit
refused_as near n (Err first) limit e = cc
refused_as near n (Ok all) limit e = ap (beside_graph (segment_lines (net_of_courses near all).points (network_of near n all (net_of_courses near all)))) e

pub refused_with : (near : ℕ) (feed : Feed) (fault : LimitFault) → HasCause (graph_outcome near feed) fault → HasCause (lines_outcome near feed) fault
refused_with near feed (fault.Limit limit) cause = refused_as near (length feed.lines) (courses_outcome near feed) limit cause
refused_with near feed fault.NoMemory cause = tt

-- else they are those of the courses
pub lines_are : (near lines : ℕ) (feed : Feed) (all : Courses) → lines ≡ length feed.lines → courses_outcome near feed ≡ Ok all → lines_outcome near feed ≡ lines_over_net near lines all (net_of_courses near all)
lines_are near lines feed all count is =
    ap (lines_of_courses near (length feed.lines)) is ∙ sym (ap (λ (n : ℕ). lines_over_net near n all (net_of_courses near all)) count)

pub lines_over : (near lines : ℕ) (all : Courses) (net : NetParts) (parts : GraphParts) → graph_over_net near lines all net ≡ Ok parts
    → lines_over_net near lines all net ≡ Ok (segment_lines net.points (network_of near lines all net))
lines_over near lines all net parts e = ap (beside_graph (segment_lines net.points (network_of near lines all net))) e
