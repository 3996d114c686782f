-- The graph of a network is consistent.
use Rattle.std.proofs.Common.{◌≡◌, ℕ, ◌<◌, ◌≤◌, sym, ◌∙◌, subst, List, [], length, get_or, map}
use Rattle.std.specs.Prelude.{EachIndex, pos}
use Rattle.std.specs.List.{All, Contains, slice_index_or}
use Rattle.std.proofs.lemmas.List.{length-map, get_or-map}
use Rattle.std.proofs.lemmas.List.Elements.{All-map}
use Rattle.map_base.specs.declared.ids.StationId.{StationId}
use Rattle.map_base.specs.declared.ids.SegId.{SegId}
use Rattle.map_base.specs.declared.point.Point.{Point}
use Rattle.track_net.specs.Nearness.{point_at}
use Rattle.graph_core.specs.declared.parts.Join.{Join}
use Rattle.graph_core.specs.Consistent.{IsConsistent, IsNear, AreEnds, AreFewLines, AreSorted, IsJoin, IsRound}
use Rattle.way_network.specs.declared.way.Passage.{Passage}
use Rattle.way_network.specs.Chains.{Network}
use Rattle.way_network.specs.Segments.{nodes_of, segment_chains, first_of, second_of, ends_of, lines_of, round_of}
use Rattle.way_network.specs.Joins.{joins_at}
use Rattle.way_network.specs.Graphs.{graph_over, kind_at}
use Rattle.way_network.specs.Premises.{IsNetwork, IsPassage}
use Rattle.way_network.proofs.ConsistencyLists.{in_at, all_in}
use Rattle.way_network.proofs.ConsistencySegments.{from_nodes}
use Rattle.way_network.proofs.ConsistencyParts.{is_near, known_over, lines_fit, ends_fit, round_fits, joins_sorted, joins_fit}

module _ (points : List Point) (g : Network) (network : IsNetwork points g) where
  abbrev chains : List (List ℕ)
  chains = segment_chains points g

  few_lines_fit : AreFewLines 1000 (map (lines_of g) chains)
  few_lines_fit = (
    network.known_lines.0,
    network.known_lines.1,
    All-map (All (Contains network.known_lines.0)) (lines_of g) chains
        (all_in (λ (c : List ℕ). All (Contains network.known_lines.0) (lines_of g c)) chains
        (λ c m. known_over g network.known_lines.0 network.known_lines.2 (first_of c) (second_of c))),
  )

  places_fit : All IsNear (map (point_at points) (nodes_of g))
  places_fit = All-map IsNear (point_at points) (nodes_of g) (all_in (λ (p : ℕ). IsNear (point_at points p)) (nodes_of g) (λ p m. at p (from_nodes g p m).0))
    where
      at : (p : ℕ) → p < g.points → IsNear (point_at points p)
      at p l = is_near (point_at points p) (network.in_plane p (record { x = pos 0; y = pos 0 }) (subst (λ (n : ℕ). p < n) network.count l))

  abbrev rounds : List (List SegId)
  rounds = map (round_of points g chains) (nodes_of g)

  round_read : (n : ℕ) → n < length (nodes_of g)
      → get_or (map (round_of points g chains) (nodes_of g)) n [] ≡ round_of points g chains (get_or (nodes_of g) n 0)
  round_read n l = get_or-map (round_of points g chains) (nodes_of g) n 0 [] l

  rounds_fit : EachIndex rounds (λ n. IsRound (map (ends_of g) chains) n (slice_index_or rounds n []))
  rounds_fit n h =
      let l : n < length (nodes_of g) = subst (λ (k : ℕ). n < k) (length-map (nodes_of g) (round_of points g chains)) h in
      subst (λ (round : List SegId). IsRound (map (ends_of g) chains) n round) (sym (round_read n l)) (round_fits points g network n l)

  module _ (passages : List Passage) (all : All (IsPassage g) passages) where
    abbrev joined : List (List Join)
    joined = map (joins_at chains passages g.lines) (nodes_of g)

    sorted_fit : All AreSorted joined
    sorted_fit =
        All-map AreSorted (joins_at chains passages g.lines) (nodes_of g)
        (all_in (λ (p : ℕ). AreSorted (joins_at chains passages g.lines p)) (nodes_of g) (λ p m. joins_sorted chains passages g.lines p))

    all_joins_fit : EachIndex joined (λ n. All (IsJoin (map (lines_of g) chains) (slice_index_or rounds n [])) (slice_index_or joined n []))
    all_joins_fit n h =
        let l : n < length (nodes_of g) = subst (λ (k : ℕ). n < k) (length-map (nodes_of g) (joins_at chains passages g.lines)) h in
        let p : ℕ = get_or (nodes_of g) n 0 in
        subst (λ (round : List SegId). All (IsJoin (map (lines_of g) chains) round) (get_or joined n [])) (sym (round_read n l))
        (subst (λ (js : List Join). All (IsJoin (map (lines_of g) chains) (round_of points g chains (get_or (nodes_of g) n 0))) js)
        (sym (get_or-map (joins_at chains passages g.lines) (nodes_of g) n 0 [] l))
        (joins_fit points g network passages all p (from_nodes g p (in_at (nodes_of g) n 0 l)).1))

pub consistent : (points : List Point) (stations : List StationId) (g : Network) (passages : List Passage) → IsNetwork points g → All (IsPassage g) passages →
    length (nodes_of g) ≤ 10000 → length (segment_chains points g) ≤ 20000 → IsConsistent (graph_over stations points g passages)
consistent points stations g passages network all few_nodes few_segments = record {
  place_each = length-map (nodes_of g) (point_at points) ∙ sym kinds;
  round_each = length-map (nodes_of g) (round_of points g (segment_chains points g)) ∙ sym kinds;
  joins_each = length-map (nodes_of g) (joins_at (segment_chains points g) passages g.lines) ∙ sym kinds;
  lines_each = length-map (segment_chains points g) (lines_of g) ∙ sym (length-map (segment_chains points g) (ends_of g));
  few_nodes = subst (λ (n : ℕ). n ≤ 10000) (sym kinds) few_nodes;
  few_segments = subst (λ (n : ℕ). n ≤ 20000) (sym (length-map (segment_chains points g) (ends_of g))) few_segments;
  few_lines = few_lines_fit points g network;
  places = places_fit points g network;
  ends = subst (λ (n : ℕ). All (AreEnds n) (map (ends_of g) (segment_chains points g))) (sym kinds) (ends_fit points g network);
  lines = lines_fit points g network;
  rounds = rounds_fit points g network;
  sorted = sorted_fit points g network passages all;
  joins = all_joins_fit points g network passages all;
}
  where
    kinds : length (map (kind_at stations) (nodes_of g)) ≡ length (nodes_of g)
    kinds = length-map (nodes_of g) (kind_at stations)
