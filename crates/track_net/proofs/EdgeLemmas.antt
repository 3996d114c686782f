-- The edges of a net, looked for among near points alone.
use Rattle.std.proofs.Common.{◌≡◌, sym, ◌∙◌, ap, ℕ, ◌+◌, ◌*◌, ◌<◌, ◌≤◌, Bool, true, false, ◌&&◌, nat_eq, not, List, [], length, get_or, filter, All, arith}
use Rattle.std.specs.List.{list_any, range_with_len}
use Rattle.std.proofs.lemmas.Bool.{ltb-true, lt-ltb, leb-true, and_parts}
use Rattle.std.proofs.lemmas.List.Elements.{All-filter}
use Rattle.std.proofs.lemmas.List.FromFn.{length-map-range_with_len, get_or-map-range_with_len}
use Rattle.map_base.specs.declared.point.Point.{Point}
use Rattle.fixed_plane.specs.Measures.{dist2_of}
use Rattle.track_net.specs.Nearness.{point_at, is_nearer, numbers_near}
use Rattle.track_net.specs.Nets.{is_in_disk, parts_them, has_edge, edges_at, all_edges}
use Rattle.track_net.specs.Searching.{is_undivided}
use Rattle.track_net.proofs.Lists.{range_below, list_any-filter, filter_in_two}

-- what parts two near points is near
pub near_where_parting : (near : ℕ) (ps : List Point) (i j : ℕ) → is_nearer near (point_at ps i) (point_at ps j) ≡ true → (k : ℕ) → parts_them ps i j k ≡ true →
    is_nearer near (point_at ps i) (point_at ps k) ≡ true
near_where_parting near ps i j close k parting =
    let a = point_at ps i in
    let b = point_at ps j in
    let p = point_at ps k in
    let third = and_parts (not (nat_eq k i) && not (nat_eq k j)) (is_in_disk a b p) parting in
    let inside : dist2_of a p + dist2_of p b ≤ dist2_of a b = leb-true (dist2_of a p + dist2_of p b) (dist2_of a b) third.1 in
    let below : dist2_of a b < near * near = ltb-true (dist2_of a b) (near * near) close in
    lt-ltb (dist2_of a p) (near * near) (omega arith)

-- so the edges of a point are those of the near points that none of the near points parts from it
pub edges_at-among : (near : ℕ) (ps : List Point) (i : ℕ) →
    filter (is_undivided ps (numbers_near (3 * near) ps (point_at ps i)) i) (numbers_near (3 * near) ps (point_at ps i)) ≡ edges_at near ps i
edges_at-among near ps i =
    filter_in_two (has_edge near ps i) (is_undivided ps candidates i) close passed stopped all
  where
    all : List ℕ
    all = range_with_len 0 (length ps)

    close : ℕ → Bool
    close j = is_nearer (3 * near) (point_at ps i) (point_at ps j)

    candidates : List ℕ
    candidates = numbers_near (3 * near) ps (point_at ps i)

    passed : (j : ℕ) → close j ≡ true → has_edge near ps i j ≡ is_undivided ps candidates i j
    passed j e =
        ap (λ b. b && (not (nat_eq i j) && not (list_any (parts_them ps i j) all))) e
        ∙ ap (λ b. not (nat_eq i j) && not b) (sym (list_any-filter (parts_them ps i j) close (near_where_parting (3 * near) ps i j e) all))

    stopped : (j : ℕ) → close j ≡ false → has_edge near ps i j ≡ false
    stopped j e = ap (λ b. b && (not (nat_eq i j) && not (list_any (parts_them ps i j) all))) e

-- numbers of near points are numbers of points
pub numbers_near-below : (near : ℕ) (ps : List Point) (p : Point) → All (λ k. k < length ps) (numbers_near near ps p)
numbers_near-below near ps p = All-filter (λ k. is_nearer near p (point_at ps k)) (λ k. k < length ps) (range_with_len 0 (length ps)) (range_below (length ps))

-- each point has its edges
pub length-all_edges : (near : ℕ) (ps : List Point) → length (all_edges near ps) ≡ length ps
length-all_edges near ps = length-map-range_with_len (edges_at near ps) 0 (length ps)

pub get_or-all_edges : (near : ℕ) (ps : List Point) (i : ℕ) → i < length ps → get_or (all_edges near ps) i [] ≡ edges_at near ps i
get_or-all_edges near ps i below = let same : 0 + i ≡ i = omega arith in get_or-map-range_with_len (edges_at near ps) 0 (length ps) i i [] below same
