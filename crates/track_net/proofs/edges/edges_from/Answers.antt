use Rattle.std.proofs.Common.{◌≡◌, sym, ◌∙◌, subst, ℕ, ◌*◌, ◌<◌, eqb, List, length, filter, All}
use Rattle.std.specs.List.{range_with_len}
use Rattle.std.proofs.lemmas.List.Filters.{dedup_is}
use Rattle.std.proofs.lemmas.List.Kept.{IsStrictlyIncreasing-filter}
use Rattle.map_base.specs.declared.point.Point.{Point}
use Rattle.track_net.specs.Nearness.{HaveTheSame, point_at, numbers_near}
use Rattle.track_net.specs.Nets.{edges_at, has_edge}
use Rattle.track_net.specs.Searching.{is_undivided}
use Rattle.track_net.specs.Cells.{BucketParts}
use Rattle.track_net.proofs.Lists.{range_rises}
use Rattle.track_net.proofs.SameLists.{All-there, HaveTheSame-filter, is_undivided-same, same_in_order}
use Rattle.track_net.proofs.EdgeLemmas.{edges_at-among, numbers_near-below}
use Rattle.track_net.proofs.edges.edges_from.Goals as goal

-- the numbers of the points that are near to it
near_ones : (near i : ℕ) (ps : List Point) (buckets : BucketParts) (found : List ℕ) → buckets ≡ record { points = ps; size = 3 * near } →
    HaveTheSame found (numbers_near (3 * near) buckets.points (point_at ps i)) → HaveTheSame found (numbers_near (3 * near) ps (point_at ps i))
near_ones near i ps buckets found theirs same = subst (λ (b : BucketParts). HaveTheSame found (numbers_near (3 * near) b.points (point_at ps i))) theirs same

-- those of them that nothing parts from it
whole_row : (near i : ℕ) (ps : List Point) (candidates row : List ℕ) → HaveTheSame candidates (numbers_near (3 * near) ps (point_at ps i)) →
    row ≡ filter (is_undivided ps candidates i) candidates → HaveTheSame row (edges_at near ps i)
whole_row near i ps candidates row same is =
    let nears = numbers_near (3 * near) ps (point_at ps i) in
    let both = HaveTheSame-filter (is_undivided ps candidates i) (is_undivided ps nears i) candidates nears same (λ j. is_undivided-same ps candidates nears i j same) in
    subst (λ (ns : List ℕ). HaveTheSame ns (edges_at near ps i)) (sym is)
    (subst (λ (ns : List ℕ). HaveTheSame (filter (is_undivided ps candidates i) candidates) ns) (edges_at-among near ps i) both)

pub undivided-requires-clause-in_range : goal.undivided-requires-clause-in_range
undivided-requires-clause-in_range c =
    let ps = c.args.points.now in
    let found = c.find_near.new.found.items in
    let same = near_ones c.args.near c.args.i ps c.args.buckets.now found c.requires.theirs c.in_ok-find_near.ensures in
    subst (λ (ks : List ℕ). All (λ k. k < length ps) ks) (sym c.deref.ensures.value)
    (All-there (λ k. k < length ps) found (numbers_near (3 * c.args.near) ps (point_at ps c.args.i)) same.0 (numbers_near-below (3 * c.args.near) ps (point_at ps c.args.i)))

pub returns : goal.returns
returns c =
    let ps = c.args.points.now in
    let same = near_ones c.args.near c.args.i ps c.args.buckets.now c.deref.result.now c.requires.theirs
    (subst (λ (ks : List ℕ). HaveTheSame ks (numbers_near (3 * c.args.near) c.args.buckets.now.points (point_at ps c.args.i))) (sym c.deref.ensures.value) c.in_ok-find_near.ensures) in
    let rising = IsStrictlyIncreasing-filter (has_edge c.args.near ps c.args.i) (range_with_len 0 (length ps)) (range_rises (length ps)) in
    dedup_is eqb c.sort_unstable.new.self.items c.dedup.new.self.items c.dedup.ensures.filtered
    ∙ same_in_order c.in_ok-row.row.items c.sort_unstable.new.self.items (edges_at c.args.near ps c.args.i)
    (whole_row c.args.near c.args.i ps c.deref.result.now c.in_ok-row.row.items same c.in_ok-row.ensures) c.sort_unstable.ensures.permutation c.sort_unstable.ensures.sorted rising
