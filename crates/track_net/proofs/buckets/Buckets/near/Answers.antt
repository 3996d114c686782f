use Rattle.std.proofs.Common.{sym, ◌∙◌, subst, ℕ, ◌<◌, eqb, List, length, All}
use Rattle.std.specs.List.{range_with_len}
use Rattle.std.proofs.lemmas.List.Filters.{dedup_is}
use Rattle.std.proofs.lemmas.List.Kept.{IsStrictlyIncreasing-filter}
use Rattle.track_net.specs.Nearness.{is_nearer, numbers_near, point_at}
use Rattle.track_net.proofs.Lists.{range_rises}
use Rattle.track_net.proofs.SameLists.{same_in_order}
use Rattle.track_net.proofs.EdgeLemmas.{numbers_near-below}
use Rattle.track_net.proofs.buckets.Buckets.near.Goals as goal

pub returns-clause-numbers : goal.returns-clause-numbers
returns-clause-numbers c =
    let rising = IsStrictlyIncreasing-filter (λ k. is_nearer c.args.within c.args.at (point_at c.args.self.now.points k)) (range_with_len 0 (length c.args.self.now.points)) (range_rises (length c.args.self.now.points)) in
    dedup_is eqb c.sort_unstable.new.self.items c.dedup.new.self.items c.dedup.ensures.filtered
    ∙ same_in_order c.find_near.new.found.items c.sort_unstable.new.self.items (numbers_near c.args.within c.args.self.now.points c.args.at) c.in_ok-find_near.ensures
    c.sort_unstable.ensures.permutation c.sort_unstable.ensures.sorted rising

pub returns-clause-in_range : goal.returns-clause-in_range
returns-clause-in_range c =
    subst (λ (ks : List ℕ). All (λ k. k < length c.args.self.now.points) ks) (sym (returns-clause-numbers c))
    (numbers_near-below c.args.within c.args.self.now.points c.args.at)
