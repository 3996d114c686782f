use Rattle.std.proofs.Common.{◌∙◌, ◌≤◌, ap, rules, filter, ℕ}
use Rattle.way_network.specs.Uses.{is_over}
use Rattle.way_network.proofs.UseOrder.{uses_over_are}
use Rattle.way_network.proofs.ranks.uses_over.Goals as goal

pub slice_bounds-result-count : goal.slice_bounds-result-count
slice_bounds-result-count c = (uses_over_are c.args.uses.now c.from-p.result c.from-q.result c.rank-low.result c.rank-high.result c.rank-low.ensures.within c.rank-high.ensures.within c.rank-low.ensures.parted c.rank-high.ensures.parted).0

pub slice_bounds-result-start : goal.slice_bounds-result-start
slice_bounds-result-start c = let le : c.rank-low.result ≤ c.rank-high.result = slice_bounds-result-count c in search rules

pub returns : goal.returns
returns c =
    (uses_over_are c.args.uses.now c.from-p.result c.from-q.result c.rank-low.result c.rank-high.result c.rank-low.ensures.within c.rank-high.ensures.within c.rank-low.ensures.parted c.rank-high.ensures.parted).1
    ∙ ap (λ (p : ℕ). filter (is_over p c.from-q.result) c.args.uses.now) c.from-p.ensures
    ∙ ap (λ (q : ℕ). filter (is_over c.args.p q) c.args.uses.now) c.from-q.ensures
