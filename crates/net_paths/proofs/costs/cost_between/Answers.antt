use Rattle.std.proofs.Common.{◌≡◌, sym, ◌∙◌, ap, ℕ, ◌*◌, Bool, true, false, cond, ◌&&◌}
use Rattle.map_base.specs.declared.point.Point.{Point}
use Rattle.fixed_plane.specs.Measures.{dist2_of}
use Rattle.net_paths.specs.Corridors.{CorridorParts, is_in_corridor, edge_cost}
use Rattle.net_paths.proofs.CostTables.{edge_cost-comm}
use Rattle.net_paths.proofs.costs.cost_between.Goals as goal

-- the cost of an edge by a test of its ends
cost_by : (corridor : CorridorParts) (p q : Point) (b t : Bool) (square : ℕ) → b ≡ (is_in_corridor corridor.near corridor.samples p && is_in_corridor corridor.near corridor.samples q) → b ≡ t →
    square ≡ dist2_of p q → cond t square (8 * square) ≡ edge_cost corridor.near corridor.samples p q
cost_by corridor p q b t square tested is measured =
    ap (λ (c : Bool). cond c square (8 * square)) (sym is ∙ tested)
    ∙ ap (λ (n : ℕ). cond (is_in_corridor corridor.near corridor.samples p && is_in_corridor corridor.near corridor.samples q) n (8 * n)) measured

pub returns-then-holds_both-clause-there : goal.returns-then-holds_both-clause-there
returns-then-holds_both-clause-there c =
    cost_by c.args.corridor.now c.args.here.point c.args.there c.holds_both.result true c.from-square.result c.holds_both.ensures c.if-holds_both.true (c.from-square.ensures ∙ c.dist2.ensures.value)

pub returns-then-holds_both-clause-back : goal.returns-then-holds_both-clause-back
returns-then-holds_both-clause-back c =
    returns-then-holds_both-clause-there c ∙ edge_cost-comm c.args.corridor.now.near c.args.corridor.now.samples c.args.here.point c.args.there

pub returns-else-holds_both-clause-there : goal.returns-else-holds_both-clause-there
returns-else-holds_both-clause-there c =
    cost_by c.args.corridor.now c.args.here.point c.args.there c.holds_both.result false c.from-square.result c.holds_both.ensures c.if-holds_both.false (c.from-square.ensures ∙ c.dist2.ensures.value)

pub returns-else-holds_both-clause-back : goal.returns-else-holds_both-clause-back
returns-else-holds_both-clause-back c =
    returns-else-holds_both-clause-there c ∙ edge_cost-comm c.args.corridor.now.near c.args.corridor.now.samples c.args.here.point c.args.there
