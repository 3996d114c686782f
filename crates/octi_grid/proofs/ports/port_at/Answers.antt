use Rattle.std.proofs.Common.{cond, sym, ap, ◌∙◌, arith}
use Rattle.octi_grid.specs.Walks.{end_port, start_port}
use Rattle.octi_grid.proofs.SweepLemmas.{got_from, port_of-got, port_of-none}
use Rattle.octi_grid.proofs.ports.port_at.Goals as goal

pub returns-then-s-count : goal.returns-then-s-count
returns-then-s-count c = sym (port_of-none c.args.graph.now.ends c.args.walks.now c.args.count c.args.n.0 c.args.s c.if-s-count.true)

pub returns-then-eq : goal.returns-then-eq
returns-then-eq c =
    let w = c.index-walks-s.result in
    sym c.start_port.ensures ∙ sym (ap (λ b. cond b (start_port w) (end_port w)) (sym c.eq.ensures ∙ c.if-eq.true))
    ∙ sym (port_of-got c.args.graph.now.ends c.args.walks.now c.args.count c.args.n.0 c.args.s c.ends.result w c.if-s-count.false c.ends.ensures (got_from c.args.walks.now c.args.s.0 w (omega arith) c.index-walks-s.is))

pub returns-else-eq : goal.returns-else-eq
returns-else-eq c =
    let w = c.index-walks-s.result in
    sym c.end_port.ensures ∙ sym (ap (λ b. cond b (start_port w) (end_port w)) (sym c.eq.ensures ∙ c.if-eq.false))
    ∙ sym (port_of-got c.args.graph.now.ends c.args.walks.now c.args.count c.args.n.0 c.args.s c.ends.result w c.if-s-count.false c.ends.ensures (got_from c.args.walks.now c.args.s.0 w (omega arith) c.index-walks-s.is))
