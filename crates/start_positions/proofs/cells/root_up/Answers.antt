use Rattle.std.proofs.Common.{◌≡◌, ◌-◌, sym, ap, ◌∙◌, refl, arith}
use Rattle.start_positions.specs.Cells.{root_from, root_up}
use Rattle.start_positions.proofs.CellLemmas.{root_found, root_not_yet}
use Rattle.start_positions.proofs.cells.root_up.Goals as goal

pub loop-m-init : goal.loop-m-init
unfolding root_up
loop-m-init c = refl

pub returns-then-n-m-clause-value : goal.returns-then-n-m-clause-value
returns-then-n-m-clause-value c = sym (root_found c.args.n c.loop-m.m c.loop-m-test.true c.if-n-m.true) ∙ c.loop-m.invariant

pub loop-m-preserved : goal.loop-m-preserved
loop-m-preserved c = sym (root_not_yet c.args.n c.loop-m.m c.loop-m-test.true c.if-n-m.false) ∙ c.loop-m.invariant

pub returns-clause-value : goal.returns-clause-value
returns-clause-value c =
    let last : c.loop-m.m ≡ 100 = omega arith in
    ap (λ m. root_from c.args.n m (100 - m)) (sym last) ∙ c.loop-m.invariant
