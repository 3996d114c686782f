use Rattle.std.proofs.Common.{◌≡◌, ◌+◌, ◌-◌, subst, arith}
use Rattle.subset_program.specs.PlainRows.{plain_rows}
use Rattle.subset_program.specs.Tables.{HasHeads}
use Rattle.subset_program.proofs.Heads.{heads_begin}
use Rattle.subset_program.proofs.steps.put_heads.Goals as goal

pub loop-k-init : goal.loop-k-init
loop-k-init c = heads_begin (plain_rows c.args.rows.now) c.args.set c.args.heads.now

pub put_head-many-requires-clause-heads : goal.put_head-many-requires-clause-heads
put_head-many-requires-clause-heads c =
    let back : c.loop-k.k ≡ (c.loop-k.k - 1) + 1 = omega (arith, c.loop-k-test.true) in
    subst (λ k. HasHeads (plain_rows c.args.rows.now) c.args.set k c.loop-k.many c.loop-k.heads) back c.loop-k.invariant

pub returns : goal.returns
returns c =
    let done : c.loop-k.k ≡ 0 = omega (arith, c.loop-k-test.false) in
    subst (λ k. HasHeads (plain_rows c.args.rows.now) c.args.set k c.loop-k.many c.loop-k.heads) done c.loop-k.invariant
