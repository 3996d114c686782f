use Rattle.std.proofs.Common.{sym, arith}
use Rattle.order_model.proofs.TableLemmas.{first_here, first_nowhere}
use Rattle.order_model.proofs.segment_prefix.first_unplaced.Goals as goal

pub returns-then-place : goal.returns-then-place
returns-then-place c = sym (first_here c.args.places.now c.loop-i.i c.loop-i.invariant (omega (arith, c.loop-i-test.true)) c.if-place.true)

pub returns : goal.returns
returns c = sym (first_nowhere c.args.places.now (λ k h. c.loop-i.invariant k (omega (arith, h, c.loop-i-test.false))))
