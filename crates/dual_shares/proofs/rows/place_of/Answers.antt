use Rattle.std.proofs.Common.{◌∙◌, sym, arith, true≢false}
use Rattle.dual_shares.proofs.Entries.{place_here, no_line_there}
use Rattle.dual_shares.proofs.rows.place_of.Goals as goal

pub returns-then-line-a-clause-place : goal.returns-then-line-a-clause-place
returns-then-line-a-clause-place c = place_here c.args.lines.now c.args.a c.loop-place.place (omega arith) c.loop-place.invariant c.if-line-a.true

pub unreachable-requires : goal.unreachable-requires
unreachable-requires c = true≢false (sym c.requires ∙ no_line_there c.args.lines.now c.args.a (λ k low. c.loop-place.invariant k (omega arith)))
