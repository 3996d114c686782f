use Rattle.dual_shares.proofs.Entries.{IsNoneBelow}
use Rattle.dual_shares.proofs.rows.place_of.Given as goal

abbrev pub invariant-loop-place : goal.invariant-loop-place
invariant-loop-place l = IsNoneBelow l.lines l.a l.place
