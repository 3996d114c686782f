use Rattle.std.proofs.Common.{pos}
use Rattle.dual_rounds.proofs.Filling.{IsFilledTo}
use Rattle.dual_rounds.proofs.TermLists.{price_by}
use Rattle.dual_rounds.proofs.prices.step_prices.Given as goal

abbrev pub invariant-loop-k : goal.invariant-loop-k
invariant-loop-k l = IsFilledTo (price_by l.problem.terms l.step l.gap l.squares l.directions) (pos 0) l.k l.initial.prices l.prices
