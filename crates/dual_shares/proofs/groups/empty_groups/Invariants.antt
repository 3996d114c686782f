use Rattle.std.proofs.Common.{◌≡◌}
use Rattle.order_model.specs.Places.{tables_of}
use Rattle.order_model.specs.PartTerms.{no_numbers}
use Rattle.dual_shares.proofs.groups.empty_groups.Given as goal

abbrev pub invariant-loop : goal.invariant-loop
invariant-loop l = tables_of l.groups.items ≡ no_numbers l.counter
