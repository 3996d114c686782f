-- A part by itself as it lies in memory.
use Rattle.std.specs.Prelude.{◌≡◌, ◌<◌, true, length, map}
use Rattle.order_model.specs.Problems.{IsProblem}
use Rattle.order_model.specs.Places.{tables_of}
use Rattle.dual_bound.specs.Accepting.{load_of}
use Rattle.dual_ascent.specs.OwnNumbers.{all_segments}
use Rattle.dual_ascent.specs.DualResults.{is_in_reach}
use Rattle.dual_orders.specs.declared.part.Part.{Part}
use Rattle.dual_orders.specs.OwnTerms.{own_numbers}

-- it has segments, can be searched, and has the numbers of the terms on each segment and its load
pub record IsPart (part : Part) : Type 0 where
  pub fits : IsProblem part.problem.now
  pub some : 0 < length part.problem.now.segs
  pub reach : is_in_reach part.problem.now ≡ true
  pub tables : tables_of part.on.items ≡ map (own_numbers part.problem.now) (all_segments part.problem.now)
  pub load : part.load ≡ load_of part.problem.now.segs (all_segments part.problem.now)
