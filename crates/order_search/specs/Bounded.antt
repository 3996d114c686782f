-- The parts of problems, with the bound and the prices of each prefix.
use Rattle.std.specs.Prelude.{ℕ, List}
use Rattle.map_base.specs.declared.ids.SegId.{SegId}
use Rattle.map_base.specs.declared.ids.LineId.{LineId}
use Rattle.order_model.specs.declared.term.Term.{Term}
use Rattle.order_model.specs.Costs.{cost_of}
use Rattle.order_model.specs.PartTerms.{plain_terms}
use Rattle.order_bound.specs.Bounds.{bound_of}
use Rattle.order_bound.specs.CanonicalPrices.{prices_for}
use Rattle.order_search.specs.LiveTrees.{BoundedPart}

-- segments of a problem as a part, with its terms behind their numbers
abbrev pub bounded_part : List (List LineId) → List SegId → List (ℕ × Term) → BoundedPart
bounded_part segs part terms = record {
  segs = segs;
  part = part;
  cost = cost_of (plain_terms terms);
  bound = bound_of segs part terms;
  prices = prices_for segs part terms;
}
