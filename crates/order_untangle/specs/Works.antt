-- A problem under way, with what waits.
use Rattle.std.specs.Prelude.{◌≡◌, ℕ, List, length}
use Rattle.map_base.specs.declared.ids.LineId.{LineId}
use Rattle.order_model.specs.declared.problem.ProblemParts.{ProblemParts}
use Rattle.order_model.specs.Problems.{IsProblem}
use Rattle.order_untangle.specs.LeftTerms.{Listing}
use Rattle.order_untangle.specs.Waits.{AllWait}

-- the problem of these lines and the terms that are left
abbrev pub parts_of : List (List LineId) → Listing → ProblemParts
parts_of segs listing = record { segs = segs; terms = listing.terms }

-- the parts fit together, and each rule that applies waits
pub record IsWork (segs : List (List LineId)) (listing : Listing) (merges : List (ℕ × ℕ)) (divides : List ℕ) : Type 0 where
  pub count : listing.count ≡ length segs
  pub problem : IsProblem (parts_of segs listing)
  pub wait : AllWait (parts_of segs listing) merges divides
