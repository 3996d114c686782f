-- What is held: parts by themselves, each with what a search found.
use Rattle.std.specs.Prelude.{◌≡◌, ℕ, false, List, map, Option, Some, None, Result, Ok, Err, if◌then◌else◌}
use Rattle.std.specs.List.{AllByRecursion}
use Rattle.map_base.specs.declared.ids.SegId.{SegId}
use Rattle.map_method.specs.declared.search.Search.{Search}
use Rattle.order_model.specs.declared.problem.ProblemParts.{ProblemParts}
use Rattle.map_method.specs.declared.claim.Claim.TheVariants.{Best, Bound}
use Rattle.order_search.specs.declared.found.SearchFault.{SearchFault}
use Rattle.order_search.specs.ByItself.{by_itself}
use Rattle.kept_trees.specs.declared.part_key.PartKey.{PartKey}
use Rattle.kept_trees.specs.declared.plan.SearchPlan.{SearchPlan}
use Rattle.kept_trees.specs.declared.found_part.FoundPart.{FoundPart}
use Rattle.kept_trees.specs.Results.{PartResult, own_outcome, IsOwnFound}

-- A part by itself, how it was searched, and the budget within which the search was not complete; none where it was,
-- for a complete search finds the same within every budget that allows its branch nodes.
pub record HeldPart : Type 0 where
  pub how : Search
  pub spent : Option ℕ
  pub part : ProblemParts

-- how what is found is held: by itself, or with its budget where its search was not complete
abbrev pub spent_in : ℕ → Result PartResult SearchFault → Option ℕ
spent_in budget (Err fault) = None
spent_in budget (Ok r) = if r.complete then None else Some budget

abbrev pub held_own : SearchPlan → ProblemParts → HeldPart
held_own plan own = record { how = plan.search; spent = spent_in plan.budget (own_outcome plan own); part = own }

-- what is to be known of a part of a problem, so that it needs no search
abbrev pub held_as : SearchPlan → ProblemParts → List SegId → HeldPart
held_as plan p part = held_own plan (by_itself p part)

-- best orders are searched for within a budget
abbrev pub best_within : Search → ℕ → SearchPlan
best_within how budget = record { search = how; claim = Best; budget = budget }

-- a bound is
abbrev pub bound_within : Search → ℕ → SearchPlan
bound_within how budget = record { search = how; claim = Bound; budget = budget }

-- what the search finds in a part by itself, which has all segments of its problem: within some budget, or within the
-- one with which it was not complete
abbrev pub IsFoundBy : Search → Option ℕ → ProblemParts → FoundPart → Type 0
IsFoundBy how None own f = (budget : ℕ) × IsOwnFound (best_within how budget) own f
IsFoundBy how (Some budget) own f = (f.complete ≡ false) × IsOwnFound (bound_within how budget) own f

abbrev pub IsOwnResult : HeldPart → FoundPart → Type 0
IsOwnResult h f = IsFoundBy h.how h.spent h.part f

-- the part by itself that a key stands for
abbrev pub part_of_key : PartKey → ProblemParts
part_of_key key = record { segs = map (λ lines. lines.items) key.lists.items; terms = key.terms.items }

-- the part by itself that a key stands for, with how it is searched
abbrev pub held_by : PartKey → HeldPart
held_by key = record { how = key.how; spent = key.spent; part = part_of_key key }

-- the parts that these entries have
abbrev pub parts_held : List (PartKey × FoundPart) → List HeldPart
parts_held entries = map (λ (e : PartKey × FoundPart). held_by e.0) entries

-- each has what the search finds in its part
abbrev pub AreOwnResults : List (PartKey × FoundPart) → Type 0
AreOwnResults entries = AllByRecursion (λ (e : PartKey × FoundPart). IsOwnResult (held_by e.0) e.1) entries
