-- What the live search finds, and its refusals, are what comes of the part.
use Rattle.std.proofs.Common.{◌≡◌, ℕ, ◌+◌, ◌≤◌, Bool, true, cond, List, sym, ◌∙◌, ap, le-leb, Result, Ok, Err}
use Rattle.std.proofs.lemmas.Bool.{lt-leb}
use Rattle.map_base.specs.declared.ids.SegId.{SegId}
use Rattle.map_base.specs.declared.limit.LimitKind.TheVariants.{Places}
use Rattle.map_base.specs.declared.limit.Limit.{Limit}
use Rattle.map_base.specs.Limits.{limit_of}
use Rattle.order_model.specs.declared.problem.ProblemParts.{ProblemParts}
use Rattle.order_proof.specs.Plain.{by_cases}
use Rattle.order_proof.specs.declared.part_tree.PartTree.TheVariants.{ByCases}
use Rattle.order_search.specs.declared.found.Found.{Found}
use Rattle.order_search.specs.declared.found.SearchFault.{SearchFault}
use Rattle.order_search.specs.declared.found.SearchFault.TheVariants as fault
use Rattle.order_search.specs.LiveTrees.{live_tree}
use Rattle.order_search.specs.Finding.{places_of, most_places, IsSearchFault}
use Rattle.order_search.specs.FoundParts.{part_in, branches_in, IsFoundIn}
use Rattle.kept_trees.specs.declared.found_part.FoundPart.{FoundPart}
use Rattle.kept_trees.specs.Results.{PartResult, by_live, live_found, live_outcome, result_found, IsFaultOf}

abbrev pub Outcome : Type 0
Outcome = Result PartResult SearchFault

abbrev pub too_deep : Outcome
too_deep = Err (fault.TooDeep (limit_of Places))

abbrev pub spent : ℕ → Outcome
spent budget = Err (fault.Spent (budget + 1))

-- a part that is within the limit of places
pub live_goes_on : (budget : ℕ) (p : ProblemParts) (part : List SegId) → places_of p.segs part ≤ most_places
    → live_outcome budget p part ≡ live_found budget (by_live (live_tree (part_in p part)))
live_goes_on budget p part few =
    ap (λ (b : Bool). cond b (live_found budget (by_live (live_tree (part_in p part)))) too_deep)
    (le-leb (places_of p.segs part) 2048 few)

-- what was found, as what is found of a part
abbrev pub live_part : Found → FoundPart
live_part f = record {
  complete = true;
  orders = f.orders;
  target = f.target;
  branches = f.branches;
  tree = ByCases f.tree;
}

pub live_result : (budget : ℕ) (p : ProblemParts) (part : List SegId) (f : Found) → IsFoundIn p part f
    → f.branches ≤ budget
    → live_outcome budget p part ≡ Ok (result_found (live_part f))
live_result budget p part f h within =
    let found : PartResult = result_found (live_part f) in
    let same : by_live (live_tree (part_in p part)) ≡ found =
    sym (λ i. record {
      complete = true;
      target = (h.best i).cost;
      tree = by_cases (h.tree i);
      lists = (h.best i).lists;
      branches = h.branches i;
    }) in
    live_goes_on budget p part h.places
    ∙ ap (live_found budget) same
    ∙ ap (λ (b : Bool). cond b (Ok found) (spent budget)) (le-leb f.branches budget within)

pub live_fault : (budget : ℕ) (p : ProblemParts) (part : List SegId) (e : SearchFault)
    → IsSearchFault (places_of p.segs part) (branches_in p part) budget e → IsFaultOf (live_outcome budget p part) e
live_fault budget p part fault.NoMemory h = tt
live_fault budget p part (fault.TooDeep limit) h =
    ap (λ (b : Bool). cond b (live_found budget (by_live (live_tree (part_in p part)))) too_deep)
    (lt-leb (places_of p.segs part) 2048 h.0)
    ∙ ap deep (sym h.1)
  where
    deep : Limit → Outcome
    deep l = Err (fault.TooDeep l)
live_fault budget p part (fault.Spent n) h =
    live_goes_on budget p part h.0
    ∙ ap (λ (b : Bool). cond b (Ok (by_live (live_tree (part_in p part)))) (spent budget))
    (lt-leb (branches_in p part) budget h.1)
    ∙ ap over (sym h.2)
  where
    over : ℕ → Outcome
    over m = Err (fault.Spent m)
