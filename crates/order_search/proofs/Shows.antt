-- What the live tree of a part of a problem shows.
use Rattle.std.proofs.Common.{◌≡◌, ℕ, ◌<◌, ◌≤◌, true, List, length, sym, ap, subst, arith, Result, Ok, Err}
use Rattle.std.specs.Prelude.{IfOk}
use Rattle.std.specs.List.{All}
use Rattle.map_base.specs.declared.ids.SegId.{SegId}
use Rattle.map_base.specs.declared.ids.LineId.{LineId}
use Rattle.graph_core.specs.Consistent.{AreRising}
use Rattle.order_model.specs.declared.term.Term.{Term}
use Rattle.order_model.specs.declared.problem.ProblemParts.{ProblemParts}
use Rattle.order_model.specs.Problems.{IsTerm, IsProblem}
use Rattle.order_model.specs.Parts.{IsRisingPart}
use Rattle.order_model.specs.PartTerms.{part_terms}
use Rattle.order_model.specs.Prefixes.{none_placed}
use Rattle.order_proof.specs.Plain.{plain}
use Rattle.order_proof.specs.Trees.{IsProofTree}
use Rattle.order_bound.specs.Accepting.{accepts}
use Rattle.order_model.specs.Questions.{question}
use Rattle.order_bound.proofs.Sound.{all_complete_none}
use Rattle.order_bound.proofs.Accepted.{accepted_part_bounds}
use Rattle.order_search.specs.declared.found.Found.{Found}
use Rattle.order_search.specs.declared.found.SearchFault.{SearchFault}
use Rattle.order_search.specs.declared.found.SearchFault.TheVariants as fault
use Rattle.order_search.specs.LiveTrees.{BoundedPart, Best, number_order, live_tree}
use Rattle.order_search.specs.Bounded.{bounded_part}
use Rattle.order_search.specs.Finding.{best_found, places_of, most_places, incomplete_in, IsSearchFault, IsNotSpent, IsLeast, AreAttained}
use Rattle.order_search.specs.FoundParts.{part_in, branches_in, IsFoundIn}
use Rattle.order_search.specs.Searching.{IsStop}
use Rattle.order_search.proofs.Accepted.{live_accepted}
use Rattle.order_search.proofs.Attained.{live_attained}
use Rattle.order_search.proofs.Shaped.{is_proof_tree}
use Rattle.order_search.proofs.Roots.{none_well, none_each, root_counted}
use Rattle.order_search.proofs.BoundedParts.{told, prices_of_proofs, taken}

module _ (segs : List (List LineId)) (terms : List Term) (part : List SegId) (rising : All AreRising segs) (fit : All (IsTerm segs) terms) (part_rises : IsRisingPart part)
    (known : All (λ (s : SegId). s.0 < length segs) part) where
  abbrev pub q : BoundedPart
  q = bounded_part segs part (part_terms terms part)

  pub accepted : accepts (question segs part (part_terms terms part) (live_tree q).best.cost) (none_placed segs) (live_tree q).tree ≡ true
  accepted =
      live_accepted q rising known (question segs part (part_terms terms part) (live_tree q).best.cost) (taken segs terms part rising fit part_rises known (live_tree q).best.cost)
      (none_placed segs) (number_order q) (none_well segs rising) (omega arith)

  pub least : IsLeast q (live_tree q).best.cost
  least orders are =
      accepted_part_bounds segs part terms (live_tree q).best.cost (none_placed segs) (live_tree q).tree rising fit part_rises known (none_each segs) accepted orders are
      (all_complete_none segs part orders are)

  pub attained : AreAttained q (live_tree q).best.lists (live_tree q).best.cost
  attained = live_attained q rising known (told segs terms part rising fit part_rises known) (none_placed segs) (none_well segs rising)

  pub of_proofs : places_of segs part ≤ most_places → IsProofTree (live_tree q).tree
  of_proofs few =
      is_proof_tree q rising known (prices_of_proofs segs terms part rising fit part_rises known) few (none_placed segs) (number_order q) (none_well segs rising)

-- what is found is all that the live tree shows
pub found_in_part : (problem : ProblemParts) (part : List SegId) → IsProblem problem → IsRisingPart part → All (λ (s : SegId). s.0 < length problem.segs) part
    → places_of problem.segs part ≤ most_places → (r : Result Found SearchFault)
    → IfOk r (λ f. plain f.tree ≡ (live_tree (part_in problem part)).tree) → IfOk r (λ f. best_found f ≡ (live_tree (part_in problem part)).best)
    → IfOk r (λ f. f.branches ≡ branches_in problem part) → IfOk r (IsFoundIn problem part)
found_in_part problem part ok part_rises known few (Ok f) tree best branches =
    let target : f.target ≡ (live_tree (part_in problem part)).best.cost = ap (λ (b : Best). b.cost) best in
    let shown = accepted problem.segs problem.terms part ok.rising ok.terms part_rises known in
    record {
      tree = tree;
      best = best;
      branches = branches;
      places = few;
      least = subst (IsLeast (part_in problem part)) (sym target) (least problem.segs problem.terms part ok.rising ok.terms part_rises known);
      attained = subst (λ (b : Best). AreAttained (part_in problem part) b.lists b.cost) (sym best) (attained problem.segs problem.terms part ok.rising ok.terms part_rises known);
      accepted = subst (λ n. accepts (question problem.segs part (part_terms problem.terms part) n) (none_placed problem.segs) (plain f.tree) ≡ true) (sym target)
          (subst (λ t. accepts (question problem.segs part (part_terms problem.terms part) (live_tree (part_in problem part)).best.cost) (none_placed problem.segs) t ≡ true) (sym tree) shown);
      of_proofs = subst IsProofTree (sym tree) (of_proofs problem.segs problem.terms part ok.rising ok.terms part_rises known few);
    }
found_in_part problem part ok part_rises known few (Err e) tree best branches = tt

-- the stop of a search is the fault of its part
pub stop_fault : (places budget n : ℕ) (f : SearchFault) → places ≤ most_places → IsStop budget n f → IsSearchFault places n budget f
stop_fault places budget n (fault.Spent branches) few h = (few, h.0, h.1)
stop_fault places budget n (fault.TooDeep l) few h = absurd h
stop_fault places budget n fault.NoMemory few h = tt

-- a budget of the number of incomplete prefixes suffices
pub not_spent : (problem : ProblemParts) (part : List SegId) → IsProblem problem → IsRisingPart part → All (λ (s : SegId). s.0 < length problem.segs) part
    → (budget : ℕ) (f : SearchFault) → incomplete_in problem.segs part ≤ budget → IsStop budget (branches_in problem part) f → IsNotSpent f
not_spent problem part ok part_rises known budget (fault.Spent branches) enough h =
    absurd (omega (arith, h.0, enough, root_counted (part_in problem part) ok.rising known part_rises))
not_spent problem part ok part_rises known budget (fault.TooDeep l) enough h = tt
not_spent problem part ok part_rises known budget fault.NoMemory enough h = tt
