-- Runs of an attempt are laid one after another, and given up as soon as the drawing can't get lighter by it.
use Rattle.std.proofs.Common.{◌≡◌, refl, sym, ◌∙◌, ap, subst, ℕ, ◌+◌, ◌≤◌, Bool, true, false, cond, nat_le, nat_lt, List, ◌∷◌, Option, Some, None, inl, inr, arith, []}
use Rattle.drawing_search.proofs.Common.{all_laid, beside_off, board_under, cost_of, gains_at_least, if_below, if_laid}
use Rattle.drawing_search.proofs.Common.{if_within, laid, laid_along, laid_on, laid_within, le-leb, nat_tests}
use Rattle.drawing_search.proofs.Common.{point_of_node, run_gain, run_walk, sketch_weight, still_clear, AreBeside}
use Rattle.drawing_search.proofs.Common.{Chain, GraphParts, GridPoint, HaveBounds, In, IsClearFor, IsConsistent}
use Rattle.drawing_search.proofs.Common.{IsLaidOn, IsLegalSketch, IsRun, LeastTurns, NodeId, PlainWalk, Scale, Sketch}
use Rattle.drawing_search.proofs.LaidAll.{bounds_still, gained, gains_stay, more_walks, IsGained}

-- runs that may be laid on a sketch, with their bounds
pub record IsReady (scale : Scale) (graph : GraphParts) (k : Sketch) (cs : List Chain) (ls : List LeastTurns) : Type 0 where
  pub legal : IsLegalSketch graph k
  pub runs : (c : Chain) → In c cs → IsRun graph c
  pub beside : AreBeside cs
  pub clear : (c : Chain) → In c cs → IsClearFor k c
  pub have : HaveBounds scale graph k cs ls

-- what runs add at least where nodes stand in a sketch
abbrev pub least_of : Sketch → List Chain → List LeastTurns → ℕ
least_of k cs ls = gains_at_least (λ (n : NodeId). point_of_node k n.0) cs ls

below_none : (weigh : Sketch → ℕ) (weight : ℕ) (fin : Sketch) → weight ≤ weigh fin → if_below weigh weight (Some fin) ≡ None
below_none weigh weight fin h = let no : nat_lt (weigh fin) weight ≡ false = grind (arith, nat_tests, h) in ap (λ b. cond b (Some fin) None) no

pub within_laid : (graph : GraphParts) (most : ℕ) (c : Chain) (k : Sketch) (w : PlainWalk) → run_walk graph (board_under k) c ≡ Some w → cost_of w ≤ most → laid_within graph most c k ≡ laid graph c k
within_laid graph most c k w is few =
    ap (λ (o : Option PlainWalk). laid_along graph c k (if_within most o)) is
    ∙ ap (λ b. laid_along graph c k (cond b (Some w) None)) (le-leb (cost_of w) most few)
    ∙ ap (laid_along graph c k) (sym is)

pub laid_from_within : (graph : GraphParts) (most : ℕ) (c : Chain) (k mid : Sketch) → laid_within graph most c k ≡ Some mid → laid graph c k ≡ Some mid
laid_from_within graph most c k mid e = by_walk (run_walk graph (board_under k) c) e
  where
    by_walk : (o : Option PlainWalk) → laid_along graph c k (if_within most o) ≡ Some mid → laid_along graph c k o ≡ Some mid
    by_walk None f = cc
    by_walk (Some w) f = by_test (nat_le (cost_of w) most) f
      where
        by_test : (t : Bool) → laid_along graph c k (cond t (Some w) None) ≡ Some mid → laid_along graph c k (Some w) ≡ Some mid
        by_test true g = g
        by_test false g = cc

module _ (graph : GraphParts) (fit : IsConsistent graph) (scale : Scale) (first : List GridPoint) where
  abbrev weigh : Sketch → ℕ
  weigh k = sketch_weight scale graph first k

  module _ (c : Chain) (cs : List Chain) (l : LeastTurns) (ls : List LeastTurns) (k : Sketch) (ready : IsReady scale graph k (c ∷ cs) (l ∷ ls)) where
    -- the next run is laid
    pub on : (mid : Sketch) → laid graph c k ≡ Some mid → IsLaidOn graph c k mid
    on mid e = laid_on graph fit c k mid ready.legal (ready.runs c (inl refl)) (ready.clear c (inl refl)) e

    pub next_ready : (mid : Sketch) → laid graph c k ≡ Some mid → IsReady scale graph mid cs ls
    next_ready mid e =
        let o = on mid e in
        record {
          legal = o.legal;
          runs = λ d i. ready.runs d (inr i);
          beside = ready.beside.1;
          clear = λ d i.
              subst (λ (j : Sketch). IsClearFor j d) o.is
              (still_clear graph fit c d o.pieces k (ready.runs c (inl refl)) (ready.runs d (inr i)) (λ q p on_c on_d. beside_off c cs ready.beside d i q p on_c on_d) (ready.clear d (inr i)));
          have = bounds_still graph fit scale first k mid (more_walks graph fit scale first c k mid (ready.clear c (inl refl)) o) cs ls (λ d i. ready.runs d (inr i)) ready.have.1;
        }

    pub same_least : (mid : Sketch) → laid graph c k ≡ Some mid → least_of mid cs ls ≡ least_of k cs ls
    same_least mid e = gains_stay graph fit scale first c k mid ready.legal (ready.clear c (inl refl)) (on mid e) cs ls (λ d i. ready.clear d (inr i))

    pub next_gained : (mid : Sketch) (e : laid graph c k ≡ Some mid) → IsGained graph fit scale first c k mid l (on mid e).walk
    next_gained mid e = gained graph fit scale first c k mid l ready.legal (ready.runs c (inl refl)) (ready.clear c (inl refl)) ready.have.0 (on mid e)

  -- all of them add no less than their bounds together
  rest_no_less : (cs : List Chain) (ls : List LeastTurns) (k fin : Sketch) → IsReady scale graph k cs ls → all_laid graph cs k ≡ Some fin → sketch_weight scale graph first k + least_of k cs ls ≤ sketch_weight scale graph first fin
  rest_no_less [] ls k fin ready e = let same : k ≡ fin = cc in omega (arith, ap (sketch_weight scale graph first) same)
  rest_no_less (c ∷ cs) [] k fin ready e = absurd ready.have
  rest_no_less (c ∷ cs) (l ∷ ls) k fin ready e = by_laid (λ mid r found. rest_no_less cs ls mid fin r found) (laid graph c k) refl e
    where
      by_laid : ((mid : Sketch) → IsReady scale graph mid cs ls → all_laid graph cs mid ≡ Some fin → sketch_weight scale graph first mid + least_of mid cs ls ≤ sketch_weight scale graph first fin)
          → (o : Option Sketch) → laid graph c k ≡ o → if_laid (all_laid graph cs) o ≡ Some fin → sketch_weight scale graph first k + least_of k (c ∷ cs) (l ∷ ls) ≤ sketch_weight scale graph first fin
      by_laid rest None is found = cc
      by_laid rest (Some mid) is found =
          let g = next_gained c cs l ls k ready mid is in
          let later = rest mid (next_ready c cs l ls k ready mid is) found in
          omega (arith, g.weight, g.no_less, later, same_least c cs l ls k ready mid is)

  -- where the rest of the runs can't get it below a weight
  pub too_heavy : (weight : ℕ) (cs : List Chain) (ls : List LeastTurns) (k : Sketch) → IsReady scale graph k cs ls → weight ≤ sketch_weight scale graph first k + least_of k cs ls → if_below (sketch_weight scale graph first) weight (all_laid graph cs k) ≡ None
  too_heavy weight cs ls k ready heavy = by_laid (all_laid graph cs k) refl
    where
      by_laid : (o : Option Sketch) → all_laid graph cs k ≡ o → if_below (sketch_weight scale graph first) weight o ≡ None
      by_laid None is = refl
      by_laid (Some fin) is = below_none (sketch_weight scale graph first) weight fin (omega (arith, heavy, rest_no_less cs ls k fin ready is))

  -- where it leaves no room below a weight, the drawing gets no lighter
  pub no_room : (c : Chain) (cs : List Chain) (l : LeastTurns) (ls : List LeastTurns) (k : Sketch) → IsReady scale graph k (c ∷ cs) (l ∷ ls) → (weight : ℕ)
      → ((mid : Sketch) → laid graph c k ≡ Some mid → weight ≤ sketch_weight scale graph first k + run_gain scale graph first mid c + least_of k cs ls) → if_below (sketch_weight scale graph first) weight (all_laid graph (c ∷ cs) k) ≡ None
  no_room c cs l ls k ready weight heavy = by_laid (laid graph c k) refl
    where
      by_laid : (o : Option Sketch) → laid graph c k ≡ o → if_below (sketch_weight scale graph first) weight (if_laid (all_laid graph cs) o) ≡ None
      by_laid None is = refl
      by_laid (Some mid) is = too_heavy weight cs ls mid (next_ready c cs l ls k ready mid is) (omega (arith, heavy mid is, (next_gained c cs l ls k ready mid is).weight, same_least c cs l ls k ready mid is))
