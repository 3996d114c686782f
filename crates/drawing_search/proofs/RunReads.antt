-- What a run is, as it is read step by step: all of it lies on the graph, and its ends are those of its first and last step.
use Rattle.std.proofs.Common.{◌≡◌, refl, sym, ◌∙◌, ap, ℕ, zero, suc, ◌+◌, ◌-◌, ◌<◌, ◌≤◌, true, List, [], ◌∷◌, length, get_or, arith}
use Rattle.drawing_search.proofs.Common.{and_from, and_parts, end_below, end_of, first_seg_of, in_at, inner_nodes}
use Rattle.drawing_search.proofs.Common.{is_near, is_standing, last_seg_of, le-leb, leads_to, leb-true, nat_le, step_of}
use Rattle.drawing_search.proofs.Common.{unsigned_abs, All, AreOnGraph, Chain, ChainStep, GraphParts, GridPoint}
use Rattle.drawing_search.proofs.Common.{IsConsistent, IsRun, NodeId, Sketch}
use Rattle.drawing_search.proofs.LaidAll.{first_end, last_end}
use Rattle.line_chains.proofs.Walking.{end_is}
use Rattle.drawing_search.proofs.RunEnds.{first_seg_is, last_seg_is}

abbrev pub no_step : ChainStep
no_step = record { seg = record { 0 = 0 }; to = record { 0 = 0 } }

-- coordinates of a point that is near
pub near_x : (most : ℕ) (p : GridPoint) → is_near most p ≡ true → unsigned_abs p.x ≤ most
near_x most p e = leb-true (unsigned_abs p.x) most (and_parts (nat_le (unsigned_abs p.x) most) (nat_le (unsigned_abs p.y) most) e).0

pub near_y : (most : ℕ) (p : GridPoint) → is_near most p ≡ true → unsigned_abs p.y ≤ most
near_y most p e = leb-true (unsigned_abs p.y) most (and_parts (nat_le (unsigned_abs p.x) most) (nat_le (unsigned_abs p.y) most) e).1

-- and what is near is so by a wider measure
pub near_more : (few most : ℕ) → few ≤ most → (p : GridPoint) → is_near few p ≡ true → is_near most p ≡ true
near_more few most h p e =
    and_from (nat_le (unsigned_abs p.x) most) (nat_le (unsigned_abs p.y) most) (le-leb (unsigned_abs p.x) most (omega (arith, h, near_x few p e))) (le-leb (unsigned_abs p.y) most (omega (arith, h, near_y few p e)))

-- nodes between steps, by their places
pub inner_place : (ts : List ChainStep) (i : ℕ) (d : NodeId) → i + 1 < length ts → (i < length (inner_nodes ts)) × (get_or (inner_nodes ts) i d ≡ (get_or ts i no_step).to)
inner_place [] i d h = absurd (omega arith)
inner_place (t ∷ []) i d h = absurd (omega arith)
inner_place (t ∷ u ∷ us) zero d h = (omega arith, refl)
inner_place (t ∷ u ∷ us) (suc i) d h = let rest = inner_place (u ∷ us) i d (omega arith) in (omega (arith, rest.0), rest.1)

pub inner_stands : (k : Sketch) (ts : List ChainStep) (i : ℕ) → All (λ (n : NodeId). is_standing k n.0 ≡ true) (inner_nodes ts) → i + 1 < length ts → is_standing k (get_or ts i no_step).to.0 ≡ true
inner_stands k ts i all h = let at = inner_place ts i (record { 0 = 0 }) h in ap (λ (n : NodeId). is_standing k n.0) (sym at.1) ∙ all i (record { 0 = 0 }) at.0

module _ (graph : GraphParts) (fit : IsConsistent graph) (c : Chain) (run : IsRun graph c) where
  pub run_on_graph : AreOnGraph graph c.steps
  run_on_graph = λ i d h. let s = step_of graph c.from c.steps run.steps (get_or c.steps i d) (in_at c.steps i d h) in (s.segment, end_below graph fit (get_or c.steps i d).seg (get_or c.steps i d).to.0 s.segment (leads_to graph s.from (get_or c.steps i d) s.leads))

  -- its ends are nodes of the graph
  pub run_from : c.from.0 < length graph.kinds
  run_from = let at = first_end graph c.from c.steps run.steps run.some in end_below graph fit (first_seg_of c.steps) c.from.0 at.0 at.1

  pub run_to : (end_of c).0 < length graph.kinds
  run_to = let at = last_end graph (first_seg_of c.steps) c.from c.steps run.steps run.some in end_below graph fit (last_seg_of c) (end_of c).0 at.0 at.1

  -- the first and the last step
  pub reads_first : (ts : List ChainStep) → ts ≡ c.steps → (get_or ts 0 no_step).seg ≡ first_seg_of c.steps
  reads_first ts same = ap (λ (v : List ChainStep). (get_or v 0 no_step).seg) same ∙ sym (first_seg_is c.steps no_step run.some)

  whole : length c.steps ≡ suc (length c.steps - 1)
  whole = omega (arith, run.some)

  pub reads_last : (ts : List ChainStep) → ts ≡ c.steps → (get_or ts (length ts - 1) no_step).seg ≡ last_seg_of c
  reads_last ts same = ap (λ (v : List ChainStep). (get_or v (length v - 1) no_step).seg) same ∙ sym (last_seg_is (first_seg_of c.steps) c.steps (length c.steps - 1) no_step whole)

  pub reads_end : (ts : List ChainStep) → ts ≡ c.steps → (get_or ts (length ts - 1) no_step).to ≡ end_of c
  reads_end ts same = ap (λ (v : List ChainStep). (get_or v (length v - 1) no_step).to) same ∙ sym (end_is c.from c.steps (length c.steps - 1) no_step whole)
