-- Attempts keep drawings legal.
use Rattle.std.proofs.Common.{◌≡◌, refl, sym, ◌∙◌, ap, subst, ℕ, ◌<◌, Bool, true, false, not, cond, eqb, List, [], ◌∷◌, length, get_or, Option, Some, None, ◌⊎◌, inl, inr, arith}
use Rattle.std.proofs.lemmas.Bool.{cases_Bool, eq-eqb, eqb-true}
use Rattle.std.specs.List.{filter_map, list_any}
use Rattle.map_base.specs.declared.ids.NodeId.{NodeId}
use Rattle.map_base.specs.declared.ids.SegId.{SegId}
use Rattle.graph_core.specs.declared.parts.GraphParts.{GraphParts}
use Rattle.graph_core.specs.Consistent.{AreEnds, IsConsistent}
use Rattle.line_chains.specs.declared.chain.Chain.{Chain}
use Rattle.line_chains.specs.declared.chain.ChainStep.{ChainStep}
use Rattle.line_chains.specs.Chains.{end_after, end_of, ends_of}
use Rattle.octi_grid.specs.Walks.{PlainWalk}
use Rattle.octi_grid.proofs.Members.{any_at, any_from, false_from, In}
use Rattle.grid_board.specs.declared.bounds.Bounds.{Bounds}
use Rattle.segment_router.proofs.Places.{seg_at}
use Rattle.run_laying.specs.Attempts.{attempted, attempted_on, has_node, inner_nodes, is_inner, is_on_runs, may_move, walks_in, without_runs, Attempt}
use Rattle.run_laying.specs.Drawings.{IsOnBoard}
use Rattle.run_laying.specs.Laying.{all_laid, Sketch}
use Rattle.run_laying.specs.Runs.{AreBeside, AreOnce, AreSteps, IsFitting, IsRun, LeadsTo}
use Rattle.run_laying.specs.Sketches.{is_standing, IsEndOf, IsLegalSketch}
use Rattle.run_laying.proofs.Attempted.{all_laid_on, beside_off, AreLaidOn, HasWalk, IsClearFor}
use Rattle.run_laying.proofs.Begun.{begun_legal, flag_at, left_walk, run_in, stands_from, walk_of}
use Rattle.run_laying.proofs.RunFacts.{end_below, inner_of, inner_off, leads_from, leads_to, once_first, only_two, step_of}
use Rattle.run_laying.proofs.Whole.{whole_legal, IsComplete}

-- no segment leads from a node to itself
pub no_loop : (graph : GraphParts) → IsConsistent graph → (n : NodeId) (t : ChainStep) → t.seg.0 < length graph.ends → LeadsTo graph n t → t.to.0 ≡ n.0 → ⊥
no_loop graph fit n t below leads same =
    let are : AreEnds (length graph.kinds) (ends_of graph t.seg) =
    fit.ends t.seg.0 (record { 0 = 0 }, record { 0 = 0 }) below in
    elim leads [
      | inl e ↦ (let order : n.0 < t.to.0 = subst (λ (p : NodeId × NodeId). p.0.0 < p.1.0) e are.0 in omega (arith, order, same))
      | inr e ↦ (let order : t.to.0 < n.0 = subst (λ (p : NodeId × NodeId). p.0.0 < p.1.0) e are.0 in omega (arith, order, same))
    ]

pub first_leads : (graph : GraphParts) (n : NodeId) (t : ChainStep) (ts : List ChainStep) → AreSteps graph n (t ∷ ts) → (t.seg.0 < length graph.ends) × LeadsTo graph n t
first_leads graph n t [] steps = steps
first_leads graph n t (u ∷ us) steps = (steps.0, steps.1)

-- where a run begins is between no two of its steps
pub first_outer : (graph : GraphParts) → IsConsistent graph → (n : NodeId) (ts : List ChainStep) → AreSteps graph n ts → AreOnce ts → (m : NodeId) → In m (inner_nodes ts) → m.0 ≡ n.0 → ⊥
first_outer graph fit n [] steps once m i same = i
first_outer graph fit n (t ∷ []) steps once m i same = i
first_outer graph fit n (t ∷ u ∷ us) steps once m (inl e) same = no_loop graph fit n t steps.0 steps.1 (ap (λ (p : NodeId). p.0) (sym e) ∙ same)
first_outer graph fit n (t ∷ u ∷ us) steps once m (inr i) same =
    inner_off graph fit (u ∷ us) m (inner_of graph fit t.to (u ∷ us) steps.3 m i) t.seg steps.0 (once_first t (u ∷ us) once) (subst (IsEndOf graph t.seg) (sym same) (leads_from graph n t steps.1))

-- its last step, and where it ends
record LastStep (graph : GraphParts) (n : NodeId) (ts : List ChainStep) : Type 0 where
  step : ChainStep
  on : In step ts
  segment : step.seg.0 < length graph.ends
  is_end : IsEndOf graph step.seg (end_after n ts).0

last_step : (graph : GraphParts) (n : NodeId) (t : ChainStep) (ts : List ChainStep) → AreSteps graph n (t ∷ ts) → LastStep graph n (t ∷ ts)
last_step graph n t [] steps = record { step = t; on = inl refl; segment = steps.0; is_end = leads_to graph n t steps.1 }
last_step graph n t (u ∷ us) steps = let rest = last_step graph t.to u us steps.3 in record { step = rest.step; on = inr rest.on; segment = rest.segment; is_end = rest.is_end }

pub last_outer : (graph : GraphParts) → IsConsistent graph → (n : NodeId) (ts : List ChainStep) → AreSteps graph n ts → AreOnce ts → (m : NodeId) → In m (inner_nodes ts) → m.0 ≡ (end_after n ts).0 → ⊥
last_outer graph fit n [] steps once m i same = i
last_outer graph fit n (t ∷ []) steps once m i same = i
last_outer graph fit n (t ∷ u ∷ us) steps once m (inr i) same = last_outer graph fit t.to (u ∷ us) steps.3 once.1 m i same
last_outer graph fit n (t ∷ u ∷ us) steps once m (inl e) same = by_rest us same steps.3 once
  where
    node : t.to.0 < length graph.kinds
    node = (inner_of graph fit n (t ∷ u ∷ us) steps t.to (inl refl)).node

    by_rest : (vs : List ChainStep) → m.0 ≡ (end_after t.to (u ∷ vs)).0 → AreSteps graph t.to (u ∷ vs) → AreOnce (t ∷ u ∷ vs) → ⊥
    by_rest [] at on lone = no_loop graph fit t.to u on.0 on.1 (sym at ∙ ap (λ (p : NodeId). p.0) e)
    by_rest (v ∷ vs) at on lone =
        let last = last_step graph u.to v vs on.3 in
        which last (only_two graph fit t.seg u.seg t.to last.step.seg steps.2 node last.segment (subst (IsEndOf graph last.step.seg) (sym at ∙ ap (λ (p : NodeId). p.0) e) last.is_end))
      where
        which : (last : LastStep graph u.to (v ∷ vs)) → (last.step.seg ≡ t.seg) ⊎ (last.step.seg ≡ u.seg) → ⊥
        which last (inl f) = once_first t (u ∷ v ∷ vs) lone last.step (inr last.on) (ap (λ (s : SegId). s.0) f)
        which last (inr f) = once_first u (v ∷ vs) lone.1 last.step last.on (ap (λ (s : SegId). s.0) f)

-- two runs are one, or share no segment
beside_cases : (cs : List Chain) → AreBeside cs → (c d : Chain) → In c cs → In d cs → (c ≡ d) ⊎ ((q p : ChainStep) → In q c.steps → In p d.steps → p.seg.0 ≡ q.seg.0 → ⊥)
beside_cases [] beside c d m n = absurd m
beside_cases (x ∷ cs) beside c d (inl e) (inl f) = inl (e ∙ sym f)
beside_cases (x ∷ cs) beside c d (inl e) (inr n) = inr (λ q p on_c on_d same. beside_off x cs beside d n q p (subst (λ (y : Chain). In q y.steps) e on_c) on_d same)
beside_cases (x ∷ cs) beside c d (inr m) (inl f) = inr (λ q p on_c on_d same. beside_off x cs beside c m p q (subst (λ (y : Chain). In p y.steps) f on_d) on_c (sym same))
beside_cases (x ∷ cs) beside c d (inr m) (inr n) = beside_cases cs beside.1 c d m n

-- a node between steps is where a step leads
pub inner_step : (ts : List ChainStep) (m : NodeId) → In m (inner_nodes ts) → (q : ChainStep) × In q ts × (m ≡ q.to)
inner_step [] m i = absurd i
inner_step (t ∷ []) m i = absurd i
inner_step (t ∷ u ∷ us) m (inl e) = (t, inl refl, e)
inner_step (t ∷ u ∷ us) m (inr i) = let rest = inner_step (u ∷ us) m i in (rest.0, inr rest.1, rest.2)

module _ (graph : GraphParts) (fit : IsConsistent graph) (bounds : Bounds) (walks : List PlainWalk) (on_board : IsOnBoard graph bounds walks) (a : Attempt) (fits : IsFitting graph a) where
  abbrev k0 : Sketch
  k0 = without_runs graph bounds walks a

  run : (c : Chain) → In c a.runs → IsRun graph c
  run c m = run_in graph fit bounds walks on_board a fits c m

  -- an end of a run is between no two steps of a run
  outer : (n : ℕ) → ((d : Chain) → In d a.runs → (m : NodeId) → In m (inner_nodes d.steps) → m.0 ≡ n → ⊥) → is_inner a.runs n ≡ false
  outer n never = false_from (is_inner a.runs n) (λ e. by_run (any_at (λ (d : Chain). has_node (inner_nodes d.steps) n) a.runs e))
    where
      by_run : (d : Chain) × In d a.runs × (has_node (inner_nodes d.steps) n ≡ true) → ⊥
      by_run (d, on, e) = let found = any_at (λ (m : NodeId). eqb m.0 n) (inner_nodes d.steps) e in never d on found.0 found.1 (eqb-true found.0.0 n found.2)

  end_outer : (c : Chain) → In c a.runs → (n : ℕ) (q : ChainStep) → In q c.steps → IsEndOf graph q.seg n → ((m : NodeId) → In m (inner_nodes c.steps) → m.0 ≡ n → ⊥) → is_inner a.runs n ≡ false
  end_outer c on n q step is_end own = outer n (λ d there m i same. by_case d there m i same (beside_cases a.runs fits.beside c d on there))
    where
      by_case : (d : Chain) → In d a.runs → (m : NodeId) → In m (inner_nodes d.steps) → m.0 ≡ n → (c ≡ d) ⊎ ((q p : ChainStep) → In q c.steps → In p d.steps → p.seg.0 ≡ q.seg.0 → ⊥) → ⊥
      by_case d there m i same (inl e) = own m (subst (λ (x : Chain). In m (inner_nodes x.steps)) (sym e) i) same
      by_case d there m i same (inr off) =
          inner_off graph fit d.steps m (inner_of graph fit d.from d.steps (run d there).steps m i) q.seg (step_of graph c.from c.steps (run c on).steps q step).segment (λ p on_d e. off q p step on_d e)
          (subst (IsEndOf graph q.seg) (sym same) is_end)

  -- so runs may be laid
  record EndSteps (c : Chain) : Type 0 where
    first : ChainStep
    first_on : In first c.steps
    first_end : IsEndOf graph first.seg c.from.0
    last : ChainStep
    last_on : In last c.steps
    last_end : IsEndOf graph last.seg (end_of c).0

  end_steps : (c : Chain) → IsRun graph c → EndSteps c
  end_steps c r = by_steps c.steps refl
    where
      by_steps : (ts : List ChainStep) → c.steps ≡ ts → EndSteps c
      by_steps [] e = let none : 0 < 0 = subst (λ (v : List ChainStep). 0 < length v) e r.some in absurd (omega (arith, none))
      by_steps (t ∷ ts) e =
          let steps : AreSteps graph c.from (t ∷ ts) = subst (AreSteps graph c.from) e r.steps in
          let last = last_step graph c.from t ts steps in
          record {
            first = t;
            first_on = subst (In t) (sym e) (inl refl);
            first_end = leads_from graph c.from t (first_leads graph c.from t ts steps).1;
            last = last.step;
            last_on = subst (In last.step) (sym e) last.on;
            last_end = subst (λ (v : List ChainStep). IsEndOf graph last.step.seg (end_after c.from v).0) (sym e) last.is_end;
          }

  on_runs : (c : Chain) → In c a.runs → (q : ChainStep) → In q c.steps → is_on_runs a.runs q.seg.0 ≡ true
  on_runs c m q on = any_from (λ (x : Chain). list_any (λ (t : ChainStep). eqb t.seg.0 q.seg.0) x.steps) a.runs c m (any_from (λ (t : ChainStep). eqb t.seg.0 q.seg.0) c.steps q on (eq-eqb q.seg.0 q.seg.0 refl))

  inner_true : (c : Chain) → In c a.runs → (m : NodeId) → In m (inner_nodes c.steps) → is_inner a.runs m.0 ≡ true
  inner_true c on m i = any_from (λ (x : Chain). has_node (inner_nodes x.steps) m.0) a.runs c on (any_from (λ (p : NodeId). eqb p.0 m.0) (inner_nodes c.steps) m i (eq-eqb m.0 m.0 refl))

  pub clear_for : (c : Chain) → In c a.runs → IsClearFor k0 c
  clear_for c on =
      let r = run c on in
      let ends = end_steps c r in
      record {
        from =
            stands_from graph fit bounds walks on_board a fits c.from.0 (end_below graph fit ends.first.seg c.from.0 (step_of graph c.from c.steps r.steps ends.first ends.first_on).segment ends.first_end)
            (end_outer c on c.from.0 ends.first ends.first_on ends.first_end (first_outer graph fit c.from c.steps r.steps r.once));
        end =
            stands_from graph fit bounds walks on_board a fits (end_of c).0 (end_below graph fit ends.last.seg (end_of c).0 (step_of graph c.from c.steps r.steps ends.last ends.last_on).segment ends.last_end)
            (end_outer c on (end_of c).0 ends.last ends.last_on ends.last_end (last_outer graph fit c.from c.steps r.steps r.once));
        inner = λ m i. flag_at graph fit bounds walks on_board a fits m.0 (inner_of graph fit c.from c.steps r.steps m i).node ∙ ap not (inner_true c on m i);
        walks = λ q m.
            left_walk graph fit bounds walks on_board a fits q.seg (step_of graph c.from c.steps r.steps q m).segment
            ∙ ap (λ b. cond b None (Some (walk_of graph fit bounds walks on_board a fits q.seg))) (on_runs c on q m);
      }

  -- and what comes of it is complete
  complete : (new : Sketch) → AreLaidOn graph a.runs k0 new → IsComplete graph new
  complete new laid = record { nodes = λ n h. by_flag n h (cases_Bool (is_inner a.runs n)); walks = λ i h. by_run (seg_at i) h (cases_Bool (is_on_runs a.runs i)) }
    where
      by_flag : (n : ℕ) → n < length graph.kinds → (is_inner a.runs n ≡ true) ⊎ (is_inner a.runs n ≡ false) → is_standing new n ≡ true
      by_flag n h (inr f) = laid.standing n (stands_from graph fit bounds walks on_board a fits n h f)
      by_flag n h (inl e) =
          let found = any_at (λ (d : Chain). has_node (inner_nodes d.steps) n) a.runs e in
          let node = any_at (λ (m : NodeId). eqb m.0 n) (inner_nodes found.0.steps) found.2 in
          let step = inner_step found.0.steps node.0 node.1 in
          subst (λ j. is_standing new j ≡ true) (ap (λ (p : NodeId). p.0) (sym step.2) ∙ eqb-true node.0.0 n node.2) (laid.inner found.0 found.1 step.0 step.1)

      by_run : (s : SegId) → s.0 < length graph.ends → (is_on_runs a.runs s.0 ≡ true) ⊎ (is_on_runs a.runs s.0 ≡ false) → HasWalk new s
      by_run s h (inr f) =
          laid.walks s (walk_of graph fit bounds walks on_board a fits s, left_walk graph fit bounds walks on_board a fits s h ∙ ap (λ b. cond b None (Some (walk_of graph fit bounds walks on_board a fits s))) f)
      by_run s h (inl e) =
          let found = any_at (λ (d : Chain). list_any (λ (t : ChainStep). eqb t.seg.0 s.0) d.steps) a.runs e in
          let step = any_at (λ (t : ChainStep). eqb t.seg.0 s.0) found.0.steps found.2 in
          subst (λ j. (w : PlainWalk) × (get_or new.walks j None ≡ Some w)) (eqb-true step.0.seg.0 s.0 step.2) (laid.segments found.0 found.1 step.0 step.1)

  -- what comes of an attempt is a legal drawing on the same board
  pub record IsKept (new : Sketch) : Type 0 where
    pub legal : IsLegalSketch graph new
    pub complete : IsComplete graph new
    pub bounds_same : new.bounds ≡ bounds

  pub kept_sketch : (new : Sketch) → attempted_on graph (without_runs graph bounds walks a) a ≡ Some new → IsKept new
  kept_sketch new e = by_move (may_move k0 a.nodes) refl e
    where
      by_move : (t : Bool) → may_move k0 a.nodes ≡ t → cond t (all_laid graph a.runs k0) None ≡ Some new → IsKept new
      by_move false may found = cc
      by_move true may found =
          let laid = all_laid_on graph fit a.runs k0 new (begun_legal graph fit bounds walks on_board a fits may) run fits.beside clear_for found in
          record { legal = laid.legal; complete = complete new laid; bounds_same = laid.bounds }

  pub kept_legal : (new : List PlainWalk) → attempted graph bounds walks a ≡ Some new → IsOnBoard graph bounds new
  kept_legal new e = by_laid (attempted_on graph k0 a) refl e
    where
      by_laid : (o : Option Sketch) → attempted_on graph k0 a ≡ o → walks_in o ≡ Some new → IsOnBoard graph bounds new
      by_laid None is found = cc
      by_laid (Some k) is found =
          let kept = kept_sketch k is in
          let same : filter_map (λ w. w) k.walks ≡ new = cc in
          subst (IsOnBoard graph bounds) same (subst (λ (b : Bounds). IsOnBoard graph b (filter_map (λ w. w) k.walks)) kept.bounds_same (whole_legal graph fit k kept.legal kept.complete))
