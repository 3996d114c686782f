-- Runs that are laid one after another: what comes of a legal sketch is legal, and complete where the runs have what it lacks.
use Rattle.std.proofs.Common.{◌≡◌, refl, sym, ◌∙◌, ap, subst, ℕ, zero, suc, ◌≤◌, Bool, true, false, cond, eqb, nat_le, List, [], ◌∷◌, length, get_or, set, Option, Some, None, inl, inr, arith}
use Rattle.std.proofs.lemmas.Bool.{eq-eqb, leb-true, true≢false}
use Rattle.std.specs.List.{list_any}
use Rattle.map_base.specs.declared.ids.NodeId.{NodeId}
use Rattle.map_base.specs.declared.ids.SegId.{SegId}
use Rattle.graph_core.specs.declared.parts.GraphParts.{GraphParts}
use Rattle.graph_core.specs.Consistent.{IsConsistent}
use Rattle.line_chains.specs.declared.chain.Chain.{Chain}
use Rattle.line_chains.specs.declared.chain.ChainStep.{ChainStep}
use Rattle.line_chains.specs.Chains.{end_of}
use Rattle.octi_grid.specs.Walks.{points_of, PlainWalk}
use Rattle.octi_grid.specs.Legal.{is_even}
use Rattle.octi_grid.proofs.Members.{any_from, In}
use Rattle.run_laying.specs.Attempts.{inner_nodes}
use Rattle.run_laying.specs.Laying.{all_laid, board_under, first_seg_of, from_low, if_laid, laid, laid_along, last_seg_of, run_walk, with_piece, with_pieces, Sketch}
use Rattle.run_laying.specs.Pieces.{even_steps, pieces_of}
use Rattle.run_laying.specs.Runs.{AreBeside, IsRun}
use Rattle.run_laying.specs.Sketches.{is_standing, walk_in, IsEndOf, IsLegalSketch}
use Rattle.run_laying.proofs.EvenCuts.{length-pieces, pieces_cut}
use Rattle.run_laying.proofs.FreeRoutes.{free_of_route}
use Rattle.run_laying.proofs.LaidRuns.{has_walk, keeps_lifted, keeps_standing, run_legal, same_bounds, same_walk, to_stands, IsCut, IsLaying}
use Rattle.run_laying.proofs.Piecewise.{IsFreeWalk}
use Rattle.run_laying.proofs.RunFacts.{contains_in, end_below, inner_of, inner_off, leads_to, step_of, IsOnRun}

-- a run may be laid: its ends stand, the nodes between them don't, and its segments have no walk
pub record IsClearFor (k : Sketch) (c : Chain) : Type 0 where
  pub from : is_standing k c.from.0 ≡ true
  pub end : is_standing k (end_of c).0 ≡ true
  pub inner : (m : NodeId) → In m (inner_nodes c.steps) → is_standing k m.0 ≡ false
  pub walks : (q : ChainStep) → In q c.steps → walk_in k q.seg ≡ None

-- one run was laid along a walk
pub record IsLaidOn (graph : GraphParts) (c : Chain) (k new : Sketch) : Type 0 where
  pub walk : PlainWalk
  pub route : run_walk graph (board_under k) c ≡ Some walk
  pub free : IsFreeWalk graph k c.from.0 (end_of c).0 (first_seg_of c.steps) (last_seg_of c) walk
  pub pieces : List PlainWalk
  pub cut : IsCut walk pieces
  pub each : length pieces ≡ length c.steps
  pub is : with_pieces graph c.from c.steps pieces k ≡ new
  pub legal : IsLegalSketch graph new

-- a run that may be laid along a free walk
pub laying_of : (graph : GraphParts) (k : Sketch) (c : Chain) (w : PlainWalk) → IsLegalSketch graph k → IsRun graph c → IsClearFor k c → IsFreeWalk graph k c.from.0 (end_of c).0 (first_seg_of c.steps) (last_seg_of c) w
    → length c.steps ≤ even_steps (points_of w) → IsLaying graph c.from c.steps (pieces_of w (length c.steps)) k w (last_seg_of c) (end_of c).0
laying_of graph k c w h run clear free enough = record {
  legal = h;
  steps = run.steps;
  once = run.once;
  each = length-pieces w (length c.steps);
  cut = pieces_cut w (length c.steps) (ap is_even free.start ∙ h.even c.from.0 clear.from) (ap is_even free.end ∙ h.even (end_of c).0 clear.end) run.some enough;
  at = refl;
  last = refl;
  free = free;
  lifted = clear.inner;
  none = clear.walks;
}

pub laid_on : (graph : GraphParts) → IsConsistent graph → (c : Chain) (k new : Sketch) → IsLegalSketch graph k → IsRun graph c → IsClearFor k c → laid graph c k ≡ Some new → IsLaidOn graph c k new
laid_on graph fit c k new h run clear e = by_walk (run_walk graph (board_under k) c) refl e
  where
    by_walk : (o : Option PlainWalk) → run_walk graph (board_under k) c ≡ o → laid_along graph c k o ≡ Some new → IsLaidOn graph c k new
    by_walk None is found = cc
    by_walk (Some w) is found = by_test (nat_le (length c.steps) (even_steps (points_of w))) refl found
      where
        free : IsFreeWalk graph k c.from.0 (end_of c).0 (first_seg_of c.steps) (last_seg_of c) w
        free = free_of_route graph k h c.from.0 (end_of c).0 (first_seg_of c.steps) (last_seg_of c) w clear.from clear.end run.apart is

        by_test : (t : Bool) → nat_le (length c.steps) (even_steps (points_of w)) ≡ t → cond t (Some (with_pieces graph c.from c.steps (pieces_of w (length c.steps)) k)) None ≡ Some new → IsLaidOn graph c k new
        by_test false test there = cc
        by_test true test there =
            let new_is : with_pieces graph c.from c.steps (pieces_of w (length c.steps)) k ≡ new = cc in
            record {
              walk = w;
              route = is;
              free = free;
              pieces = pieces_of w (length c.steps);
              cut = (laying_of graph k c w h run clear free (leb-true (length c.steps) (even_steps (points_of w)) test)).cut;
              each = length-pieces w (length c.steps);
              is = new_is;
              legal =
                  subst (IsLegalSketch graph) new_is
                  (run_legal graph fit c.from c.steps (pieces_of w (length c.steps)) k w (last_seg_of c) (end_of c).0 (laying_of graph k c w h run clear free (leb-true (length c.steps) (even_steps (points_of w)) test)));
            }

-- runs beside each other
pub beside_off : (c : Chain) (cs : List Chain) → AreBeside (c ∷ cs) → (d : Chain) → In d cs → (q p : ChainStep) → In q c.steps → In p d.steps → p.seg.0 ≡ q.seg.0 → ⊥
beside_off c cs beside d m q p on_c on_d same =
    true≢false
    (sym (any_from (λ (x : Chain). list_any (λ (t : ChainStep). eqb t.seg.0 q.seg.0) x.steps) cs d m (any_from (λ (t : ChainStep). eqb t.seg.0 q.seg.0) d.steps p on_d (eq-eqb p.seg.0 q.seg.0 same)))
    ∙ beside.0 q (contains_in c.steps q on_c))

pub still_clear : (graph : GraphParts) → IsConsistent graph → (c d : Chain) (vs : List PlainWalk) (k : Sketch) → IsRun graph c → IsRun graph d → ((q p : ChainStep) → In q c.steps → In p d.steps → p.seg.0 ≡ q.seg.0 → ⊥) → IsClearFor k d
    → IsClearFor (with_pieces graph c.from c.steps vs k) d
still_clear graph fit c d vs k run other off clear = record {
  from = keeps_standing graph c.from c.steps vs k d.from.0 clear.from;
  end = keeps_standing graph c.from c.steps vs k (end_of d).0 clear.end;
  inner = λ m i. keeps_lifted graph c.from c.steps vs k m.0 (λ q on same. not_there m i q on same (step_of graph c.from c.steps run.steps q on)) ∙ clear.inner m i;
  walks = λ p m. same_walk graph c.from c.steps vs k p.seg (λ q on same. off q p on m (sym same)) ∙ clear.walks p m;
}
  where
    not_there : (m : NodeId) → In m (inner_nodes d.steps) → (q : ChainStep) → In q c.steps → q.to.0 ≡ m.0 → IsOnRun graph q → ⊥
    not_there m i q on same step =
        inner_off graph fit d.steps m (inner_of graph fit d.from d.steps other.steps m i) q.seg step.segment (λ p on_d e. off q p on on_d e) (subst (IsEndOf graph q.seg) same (leads_to graph step.from q step.leads))

-- a segment has a walk
abbrev pub HasWalk : Sketch → SegId → Type 0
HasWalk k s = (w : PlainWalk) × (walk_in k s ≡ Some w)

still_some : (ws : List (Option PlainWalk)) (i j : ℕ) (v : PlainWalk) → (w : PlainWalk) × (get_or ws j None ≡ Some w) → (w : PlainWalk) × (get_or (set ws i (Some v)) j None ≡ Some w)
still_some [] i j v h = h
still_some (o ∷ ws) zero zero v h = (v, refl)
still_some (o ∷ ws) zero (suc j) v h = h
still_some (o ∷ ws) (suc i) zero v h = h
still_some (o ∷ ws) (suc i) (suc j) v h = still_some ws i j v h

keeps_walk : (graph : GraphParts) (n : NodeId) (ts : List ChainStep) (vs : List PlainWalk) (k : Sketch) (s : SegId) → HasWalk k s → HasWalk (with_pieces graph n ts vs k) s
keeps_walk graph n [] vs k s h = h
keeps_walk graph n (t ∷ ts) [] k s h = h
keeps_walk graph n (t ∷ ts) (v ∷ vs) k s h = keeps_walk graph t.to ts vs (with_piece graph n t v k) s (still_some k.walks t.seg.0 s.0 (from_low graph t.seg n v) h)

-- all runs were laid
pub record AreLaidOn (graph : GraphParts) (cs : List Chain) (k new : Sketch) : Type 0 where
  pub legal : IsLegalSketch graph new
  pub bounds : new.bounds ≡ k.bounds
  pub standing : (m : ℕ) → is_standing k m ≡ true → is_standing new m ≡ true
  pub walks : (s : SegId) → HasWalk k s → HasWalk new s
  pub inner : (c : Chain) → In c cs → (q : ChainStep) → In q c.steps → is_standing new q.to.0 ≡ true
  pub segments : (c : Chain) → In c cs → (q : ChainStep) → In q c.steps → HasWalk new q.seg

pub all_laid_on : (graph : GraphParts) → IsConsistent graph → (cs : List Chain) (k new : Sketch) → IsLegalSketch graph k → ((c : Chain) → In c cs → IsRun graph c) → AreBeside cs → ((c : Chain) → In c cs → IsClearFor k c)
    → all_laid graph cs k ≡ Some new → AreLaidOn graph cs k new
all_laid_on graph fit [] k new h runs beside clear e =
    let same : k ≡ new = cc in
    record {
      legal = subst (IsLegalSketch graph) same h;
      bounds = ap (λ (j : Sketch). j.bounds) (sym same);
      standing = λ m stands. subst (λ (j : Sketch). is_standing j m ≡ true) same stands;
      walks = λ s there. subst (λ (j : Sketch). HasWalk j s) same there;
      inner = λ c m q on. absurd m;
      segments = λ c m q on. absurd m;
    }
all_laid_on graph fit (c ∷ cs) k new h runs beside clear e =
    by_first (λ j legal ready found. all_laid_on graph fit cs j new legal (λ d m. runs d (inr m)) beside.1 ready found) (laid graph c k) refl e
  where
    of_first : ((j : Sketch) → IsLegalSketch graph j → ((d : Chain) → In d cs → IsClearFor j d) → all_laid graph cs j ≡ Some new → AreLaidOn graph cs j new) → (mid : Sketch) → IsLaidOn graph c k mid → all_laid graph cs mid ≡ Some new
        → AreLaidOn graph (c ∷ cs) k new
    of_first rest mid one found = record {
      legal = later.legal;
      bounds = later.bounds ∙ ap (λ (j : Sketch). j.bounds) (sym one.is) ∙ same_bounds graph c.from c.steps one.pieces k;
      standing = λ m stands. later.standing m (subst (λ (j : Sketch). is_standing j m ≡ true) one.is (keeps_standing graph c.from c.steps one.pieces k m stands));
      walks = λ s there. later.walks s (subst (λ (j : Sketch). HasWalk j s) one.is (keeps_walk graph c.from c.steps one.pieces k s there));
      inner = inner;
      segments = segments;
    }
      where
        later : AreLaidOn graph cs mid new
        later =
            rest mid one.legal
            (λ d m. subst (λ (j : Sketch). IsClearFor j d) one.is (still_clear graph fit c d one.pieces k (runs c (inl refl)) (runs d (inr m)) (λ q p on_c on_d. beside_off c cs beside d m q p on_c on_d) (clear d (inr m)))) found

        on_run : (q : ChainStep) → In q c.steps → IsOnRun graph q
        on_run q m = step_of graph c.from c.steps (runs c (inl refl)).steps q m

        own_inner : (q : ChainStep) → In q c.steps → is_standing new q.to.0 ≡ true
        own_inner q m =
            let step = on_run q m in
            later.standing q.to.0
            (subst (λ (j : Sketch). is_standing j q.to.0 ≡ true) one.is
            (to_stands graph c.from c.steps one.pieces k one.each q m (omega (arith, end_below graph fit q.seg q.to.0 step.segment (leads_to graph step.from q step.leads), h.stand_each))))

        own_walk : (q : ChainStep) → In q c.steps → HasWalk new q.seg
        own_walk q m =
            later.walks q.seg
            (subst (λ (j : Sketch). HasWalk j q.seg) one.is
            (has_walk graph c.from c.steps one.pieces k one.each (runs c (inl refl)).once q m (omega (arith, (on_run q m).segment, h.walks_each))))

        inner : (d : Chain) → In d (c ∷ cs) → (q : ChainStep) → In q d.steps → is_standing new q.to.0 ≡ true
        inner d (inl i) q m = own_inner q (subst (λ (x : Chain). In q x.steps) i m)
        inner d (inr n) q m = later.inner d n q m

        segments : (d : Chain) → In d (c ∷ cs) → (q : ChainStep) → In q d.steps → HasWalk new q.seg
        segments d (inl i) q m = own_walk q (subst (λ (x : Chain). In q x.steps) i m)
        segments d (inr n) q m = later.segments d n q m

    by_first : ((j : Sketch) → IsLegalSketch graph j → ((d : Chain) → In d cs → IsClearFor j d) → all_laid graph cs j ≡ Some new → AreLaidOn graph cs j new) → (o : Option Sketch) → laid graph c k ≡ o → if_laid (all_laid graph cs) o ≡ Some new
        → AreLaidOn graph (c ∷ cs) k new
    by_first rest None is found = cc
    by_first rest (Some mid) is found = of_first rest mid (laid_on graph fit c k mid h (runs c (inl refl)) (clear c (inl refl)) is) found
