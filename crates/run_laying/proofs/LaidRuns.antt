-- Runs that are laid on legal sketches: what comes of it is legal, and everything beside them stays.
use Rattle.std.proofs.Common.{◌≡◌, refl, sym, ◌∙◌, ap, subst, ℕ, zero, suc, ◌<◌, Bool, true, false, List, [], ◌∷◌, length, get_or, set, Some, None, inl, inr, arith, length-set, get_or-set_same, get_or-set_other}
use Rattle.map_base.specs.declared.ids.NodeId.{NodeId}
use Rattle.map_base.specs.declared.ids.SegId.{SegId}
use Rattle.graph_core.specs.declared.parts.GraphParts.{GraphParts}
use Rattle.graph_core.specs.Consistent.{IsConsistent}
use Rattle.line_chains.specs.declared.chain.ChainStep.{ChainStep}
use Rattle.line_chains.specs.Chains.{end_after, last_seg}
use Rattle.octi_grid.specs.Walks.{PlainWalk}
use Rattle.octi_grid.proofs.Members.{In}
use Rattle.run_laying.specs.Attempts.{inner_nodes}
use Rattle.run_laying.specs.Laying.{first_seg_of, from_low, with_piece, with_pieces, Sketch}
use Rattle.run_laying.specs.Runs.{AreOnce, AreSteps}
use Rattle.run_laying.specs.Sketches.{is_standing, walk_in, IsEndOf, IsLegalSketch}
use Rattle.run_laying.proofs.Cuts.{IsSplit}
use Rattle.run_laying.proofs.Piecewise.{last_legal, piece_legal, rest_free, IsFreeWalk}
use Rattle.run_laying.proofs.RunFacts.{end_below, inner_of, inner_off, leads_to, once_first, IsOff}

-- a walk that is split into these, one after another
abbrev pub IsCut : PlainWalk → List PlainWalk → Type 0
IsCut w [] = ⊥
IsCut w (v ∷ []) = (v ≡ w) × (0 < length w.steps)
IsCut w (v ∷ u ∷ us) = (rest : PlainWalk) × IsSplit w v rest × IsCut rest (u ∷ us)

-- ---- what pieces leave as it was

pub same_walk : (graph : GraphParts) (n : NodeId) (ts : List ChainStep) (vs : List PlainWalk) (k : Sketch) (s : SegId) → IsOff ts s → walk_in (with_pieces graph n ts vs k) s ≡ walk_in k s
same_walk graph n [] vs k s off = refl
same_walk graph n (t ∷ ts) [] k s off = refl
same_walk graph n (t ∷ ts) (v ∷ vs) k s off =
    same_walk graph t.to ts vs (with_piece graph n t v k) s (λ q m e. off q (inr m) e) ∙ get_or-set_other k.walks t.seg.0 s.0 (Some (from_low graph t.seg n v)) None (λ e. off t (inl refl) (sym e))

pub still_raised : (flags : List Bool) (i m : ℕ) → get_or flags m false ≡ true
    → get_or (set flags i true) m false ≡ true
still_raised [] i m e = e
still_raised (b ∷ bs) zero zero e = refl
still_raised (b ∷ bs) zero (suc m) e = e
still_raised (b ∷ bs) (suc i) zero e = e
still_raised (b ∷ bs) (suc i) (suc m) e = still_raised bs i m e

pub keeps_standing : (graph : GraphParts) (n : NodeId) (ts : List ChainStep) (vs : List PlainWalk) (k : Sketch) (m : ℕ) → is_standing k m ≡ true → is_standing (with_pieces graph n ts vs k) m ≡ true
keeps_standing graph n [] vs k m e = e
keeps_standing graph n (t ∷ ts) [] k m e = e
keeps_standing graph n (t ∷ ts) (v ∷ vs) k m e = keeps_standing graph t.to ts vs (with_piece graph n t v k) m (still_raised k.stand t.to.0 m e)

pub keeps_lifted : (graph : GraphParts) (n : NodeId) (ts : List ChainStep) (vs : List PlainWalk) (k : Sketch) (m : ℕ) → ((q : ChainStep) → In q ts → q.to.0 ≡ m → ⊥) → is_standing (with_pieces graph n ts vs k) m ≡ is_standing k m
keeps_lifted graph n [] vs k m off = refl
keeps_lifted graph n (t ∷ ts) [] k m off = refl
keeps_lifted graph n (t ∷ ts) (v ∷ vs) k m off =
    keeps_lifted graph t.to ts vs (with_piece graph n t v k) m (λ q i e. off q (inr i) e) ∙ get_or-set_other k.stand t.to.0 m true false (λ e. off t (inl refl) (sym e))

pub same_bounds : (graph : GraphParts) (n : NodeId) (ts : List ChainStep) (vs : List PlainWalk) (k : Sketch) → (with_pieces graph n ts vs k).bounds ≡ k.bounds
same_bounds graph n [] vs k = refl
same_bounds graph n (t ∷ ts) [] k = refl
same_bounds graph n (t ∷ ts) (v ∷ vs) k = same_bounds graph t.to ts vs (with_piece graph n t v k)

-- and what they give
pub has_walk : (graph : GraphParts) (n : NodeId) (ts : List ChainStep) (vs : List PlainWalk) (k : Sketch) → length vs ≡ length ts → AreOnce ts → (q : ChainStep) → In q ts → q.seg.0 < length k.walks
    → (w : PlainWalk) × (walk_in (with_pieces graph n ts vs k) q.seg ≡ Some w)
has_walk graph n [] vs k each once q m below = absurd m
has_walk graph n (t ∷ ts) [] k each once q m below = absurd (omega arith)
has_walk graph n (t ∷ ts) (v ∷ vs) k each once q (inl e) below = (
  from_low graph t.seg n v,
  ap (walk_in (with_pieces graph n (t ∷ ts) (v ∷ vs) k)) (ap (λ (p : ChainStep). p.seg) e)
      ∙ same_walk graph t.to ts vs (with_piece graph n t v k) t.seg (once_first t ts once)
      ∙ get_or-set_same k.walks t.seg.0 (Some (from_low graph t.seg n v)) None (subst (λ (p : ChainStep). p.seg.0 < length k.walks) e below),
)
has_walk graph n (t ∷ ts) (v ∷ vs) k each once q (inr m) below =
    has_walk graph t.to ts vs (with_piece graph n t v k) (omega arith) once.1 q m (omega (arith, below, length-set k.walks t.seg.0 (Some (from_low graph t.seg n v))))

pub to_stands : (graph : GraphParts) (n : NodeId) (ts : List ChainStep) (vs : List PlainWalk) (k : Sketch) → length vs ≡ length ts → (q : ChainStep) → In q ts → q.to.0 < length k.stand → is_standing (with_pieces graph n ts vs k) q.to.0 ≡ true
to_stands graph n [] vs k each q m below = absurd m
to_stands graph n (t ∷ ts) [] k each q m below = absurd (omega arith)
to_stands graph n (t ∷ ts) (v ∷ vs) k each q (inl e) below =
    keeps_standing graph t.to ts vs (with_piece graph n t v k) q.to.0
    (ap (λ (p : ChainStep). get_or (set k.stand t.to.0 true) p.to.0 false) e ∙ get_or-set_same k.stand t.to.0 true false (subst (λ (p : ChainStep). p.to.0 < length k.stand) e below))
to_stands graph n (t ∷ ts) (v ∷ vs) k each q (inr m) below = to_stands graph t.to ts vs (with_piece graph n t v k) (omega arith) q m (omega (arith, below, length-set k.stand t.to.0 true))

-- ---- a run

-- what is left of a run that is being laid: from a node a walk that is free beside the others, and the pieces into which it
-- is split, one for each step
pub record IsLaying (graph : GraphParts) (n : NodeId) (ts : List ChainStep) (vs : List PlainWalk) (k : Sketch) (w : PlainWalk) (l : SegId) (e : ℕ) : Type 0 where
  pub legal : IsLegalSketch graph k
  pub steps : AreSteps graph n ts
  pub once : AreOnce ts
  pub each : length vs ≡ length ts
  pub cut : IsCut w vs
  pub at : (end_after n ts).0 ≡ e
  pub last : last_seg (first_seg_of ts) ts ≡ l
  pub free : IsFreeWalk graph k n.0 e (first_seg_of ts) l w
  pub lifted : (m : NodeId) → In m (inner_nodes ts) → is_standing k m.0 ≡ false
  pub none : (q : ChainStep) → In q ts → walk_in k q.seg ≡ None

pub last_laid : (graph : GraphParts) → IsConsistent graph → (n : NodeId) (t : ChainStep) (v : PlainWalk) (k : Sketch) (w : PlainWalk) (l : SegId) (e : ℕ) → IsLaying graph n (t ∷ []) (v ∷ []) k w l e
    → IsLegalSketch graph (with_piece graph n t v k)
last_laid graph fit n t v k w l e h =
    subst (λ (x : PlainWalk). IsLegalSketch graph (with_piece graph n t x k)) (sym h.cut.0)
    (last_legal graph fit k h.legal n t w (subst (λ (s : SegId). IsFreeWalk graph k n.0 t.to.0 t.seg s w) (sym h.last) (subst (λ j. IsFreeWalk graph k n.0 j t.seg l w) (sym h.at) h.free)) h.cut.1 h.steps.0 h.steps.1
    (h.none t (inl refl)))

pub laid_further : (graph : GraphParts) → IsConsistent graph → (n : NodeId) (t u : ChainStep) (us : List ChainStep) (v x : PlainWalk) (xs : List PlainWalk) (k : Sketch) (w : PlainWalk) (l : SegId) (e : ℕ)
    → IsLaying graph n (t ∷ u ∷ us) (v ∷ x ∷ xs) k w l e → (rest : PlainWalk) × IsLaying graph t.to (u ∷ us) (x ∷ xs) (with_piece graph n t v k) rest l e
laid_further graph fit n t u us v x xs k w l e h = (
  h.cut.0,
  record {
    legal = piece_legal graph fit k h.legal n t u.seg l e w v h.cut.0 h.free h.cut.1 h.steps.0 h.steps.1 (h.none t (inl refl)) node (h.lifted t.to (inl refl)) h.steps.2 (h.none u (inr (inl refl))) next;
    steps = h.steps.3;
    once = h.once.1;
    each = omega (arith, h.each);
    cut = h.cut.2;
    at = h.at;
    last = h.last;
    free = rest_free graph fit k h.legal n t u.seg l e w v h.cut.0 h.free h.cut.1 h.steps.0 h.steps.1 (h.none t (inl refl)) node (h.lifted t.to (inl refl)) h.steps.2 (h.none u (inr (inl refl))) next;
    lifted = λ m i. get_or-set_other k.stand t.to.0 m.0 true false (other m i) ∙ h.lifted m (inr i);
    none = λ q m. get_or-set_other k.walks t.seg.0 q.seg.0 (Some (from_low graph t.seg n v)) None (λ same. once_first t (u ∷ us) h.once q m same) ∙ h.none q (inr m);
  },
)
  where
    node : t.to.0 < length graph.kinds
    node = end_below graph fit t.seg t.to.0 h.steps.0 (leads_to graph n t h.steps.1)

    next : u.seg.0 ≡ t.seg.0 → ⊥
    next same = once_first t (u ∷ us) h.once u (inl refl) same

    other : (m : NodeId) → In m (inner_nodes (u ∷ us)) → m.0 ≡ t.to.0 → ⊥
    other m i same =
        inner_off graph fit (u ∷ us) m (inner_of graph fit t.to (u ∷ us) h.steps.3 m i) t.seg h.steps.0 (once_first t (u ∷ us) h.once) (subst (IsEndOf graph t.seg) (sym same) (leads_to graph n t h.steps.1))

pub run_legal : (graph : GraphParts) → IsConsistent graph → (n : NodeId) (ts : List ChainStep) (vs : List PlainWalk) (k : Sketch) (w : PlainWalk) (l : SegId) (e : ℕ) → IsLaying graph n ts vs k w l e
    → IsLegalSketch graph (with_pieces graph n ts vs k)
run_legal graph fit n [] [] k w l e h = absurd h.cut
run_legal graph fit n [] (v ∷ vs) k w l e h = absurd (omega (arith, h.each))
run_legal graph fit n (t ∷ ts) [] k w l e h = absurd (omega (arith, h.each))
run_legal graph fit n (t ∷ []) (v ∷ u ∷ us) k w l e h = absurd (omega (arith, h.each))
run_legal graph fit n (t ∷ u ∷ us) (v ∷ []) k w l e h = absurd (omega (arith, h.each))
run_legal graph fit n (t ∷ []) (v ∷ []) k w l e h = last_laid graph fit n t v k w l e h
run_legal graph fit n (t ∷ u ∷ us) (v ∷ x ∷ xs) k w l e h =
    let rest = laid_further graph fit n t u us v x xs k w l e h in run_legal graph fit t.to (u ∷ us) (x ∷ xs) (with_piece graph n t v k) rest.0 l e rest.1
