-- Runs that were laid are taken away again: what stands then is what stood before.
use Rattle.std.proofs.Common.{◌≡◌, refl, sym, ◌∙◌, ap, subst, ℕ, Bool, true, false, List, [], ◌∷◌, length, fold, get_or, Option, None, inl, inr, length-set, get_or-set_other}
use Rattle.drawing_search.proofs.Common.{beside_off, ends_round, inner_nodes, inner_of, inner_off, is_standing, lifted}
use Rattle.drawing_search.proofs.Common.{step_of, walk_in, with_walk_of, without_run, without_walks, AreBeside}
use Rattle.drawing_search.proofs.Common.{AreLiftable, AreTakable, Chain, ChainStep, GraphParts, In, IsConsistent}
use Rattle.drawing_search.proofs.Common.{IsEndOf, IsInner, IsLegalSketch, IsRun, IsTakable, MeetAlone, NodeId}
use Rattle.drawing_search.proofs.Common.{PlainWalk, SegId, Sketch}
use Rattle.drawing_search.proofs.Takable.{legal_without, none_left, run_takable, same_stand, same_walks_off, still_none}
use Rattle.drawing_search.proofs.TakenOff.{gone, lifted_legal, still_gone}

-- node n is one of these
abbrev pub IsOneOf : List NodeId → ℕ → Type 0
IsOneOf ns n = (m : NodeId) × In m ns × (m.0 ≡ n)

pub still_standing : (k : Sketch) (ns : List NodeId) (n : ℕ) → (IsOneOf ns n → ⊥) → is_standing (fold lifted k ns) n ≡ is_standing k n
still_standing k [] n off = refl
still_standing k (m ∷ ns) n off = still_standing (lifted k m) ns n (λ (p, i, e). off (p, inr i, e)) ∙ get_or-set_other k.stand m.0 n false false (λ e. off (m, inl refl, sym e))

pub still_low : (k : Sketch) (ns : List NodeId) (n : ℕ) → is_standing k n ≡ false → is_standing (fold lifted k ns) n ≡ false
still_low k [] n e = e
still_low k (m ∷ ns) n e = still_low (lifted k m) ns n (still_gone false k.stand m.0 n e)

pub low_each : (k : Sketch) (ns : List NodeId) (n : ℕ) → IsOneOf ns n → is_standing (fold lifted k ns) n ≡ false
low_each k [] n (m, i, e) = absurd i
low_each k (p ∷ ns) n (m, inl same, e) = still_low (lifted k p) ns n (subst (λ j. is_standing (lifted k p) j ≡ false) (ap (λ (q : NodeId). q.0) (sym same) ∙ e) (gone false k.stand p.0))
low_each k (p ∷ ns) n (m, inr i, e) = low_each (lifted k p) ns n (m, i, e)

pub lift_bounds : (k : Sketch) (ns : List NodeId) → (fold lifted k ns).bounds ≡ k.bounds
lift_bounds k [] = refl
lift_bounds k (n ∷ ns) = lift_bounds (lifted k n) ns

pub lift_points : (k : Sketch) (ns : List NodeId) → (fold lifted k ns).points ≡ k.points
lift_points k [] = refl
lift_points k (n ∷ ns) = lift_points (lifted k n) ns

pub lift_walks : (k : Sketch) (ns : List NodeId) → (fold lifted k ns).walks ≡ k.walks
lift_walks k [] = refl
lift_walks k (n ∷ ns) = lift_walks (lifted k n) ns

pub lift_flags : (k : Sketch) (ns : List NodeId) → length (fold lifted k ns).stand ≡ length k.stand
lift_flags k [] = refl
lift_flags k (n ∷ ns) = lift_flags (lifted k n) ns ∙ length-set k.stand n.0 false

pub lift_legal : (graph : GraphParts) (k : Sketch) (ns : List NodeId) → IsLegalSketch graph k → AreLiftable graph k ns → IsLegalSketch graph (fold lifted k ns)
lift_legal graph k [] h can = h
lift_legal graph k (n ∷ ns) h can = lift_legal graph (lifted k n) ns (lifted_legal graph k h n can.0.bare) can.1

-- ---- runs

pub without_points : (k : Sketch) (ts : List ChainStep) → (without_walks k ts).points ≡ k.points
without_points k [] = refl
without_points k (t ∷ ts) = without_points (with_walk_of k t.seg None) ts

pub without_bounds : (k : Sketch) (ts : List ChainStep) → (without_walks k ts).bounds ≡ k.bounds
without_bounds k [] = refl
without_bounds k (t ∷ ts) = without_bounds (with_walk_of k t.seg None) ts

pub run_points : (k : Sketch) (c : Chain) → (without_run k c).points ≡ k.points
run_points k c = lift_points (without_walks k c.steps) (inner_nodes c.steps) ∙ without_points k c.steps

pub run_bounds : (k : Sketch) (c : Chain) → (without_run k c).bounds ≡ k.bounds
run_bounds k c = lift_bounds (without_walks k c.steps) (inner_nodes c.steps) ∙ without_bounds k c.steps

pub run_stands : (k : Sketch) (c : Chain) (n : ℕ) → (IsOneOf (inner_nodes c.steps) n → ⊥) → is_standing (without_run k c) n ≡ is_standing k n
run_stands k c n off = still_standing (without_walks k c.steps) (inner_nodes c.steps) n off ∙ ap (λ (fs : List Bool). get_or fs n false) (same_stand k c.steps)

-- a node between the ends of a run is between those of no run beside it
pub inner_beside : (graph : GraphParts) → IsConsistent graph → (c d : Chain) → IsRun graph c → IsRun graph d → ((q p : ChainStep) → In q c.steps → In p d.steps → p.seg.0 ≡ q.seg.0 → ⊥) → (m : NodeId) → In m (inner_nodes d.steps) → IsOneOf (inner_nodes c.steps) m.0 → ⊥
inner_beside graph fit c d run other off m i (n, j, e) = by_step (inner_of graph fit c.from c.steps run.steps n j)
  where
    by_step : IsInner graph c.steps n → ⊥
    by_step at =
        let step = step_of graph c.from c.steps run.steps at.before at.on_before in
        inner_off graph fit d.steps m (inner_of graph fit d.from d.steps other.steps m i) at.before.seg step.segment (λ p on_d same. off at.before p at.on_before on_d same) (subst (IsEndOf graph at.before.seg) e (round_end at.alone))
      where
        round_end : MeetAlone graph at.before.seg n at.after.seg → IsEndOf graph at.before.seg n.0
        round_end (inl same) = ends_round graph fit n.0 at.node at.before.seg (subst (λ (v : List SegId). In at.before.seg v) (sym same) (inl refl))
        round_end (inr same) = ends_round graph fit n.0 at.node at.before.seg (subst (λ (v : List SegId). In at.before.seg v) (sym same) (inr (inl refl)))

pub takable_each : (graph : GraphParts) → IsConsistent graph → (cs : List Chain) (k : Sketch) → IsLegalSketch graph k → ((c : Chain) → In c cs → IsRun graph c) → AreBeside cs
    → ((c : Chain) → In c cs → (m : NodeId) → In m (inner_nodes c.steps) → is_standing k m.0 ≡ true) → AreTakable graph k cs
takable_each graph fit [] k h runs beside stand = tt
takable_each graph fit (c ∷ cs) k h runs beside stand =
    (here, takable_each graph fit cs (without_run k c) (lift_legal graph (without_walks k c.steps) (inner_nodes c.steps) (legal_without graph fit k h c.steps) here.inner) (λ d i. runs d (inr i)) beside.1 still)
  where
    here : IsTakable graph k c
    here = run_takable graph fit k c h (runs c (inl refl)) (stand c (inl refl))

    still : (d : Chain) → In d cs → (m : NodeId) → In m (inner_nodes d.steps) → is_standing (without_run k c) m.0 ≡ true
    still d i m j =
        run_stands k c m.0 (inner_beside graph fit c d (runs c (inl refl)) (runs d (inr i)) (λ q p on_c on_d. beside_off c cs beside d i q p on_c on_d) m j) ∙ stand d (inr i) m j

-- a node lies between the ends of one of these runs, and a segment is on one of them
abbrev pub IsInnerOf : List Chain → ℕ → Type 0
IsInnerOf cs n = (c : Chain) × In c cs × IsOneOf (inner_nodes c.steps) n

abbrev pub IsOnOf : List Chain → SegId → Type 0
IsOnOf cs s = (c : Chain) × In c cs × ((q : ChainStep) × In q c.steps × (q.seg.0 ≡ s.0))

pub record IsSameBeside (cs : List Chain) (k new : Sketch) : Type 0 where
  pub bounds : new.bounds ≡ k.bounds
  pub points_each : length new.points ≡ length k.points
  pub stand_each : length new.stand ≡ length k.stand
  pub walks_each : length new.walks ≡ length k.walks
  pub stand : (n : ℕ) → (IsInnerOf cs n → ⊥) → is_standing new n ≡ is_standing k n
  pub walks : (s : SegId) → (IsOnOf cs s → ⊥) → walk_in new s ≡ walk_in k s

-- runs are taken off
pub without_each : (k : Sketch) (ts : List ChainStep) → length (without_walks k ts).walks ≡ length k.walks
without_each k [] = refl
without_each k (t ∷ ts) = without_each (with_walk_of k t.seg None) ts ∙ length-set k.walks t.seg.0 None

pub run_walks : (k : Sketch) (c : Chain) (s : SegId) → (((q : ChainStep) × In q c.steps × (q.seg.0 ≡ s.0)) → ⊥) → walk_in (without_run k c) s ≡ walk_in k s
run_walks k c s off =
    ap (λ (os : List (Option PlainWalk)). get_or os s.0 None) (lift_walks (without_walks k c.steps) (inner_nodes c.steps)) ∙ same_walks_off k c.steps s (λ q i e. off (q, i, e))

pub run_none : (k : Sketch) (c : Chain) (q : ChainStep) → In q c.steps → walk_in (without_run k c) q.seg ≡ None
run_none k c q i = ap (λ (os : List (Option PlainWalk)). get_or os q.seg.0 None) (lift_walks (without_walks k c.steps) (inner_nodes c.steps)) ∙ none_left k c.steps q i

pub runs_beside : (cs : List Chain) (k : Sketch) → IsSameBeside cs k (fold without_run k cs)
runs_beside [] k = record { bounds = refl; points_each = refl; stand_each = refl; walks_each = refl; stand = λ n off. refl; walks = λ s off. refl }
runs_beside (c ∷ cs) k =
    let rest = runs_beside cs (without_run k c) in
    record {
      bounds = rest.bounds ∙ run_bounds k c;
      points_each = rest.points_each ∙ ap length (run_points k c);
      stand_each = rest.stand_each ∙ lift_flags (without_walks k c.steps) (inner_nodes c.steps) ∙ ap length (same_stand k c.steps);
      walks_each = rest.walks_each ∙ ap length (lift_walks (without_walks k c.steps) (inner_nodes c.steps)) ∙ without_each k c.steps;
      stand = λ n off. rest.stand n (λ (d, i, m). off (d, inr i, m)) ∙ run_stands k c n (λ m. off (c, inl refl, m));
      walks = λ s off. rest.walks s (λ (d, i, m). off (d, inr i, m)) ∙ run_walks k c s (λ m. off (c, inl refl, m));
    }

pub runs_points : (cs : List Chain) (k : Sketch) → (fold without_run k cs).points ≡ k.points
runs_points [] k = refl
runs_points (c ∷ cs) k = runs_points cs (without_run k c) ∙ run_points k c

-- what is on a run is off then
pub low_on_runs : (cs : List Chain) (k : Sketch) (n : ℕ) → IsInnerOf cs n → is_standing (fold without_run k cs) n ≡ false
low_on_runs [] k n (c, i, m) = absurd i
low_on_runs (d ∷ cs) k n (c, inl e, m) = stays cs (without_run k d) n (low_each (without_walks k d.steps) (inner_nodes d.steps) n (subst (λ (x : Chain). IsOneOf (inner_nodes x.steps) n) e m))
  where
    stays : (ds : List Chain) (j : Sketch) (n : ℕ) → is_standing j n ≡ false → is_standing (fold without_run j ds) n ≡ false
    stays [] j n e = e
    stays (x ∷ ds) j n e = stays ds (without_run j x) n (still_low (without_walks j x.steps) (inner_nodes x.steps) n (ap (λ (fs : List Bool). get_or fs n false) (same_stand j x.steps) ∙ e))
low_on_runs (d ∷ cs) k n (c, inr i, m) = low_on_runs cs (without_run k d) n (c, i, m)

pub none_on_runs : (cs : List Chain) (k : Sketch) (s : SegId) → IsOnOf cs s → walk_in (fold without_run k cs) s ≡ None
none_on_runs [] k s (c, i, m) = absurd i
none_on_runs (d ∷ cs) k s (c, inl e, (q, on, same)) =
    stays cs (without_run k d) s (ap (λ j. get_or (without_run k d).walks j None) (sym same) ∙ run_none k d q (subst (λ (x : Chain). In q x.steps) e on))
  where
    stays : (ds : List Chain) (j : Sketch) (s : SegId) → walk_in j s ≡ None → walk_in (fold without_run j ds) s ≡ None
    stays [] j s e = e
    stays (x ∷ ds) j s e = stays ds (without_run j x) s (ap (λ (os : List (Option PlainWalk)). get_or os s.0 None) (lift_walks (without_walks j x.steps) (inner_nodes x.steps)) ∙ still_none j x.steps s e)
none_on_runs (d ∷ cs) k s (c, inr i, m) = none_on_runs cs (without_run k d) s (c, i, m)
