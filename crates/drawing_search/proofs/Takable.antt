-- Runs that stand may be taken off the board: first their walks, then the nodes between their ends.
use Rattle.std.proofs.Common.{◌≡◌, refl, sym, ◌∙◌, ap, subst, ℕ, zero, suc, ◌+◌, ◌-◌, ◌<◌, ◌≤◌, true, false, List, [], ◌∷◌, length, drop, get_or, Contains, Some, None, ◌⊎◌, inl, inr, arith, get_or-set_other, take, map, Bool}
use Rattle.grid_board.proofs.Within.{inside_facts}
pub use Rattle.segment_router.proofs.RouteLemmas.{in_map as from_map}
use Rattle.run_laying.proofs.RunFacts.{IsOff}
use Rattle.drawing_search.proofs.Common.{and_from, cases_eq, cases_lt, contains, contains_in, get_or_past, in_at}
use Rattle.drawing_search.proofs.Common.{inner_nodes, inner_of, inner_off, ints, is_near, is_standing, le-leb, leads_to}
use Rattle.drawing_search.proofs.Common.{lifted, nat_le, once_first, point_of_node, short_inside, unsigned_abs, walk_in}
use Rattle.drawing_search.proofs.Common.{with_walk_of, without_walks, All, AreApart, AreBounds, AreLiftable, AreOnce}
use Rattle.drawing_search.proofs.Common.{AreSteps, Bounds, Chain, ChainStep, GraphParts, GridPoint, In, IsConsistent}
use Rattle.drawing_search.proofs.Common.{IsEndOf, IsLegalSketch, IsLiftable, IsRun, IsShort, IsTakable, NodeId}
use Rattle.drawing_search.proofs.Common.{PlainWalk, SegId, Sketch}
use Rattle.drawing_search.proofs.RunEnds.{inner_left}
use Rattle.drawing_search.proofs.TakenOff.{gone, lifted_legal, off_legal, still_gone}

-- what is at a place of a list is in it
pub in_from : {X : Type 0} (xs : List X) (x : X) → Contains xs x → In x xs
in_from [] x c = absurd (omega (arith, c.1))
in_from (y ∷ ys) x (zero, h, e) = inl (sym e)
in_from (y ∷ ys) x (suc i, h, e) = inr (in_from ys x (i, omega (arith, h), e))

-- what is in the front of a list is in it
pub in_taken : {X : Type 0} (xs : List X) (i : ℕ) (x : X) → In x (take i xs) → In x xs
in_taken [] zero x m = m
in_taken [] (suc i) x m = m
in_taken (y ∷ xs) zero x m = absurd m
in_taken (y ∷ xs) (suc i) x (inl e) = inl e
in_taken (y ∷ xs) (suc i) x (inr m) = inr (in_taken xs i x m)

-- what is in a list of values
pub in_mapped : {X Y : Type 0} (f : X → Y) (xs : List X) (x : X) → In x xs → In (f x) (map f xs)
in_mapped f [] x i = absurd i
in_mapped f (y ∷ ys) x (inl e) = inl (ap f e)
in_mapped f (y ∷ ys) x (inr i) = inr (in_mapped f ys x i)

-- the nodes between steps may be taken off one after another
pub next_liftable : (graph : GraphParts) (k : Sketch) (ts : List ChainStep) (i : ℕ) (d : ChainStep) → 1 ≤ i → i < length ts → AreLiftable graph k (inner_nodes (drop (i - 1) ts))
    → IsLiftable graph k (get_or ts (i - 1) d).to × AreLiftable graph (lifted k (get_or ts (i - 1) d).to) (inner_nodes (drop (i + 1 - 1) ts))
next_liftable graph k ts i d some h can = subst (AreLiftable graph k) (inner_left ts i d some h) can

-- no walk ends at a node
abbrev pub IsBare : GraphParts → Sketch → NodeId → Type 0
IsBare graph k n = (t : SegId) → (v : PlainWalk) → walk_in k t ≡ Some v → IsEndOf graph t n.0 → ⊥

pub liftable_each : (graph : GraphParts) (k : Sketch) → IsLegalSketch graph k → (ns : List NodeId) → ((n : NodeId) → In n ns → is_standing k n.0 ≡ true) → ((n : NodeId) → In n ns → IsBare graph k n) → AreApart ns
    → AreLiftable graph k ns
liftable_each graph k h [] stands bare apart = tt
liftable_each graph k h (n ∷ ns) stands bare apart = (
  record { legal = h; stands = stands n (inl refl); bare = bare n (inl refl) },
  liftable_each graph (lifted k n) (lifted_legal graph k h n (bare n (inl refl))) ns (λ m i. get_or-set_other k.stand n.0 m.0 false false (apart.0 m (contains_in ns m i)) ∙ stands m (inr i))
      (λ m i t v e is_end. bare m (inr i) t v e is_end) apart.1,
)

-- the nodes between the ends of a run are different ones
pub inner_apart : (graph : GraphParts) → IsConsistent graph → (n : NodeId) (ts : List ChainStep) → AreSteps graph n ts → AreOnce ts → AreApart (inner_nodes ts)
inner_apart graph fit n [] steps once = tt
inner_apart graph fit n (t ∷ []) steps once = tt
inner_apart graph fit n (t ∷ u ∷ us) steps once = (other, inner_apart graph fit t.to (u ∷ us) steps.3 once.1)
  where
    other : (m : NodeId) → Contains (inner_nodes (u ∷ us)) m → m.0 ≡ t.to.0 → ⊥
    other m there same =
        let i = in_from (inner_nodes (u ∷ us)) m there in
        inner_off graph fit (u ∷ us) m (inner_of graph fit t.to (u ∷ us) steps.3 m i) t.seg steps.0 (once_first t (u ∷ us) once) (subst (IsEndOf graph t.seg) (sym same) (leads_to graph n t steps.1))

-- ---- walks

pub legal_without : (graph : GraphParts) → IsConsistent graph → (k : Sketch) → IsLegalSketch graph k → (ts : List ChainStep) → IsLegalSketch graph (without_walks k ts)
legal_without graph fit k h [] = h
legal_without graph fit k h (t ∷ ts) = legal_without graph fit (with_walk_of k t.seg None) (off_legal graph fit k h t.seg) ts

pub same_stand : (k : Sketch) (ts : List ChainStep) → (without_walks k ts).stand ≡ k.stand
same_stand k [] = refl
same_stand k (t ∷ ts) = same_stand (with_walk_of k t.seg None) ts

pub still_none : (k : Sketch) (ts : List ChainStep) (s : SegId) → walk_in k s ≡ None → walk_in (without_walks k ts) s ≡ None
still_none k [] s e = e
still_none k (t ∷ ts) s e = still_none (with_walk_of k t.seg None) ts s (still_gone None k.walks t.seg.0 s.0 e)

pub none_left : (k : Sketch) (ts : List ChainStep) (q : ChainStep) → In q ts → walk_in (without_walks k ts) q.seg ≡ None
none_left k [] q m = absurd m
none_left k (t ∷ ts) q (inl e) = still_none (with_walk_of k t.seg None) ts q.seg (subst (λ (p : ChainStep). walk_in (with_walk_of k t.seg None) p.seg ≡ None) (sym e) (gone None k.walks t.seg.0))
none_left k (t ∷ ts) q (inr m) = none_left (with_walk_of k t.seg None) ts q m

pub same_walks_off : (k : Sketch) (ts : List ChainStep) (s : SegId) → IsOff ts s → walk_in (without_walks k ts) s ≡ walk_in k s
same_walks_off k [] s off = refl
same_walks_off k (t ∷ ts) s off =
    same_walks_off (with_walk_of k t.seg None) ts s (λ q m e. off q (inr m) e) ∙ get_or-set_other k.walks t.seg.0 s.0 None None (λ e. off t (inl refl) (sym e))

-- a segment is on steps, or not
pub on_or_off : (ts : List ChainStep) (s : SegId) → ((q : ChainStep) × In q ts × (q.seg.0 ≡ s.0)) ⊎ IsOff ts s
on_or_off [] s = inr (λ q m e. m)
on_or_off (t ∷ ts) s = by_first (cases_eq t.seg.0 s.0) (on_or_off ts s)
  where
    by_first : (t.seg.0 ≡ s.0) ⊎ (t.seg.0 ≡ s.0 → ⊥) → ((q : ChainStep) × In q ts × (q.seg.0 ≡ s.0)) ⊎ IsOff ts s → ((q : ChainStep) × In q (t ∷ ts) × (q.seg.0 ≡ s.0)) ⊎ IsOff (t ∷ ts) s
    by_first (inl e) rest = inl (t, inl refl, e)
    by_first (inr f) (inl (q, m, e)) = inl (q, inr m, e)
    by_first (inr f) (inr off) = inr both
      where
        both : IsOff (t ∷ ts) s
        both q (inl e) same = f (ap (λ (p : ChainStep). p.seg.0) (sym e) ∙ same)
        both q (inr m) same = off q m same

pub walk_below : (graph : GraphParts) (k : Sketch) → IsLegalSketch graph k → (s : SegId) (v : PlainWalk) → walk_in k s ≡ Some v → s.0 < length graph.ends
walk_below graph k h s v e = by_order (cases_lt s.0 (length graph.ends))
  where
    by_order : (s.0 < length graph.ends) ⊎ (length graph.ends ≤ s.0) → s.0 < length graph.ends
    by_order (inl less) = less
    by_order (inr past) = let none : None ≡ Some v = sym (get_or_past k.walks s.0 None (omega (arith, past, h.walks_each))) ∙ e in cc

pub run_takable : (graph : GraphParts) → IsConsistent graph → (k : Sketch) (c : Chain) → IsLegalSketch graph k → IsRun graph c → ((m : NodeId) → In m (inner_nodes c.steps) → is_standing k m.0 ≡ true) → IsTakable graph k c
run_takable graph fit k c h run stands = record {
  legal = h;
  run = run;
  inner =
      liftable_each graph (without_walks k c.steps) legal (inner_nodes c.steps) (λ m i. ap (λ fs. get_or fs m.0 false) (same_stand k c.steps) ∙ stands m i) bare
      (inner_apart graph fit c.from c.steps run.steps run.once);
}
  where
    legal : IsLegalSketch graph (without_walks k c.steps)
    legal = legal_without graph fit k h c.steps

    bare : (m : NodeId) → In m (inner_nodes c.steps) → IsBare graph (without_walks k c.steps) m
    bare m i t v e is_end = by_run (on_or_off c.steps t)
      where
        by_run : ((q : ChainStep) × In q c.steps × (q.seg.0 ≡ t.0)) ⊎ IsOff c.steps t → ⊥
        by_run (inl (q, on, same)) = let none : None ≡ Some v = sym (none_left k c.steps q on) ∙ ap (λ j. get_or (without_walks k c.steps).walks j None) same ∙ e in cc
        by_run (inr off) = inner_off graph fit c.steps m (inner_of graph fit c.from c.steps run.steps m i) t (walk_below graph (without_walks k c.steps) legal t v e) off is_end

-- ---- what stands on the board of a legal sketch lies near the origin, and its walks are short

pub on_board_near : (b : Bounds) → AreBounds b → (p : GridPoint) → contains b p ≡ true → is_near 2000 p ≡ true
on_board_near b h p e =
    let i = inside_facts b p e in
    and_from (nat_le (unsigned_abs p.x) 2000) (nat_le (unsigned_abs p.y) 2000)
    (le-leb (unsigned_abs p.x) 2000 (omega (arith, ints, h.left.low, h.right.high, i.west, i.east))) (le-leb (unsigned_abs p.y) 2000 (omega (arith, ints, h.bottom.low, h.top.high, i.south, i.north)))

-- ---- legal sketches

module _ (graph : GraphParts) (k : Sketch) (h : IsLegalSketch graph k) where
  pub stands_near : (n : ℕ) → is_standing k n ≡ true → is_near 2000 (point_of_node k n) ≡ true
  stands_near n stands = on_board_near k.bounds h.bounds (point_of_node k n) (h.inside n stands)

  pub walk_short : (s : SegId) (w : PlainWalk) → walk_in k s ≡ Some w → IsShort w
  walk_short s w e = short_inside k.bounds h.bounds w (h.once s w e) (h.within s w e)

-- ---- nodes that may be taken off stand

stood_before : (graph : GraphParts) (k : Sketch) (n : NodeId) (m : ℕ) → IsLiftable graph k n → is_standing (lifted k n) m ≡ true → is_standing k m ≡ true
stood_before graph k n m can e = by_number (cases_eq m n.0)
  where
    by_number : (m ≡ n.0) ⊎ (m ≡ n.0 → ⊥) → is_standing k m ≡ true
    by_number (inl same) = ap (is_standing k) same ∙ can.stands
    by_number (inr other) = sym (get_or-set_other k.stand n.0 m false false other) ∙ e

pub liftable_stands : (graph : GraphParts) (k : Sketch) (ns : List NodeId) → AreLiftable graph k ns → (m : NodeId) → In m ns → is_standing k m.0 ≡ true
liftable_stands graph k [] can m i = absurd i
liftable_stands graph k (n ∷ ns) can m (inl e) = ap (λ (x : NodeId). is_standing k x.0) e ∙ can.0.stands
liftable_stands graph k (n ∷ ns) can m (inr i) = stood_before graph k n m.0 can.0 (liftable_stands graph (lifted k n) ns can.1 m i)

pub takable_stands : (graph : GraphParts) (k : Sketch) (c : Chain) → IsTakable graph k c → All (λ (n : NodeId). is_standing k n.0 ≡ true) (inner_nodes c.steps)
takable_stands graph k c can = λ i d below.
    ap (λ (fs : List Bool). get_or fs (get_or (inner_nodes c.steps) i d).0 false) (sym (same_stand k c.steps)) ∙ liftable_stands graph (without_walks k c.steps) (inner_nodes c.steps) can.inner (get_or (inner_nodes c.steps) i d) (in_at (inner_nodes c.steps) i d below)
