-- Chains between the corners of a graph are runs, no two of which share a segment.
use Rattle.std.proofs.Common.{◌≡◌, refl, sym, ◌∙◌, ap, subst, ℕ, zero, suc, ◌+◌, ◌<◌, ◌≤◌, Bool, true, false, not, cond, eqb, nat_lt, ◌&&◌, List, [], ◌∷◌, ◌++◌, length, map, get_or, ◌⊎◌, inl, inr, arith}
use Rattle.std.proofs.lemmas.Bool.{and_parts, cases_eq, cases_lt, eq-eqb, eqb-true, ltb-true, not-true, or_cases, true≢false, cond_both}
use Rattle.std.specs.List.{flat_map, list_any, range_with_len}
use Rattle.map_base.specs.declared.ids.NodeId.{NodeId}
use Rattle.map_base.specs.declared.ids.SegId.{SegId}
use Rattle.graph_core.specs.declared.parts.GraphParts.{GraphParts}
use Rattle.graph_core.specs.Consistent.{IsConsistent}
use Rattle.line_chains.specs.declared.chain.Chain.{Chain}
use Rattle.line_chains.specs.declared.chain.ChainStep.{ChainStep}
use Rattle.line_chains.specs.Bends.{chain_bends, corners_of}
use Rattle.line_chains.specs.Chains.{chains_at, chains_by, chains_of, end_after, end_of, far_end, is_corner, is_forward, last_seg, nodes_along, nodes_of, other_of, ring_corners, round_of, stands_before, steps_from, unless_ended, way_from}
use Rattle.line_chains.proofs.Rounds.{round_below}
use Rattle.octi_grid.proofs.Members.{any_at, from_flat_map, in_append, in_flat_map, false_from, In}
use Rattle.segment_router.proofs.Places.{all_in}
use Rattle.run_laying.specs.Attempts.{inner_nodes, is_on_runs}
use Rattle.run_laying.specs.Laying.{first_seg_of}
use Rattle.run_laying.specs.Runs.{AreBeside, IsBeside, IsRun}
use Rattle.run_laying.proofs.Attempted.{beside_off}
use Rattle.run_laying.proofs.Kept.{no_loop}
use Rattle.run_laying.proofs.RunFacts.{end_below, inner_of, step_of, IsOnRun}
use Rattle.drawing_search.proofs.LaidAll.{last_end}
use Rattle.drawing_search.proofs.Takable.{in_from}
use Rattle.kept_walks.proofs.Corners.{from_corner, kept_corner, new_corner, ring_bend, ring_has, ring_many, along_inner, bend_at}
use Rattle.kept_walks.proofs.Rounds.{round_once, AreSegsOnce}
use Rattle.kept_walks.proofs.Rings.{inner_ring, one_loop, HasMoreCorners}
use Rattle.kept_walks.proofs.Turned.{back, back_first, back_way, begin_alike, leads_either, leads_one, to_back}
use Rattle.kept_walks.proofs.Ways.{way_is, HasCorners, IsWay}

-- ---- chains as ways

-- a chain is the way from a corner by a segment of its round, walked forward
pub record IsChain (graph : GraphParts) (corners : List Bool) (c : Chain) : Type 0 where
  pub node : c.from.0 < length graph.kinds
  pub corner : is_corner corners c.from ≡ true
  pub seg : SegId
  pub on : In seg (round_of graph c.from)
  pub is : c ≡ way_from graph corners c.from seg
  pub forward : is_forward graph seg c ≡ true

-- a segment of a round from which a chain goes
record IsBy (graph : GraphParts) (corners : List Bool) (n : NodeId) (ss : List SegId) (c : Chain) : Type 0 where
  seg : SegId
  on : In seg ss
  is : c ≡ way_from graph corners n seg
  forward : is_forward graph seg c ≡ true

from_by : (graph : GraphParts) (corners : List Bool) (n : NodeId) (ss : List SegId) (c : Chain) → In c (chains_by graph corners n ss) → IsBy graph corners n ss c
from_by graph corners n [] c i = absurd i
from_by graph corners n (s ∷ ss) c i = by_test (is_forward graph s (way_from graph corners n s)) refl i (from_by graph corners n ss c)
  where
    later : IsBy graph corners n ss c → IsBy graph corners n (s ∷ ss) c
    later rest = record { seg = rest.seg; on = inr rest.on; is = rest.is; forward = rest.forward }

    by_test : (b : Bool) → is_forward graph s (way_from graph corners n s) ≡ b → In c (cond b (way_from graph corners n s ∷ chains_by graph corners n ss) (chains_by graph corners n ss)) → (In c (chains_by graph corners n ss) → IsBy graph corners n ss c) → IsBy graph corners n (s ∷ ss) c
    by_test false e j before = later (before j)
    by_test true e (inl same) before = record { seg = s; on = inl refl; is = same; forward = ap (is_forward graph s) same ∙ e }
    by_test true e (inr j) before = later (before j)

in_by : (graph : GraphParts) (corners : List Bool) (n : NodeId) (ss : List SegId) (s : SegId) → In s ss → is_forward graph s (way_from graph corners n s) ≡ true → In (way_from graph corners n s) (chains_by graph corners n ss)
in_by graph corners n [] s i e = absurd i
in_by graph corners n (t ∷ ss) s (inl same) e =
    subst (λ (x : SegId). In (way_from graph corners n s) (cond (is_forward graph x (way_from graph corners n x)) (way_from graph corners n x ∷ chains_by graph corners n ss) (chains_by graph corners n ss))) same
    (subst (λ b. In (way_from graph corners n s) (cond b (way_from graph corners n s ∷ chains_by graph corners n ss) (chains_by graph corners n ss))) (sym e) (inl refl))
in_by graph corners n (t ∷ ss) s (inr i) e =
    let later = in_by graph corners n ss s i e in
    cond_both (is_forward graph t (way_from graph corners n t))
    (way_from graph corners n t ∷ chains_by graph corners n ss) (chains_by graph corners n ss)
    (In (way_from graph corners n s)) (λ b. inr later) (λ b. later)

pub from_range : (a k : ℕ) (m : NodeId) → In m (map (λ n. (let x : NodeId = record { 0 = n } in x)) (range_with_len a k)) → (a ≤ m.0) × (m.0 < a + k)
from_range a zero m i = absurd i
from_range a (suc k) m (inl e) = let same = ap (λ (x : NodeId). x.0) e in (omega (arith, same), omega (arith, same))
from_range a (suc k) m (inr i) = let rest = from_range (a + 1) k m i in (omega (arith, rest.0), omega (arith, rest.1))

in_nodes : (a k : ℕ) (m : NodeId) → a ≤ m.0 → m.0 < a + k → In m (map (λ n. (let x : NodeId = record { 0 = n } in x)) (range_with_len a k))
in_nodes a zero m low high = absurd (omega (arith, low, high))
in_nodes a (suc k) m low high = elim (cases_eq m.0 a) [
  | inl e ↦ inl (ap (λ n. (let x : NodeId = record { 0 = n } in x)) e)
  | inr other ↦ inr (in_nodes (a + 1) k m (grind (arith, low, other)) (omega (arith, high)))
]

from_at : (graph : GraphParts) (corners : List Bool) (n : NodeId) (c : Chain) → In c (chains_at graph corners n) → (is_corner corners n ≡ true) × IsBy graph corners n (round_of graph n) c
from_at graph corners n c i = by_test (is_corner corners n) refl i
  where
    by_test : (b : Bool) → is_corner corners n ≡ b → In c (cond b (chains_by graph corners n (round_of graph n)) []) → (is_corner corners n ≡ true) × IsBy graph corners n (round_of graph n) c
    by_test true e j = (e, from_by graph corners n (round_of graph n) c j)
    by_test false e j = absurd j

pub chain_is : (graph : GraphParts) (corners : List Bool) (c : Chain) → In c (chains_of graph corners) → IsChain graph corners c
chain_is graph corners c i = by_node (from_flat_map (chains_at graph corners) (nodes_of graph) c i)
  where
    by_node : (n : NodeId) × In n (nodes_of graph) × In c (chains_at graph corners n) → IsChain graph corners c
    by_node (n, on, there) =
        let at = from_at graph corners n c there in
        let from : c.from ≡ n = ap (λ (x : Chain). x.from) at.1.is in
        record {
          node = subst (λ (x : NodeId). x.0 < length graph.kinds) (sym from) (let r = from_range 0 (length graph.kinds) n on in omega (arith, r.1));
          corner = ap (is_corner corners) from ∙ at.0;
          seg = at.1.seg;
          on = subst (λ (x : NodeId). In at.1.seg (round_of graph x)) (sym from) at.1.on;
          is = at.1.is ∙ ap (λ (x : NodeId). way_from graph corners x at.1.seg) (sym from);
          forward = at.1.forward;
        }

pub chain_in : (graph : GraphParts) (corners : List Bool) (c : Chain) → IsChain graph corners c → In c (chains_of graph corners)
chain_in graph corners c h =
    in_flat_map (chains_at graph corners) (nodes_of graph) c.from c (in_nodes 0 (length graph.kinds) c.from (omega arith) (omega (arith, h.node)))
    (subst (λ b. In c (cond b (chains_by graph corners c.from (round_of graph c.from)) [])) (sym h.corner)
    (subst (λ (x : Chain). In x (chains_by graph corners c.from (round_of graph c.from))) (sym h.is) (in_by graph corners c.from (round_of graph c.from) h.seg h.on (ap (is_forward graph h.seg) (sym h.is) ∙ h.forward))))

module _ (graph : GraphParts) (fit : IsConsistent graph) (corners : List Bool) (has : HasCorners graph corners) where
  seg_below : (c : Chain) (h : IsChain graph corners c) → h.seg.0 < length graph.ends
  seg_below c h = all_in (λ (t : SegId). t.0 < length graph.ends) (round_of graph c.from) h.seg (λ k d below. round_below graph fit c.from.0 h.node k d below) h.on

  pub chain_way : (c : Chain) → IsChain graph corners c → IsWay graph corners c.from c.steps
  chain_way c h =
      subst (IsWay graph corners c.from) (sym (ap (λ (x : Chain). x.steps) h.is)) (way_is graph fit corners has c.from h.corner h.seg h.node h.on (seg_below c h))

  pub chain_first : (c : Chain) (h : IsChain graph corners c) → first_seg_of c.steps ≡ h.seg
  chain_first c h = ap (λ (x : Chain). first_seg_of x.steps) h.is ∙ by_count (length graph.ends) refl
    where
      by_count : (k : ℕ) → length graph.ends ≡ k → first_seg_of (steps_from graph corners k c.from h.seg) ≡ h.seg
      by_count zero e = absurd (omega (arith, e, seg_below c h))
      by_count (suc k) e = refl

  -- ---- two chains that share a segment

  -- of two segments one alone stands before the other
  before_once : (r : List SegId) (a b : SegId) → stands_before r a b ≡ true → stands_before r b a ≡ true → ⊥
  before_once [] a b e f = true≢false (sym e)
  before_once (x ∷ r) a b e f =
      by_cases (or_cases (eqb x.0 a.0 && not (eqb a.0 b.0)) (not (eqb x.0 b.0) && stands_before r a b) e) (or_cases (eqb x.0 b.0 && not (eqb b.0 a.0)) (not (eqb x.0 a.0) && stands_before r b a) f)
      (before_once r a b)
    where
      by_cases : ((eqb x.0 a.0 && not (eqb a.0 b.0)) ≡ true) ⊎ ((not (eqb x.0 b.0) && stands_before r a b) ≡ true) → ((eqb x.0 b.0 && not (eqb b.0 a.0)) ≡ true) ⊎ ((not (eqb x.0 a.0) && stands_before r b a) ≡ true) → (stands_before r a b ≡ true → stands_before r b a ≡ true → ⊥) → ⊥
      by_cases (inl g) (inl h) later =
          let one = and_parts (eqb x.0 a.0) (not (eqb a.0 b.0)) g in
          let two = and_parts (eqb x.0 b.0) (not (eqb b.0 a.0)) h in
          true≢false (sym (eq-eqb a.0 b.0 (sym (eqb-true x.0 a.0 one.0) ∙ eqb-true x.0 b.0 two.0)) ∙ not-true (eqb a.0 b.0) one.1)
      by_cases (inl g) (inr h) later =
          let one = and_parts (eqb x.0 a.0) (not (eqb a.0 b.0)) g in
          let two = and_parts (not (eqb x.0 a.0)) (stands_before r b a) h in
          true≢false (sym one.0 ∙ not-true (eqb x.0 a.0) two.0)
      by_cases (inr g) (inl h) later =
          let one = and_parts (not (eqb x.0 b.0)) (stands_before r a b) g in
          let two = and_parts (eqb x.0 b.0) (not (eqb b.0 a.0)) h in
          true≢false (sym two.0 ∙ not-true (eqb x.0 b.0) one.0)
      by_cases (inr g) (inr h) later = later (and_parts (not (eqb x.0 b.0)) (stands_before r a b) g).1 (and_parts (not (eqb x.0 a.0)) (stands_before r b a) h).1

  -- a chain and the same from its end are not both walked forward
  not_both : (c d : Chain) (h : IsChain graph corners c) (k : IsChain graph corners d) → c.from ≡ end_of d → d.from ≡ end_of c → h.seg ≡ last_seg k.seg d.steps → k.seg ≡ last_seg h.seg c.steps → ⊥
  not_both c d h k one two first other = by_forward (or_cases (nat_lt c.from.0 (end_of c).0) (eqb c.from.0 (end_of c).0 && stands_before (round_of graph c.from) h.seg (last_seg h.seg c.steps)) h.forward)
      (or_cases (nat_lt d.from.0 (end_of d).0) (eqb d.from.0 (end_of d).0 && stands_before (round_of graph d.from) k.seg (last_seg k.seg d.steps)) k.forward)
    where
      a : c.from.0 ≡ (end_of d).0
      a = ap (λ (x : NodeId). x.0) one

      b : d.from.0 ≡ (end_of c).0
      b = ap (λ (x : NodeId). x.0) two

      by_forward : (nat_lt c.from.0 (end_of c).0 ≡ true) ⊎ ((eqb c.from.0 (end_of c).0 && stands_before (round_of graph c.from) h.seg (last_seg h.seg c.steps)) ≡ true)
          → (nat_lt d.from.0 (end_of d).0 ≡ true) ⊎ ((eqb d.from.0 (end_of d).0 && stands_before (round_of graph d.from) k.seg (last_seg k.seg d.steps)) ≡ true) → ⊥
      by_forward (inl e) (inl f) = omega (arith, a, b, ltb-true c.from.0 (end_of c).0 e, ltb-true d.from.0 (end_of d).0 f)
      by_forward (inl e) (inr f) = omega (arith, a, b, ltb-true c.from.0 (end_of c).0 e, eqb-true d.from.0 (end_of d).0 (and_parts (eqb d.from.0 (end_of d).0) (stands_before (round_of graph d.from) k.seg (last_seg k.seg d.steps)) f).0)
      by_forward (inr e) (inl f) = omega (arith, a, b, eqb-true c.from.0 (end_of c).0 (and_parts (eqb c.from.0 (end_of c).0) (stands_before (round_of graph c.from) h.seg (last_seg h.seg c.steps)) e).0, ltb-true d.from.0 (end_of d).0 f)
      by_forward (inr e) (inr f) =
          let c_parts = and_parts (eqb c.from.0 (end_of c).0) (stands_before (round_of graph c.from) h.seg (last_seg h.seg c.steps)) e in
          let d_parts = and_parts (eqb d.from.0 (end_of d).0) (stands_before (round_of graph d.from) k.seg (last_seg k.seg d.steps)) f in
          let same : d.from ≡ c.from = ap (λ j. (let x : NodeId = record { 0 = j } in x)) (b ∙ sym (eqb-true c.from.0 (end_of c).0 c_parts.0)) in
          before_once (round_of graph c.from) h.seg k.seg (subst (λ (s : SegId). stands_before (round_of graph c.from) h.seg s ≡ true) (sym other) c_parts.1)
          (subst (λ (x : NodeId). stands_before (round_of graph x) k.seg h.seg ≡ true) same (subst (λ (s : SegId). stands_before (round_of graph d.from) k.seg s ≡ true) (sym first) d_parts.1))

  -- so they are one
  pub share_same : (c d : Chain) (h : IsChain graph corners c) (k : IsChain graph corners d) → (q p : ChainStep) → In q c.steps → In p d.steps → q.seg ≡ p.seg → (c.from ≡ d.from) × (h.seg ≡ k.seg)
  share_same c d h k q p i j same = by_way (leads_either graph one.from other.from q p one.leads other.leads same)
    where
      w : IsWay graph corners c.from c.steps
      w = chain_way c h

      v : IsWay graph corners d.from d.steps
      v = chain_way d k

      one : IsOnRun graph q
      one = step_of graph c.from c.steps w.steps q i

      other : IsOnRun graph p
      other = step_of graph d.from d.steps v.steps p j

      by_way : (q.to ≡ p.to) ⊎ (q.to ≡ other.from) → (c.from ≡ d.from) × (h.seg ≡ k.seg)
      by_way (inl to) =
          let alike = begin_alike graph corners c.from d.from c.steps d.steps w v q p i j same to in
          (alike.0, sym (chain_first c h) ∙ alike.1 ∙ chain_first d k)
      by_way (inr to) =
          let r = to_back graph d.from d.steps v.steps p j in
          let u = to_back graph c.from c.steps w.steps q i in
          let from_p : other.from ≡ r.0.to = leads_one graph other.from r.0.to p p other.leads r.3 refl refl in
          let from_q : one.from ≡ u.0.to = leads_one graph one.from u.0.to q q one.leads u.3 refl refl in
          let to_p : p.to ≡ one.from = turned_to (leads_either graph other.from one.from p q other.leads one.leads (sym same)) in
          let alike = begin_alike graph corners c.from (end_of d) c.steps (back d.from d.steps) w (back_way graph corners d.from d.steps v) q r.0 i r.1 (same ∙ sym r.2) (to ∙ from_p) in
          let alike_too = begin_alike graph corners d.from (end_of c) d.steps (back c.from c.steps) v (back_way graph corners c.from c.steps w) p u.0 j u.1 (sym same ∙ sym u.2) (to_p ∙ from_q) in
          absurd (not_both c d h k alike.0 alike_too.0 (sym (chain_first c h) ∙ alike.1 ∙ back_first k.seg d.from d.steps v.some) (sym (chain_first d k) ∙ alike_too.1 ∙ back_first h.seg c.from c.steps w.some))
        where
          turned_to : (p.to ≡ q.to) ⊎ (p.to ≡ one.from) → p.to ≡ one.from
          turned_to (inr e) = e
          turned_to (inl e) = absurd (no_loop graph fit other.from p other.segment other.leads (ap (λ (x : NodeId). x.0) (e ∙ to)))

  -- ---- so all of them are beside each other

  by_chain : (n : NodeId) → n.0 < length graph.kinds → is_corner corners n ≡ true → (ss : List SegId) → ((s : SegId) → In s ss → In s (round_of graph n)) → (c : Chain) → In c (chains_by graph corners n ss) → (s : SegId) × In s ss × ((h : IsChain graph corners c) × (h.seg ≡ s) × (c.from ≡ n))
  by_chain n node corner ss all c i =
      let at = from_by graph corners n ss c i in
      let from : c.from ≡ n = ap (λ (x : Chain). x.from) at.is in (
        at.seg,
        at.on,
        (
          record {
            node = subst (λ (x : NodeId). x.0 < length graph.kinds) (sym from) node;
            corner = ap (is_corner corners) from ∙ corner;
            seg = at.seg;
            on = subst (λ (x : NodeId). In at.seg (round_of graph x)) (sym from) (all at.seg at.on);
            is = at.is ∙ ap (λ (x : NodeId). way_from graph corners x at.seg) (sym from);
            forward = at.forward;
          },
          refl,
          from,
        ),
      )

  beside_from : (c : Chain) (cs : List Chain) → ((d : Chain) → In d cs → (q p : ChainStep) → In q c.steps → In p d.steps → q.seg ≡ p.seg → ⊥) → IsBeside cs c
  beside_from c cs off t there = false_from (is_on_runs cs t.seg.0) (λ e. by_run (any_at (λ (d : Chain). list_any (λ (u : ChainStep). eqb u.seg.0 t.seg.0) d.steps) cs e))
    where
      by_run : (d : Chain) × In d cs × (list_any (λ (u : ChainStep). eqb u.seg.0 t.seg.0) d.steps ≡ true) → ⊥
      by_run (d, i, e) =
          let at = any_at (λ (u : ChainStep). eqb u.seg.0 t.seg.0) d.steps e in
          off d i t at.0 (in_from c.steps t there) at.1 (sym (ap (λ j. (let s : SegId = record { 0 = j } in s)) (eqb-true at.0.seg.0 t.seg.0 at.2)))

  both_beside : (xs ys : List Chain) → AreBeside xs → AreBeside ys → ((c d : Chain) → In c xs → In d ys → (q p : ChainStep) → In q c.steps → In p d.steps → q.seg ≡ p.seg → ⊥) → AreBeside (xs ++ ys)
  both_beside [] ys a b off = b
  both_beside (x ∷ xs) ys a b off = (beside_from x (xs ++ ys) each, both_beside xs ys a.1 b (λ c d i j. off c d (inr i) j))
    where
      each : (d : Chain) → In d (xs ++ ys) → (q p : ChainStep) → In q x.steps → In p d.steps → q.seg ≡ p.seg → ⊥
      each d i q p on_x on_d same = elim (in_append d xs ys i) [
        | inl j ↦ beside_off x xs a d j q p on_x on_d (ap (λ (s : SegId). s.0) (sym same))
        | inr j ↦ off x d (inl refl) j q p on_x on_d same
      ]

  by_beside : (n : NodeId) → n.0 < length graph.kinds → is_corner corners n ≡ true → (ss : List SegId) → AreSegsOnce ss → ((s : SegId) → In s ss → In s (round_of graph n)) → AreBeside (chains_by graph corners n ss)
  by_beside n node corner [] once all = tt
  by_beside n node corner (s ∷ ss) once all = by_test (is_forward graph s (way_from graph corners n s)) refl (by_beside n node corner ss once.1 (λ t i. all t (inr i)))
    where
      first : is_forward graph s (way_from graph corners n s) ≡ true → IsChain graph corners (way_from graph corners n s)
      first e = record { node = node; corner = corner; seg = s; on = all s (inl refl); is = refl; forward = e }

      by_test : (b : Bool) → is_forward graph s (way_from graph corners n s) ≡ b → AreBeside (chains_by graph corners n ss) → AreBeside (cond b (way_from graph corners n s ∷ chains_by graph corners n ss) (chains_by graph corners n ss))
      by_test false e rest = rest
      by_test true e rest = (beside_from (way_from graph corners n s) (chains_by graph corners n ss) (λ d i q p on_c on_d same. each d (by_chain n node corner ss (λ t j. all t (inr j)) d i) q p on_c on_d same), rest)
        where
          each : (d : Chain) → (t : SegId) × In t ss × ((h : IsChain graph corners d) × (h.seg ≡ t) × (d.from ≡ n)) → (q p : ChainStep) → In q (way_from graph corners n s).steps → In p d.steps → q.seg ≡ p.seg → ⊥
          each d (t, i, (h, is, from)) q p on_c on_d same = once.0 t i (ap (λ (x : SegId). x.0) (sym is ∙ sym (share_same (way_from graph corners n s) d (first e) h q p on_c on_d same).1))

  at_beside : (n : NodeId) → n.0 < length graph.kinds → AreBeside (chains_at graph corners n)
  at_beside n node =
      cond_both (is_corner corners n) (chains_by graph corners n (round_of graph n)) [] AreBeside
      (λ e. by_beside n node e (round_of graph n) (round_once graph fit n node) (λ s i. i)) (λ e. tt)

  from_beside : (a k : ℕ) → a + k ≤ length graph.kinds → AreBeside (flat_map (chains_at graph corners) (map (λ n. (let x : NodeId = record { 0 = n } in x)) (range_with_len a k)))
  from_beside a zero h = tt
  from_beside a (suc k) h =
      both_beside (chains_at graph corners (record { 0 = a })) (flat_map (chains_at graph corners) (map (λ n. (let x : NodeId = record { 0 = n } in x)) (range_with_len (a + 1) k))) (at_beside (record { 0 = a }) (omega (arith, h)))
      (from_beside (a + 1) k (omega (arith, h))) apart
    where
      chain_at : (n : NodeId) (c : Chain) → n.0 < length graph.kinds → In c (chains_at graph corners n) → (hh : IsChain graph corners c) × (c.from ≡ n)
      chain_at n c node i =
          let at = from_at graph corners n c i in
          let found = by_chain n node at.0 (round_of graph n) (λ s j. j) c (subst (λ b. In c (cond b (chains_by graph corners n (round_of graph n)) [])) at.0 i) in
          (found.2.0, found.2.2)

      apart : (c d : Chain) → In c (chains_at graph corners (record { 0 = a })) → In d (flat_map (chains_at graph corners) (map (λ n. (let x : NodeId = record { 0 = n } in x)) (range_with_len (a + 1) k))) → (q p : ChainStep) → In q c.steps → In p d.steps → q.seg ≡ p.seg
          → ⊥
      apart c d i j q p on_c on_d same =
          let one = chain_at (record { 0 = a }) c (omega (arith, h)) i in
          let found = from_flat_map (chains_at graph corners) (map (λ n. (let x : NodeId = record { 0 = n } in x)) (range_with_len (a + 1) k)) d j in
          let range = from_range (a + 1) k found.0 found.1 in
          let other = chain_at found.0 d (omega (arith, range.1, h)) found.2 in
          let equal = ap (λ (x : NodeId). x.0) (sym one.1 ∙ (share_same c d one.0 other.0 q p on_c on_d same).0 ∙ other.1) in
          omega (arith, equal, range.0)

  pub chains_beside : AreBeside (chains_of graph corners)
  chains_beside = from_beside 0 (length graph.kinds) (omega arith)

-- ---- different ends

module _ (graph : GraphParts) (fit : IsConsistent graph) (cell : ℕ) where
  abbrev few : List Bool
  few = ring_corners graph

  abbrev more : List Bool
  more = corners_of graph cell

  abbrev bends : List NodeId
  bends = flat_map (chain_bends graph cell) (chains_of graph few)

  pub corners_more : HasMoreCorners (ring_corners graph) (corners_of graph cell)
  corners_more n e = kept_corner bends few n.0 e

  not_few : (n : NodeId) → is_corner more n ≡ false → is_corner few n ≡ false
  not_few n e = false_from (is_corner few n) (λ f. true≢false (sym (corners_more n f) ∙ e))

  pub corners_has : HasCorners graph (corners_of graph cell)
  corners_has n node e = ring_has graph fit n node (not_few n e)

  -- a way to one of the fewer corners is the same between them
  same_way : (k : ℕ) (x : NodeId) (s : SegId) → is_corner few (end_after x (steps_from graph more k x s)) ≡ true → steps_from graph few k x s ≡ steps_from graph more k x s
  same_way zero x s e = refl
  same_way (suc k) x s e = by_corner (is_corner more z) refl e (same_way k z (other_of (round_of graph z) s))
    where
      z : NodeId
      z = far_end graph s x

      step : ChainStep
      step = record { seg = s; to = z }

      rest : List Bool → List ChainStep
      rest corners = steps_from graph corners k z (other_of (round_of graph z) s)

      by_corner : (b : Bool) → is_corner more z ≡ b → is_corner few (end_after x (step ∷ unless_ended b (rest more))) ≡ true → (is_corner few (end_after z (rest more)) ≡ true → rest few ≡ rest more)
          → step ∷ unless_ended (is_corner few z) (rest few) ≡ step ∷ unless_ended b (rest more)
      by_corner true f g later = ap (λ b. step ∷ unless_ended b (rest few)) g
      by_corner false f g later =
          ap (λ b. step ∷ unless_ended b (rest few)) (not_few z f)
          ∙ ap (λ (ts : List ChainStep). step ∷ ts) (later g)

  pub chain_apart : (c : Chain) → IsChain graph (corners_of graph cell) c → c.from.0 ≡ (end_of c).0 → ⊥
  chain_apart c h ring = by_flag (is_corner few c.from) refl
    where
      w : IsWay graph more c.from c.steps
      w = chain_way graph fit more corners_has c h

      end_is : end_of c ≡ c.from
      end_is = ap (λ k. (let x : NodeId = record { 0 = k } in x)) (sym ring)

      long : 1 < length c.steps
      long = elim (cases_lt 1 (length c.steps)) [
        | inl less ↦ less
        | inr short ↦ absurd (one_loop graph fit c.from c.steps w.steps w.once w.some (one_step c.steps short w.some) ring)
      ]
        where
          one_step : (ts : List ChainStep) → length ts ≤ 1 → 0 < length ts → first_seg_of ts ≡ last_seg (first_seg_of ts) ts
          one_step [] short some = absurd (omega (arith, some))
          one_step (t ∷ []) short some = refl
          one_step (t ∷ u ∷ us) short some = absurd (omega (arith, short))

      -- it would bend on the ground
      on_few : is_corner few c.from ≡ true → ⊥
      on_few e =
          let steps_is = ap (λ (x : Chain). x.steps) h.is in
          let same = same_way (length graph.ends) c.from h.seg (ap (λ (ts : List ChainStep). is_corner few (end_after c.from ts)) (sym steps_is) ∙ ap (is_corner few) end_is ∙ e) in
          let is : c ≡ way_from graph few c.from h.seg = h.is ∙ ap (λ (ts : List ChainStep). (let x : Chain = record { from = c.from; steps = ts } in x)) (sym same) in
          let there = chain_in graph few c (record { node = h.node; corner = e; seg = h.seg; on = h.on; is = is; forward = h.forward }) in
          let bend = ring_bend graph cell c ring long in
          let below = (inner_of graph fit c.from c.steps w.steps bend.0 bend.2).node in
          true≢false (sym (new_corner bends few bend.0 (in_flat_map (chain_bends graph cell) (chains_of graph few) c bend.0 there bend.1) (omega (arith, below, ring_many graph fit))) ∙ w.inner bend.0 bend.2)

      -- or lie between the ends of a chain
      on_bend : (m : NodeId) → In m bends → m.0 ≡ c.from.0 → ⊥
      on_bend m i same = by_chain (from_flat_map (chain_bends graph cell) (chains_of graph few) m i)
        where
          by_chain : (d : Chain) × In d (chains_of graph few) × In m (chain_bends graph cell d) → ⊥
          by_chain (d, on, there) =
              let k = chain_is graph few d on in
              let inner = along_inner d m (bend_at (length (nodes_along d)) graph cell (nodes_along d) m there) in
              let one : m ≡ c.from = ap (λ j. (let x : NodeId = record { 0 = j } in x)) same in
              inner_ring graph fit few more corners_more d.from d.steps (chain_way graph fit few (ring_has graph fit) d k) c.from c.steps w (subst (λ (x : NodeId). In x (inner_nodes d.steps)) one inner) ring

      by_flag : (b : Bool) → is_corner few c.from ≡ b → ⊥
      by_flag true e = on_few e
      by_flag false e = by_corner (from_corner bends few c.from.0 h.corner)
        where
          by_corner : (get_or few c.from.0 false ≡ true) ⊎ ((m : NodeId) × In m bends × (m.0 ≡ c.from.0)) → ⊥
          by_corner (inl f) = true≢false (sym f ∙ e)
          by_corner (inr (m, i, same)) = on_bend m i same

  -- so chains between the corners are runs between two nodes
  pub chain_run : (c : Chain) → In c (chains_of graph (corners_of graph cell)) → IsRun graph c × (c.from.0 < length graph.kinds) × ((end_of c).0 < length graph.kinds)
  chain_run c i =
      let h = chain_is graph more c i in
      let w = chain_way graph fit more corners_has c h in
      let last = last_end graph (first_seg_of c.steps) c.from c.steps w.steps w.some in
      (record { some = w.some; steps = w.steps; once = w.once; apart = chain_apart c h }, h.node, end_below graph fit (last_seg (first_seg_of c.steps) c.steps) (end_of c).0 last.0 last.1)

  pub corner_chains_beside : AreBeside (chains_of graph (corners_of graph cell))
  corner_chains_beside = chains_beside graph fit more corners_has
