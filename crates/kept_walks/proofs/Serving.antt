-- Runs that serve a node: each of its segments is on one that ends there.
use Rattle.std.proofs.Common.{◌≡◌, refl, sym, ◌∙◌, ap, ap₂, subst, ℕ, zero, suc, ◌<◌, Bool, true, false, not, eqb, nat_lt, ◌&&◌, List, [], ◌∷◌, length, get_or, ◌⊎◌, inl, inr, arith}
use Rattle.std.proofs.lemmas.Bool.{cases_eq, eq-eqb, lt-ltb, ltb-false, ne_eqb, or_left, or_parts, or_right, true≢false}
use Rattle.std.specs.List.{range_with_len}
use Rattle.map_base.specs.declared.ids.NodeId.{NodeId}
use Rattle.map_base.specs.declared.ids.SegId.{SegId}
use Rattle.graph_core.specs.declared.parts.GraphParts.{GraphParts}
use Rattle.graph_core.specs.Consistent.{IsConsistent}
use Rattle.line_chains.specs.declared.chain.Chain.{Chain}
use Rattle.line_chains.specs.declared.chain.ChainStep.{ChainStep}
use Rattle.line_chains.specs.Chains.{chains_of, end_after, end_of, ends_of, is_corner, is_forward, last_seg, round_of, stands_before, steps_from, way_from}
use Rattle.line_chains.proofs.Rounds.{round_below}
use Rattle.octi_grid.proofs.Members.{In}
use Rattle.segment_router.proofs.MaskLemmas.{ends_round}
use Rattle.segment_router.proofs.Places.{all_in}
use Rattle.run_laying.specs.Attempts.{inner_nodes, run_of}
use Rattle.run_laying.specs.Laying.{first_seg_of}
use Rattle.run_laying.specs.Runs.{AreSteps, MeetAlone}
use Rattle.run_laying.specs.Sketches.{IsEndOf}
use Rattle.run_laying.proofs.Begun.{in_range as in_numbers}
use Rattle.run_laying.proofs.RunFacts.{end_below, in_round}
use Rattle.drawing_search.proofs.Growing.{in_range}
use Rattle.drawing_search.proofs.LaidAll.{last_end}
use Rattle.drawing_search.proofs.Takable.{from_map, in_mapped}
use Rattle.kept_walks.specs.Straightening.{single_runs}
use Rattle.kept_walks.proofs.ChainRuns.{chain_in, chain_is, chain_way}
use Rattle.kept_walks.proofs.Rounds.{alone_other, alone_turned}
use Rattle.kept_walks.proofs.Rings.{one_loop}
use Rattle.kept_walks.proofs.Turned.{back, back_end, back_first, back_last, back_way, leads_same, to_back}
use Rattle.kept_walks.proofs.Ways.{way_is, HasCorners, IsWay}

-- ---- a way is told by its start and its first segment

one_step : (t u : ChainStep) → t.seg ≡ u.seg → t.to ≡ u.to → t ≡ u
one_step t u s e = ap₂ (λ (x : SegId) (y : NodeId). (let z : ChainStep = record { seg = x; to = y } in z)) s e

equal_steps : (graph : GraphParts) (corners : List Bool) (x : NodeId) (ts us : List ChainStep) → AreSteps graph x ts → AreSteps graph x us → ((m : NodeId) → In m (inner_nodes ts) → is_corner corners m ≡ false) → ((m : NodeId) → In m (inner_nodes us) → is_corner corners m ≡ false)
    → is_corner corners (end_after x ts) ≡ true → is_corner corners (end_after x us) ≡ true → 0 < length ts → 0 < length us → first_seg_of ts ≡ first_seg_of us → ts ≡ us
equal_steps graph corners x [] us a b i j e f some other same = absurd (omega (arith, some))
equal_steps graph corners x (t ∷ ts) [] a b i j e f some other same = absurd (omega (arith, other))
equal_steps graph corners x (t ∷ []) (u ∷ []) a b i j e f some other same = ap (λ (p : ChainStep). p ∷ []) (one_step t u same (leads_same graph x t u a.1 b.1 same))
equal_steps graph corners x (t ∷ []) (u ∷ v ∷ vs) a b i j e f some other same = absurd (true≢false (sym e ∙ ap (is_corner corners) (leads_same graph x t u a.1 b.1 same) ∙ j u.to (inl refl)))
equal_steps graph corners x (t ∷ v ∷ vs) (u ∷ []) a b i j e f some other same = absurd (true≢false (sym f ∙ ap (is_corner corners) (sym (leads_same graph x t u a.1 b.1 same)) ∙ i t.to (inl refl)))
equal_steps graph corners x (t ∷ v ∷ vs) (u ∷ w ∷ ws) a b i j e f some other same =
    let to = leads_same graph x t u a.1 b.1 same in
    let next = alone_other graph t.to v.seg w.seg t.seg (alone_turned graph t.to t.seg v.seg a.2)
    (subst (λ (s : SegId). MeetAlone graph w.seg t.to s) (sym same) (subst (λ (y : NodeId). MeetAlone graph w.seg y u.seg) (sym to) (alone_turned graph u.to u.seg w.seg b.2))) in
    ap₂ (λ (p : ChainStep) (ps : List ChainStep). p ∷ ps) (one_step t u same to)
    (equal_steps graph corners t.to (v ∷ vs) (w ∷ ws) a.3 (subst (λ (y : NodeId). AreSteps graph y (w ∷ ws)) (sym to) b.3) (λ m k. i m (inr k)) (λ m k. j m (inr k)) e (ap (λ (y : NodeId). is_corner corners (end_after y (w ∷ ws))) to ∙ f)
    (omega arith) (omega arith) next)

-- one of two segments of a round stands before the other
before_total : (r : List SegId) (a b : SegId) → In a r → In b r → (a.0 ≡ b.0 → ⊥) → stands_before r a b ≡ false → stands_before r b a ≡ true
before_total [] a b i j differ e = absurd i
before_total (x ∷ r) a b i j differ e = by_first (cases_eq x.0 a.0) (cases_eq x.0 b.0) i j (before_total r a b)
  where
    by_first : (x.0 ≡ a.0) ⊎ (x.0 ≡ a.0 → ⊥) → (x.0 ≡ b.0) ⊎ (x.0 ≡ b.0 → ⊥) → In a (x ∷ r) → In b (x ∷ r) → (In a r → In b r → (a.0 ≡ b.0 → ⊥) → stands_before r a b ≡ false → stands_before r b a ≡ true) → stands_before (x ∷ r) b a ≡ true
    by_first o (inl f) k l before =
        or_left (eqb x.0 b.0 && not (eqb b.0 a.0)) (not (eqb x.0 a.0) && stands_before r b a)
        (ap₂ (λ p q. p && not q) (eq-eqb x.0 b.0 f) (ne_eqb b.0 a.0 (λ g. differ (sym g))))
    by_first (inl f) (inr g) k l before =
        absurd (true≢false
        (sym (or_left (eqb x.0 a.0 && not (eqb a.0 b.0)) (not (eqb x.0 b.0) && stands_before r a b) (ap₂ (λ p q. p && not q) (eq-eqb x.0 a.0 f) (ne_eqb a.0 b.0 differ))) ∙ e))
    by_first (inr f) (inr g) (inl k) l before = absurd (f (ap (λ (s : SegId). s.0) (sym k)))
    by_first (inr f) (inr g) (inr k) (inl l) before = absurd (g (ap (λ (s : SegId). s.0) (sym l)))
    by_first (inr f) (inr g) (inr k) (inr l) before =
        let rest = (or_parts (eqb x.0 a.0 && not (eqb a.0 b.0)) (not (eqb x.0 b.0) && stands_before r a b) e).1 in
        let later : stands_before r a b ≡ false = sym (ap (λ p. not p && stands_before r a b) (ne_eqb x.0 b.0 g)) ∙ rest in
        or_right (eqb x.0 b.0 && not (eqb b.0 a.0)) (not (eqb x.0 a.0) && stands_before r b a)
        (ap₂ (λ p q. not p && q) (ne_eqb x.0 a.0 f) (before k l differ later))

-- ---- runs that serve a node

-- a run ends at a node
abbrev pub EndsAt : NodeId → Chain → Type 0
EndsAt n c = (c.from ≡ n) ⊎ (end_of c ≡ n)

-- a node lies between no two steps of runs, and each of its segments is on one that ends there
pub record IsServed (graph : GraphParts) (runs : List Chain) (n : NodeId) : Type 0 where
  pub node : n.0 < length graph.kinds
  pub outer : (c : Chain) → In c runs → (m : NodeId) → In m (inner_nodes c.steps) → m.0 ≡ n.0 → ⊥
  pub on : (s : SegId) → In s (round_of graph n) → (c : Chain) × In c runs × EndsAt n c × ((q : ChainStep) × In q c.steps × (q.seg ≡ s))

module _ (graph : GraphParts) (fit : IsConsistent graph) (corners : List Bool) (has : HasCorners graph corners) where
  -- a chain over each segment of a corner
  on_chain : (n : NodeId) → n.0 < length graph.kinds → is_corner corners n ≡ true → (s : SegId) → In s (round_of graph n) → (c : Chain) × In c (chains_of graph corners) × EndsAt n c × ((q : ChainStep) × In q c.steps × (q.seg ≡ s))
  on_chain n node corner s on = by_forward (is_forward graph s c) refl
    where
      below : s.0 < length graph.ends
      below = all_in (λ (t : SegId). t.0 < length graph.ends) (round_of graph n) s (λ k d h. round_below graph fit n.0 node k d h) on

      c : Chain
      c = way_from graph corners n s

      w : IsWay graph corners n c.steps
      w = way_is graph fit corners has n corner s node on below

      first_of : (k : ℕ) (x : NodeId) (t : SegId) → 0 < k → first_seg_of (steps_from graph corners k x t) ≡ t
      first_of zero x t h = absurd (omega (arith, h))
      first_of (suc k) x t h = refl

      first : first_seg_of c.steps ≡ s
      first = first_of (length graph.ends) n s (omega (arith, below))

      first_in : (ts : List ChainStep) → 0 < length ts → (q : ChainStep) × In q ts × (q.seg ≡ first_seg_of ts)
      first_in [] some = absurd (omega (arith, some))
      first_in (t ∷ ts) some = (t, inl refl, refl)

      e : NodeId
      e = end_of c

      last : SegId
      last = last_seg s c.steps

      last_any : (t : SegId) (ts : List ChainStep) → 0 < length ts → last_seg (first_seg_of ts) ts ≡ last_seg t ts
      last_any t [] some = absurd (omega (arith, some))
      last_any t (u ∷ us) some = refl

      at_end : (last.0 < length graph.ends) × IsEndOf graph last e.0
      at_end = last_end graph s n c.steps w.steps w.some

      e_node : e.0 < length graph.kinds
      e_node = end_below graph fit last e.0 at_end.0 at_end.1

      last_on : In last (round_of graph e)
      last_on = in_round graph fit last e.0 at_end.0 e_node at_end.1

      d : Chain
      d = way_from graph corners e last

      v : IsWay graph corners e d.steps
      v = way_is graph fit corners has e w.end last e_node last_on at_end.0

      turned : IsWay graph corners e (back n c.steps)
      turned = back_way graph corners n c.steps w

      same : d.steps ≡ back n c.steps
      same =
          equal_steps graph corners e d.steps (back n c.steps) v.steps turned.steps v.inner turned.inner v.end turned.end v.some turned.some (first_of (length graph.ends) e last (omega (arith, at_end.0)) ∙ sym (back_first s n c.steps w.some))

      d_end : end_of d ≡ n
      d_end = ap (end_after e) same ∙ by_steps c.steps w.some
        where
          by_steps : (ts : List ChainStep) → 0 < length ts → end_after e (back n ts) ≡ n
          by_steps [] some = absurd (omega (arith, some))
          by_steps (t ∷ ts) some = back_end e n t ts

      d_last : last_seg last d.steps ≡ s
      d_last = ap (last_seg last) same ∙ by_steps c.steps w.some ∙ first
        where
          by_steps : (ts : List ChainStep) → 0 < length ts → last_seg last (back n ts) ≡ first_seg_of ts
          by_steps [] some = absurd (omega (arith, some))
          by_steps (t ∷ ts) some = back_last last n t ts

      by_forward : (b : Bool) → is_forward graph s c ≡ b → (x : Chain) × In x (chains_of graph corners) × EndsAt n x × ((q : ChainStep) × In q x.steps × (q.seg ≡ s))
      by_forward true f = let q = first_in c.steps w.some in (c, chain_in graph corners c (record { node = node; corner = corner; seg = s; on = on; is = refl; forward = f }), inl refl, (q.0, q.1, q.2 ∙ first))
      by_forward false f =
          let q = first_in c.steps w.some in
          let r = to_back graph n c.steps w.steps q.0 q.1 in
          (d, chain_in graph corners d (record { node = e_node; corner = w.end; seg = last; on = last_on; is = refl; forward = forward }), inr d_end, (r.0, subst (In r.0) (sym same) r.1, r.2 ∙ q.2 ∙ first))
        where
          parts : (nat_lt n.0 e.0 ≡ false) × ((eqb n.0 e.0 && stands_before (round_of graph n) s last) ≡ false)
          parts = or_parts (nat_lt n.0 e.0) (eqb n.0 e.0 && stands_before (round_of graph n) s last) f

          by_order : (e.0 ≡ n.0) ⊎ (e.0 ≡ n.0 → ⊥) → is_forward graph last d ≡ true
          by_order (inr other) =
              let up = ltb-false n.0 e.0 parts.0 in
              or_left (nat_lt e.0 (end_of d).0) (eqb e.0 (end_of d).0 && stands_before (round_of graph e) last (last_seg last d.steps)) (lt-ltb e.0 (end_of d).0 (grind (arith, up, other, ap (λ (x : NodeId). x.0) d_end)))
          by_order (inl ring) =
              let one : e ≡ n = ap (λ k. (let x : NodeId = record { 0 = k } in x)) ring in
              let not_before : stands_before (round_of graph n) s last ≡ false = sym (ap (λ b. b && stands_before (round_of graph n) s last) (eq-eqb n.0 e.0 (sym ring))) ∙ parts.1 in
              let before = before_total (round_of graph n) s last on (subst (λ (x : NodeId). In last (round_of graph x)) one last_on) apart not_before in
              or_right (nat_lt e.0 (end_of d).0) (eqb e.0 (end_of d).0 && stands_before (round_of graph e) last (last_seg last d.steps))
              (ap₂ (λ p q. p && q) (eq-eqb e.0 (end_of d).0 (ring ∙ ap (λ (x : NodeId). x.0) (sym d_end)))
              (ap₂ (λ (x : NodeId) (t : SegId). stands_before (round_of graph x) last t) one d_last ∙ before))
            where
              apart : s.0 ≡ last.0 → ⊥
              apart g =
                  one_loop graph fit n c.steps w.steps w.once w.some (first ∙ ap (λ k. (let x : SegId = record { 0 = k } in x)) g ∙ sym (last_any s c.steps w.some)) (sym ring)

          forward : is_forward graph last d ≡ true
          forward = by_order (cases_eq e.0 n.0)

  pub corner_served : (n : NodeId) → n.0 < length graph.kinds → is_corner corners n ≡ true → IsServed graph (chains_of graph corners) n
  corner_served n node corner = record {
    node = node;
    outer = λ c i m j e.
        true≢false
        (sym corner ∙ ap (λ k. get_or corners k false) (sym e) ∙ (chain_way graph fit corners has c (chain_is graph corners c i)).inner m j);
    on = on_chain n node corner;
  }

-- each node is served by the runs of single segments
pub single_is : (graph : GraphParts) (c : Chain) → In c (single_runs graph) → (s : SegId) × (s.0 < length graph.ends) × (c ≡ run_of graph s)
single_is graph c i =
    let at = from_map (λ s. run_of graph (record { 0 = s })) (range_with_len 0 (length graph.ends)) c i in
    let below = in_range 0 (length graph.ends) at.0 at.1 in
    (record { 0 = at.0 }, omega (arith, below), at.2)

pub node_served : (graph : GraphParts) → IsConsistent graph → (n : NodeId) → n.0 < length graph.kinds → IsServed graph (single_runs graph) n
node_served graph fit n node = record {
  node = node;
  outer = λ c i m j e. no_inner c (single_is graph c i) m j;
  on = on;
}
  where
    no_inner : (c : Chain) → (s : SegId) × (s.0 < length graph.ends) × (c ≡ run_of graph s) → (m : NodeId) → In m (inner_nodes c.steps) → ⊥
    no_inner c (s, below, is) m j = subst (λ (x : Chain). In m (inner_nodes x.steps)) is j

    on : (s : SegId) → In s (round_of graph n) → (c : Chain) × In c (single_runs graph) × EndsAt n c × ((q : ChainStep) × In q c.steps × (q.seg ≡ s))
    on s i =
        let below = all_in (λ (t : SegId). t.0 < length graph.ends) (round_of graph n) s (λ k d h. round_below graph fit n.0 node k d h) i in
        (run_of graph s, in_mapped (λ k. run_of graph (record { 0 = k })) (range_with_len 0 (length graph.ends)) s.0 (in_numbers (length graph.ends) s.0 (omega (arith, below))), ends (ends_round graph fit n.0 node s i), (record { seg = s; to = (ends_of graph s).1 }, inl refl, refl))
      where
        ends : IsEndOf graph s n.0 → EndsAt n (run_of graph s)
        ends (inl e) = inl (ap (λ k. (let x : NodeId = record { 0 = k } in x)) e)
        ends (inr e) = inr (ap (λ k. (let x : NodeId = record { 0 = k } in x)) e)
