-- Ways from their ends, and two ways that share a step.
use Rattle.std.proofs.Common.{◌≡◌, refl, sym, ◌∙◌, ap, subst, ℕ, zero, suc, ◌+◌, ◌<◌, Bool, List, [], ◌∷◌, ◌++◌, length, length-append, get_or, Contains, ◌⊎◌, inl, inr, arith}
use Rattle.std.proofs.lemmas.Bool.{true≢false}
use Rattle.map_base.specs.declared.ids.NodeId.{NodeId}
use Rattle.map_base.specs.declared.ids.SegId.{SegId}
use Rattle.graph_core.specs.declared.parts.GraphParts.{GraphParts}
use Rattle.line_chains.specs.declared.chain.ChainStep.{ChainStep}
use Rattle.line_chains.specs.Chains.{end_after, ends_of, is_corner, last_seg}
use Rattle.octi_grid.proofs.Members.{in_append, in_left, in_right, In}
use Rattle.run_laying.specs.Attempts.{inner_nodes}
use Rattle.run_laying.specs.Laying.{first_seg_of}
use Rattle.run_laying.specs.Runs.{AreOnce, AreSteps, LeadsTo, MeetAlone}
use Rattle.run_laying.proofs.Kept.{first_leads}
use Rattle.run_laying.proofs.RunFacts.{contains_in, once_first}
use Rattle.kept_walks.proofs.Rounds.{alone_other, alone_turned}
use Rattle.kept_walks.proofs.Ways.{end_push, follows_push, inner_push, last_push, once_push, steps_push, IsWay}

-- ---- steps from their end

abbrev pub back : NodeId → List ChainStep → List ChainStep
back n [] = []
back n (t ∷ ts) = back t.to ts ++ record { seg = t.seg; to = n } ∷ []

turned_leads : (graph : GraphParts) (n : NodeId) (t : ChainStep) → LeadsTo graph n t → LeadsTo graph t.to (record { seg = t.seg; to = n })
turned_leads graph n t (inl e) = inr e
turned_leads graph n t (inr e) = inl e

pub back_end : (m n : NodeId) (t : ChainStep) (ts : List ChainStep) → end_after m (back n (t ∷ ts)) ≡ n
back_end m n t ts = end_push m (back t.to ts) (record { seg = t.seg; to = n })

pub back_last : (s : SegId) (n : NodeId) (t : ChainStep) (ts : List ChainStep) → last_seg s (back n (t ∷ ts)) ≡ t.seg
back_last s n t ts = last_push s (back t.to ts) (record { seg = t.seg; to = n })

first_push : (ts : List ChainStep) (u : ChainStep) → 0 < length ts → first_seg_of (ts ++ u ∷ []) ≡ first_seg_of ts
first_push [] u some = absurd (omega (arith, some))
first_push (t ∷ ts) u some = refl

back_many : (n : NodeId) (ts : List ChainStep) → length (back n ts) ≡ length ts
back_many n [] = refl
back_many n (t ∷ ts) = let rest = back_many t.to ts in let all = length-append (back t.to ts) (record { seg = t.seg; to = n } ∷ []) in omega (arith, rest, all)

pub back_first : (s : SegId) (n : NodeId) (ts : List ChainStep) → 0 < length ts → first_seg_of (back n ts) ≡ last_seg s ts
back_first s n [] some = absurd (omega (arith, some))
back_first s n (t ∷ []) some = refl
back_first s n (t ∷ u ∷ us) some =
    first_push (back t.to (u ∷ us)) (record { seg = t.seg; to = n }) (let many = back_many t.to (u ∷ us) in omega (arith, many)) ∙ back_first t.seg t.to (u ∷ us) (omega arith)

pub back_steps : (graph : GraphParts) (n : NodeId) (ts : List ChainStep) → AreSteps graph n ts → AreSteps graph (end_after n ts) (back n ts)
back_steps graph n [] steps = tt
back_steps graph n (t ∷ []) steps = (steps.0, turned_leads graph n t steps.1)
back_steps graph n (t ∷ u ∷ us) steps =
    steps_push graph (end_after t.to (u ∷ us)) (back t.to (u ∷ us)) (record { seg = t.seg; to = n }) (back_steps graph t.to (u ∷ us) steps.3)
    (follows_push graph (back u.to us) (record { seg = u.seg; to = t.to }) t.seg (alone_turned graph t.to t.seg u.seg steps.2)) steps.0
    (subst (λ (m : NodeId). LeadsTo graph m (record { seg = t.seg; to = n })) (sym (back_end (end_after t.to (u ∷ us)) t.to u us)) (turned_leads graph n t steps.1))

-- a step of the one is one of the other
pub from_back : (n : NodeId) (ts : List ChainStep) (q : ChainStep) → In q (back n ts) → (p : ChainStep) × In p ts × (p.seg ≡ q.seg)
from_back n [] q i = absurd i
from_back n (t ∷ ts) q i = elim (in_append q (back t.to ts) (record { seg = t.seg; to = n } ∷ []) i) [
  | inl j ↦ (let rest = from_back t.to ts q j in (rest.0, inr rest.1, rest.2))
  | inr j ↦ elim j [ inl e ↦ (t, inl refl, ap (λ (p : ChainStep). p.seg) (sym e)) | inr none ↦ absurd none ]
]

first_of_steps : (graph : GraphParts) (n : NodeId) (t : ChainStep) (ts : List ChainStep) → AreSteps graph n (t ∷ ts) → LeadsTo graph n t × AreSteps graph t.to ts
first_of_steps graph n t [] steps = (steps.1, tt)
first_of_steps graph n t (u ∷ us) steps = (steps.1, steps.3)

pub to_back : (graph : GraphParts) (n : NodeId) (ts : List ChainStep) → AreSteps graph n ts → (p : ChainStep) → In p ts → (q : ChainStep) × In q (back n ts) × (q.seg ≡ p.seg) × LeadsTo graph q.to p
to_back graph n [] steps p i = absurd i
to_back graph n (t ∷ ts) steps p (inl e) =
    (record { seg = t.seg; to = n }, in_right (record { seg = t.seg; to = n }) (back t.to ts) (record { seg = t.seg; to = n } ∷ []) (inl refl), ap (λ (x : ChainStep). x.seg) (sym e), subst (LeadsTo graph n) (sym e) (first_of_steps graph n t ts steps).0)
to_back graph n (t ∷ ts) steps p (inr i) =
    let rest = to_back graph t.to ts (first_of_steps graph n t ts steps).1 p i in (rest.0, in_left rest.0 (back t.to ts) (record { seg = t.seg; to = n } ∷ []) rest.1, rest.2, rest.3)

pub back_once : (n : NodeId) (ts : List ChainStep) → AreOnce ts → AreOnce (back n ts)
back_once n [] once = tt
back_once n (t ∷ ts) once =
    once_push (back t.to ts) (record { seg = t.seg; to = n }) (back_once t.to ts once.1) (λ q i e. let p = from_back t.to ts q i in once_first t ts once p.0 p.1 (ap (λ (s : SegId). s.0) p.2 ∙ e))

pub back_inner : (n : NodeId) (ts : List ChainStep) (m : NodeId) → In m (inner_nodes (back n ts)) → In m (inner_nodes ts)
back_inner n [] m i = absurd i
back_inner n (t ∷ []) m i = absurd i
back_inner n (t ∷ u ∷ us) m i = by_place (inner_push t.to (back t.to (u ∷ us)) (record { seg = t.seg; to = n }) m i) (back_inner t.to (u ∷ us) m)
  where
    by_place : In m (inner_nodes (back t.to (u ∷ us))) ⊎ ((0 < length (back t.to (u ∷ us))) × (m ≡ end_after t.to (back t.to (u ∷ us)))) → (In m (inner_nodes (back t.to (u ∷ us))) → In m (inner_nodes (u ∷ us))) → In m (inner_nodes (t ∷ u ∷ us))
    by_place (inl j) later = inr (later j)
    by_place (inr (some, e)) later = inl (e ∙ back_end t.to t.to u us)

pub back_way : (graph : GraphParts) (corners : List Bool) (n : NodeId) (ts : List ChainStep) → IsWay graph corners n ts → IsWay graph corners (end_after n ts) (back n ts)
back_way graph corners n [] w = absurd (omega (arith, w.some))
back_way graph corners n (t ∷ ts) w = record {
  some = let many = back_many n (t ∷ ts) in omega (arith, many);
  steps = back_steps graph n (t ∷ ts) w.steps;
  once = back_once n (t ∷ ts) w.once;
  from = w.end;
  end = ap (is_corner corners) (back_end (end_after t.to ts) n t ts) ∙ w.from;
  inner = λ m i. w.inner m (back_inner n (t ∷ ts) m i);
}

-- ---- steps by their places

-- a step and the next one
pub record AreNext (graph : GraphParts) (ts : List ChainStep) (p q : ChainStep) : Type 0 where
  pub alone : MeetAlone graph p.seg p.to q.seg
  pub leads : LeadsTo graph p.to q
  pub inner : In p.to (inner_nodes ts)

pub next_at : (graph : GraphParts) (n : NodeId) (ts : List ChainStep) → AreSteps graph n ts → (i : ℕ) (d : ChainStep) → i + 1 < length ts → AreNext graph ts (get_or ts i d) (get_or ts (i + 1) d)
next_at graph n [] steps i d h = absurd (omega arith)
next_at graph n (t ∷ []) steps i d h = absurd (omega (arith, h))
next_at graph n (t ∷ u ∷ us) steps zero d h = record { alone = steps.2; leads = (first_leads graph t.to u us steps.3).1; inner = inl refl }
next_at graph n (t ∷ u ∷ us) steps (suc i) d h =
    let rest = next_at graph t.to (u ∷ us) steps.3 i d (omega (arith, h)) in
    let next : suc i + 1 ≡ suc (i + 1) = omega arith in
    subst (λ k. AreNext graph (t ∷ u ∷ us) (get_or (u ∷ us) i d) (get_or (t ∷ u ∷ us) k d)) (sym next) (record { alone = rest.alone; leads = rest.leads; inner = inr rest.inner })

pub first_at_zero : (graph : GraphParts) (n : NodeId) (ts : List ChainStep) → AreSteps graph n ts → (d : ChainStep) → 0 < length ts → LeadsTo graph n (get_or ts 0 d) × (first_seg_of ts ≡ (get_or ts 0 d).seg)
first_at_zero graph n [] steps d some = absurd (omega (arith, some))
first_at_zero graph n (t ∷ ts) steps d some = ((first_of_steps graph n t ts steps).0, refl)

-- where a step comes from
pub record ComesFrom (graph : GraphParts) (n : NodeId) (ts : List ChainStep) (i : ℕ) (d : ChainStep) : Type 0 where
  pub node : NodeId
  pub leads : LeadsTo graph node (get_or ts i d)

pub leads_one : (graph : GraphParts) (x y : NodeId) (q p : ChainStep) → LeadsTo graph x q → LeadsTo graph y p → q.seg ≡ p.seg → q.to ≡ p.to → x ≡ y
leads_one graph x y q p (inl e) (inl f) s t = ap (λ (z : NodeId × NodeId). z.0) (sym e ∙ ap (ends_of graph) s ∙ f)
leads_one graph x y q p (inr e) (inr f) s t = ap (λ (z : NodeId × NodeId). z.1) (sym e ∙ ap (ends_of graph) s ∙ f)
leads_one graph x y q p (inl e) (inr f) s t = let both = sym e ∙ ap (ends_of graph) s ∙ f in ap (λ (z : NodeId × NodeId). z.0) both ∙ sym t ∙ ap (λ (z : NodeId × NodeId). z.1) both
leads_one graph x y q p (inr e) (inl f) s t = let both = sym e ∙ ap (ends_of graph) s ∙ f in ap (λ (z : NodeId × NodeId). z.1) both ∙ sym t ∙ ap (λ (z : NodeId × NodeId). z.0) both

-- and where to, from the same node
pub leads_same : (graph : GraphParts) (x : NodeId) (q p : ChainStep) → LeadsTo graph x q → LeadsTo graph x p → q.seg ≡ p.seg → q.to ≡ p.to
leads_same graph x q p (inl e) (inl f) s = ap (λ (z : NodeId × NodeId). z.1) (sym e ∙ ap (ends_of graph) s ∙ f)
leads_same graph x q p (inr e) (inr f) s = ap (λ (z : NodeId × NodeId). z.0) (sym e ∙ ap (ends_of graph) s ∙ f)
leads_same graph x q p (inl e) (inr f) s = let both = sym e ∙ ap (ends_of graph) s ∙ f in ap (λ (z : NodeId × NodeId). z.1) both ∙ ap (λ (z : NodeId × NodeId). z.0) both
leads_same graph x q p (inr e) (inl f) s = let both = sym e ∙ ap (ends_of graph) s ∙ f in ap (λ (z : NodeId × NodeId). z.0) both ∙ ap (λ (z : NodeId × NodeId). z.1) both

-- one of both ways, of two over one segment
pub leads_either : (graph : GraphParts) (x y : NodeId) (q p : ChainStep) → LeadsTo graph x q → LeadsTo graph y p → q.seg ≡ p.seg → (q.to ≡ p.to) ⊎ (q.to ≡ y)
leads_either graph x y q p (inl e) (inl f) s = inl (ap (λ (z : NodeId × NodeId). z.1) (sym e ∙ ap (ends_of graph) s ∙ f))
leads_either graph x y q p (inr e) (inr f) s = inl (ap (λ (z : NodeId × NodeId). z.0) (sym e ∙ ap (ends_of graph) s ∙ f))
leads_either graph x y q p (inl e) (inr f) s = inr (ap (λ (z : NodeId × NodeId). z.1) (sym e ∙ ap (ends_of graph) s ∙ f))
leads_either graph x y q p (inr e) (inl f) s = inr (ap (λ (z : NodeId × NodeId). z.0) (sym e ∙ ap (ends_of graph) s ∙ f))

-- ---- two ways that share a step begin alike

module _ (graph : GraphParts) (corners : List Bool) (n m : NodeId) (ts us : List ChainStep) (w : IsWay graph corners n ts) (v : IsWay graph corners m us) where
  same_from : (i j : ℕ) (d : ChainStep) → i < length ts → j < length us → (get_or ts i d).seg ≡ (get_or us j d).seg → (get_or ts i d).to ≡ (get_or us j d).to → (n ≡ m) × (first_seg_of ts ≡ first_seg_of us)
  same_from zero zero d h k seg to =
      let a = first_at_zero graph n ts w.steps d w.some in
      let b = first_at_zero graph m us v.steps d v.some in
      (leads_one graph n m (get_or ts 0 d) (get_or us 0 d) a.0 b.0 seg to, a.1 ∙ seg ∙ sym b.1)
  same_from zero (suc j) d h k seg to =
      let a = first_at_zero graph n ts w.steps d w.some in
      let b = next_at graph m us v.steps j d (omega (arith, k)) in
      let next : get_or us (j + 1) d ≡ get_or us (suc j) d = ap (λ x. get_or us x d) (omega arith) in
      let at = leads_one graph n (get_or us j d).to (get_or ts 0 d) (get_or us (suc j) d) a.0 (subst (LeadsTo graph (get_or us j d).to) next b.leads) seg to in
      absurd (true≢false (sym w.from ∙ ap (is_corner corners) at ∙ v.inner (get_or us j d).to b.inner))
  same_from (suc i) zero d h k seg to =
      let a = next_at graph n ts w.steps i d (omega (arith, h)) in
      let b = first_at_zero graph m us v.steps d v.some in
      let next : get_or ts (i + 1) d ≡ get_or ts (suc i) d = ap (λ x. get_or ts x d) (omega arith) in
      let at = leads_one graph (get_or ts i d).to m (get_or ts (suc i) d) (get_or us 0 d) (subst (LeadsTo graph (get_or ts i d).to) next a.leads) b.0 seg to in
      absurd (true≢false (sym v.from ∙ ap (is_corner corners) (sym at) ∙ w.inner (get_or ts i d).to a.inner))
  same_from (suc i) (suc j) d h k seg to =
      let a = next_at graph n ts w.steps i d (omega (arith, h)) in
      let b = next_at graph m us v.steps j d (omega (arith, k)) in
      let next : get_or ts (i + 1) d ≡ get_or ts (suc i) d = ap (λ x. get_or ts x d) (omega arith) in
      let other : get_or us (j + 1) d ≡ get_or us (suc j) d = ap (λ x. get_or us x d) (omega arith) in
      let at = leads_one graph (get_or ts i d).to (get_or us j d).to (get_or ts (suc i) d) (get_or us (suc j) d) (subst (LeadsTo graph (get_or ts i d).to) next a.leads) (subst (LeadsTo graph (get_or us j d).to) other b.leads) seg to in
      let one : MeetAlone graph (get_or ts i d).seg (get_or ts i d).to (get_or ts (suc i) d).seg = subst (λ (q : ChainStep). MeetAlone graph (get_or ts i d).seg (get_or ts i d).to q.seg) next a.alone in
      let two : MeetAlone graph (get_or us j d).seg (get_or ts i d).to (get_or ts (suc i) d).seg =
      subst (λ (s : SegId). MeetAlone graph (get_or us j d).seg (get_or ts i d).to s) (ap (λ (q : ChainStep). q.seg) other ∙ sym seg) (subst (λ (x : NodeId). MeetAlone graph (get_or us j d).seg x (get_or us (j + 1) d).seg) (sym at) b.alone) in
      same_from i j d (omega arith) (omega arith) (alone_other graph (get_or ts i d).to (get_or ts i d).seg (get_or us j d).seg (get_or ts (suc i) d).seg one two) at

  -- the same of steps that are told
  pub begin_alike : (q p : ChainStep) → In q ts → In p us → q.seg ≡ p.seg → q.to ≡ p.to → (n ≡ m) × (first_seg_of ts ≡ first_seg_of us)
  begin_alike q p i j seg to = by_places (contains_in ts q i) (contains_in us p j)
    where
      at_place : (xs : List ChainStep) (x d : ChainStep) (k : ℕ) → k < length xs → get_or xs k x ≡ x → get_or xs k d ≡ x
      at_place [] x d k h e = absurd (omega arith)
      at_place (y ∷ ys) x d zero h e = e
      at_place (y ∷ ys) x d (suc k) h e = at_place ys x d k (omega arith) e

      by_places : Contains ts q → Contains us p → (n ≡ m) × (first_seg_of ts ≡ first_seg_of us)
      by_places (a, h, e) (b, k, f) =
          let one = at_place ts q q a h e in
          let two = at_place us p q b k f in
          same_from a b q h k (ap (λ (x : ChainStep). x.seg) one ∙ seg ∙ ap (λ (x : ChainStep). x.seg) (sym two)) (ap (λ (x : ChainStep). x.to) one ∙ to ∙ ap (λ (x : ChainStep). x.to) (sym two))
