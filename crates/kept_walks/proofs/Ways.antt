-- Ways from corners over nodes that are none to corners.
use Rattle.std.proofs.Common.{◌≡◌, refl, sym, ◌∙◌, ap, subst, ℕ, zero, suc, ◌+◌, ◌<◌, Bool, true, false, cond, List, [], ◌∷◌, ◌++◌, append_assoc, append-nil, length, length-append, get_or, Contains, ◌⊎◌, inl, inr, arith}
use Rattle.std.proofs.lemmas.Bool.{cases_Bool, cases_eq, eq-eqb, ne_eqb, true≢false}
use Rattle.map_base.specs.declared.ids.NodeId.{NodeId}
use Rattle.map_base.specs.declared.ids.SegId.{SegId}
use Rattle.graph_core.specs.declared.parts.GraphParts.{GraphParts}
use Rattle.graph_core.specs.Consistent.{IsConsistent}
use Rattle.line_chains.specs.declared.chain.ChainStep.{ChainStep}
use Rattle.line_chains.specs.Chains.{end_after, ends_of, far_end, is_corner, last_seg, other_of, round_of, steps_from, unless_ended, way_from}
use Rattle.octi_grid.proofs.Members.{in_append, In}
use Rattle.line_chains.proofs.Rounds.{round_below}
use Rattle.segment_router.proofs.MaskLemmas.{ends_round}
use Rattle.segment_router.proofs.Places.{all_in}
use Rattle.run_laying.specs.Attempts.{inner_nodes}
use Rattle.run_laying.specs.Laying.{first_seg_of}
use Rattle.run_laying.specs.Runs.{AreOnce, AreSteps, LeadsTo, MeetAlone}
use Rattle.run_laying.specs.Sketches.{IsEndOf}
use Rattle.run_laying.proofs.Kept.{last_outer}
use Rattle.run_laying.proofs.RunFacts.{contains_in, end_below, in_round, leads_to, step_of, IsOff}
use Rattle.drawing_search.proofs.FewSteps.{few_once}
use Rattle.drawing_search.proofs.Gained.{last_at}
use Rattle.drawing_search.proofs.LaidAll.{last_end}
use Rattle.drawing_search.proofs.Takable.{in_from}
use Rattle.kept_walks.proofs.Rounds.{other_there, IsOther}

-- each node at which not two segments meet is a corner
abbrev pub HasCorners : GraphParts → List Bool → Type 0
HasCorners graph corners = (n : NodeId) → n.0 < length graph.kinds → is_corner corners n ≡ false → length (round_of graph n) ≡ 2

-- a way from a corner to a corner, over nodes that are none, and over no segment twice
pub record IsWay (graph : GraphParts) (corners : List Bool) (n : NodeId) (ts : List ChainStep) : Type 0 where
  pub some : 0 < length ts
  pub steps : AreSteps graph n ts
  pub once : AreOnce ts
  pub from : is_corner corners n ≡ true
  pub end : is_corner corners (end_after n ts) ≡ true
  pub inner : (m : NodeId) → In m (inner_nodes ts) → is_corner corners m ≡ false

-- ---- a step more

-- the last of steps and a segment meet alone
abbrev pub Follows : GraphParts → List ChainStep → SegId → Type 0
Follows graph [] s = Unit {0}
Follows graph (t ∷ []) s = MeetAlone graph t.seg t.to s
Follows graph (t ∷ u ∷ us) s = Follows graph (u ∷ us) s

pub end_push : (n : NodeId) (ts : List ChainStep) (u : ChainStep) → end_after n (ts ++ u ∷ []) ≡ u.to
end_push n [] u = refl
end_push n (t ∷ ts) u = end_push t.to ts u

pub last_push : (s : SegId) (ts : List ChainStep) (u : ChainStep) → last_seg s (ts ++ u ∷ []) ≡ u.seg
last_push s [] u = refl
last_push s (t ∷ ts) u = last_push t.seg ts u

pub follows_push : (graph : GraphParts) (ts : List ChainStep) (u : ChainStep) (s : SegId) → MeetAlone graph u.seg u.to s → Follows graph (ts ++ u ∷ []) s
follows_push graph [] u s e = e
follows_push graph (t ∷ []) u s e = e
follows_push graph (t ∷ v ∷ vs) u s e = follows_push graph (v ∷ vs) u s e

pub steps_push : (graph : GraphParts) (n : NodeId) (ts : List ChainStep) (u : ChainStep) → AreSteps graph n ts → Follows graph ts u.seg → u.seg.0 < length graph.ends → LeadsTo graph (end_after n ts) u → AreSteps graph n (ts ++ u ∷ [])
steps_push graph n [] u steps follows below leads = (below, leads)
steps_push graph n (t ∷ []) u steps follows below leads = (steps.0, steps.1, follows, (below, leads))
steps_push graph n (t ∷ v ∷ vs) u steps follows below leads = (steps.0, steps.1, steps.2, steps_push graph t.to (v ∷ vs) u steps.3 follows below leads)

pub once_push : (ts : List ChainStep) (u : ChainStep) → AreOnce ts → IsOff ts u.seg → AreOnce (ts ++ u ∷ [])
once_push [] u once off = ((λ q there e. in_from [] q there), tt)
once_push (t ∷ ts) u once off = (again, once_push ts u once.1 (λ q i e. off q (inr i) e))
  where
    again : (q : ChainStep) → Contains (ts ++ u ∷ []) q → q.seg.0 ≡ t.seg.0 → ⊥
    again q there e = elim (in_append q ts (u ∷ []) (in_from (ts ++ u ∷ []) q there)) [
      | inl i ↦ once.0 q (contains_in ts q i) e
      | inr i ↦ elim i [ inl same ↦ off t (inl refl) (sym e ∙ ap (λ (p : ChainStep). p.seg.0) same) | inr none ↦ none ]
    ]

-- a node between steps and one more
pub inner_push : (n : NodeId) (ts : List ChainStep) (u : ChainStep) (m : NodeId) → In m (inner_nodes (ts ++ u ∷ [])) → In m (inner_nodes ts) ⊎ ((0 < length ts) × (m ≡ end_after n ts))
inner_push n [] u m i = absurd i
inner_push n (t ∷ []) u m (inl e) = inr (omega arith, e)
inner_push n (t ∷ []) u m (inr i) = absurd i
inner_push n (t ∷ v ∷ vs) u m (inl e) = inl (inl e)
inner_push n (t ∷ v ∷ vs) u m (inr i) = elim (inner_push t.to (v ∷ vs) u m i) [
  | inl j ↦ inl (inr j)
  | inr at ↦ inr (omega arith, at.1)
]

-- where steps end at a node that is not their start, the segment that goes on from there is off them
pub next_off : (graph : GraphParts) → IsConsistent graph → (n : NodeId) (ts : List ChainStep) (o : SegId) → 0 < length ts → AreSteps graph n ts → AreOnce ts → (n.0 ≡ (end_after n ts).0 → ⊥) → IsOther graph (last_seg (first_seg_of ts) ts) (end_after n ts) o
    → (end_after n ts).0 < length graph.kinds → IsOff ts o
next_off graph fit n ts o some steps once apart other node q i e =
    other.other
    (sym e
    ∙ ap (λ (s : SegId). s.0) (last_at graph n ts (first_seg_of ts) steps apart (λ (m, j, same). last_outer graph fit n ts steps once m j same) q i (subst (λ k. IsEndOf graph (record { 0 = k }) (end_after n ts).0) (sym e) (ends_round graph fit (end_after n ts).0 node o other.there))))

-- ---- from a corner on

-- where steps and those behind them come to: to a corner, or they are so many
pub record IsGrown (graph : GraphParts) (corners : List Bool) (n : NodeId) (many : ℕ) (ts : List ChainStep) : Type 0 where
  pub steps : AreSteps graph n ts
  pub once : AreOnce ts
  pub inner : (m : NodeId) → In m (inner_nodes ts) → is_corner corners m ≡ false
  pub end : (is_corner corners (end_after n ts) ≡ true) ⊎ (length ts ≡ many)

-- where a segment leads from one of its ends
pub far_leads : (graph : GraphParts) (s : SegId) (n : NodeId) → IsEndOf graph s n.0 → LeadsTo graph n (record { seg = s; to = far_end graph s n })
far_leads graph s n end_here = by_low (cases_eq (ends_of graph s).0.0 n.0) end_here
  where
    node : ℕ → NodeId
    node k = record { 0 = k }

    by_low : ((ends_of graph s).0.0 ≡ n.0) ⊎ ((ends_of graph s).0.0 ≡ n.0 → ⊥) → IsEndOf graph s n.0 → LeadsTo graph n (record { seg = s; to = far_end graph s n })
    by_low (inl low) i =
        let far : far_end graph s n ≡ (ends_of graph s).1 = ap (λ b. cond b (ends_of graph s).1 (ends_of graph s).0) (eq-eqb (ends_of graph s).0.0 n.0 low) in
        inl (ap (λ (m : NodeId). (let p : NodeId × NodeId = (m, (ends_of graph s).1) in p)) (ap node low) ∙ ap (λ (m : NodeId). (let p : NodeId × NodeId = (n, m) in p)) (sym far))
    by_low (inr other) (inl low) = absurd (other low)
    by_low (inr other) (inr up) =
        let far : far_end graph s n ≡ (ends_of graph s).0 = ap (λ b. cond b (ends_of graph s).1 (ends_of graph s).0) (ne_eqb (ends_of graph s).0.0 n.0 other) in
        inr (ap (λ (m : NodeId). (let p : NodeId × NodeId = ((ends_of graph s).0, m) in p)) (ap node up) ∙ ap (λ (m : NodeId). (let p : NodeId × NodeId = (m, n) in p)) (sym far))

module _ (graph : GraphParts) (fit : IsConsistent graph) (corners : List Bool) (has : HasCorners graph corners) (n : NodeId) (corner : is_corner corners n ≡ true) where
  grow : (m : ℕ) (ts : List ChainStep) (x : NodeId) (s : SegId) → end_after n ts ≡ x → AreSteps graph n ts → AreOnce ts → ((k : NodeId) → In k (inner_nodes ts) → is_corner corners k ≡ false) → (0 < length ts → is_corner corners x ≡ false)
      → Follows graph ts s → s.0 < length graph.ends → IsEndOf graph s x.0 → IsOff ts s → IsGrown graph corners n (length ts + m) (ts ++ steps_from graph corners m x s)
  grow zero ts x s at steps once inner free follows below here off =
      subst (λ (vs : List ChainStep). IsGrown graph corners n (length ts + 0) vs) (sym (append-nil ts)) (record { steps = steps; once = once; inner = inner; end = inr (omega arith) })
  grow (suc m) ts x s at steps once inner free follows below here off = by_corner (is_corner corners z) refl (grow m on z (other_of (round_of graph z) s))
    where
      z : NodeId
      z = far_end graph s x

      u : ChainStep
      u = record { seg = s; to = z }

      leads : LeadsTo graph x u
      leads = far_leads graph s x here

      on : List ChainStep
      on = ts ++ u ∷ []

      steps_on : AreSteps graph n on
      steps_on = steps_push graph n ts u steps follows below (subst (λ (k : NodeId). LeadsTo graph k u) (sym at) leads)

      once_on : AreOnce on
      once_on = once_push ts u once off

      inner_on : (k : NodeId) → In k (inner_nodes on) → is_corner corners k ≡ false
      inner_on k i = elim (inner_push n ts u k i) [
        | inl j ↦ inner k j
        | inr there ↦ ap (is_corner corners) (there.1 ∙ at) ∙ free there.0
      ]

      at_on : end_after n on ≡ z
      at_on = end_push n ts u

      node : z.0 < length graph.kinds
      node = end_below graph fit s z.0 below (leads_to graph x u leads)

      many : length on ≡ length ts + 1
      many = length-append ts (u ∷ [])

      by_corner : (b : Bool) → is_corner corners z ≡ b
          → (end_after n on ≡ z → AreSteps graph n on → AreOnce on → ((k : NodeId) → In k (inner_nodes on) → is_corner corners k ≡ false) → (0 < length on → is_corner corners z ≡ false) → Follows graph on (other_of (round_of graph z) s) → (other_of (round_of graph z) s).0 < length graph.ends
          → IsEndOf graph (other_of (round_of graph z) s) z.0 → IsOff on (other_of (round_of graph z) s) → IsGrown graph corners n (length on + m) (on ++ steps_from graph corners m z (other_of (round_of graph z) s)))
          → IsGrown graph corners n (length ts + suc m) (ts ++ u ∷ unless_ended b (steps_from graph corners m z (other_of (round_of graph z) s)))
      by_corner true e later = record { steps = steps_on; once = once_on; inner = inner_on; end = inl (ap (is_corner corners) at_on ∙ e) }
      by_corner false e later =
          let other = other_there graph fit z s node (in_round graph fit s z.0 below node (leads_to graph x u leads)) (has z node e) in
          let last : last_seg (first_seg_of on) on ≡ s = last_push (first_seg_of on) ts u in
          let differ : n.0 ≡ (end_after n on).0 → ⊥ = λ same. true≢false (sym corner ∙ ap (λ k. get_or corners k false) (same ∙ ap (λ (k : NodeId). k.0) at_on) ∙ e) in
          let off_on : IsOff on (other_of (round_of graph z) s) =
          next_off graph fit n on (other_of (round_of graph z) s) (omega (arith, many)) steps_on once_on differ
          (subst (λ (k : NodeId). IsOther graph (last_seg (first_seg_of on) on) k (other_of (round_of graph z) s)) (sym at_on) (subst (λ (r : SegId). IsOther graph r z (other_of (round_of graph z) s)) (sym last) other))
          (subst (λ (k : NodeId). k.0 < length graph.kinds) (sym at_on) node) in
          subst (λ (vs : List ChainStep). IsGrown graph corners n (length ts + suc m) vs) (append_assoc ts (u ∷ []) (steps_from graph corners m z (other_of (round_of graph z) s)))
          (subst (λ k. IsGrown graph corners n k (on ++ steps_from graph corners m z (other_of (round_of graph z) s))) (omega (arith, many))
          (later at_on steps_on once_on inner_on (λ some. e) (follows_push graph ts u (other_of (round_of graph z) s) other.alone) (other_below other) (ends_round graph fit z.0 node (other_of (round_of graph z) s) other.there) off_on))
        where
          other_below : IsOther graph s z (other_of (round_of graph z) s) → (other_of (round_of graph z) s).0 < length graph.ends
          other_below o = all_in (λ (t : SegId). t.0 < length graph.ends) (round_of graph z) (other_of (round_of graph z) s) (λ k d h. round_below graph fit z.0 node k d h) o.there

  -- the way from a corner by a segment of its round
  pub way_is : (s : SegId) → n.0 < length graph.kinds → In s (round_of graph n) → s.0 < length graph.ends → IsWay graph corners n (way_from graph corners n s).steps
  way_is s here on below = record { some = some; steps = g.steps; once = g.once; from = corner; end = by_end g.end; inner = g.inner }
    where
      ts : List ChainStep
      ts = steps_from graph corners (length graph.ends) n s

      g : IsGrown graph corners n (length graph.ends) ts
      g =
          let whole : 0 + length graph.ends ≡ length graph.ends = omega arith in
          subst (λ k. IsGrown graph corners n k ts) whole
          (grow (length graph.ends) [] n s refl tt tt (λ k i. absurd i) (λ none. absurd (omega (arith, none))) tt below (ends_round graph fit n.0 here s on) (λ q i e. i))

      some : 0 < length ts
      some = by_count (length graph.ends) refl
        where
          by_count : (k : ℕ) → length graph.ends ≡ k → 0 < length (steps_from graph corners k n s)
          by_count zero e = absurd (omega (arith, e, below))
          by_count (suc k) e = omega arith

      z : NodeId
      z = end_after n ts

      by_end : (is_corner corners z ≡ true) ⊎ (length ts ≡ length graph.ends) → is_corner corners z ≡ true
      by_end (inl e) = e
      by_end (inr all) = by_corner (cases_Bool (is_corner corners z))
        where
          last : SegId
          last = last_seg (first_seg_of ts) ts

          at_end : (last.0 < length graph.ends) × IsEndOf graph last z.0
          at_end = last_end graph (first_seg_of ts) n ts g.steps some

          node : z.0 < length graph.kinds
          node = end_below graph fit last z.0 at_end.0 at_end.1

          by_corner : (is_corner corners z ≡ true) ⊎ (is_corner corners z ≡ false) → is_corner corners z ≡ true
          by_corner (inl e) = e
          by_corner (inr e) =
              let other = other_there graph fit z last node (in_round graph fit last z.0 at_end.0 node at_end.1) (has z node e) in
              let off = next_off graph fit n ts (other_of (round_of graph z) last) some g.steps g.once (λ same. true≢false (sym corner ∙ ap (λ k. get_or corners k false) same ∙ e)) other node in
              let u : ChainStep = record { seg = other_of (round_of graph z) last; to = far_end graph (other_of (round_of graph z) last) z } in
              absurd (too_many u other off)
            where
              many_once : (us : List ChainStep) → AreOnce us → ((t : ChainStep) → In t us → t.seg.0 < length graph.ends) → length graph.ends < length us → ⊥
              many_once us once all many = let few = few_once graph us once all in omega (arith, few, many)

              too_many : (u : ChainStep) → IsOther graph last z u.seg → IsOff ts u.seg → ⊥
              too_many u other off =
                  let more = once_push ts u g.once off in
                  let below_all = all_in (λ (t : SegId). t.0 < length graph.ends) (round_of graph z) u.seg (λ k d h. round_below graph fit z.0 node k d h) other.there in
                  many_once (ts ++ u ∷ []) more (λ t i. each t (in_append t ts (u ∷ []) i) below_all) (omega (arith, all, length-append ts (u ∷ [])))
                where
                  each : (t : ChainStep) → In t ts ⊎ In t (u ∷ []) → u.seg.0 < length graph.ends → t.seg.0 < length graph.ends
                  each t (inl i) h = (step_of graph n ts g.steps t i).segment
                  each t (inr (inl e)) h = subst (λ (p : ChainStep). p.seg.0 < length graph.ends) (sym e) h
                  each t (inr (inr none)) h = absurd none
