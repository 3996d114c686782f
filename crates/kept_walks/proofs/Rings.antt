-- A way between corners that begins and ends at one node, where a way between fewer corners goes over this.
use Rattle.std.proofs.Common.{◌≡◌, refl, sym, ◌∙◌, ap, subst, ℕ, zero, suc, ◌+◌, ◌<◌, ◌≤◌, Bool, true, false, List, [], ◌∷◌, length, get_or, ◌⊎◌, inl, inr, arith}
use Rattle.std.proofs.lemmas.Bool.{cases_lt, true≢false}
use Rattle.map_base.specs.declared.ids.NodeId.{NodeId}
use Rattle.map_base.specs.declared.ids.SegId.{SegId}
use Rattle.graph_core.specs.declared.parts.GraphParts.{GraphParts}
use Rattle.graph_core.specs.Consistent.{IsConsistent}
use Rattle.line_chains.specs.declared.chain.ChainStep.{ChainStep}
use Rattle.line_chains.specs.Chains.{end_after, ends_of, is_corner, last_seg}
use Rattle.octi_grid.proofs.Members.{In}
use Rattle.segment_router.proofs.Places.{in_at}
use Rattle.run_laying.specs.Attempts.{inner_nodes}
use Rattle.run_laying.specs.Laying.{first_seg_of}
use Rattle.run_laying.specs.Runs.{AreOnce, AreSteps, LeadsTo, MeetAlone}
use Rattle.run_laying.specs.Sketches.{IsEndOf}
use Rattle.run_laying.proofs.Kept.{no_loop}
use Rattle.run_laying.proofs.RunFacts.{end_below, once_first, only_two}
use Rattle.drawing_search.proofs.LaidAll.{first_end, last_end}
use Rattle.kept_walks.proofs.Rounds.{alone_other, alone_turned}
use Rattle.kept_walks.proofs.Turned.{back, back_way, first_at_zero, leads_one, leads_same, next_at, to_back, AreNext}
use Rattle.kept_walks.proofs.Ways.{IsWay}

-- one corner is one of more
abbrev pub HasMoreCorners : List Bool → List Bool → Type 0
HasMoreCorners few more = (n : NodeId) → is_corner few n ≡ true → is_corner more n ≡ true

-- segments at two places of steps differ
pub once_at : (ts : List ChainStep) → AreOnce ts → (i j : ℕ) (d : ChainStep) → i < j → j < length ts → (get_or ts i d).seg.0 ≡ (get_or ts j d).seg.0 → ⊥
once_at [] once i j d less h e = absurd (omega arith)
once_at (t ∷ ts) once zero zero d less h e = absurd (omega (arith, less))
once_at (t ∷ ts) once zero (suc j) d less h e = once_first t ts once (get_or ts j d) (in_at ts j d (omega arith)) (sym e)
once_at (t ∷ ts) once (suc i) zero d less h e = absurd (omega (arith, less))
once_at (t ∷ ts) once (suc i) (suc j) d less h e = once_at ts once.1 i j d (omega (arith, less)) (omega arith) e

-- the last place of steps, and their end
end_place : (n : NodeId) (ts : List ChainStep) (i : ℕ) (d : ChainStep) → length ts ≡ i + 1 → end_after n ts ≡ (get_or ts i d).to
end_place n [] i d e = absurd (omega (arith, e))
end_place n (t ∷ []) zero d e = refl
end_place n (t ∷ []) (suc i) d e = absurd (omega (arith, e))
end_place n (t ∷ u ∷ us) zero d e = absurd (omega (arith, e))
end_place n (t ∷ u ∷ us) (suc i) d e = end_place t.to (u ∷ us) i d (omega (arith, e))

-- the last segment is a step's
last_step : (s : SegId) (us : List ChainStep) → 0 < length us → (q : ChainStep) × In q us × (q.seg ≡ last_seg s us)
last_step s [] some = absurd (omega (arith, some))
last_step s (t ∷ []) some = (t, inl refl, refl)
last_step s (t ∷ u ∷ us) some = let rest = last_step t.seg (u ∷ us) (omega arith) in (rest.0, inr rest.1, rest.2)

-- steps that begin and end with one segment are one step, which leads to another node
pub one_loop : (graph : GraphParts) → IsConsistent graph → (n : NodeId) (ts : List ChainStep) → AreSteps graph n ts → AreOnce ts → 0 < length ts → first_seg_of ts ≡ last_seg (first_seg_of ts) ts → n.0 ≡ (end_after n ts).0 → ⊥
one_loop graph fit n [] steps once some same ring = absurd (omega (arith, some))
one_loop graph fit n (t ∷ []) steps once some same ring = no_loop graph fit n t steps.0 steps.1 (sym ring)
one_loop graph fit n (t ∷ u ∷ us) steps once some same ring = let q = last_step t.seg (u ∷ us) (omega arith) in once_first t (u ∷ us) once q.0 q.1 (ap (λ (s : SegId). s.0) (q.2 ∙ sym same))

module _ (graph : GraphParts) (fit : IsConsistent graph) (few more : List Bool) (has : HasMoreCorners few more) (m : NodeId) (ds : List ChainStep) (w : IsWay graph few m ds) where
  -- steps over no corner that follow a way to its end go over its segments
  follows : (ts : List ChainStep) (x : NodeId) (k : ℕ) (d : ChainStep) → AreSteps graph x ts → ((y : NodeId) → In y (inner_nodes ts) → is_corner more y ≡ false) → k < length ds → LeadsTo graph x (get_or ds k d) → 0 < length ts → first_seg_of ts ≡ (get_or ds k d).seg
      → (q : ChainStep) → In q ts → (j : ℕ) × (k ≤ j) × (j < length ds) × ((get_or ds j d).seg ≡ q.seg)
  follows [] x k d steps inner below leads some same q i = absurd i
  follows (t ∷ ts) x k d steps inner below leads some same q (inl e) = (k, omega arith, below, sym same ∙ ap (λ (p : ChainStep). p.seg) (sym e))
  follows (t ∷ []) x k d steps inner below leads some same q (inr i) = absurd i
  follows (t ∷ u ∷ us) x k d steps inner below leads some same q (inr i) = by_place (cases_lt (k + 1) (length ds)) (λ h on go. follows (u ∷ us) t.to (k + 1) d steps.3 (λ y j. inner y (inr j)) h on (omega arith) go q i)
    where
      to : t.to ≡ (get_or ds k d).to
      to = leads_same graph x t (get_or ds k d) steps.1 leads same

      free : is_corner more t.to ≡ false
      free = inner t.to (inl refl)

      by_place : (k + 1 < length ds) ⊎ (length ds ≤ k + 1)
          → (k + 1 < length ds → LeadsTo graph t.to (get_or ds (k + 1) d) → u.seg ≡ (get_or ds (k + 1) d).seg → (j : ℕ) × (k + 1 ≤ j) × (j < length ds) × ((get_or ds j d).seg ≡ q.seg)) → (j : ℕ) × (k ≤ j) × (j < length ds) × ((get_or ds j d).seg ≡ q.seg)
      by_place (inl h) later =
          let a = next_at graph m ds w.steps k d h in
          let on : MeetAlone graph u.seg t.to t.seg = alone_turned graph t.to t.seg u.seg steps.2 in
          let one : MeetAlone graph (get_or ds (k + 1) d).seg t.to t.seg =
          subst (λ (s : SegId). MeetAlone graph (get_or ds (k + 1) d).seg t.to s) (sym same) (subst (λ (y : NodeId). MeetAlone graph (get_or ds (k + 1) d).seg y (get_or ds k d).seg) (sym to) (alone_turned graph (get_or ds k d).to (get_or ds k d).seg (get_or ds (k + 1) d).seg a.alone)) in
          let rest = later h (subst (λ (y : NodeId). LeadsTo graph y (get_or ds (k + 1) d)) (sym to) a.leads) (alone_other graph t.to u.seg (get_or ds (k + 1) d).seg t.seg on one) in
          (rest.0, omega (arith, rest.1), rest.2, rest.3)
      by_place (inr past) later =
          let end : is_corner more t.to ≡ true = ap (is_corner more) (to ∙ sym (end_place m ds k d (omega (arith, below, past)))) ∙ has (end_after m ds) w.end in
          absurd (true≢false (sym end ∙ free))

  -- a way from a node between its steps, by the segment that goes on there, doesn't come back there
  never_back : (n : NodeId) (ts : List ChainStep) → IsWay graph more n ts → (i : ℕ) (d : ChainStep) → i + 1 < length ds → n ≡ (get_or ds i d).to → first_seg_of ts ≡ (get_or ds (i + 1) d).seg → n.0 ≡ (end_after n ts).0 → ⊥
  never_back n ts v i d h at same ring = elim (only_two graph fit (get_or ds i d).seg (get_or ds (i + 1) d).seg n last alone node last_there.0 (subst (IsEndOf graph last) (sym ring) last_there.1)) [
    | inl e ↦ (let q = last_step (first_seg_of ts) ts v.some in
        let found = follows ts n (i + 1) d v.steps v.inner h (subst (λ (y : NodeId). LeadsTo graph y (get_or ds (i + 1) d)) (sym at) a.leads) v.some same q.0 q.1 in
        once_at ds w.once i found.0 d (omega (arith, found.1)) found.2 (ap (λ (s : SegId). s.0) (sym e ∙ sym q.2 ∙ sym found.3)))
    | inr e ↦ one_loop graph fit n ts v.steps v.once v.some (same ∙ sym e) ring
  ]
    where
      a : AreNext graph ds (get_or ds i d) (get_or ds (i + 1) d)
      a = next_at graph m ds w.steps i d h

      last : SegId
      last = last_seg (first_seg_of ts) ts

      last_there : (last.0 < length graph.ends) × IsEndOf graph last (end_after n ts).0
      last_there = last_end graph (first_seg_of ts) n ts v.steps v.some

      alone : MeetAlone graph (get_or ds i d).seg n (get_or ds (i + 1) d).seg
      alone = subst (λ (y : NodeId). MeetAlone graph (get_or ds i d).seg y (get_or ds (i + 1) d).seg) (sym at) a.alone

      node : n.0 < length graph.kinds
      node = end_below graph fit last n.0 last_there.0 (subst (IsEndOf graph last) (sym ring) last_there.1)

-- ---- a node between steps of a way between fewer corners is on no ring

inner_at : (ds : List ChainStep) (n : NodeId) (d : ChainStep) → In n (inner_nodes ds) → (i : ℕ) × (i + 1 < length ds) × (n ≡ (get_or ds i d).to)
inner_at [] n d i = absurd i
inner_at (t ∷ []) n d i = absurd i
inner_at (t ∷ u ∷ us) n d (inl e) = (0, omega arith, e)
inner_at (t ∷ u ∷ us) n d (inr i) = let rest = inner_at (u ∷ us) n d i in (suc rest.0, omega (arith, rest.1), rest.2)

turned_leads : (graph : GraphParts) (x : NodeId) (p q : ChainStep) → LeadsTo graph x p → q.seg ≡ p.seg → q.to ≡ x → LeadsTo graph p.to q
turned_leads graph x p q (inl e) s t = inr (ap (ends_of graph) s ∙ e ∙ ap (λ (y : NodeId). (let z : NodeId × NodeId = (y, p.to) in z)) (sym t))
turned_leads graph x p q (inr e) s t = inl (ap (ends_of graph) s ∙ e ∙ ap (λ (y : NodeId). (let z : NodeId × NodeId = (p.to, y) in z)) (sym t))

place_in : (xs : List ChainStep) (x d : ChainStep) → In x xs → (k : ℕ) × (k < length xs) × (get_or xs k d ≡ x)
place_in [] x d i = absurd i
place_in (y ∷ ys) x d (inl e) = (0, omega arith, sym e)
place_in (y ∷ ys) x d (inr i) = let rest = place_in ys x d i in (suc rest.0, omega (arith, rest.1), rest.2)

pub inner_ring : (graph : GraphParts) → IsConsistent graph → (few more : List Bool) → HasMoreCorners few more → (m : NodeId) (ds : List ChainStep) → IsWay graph few m ds → (n : NodeId) (ts : List ChainStep) → IsWay graph more n ts → In n (inner_nodes ds)
    → n.0 ≡ (end_after n ts).0 → ⊥
inner_ring graph fit few more has m ds w n ts v on ring = by_place (inner_at ds n none on)
  where
    none : ChainStep
    none = record { seg = first_seg_of ds; to = m }

    by_place : (i : ℕ) × (i + 1 < length ds) × (n ≡ (get_or ds i none).to) → ⊥
    by_place (i, h, at) = by_first (only_two graph fit p.seg q.seg n (first_seg_of ts) alone node first_there.0 first_there.1)
      where
        p : ChainStep
        p = get_or ds i none

        q : ChainStep
        q = get_or ds (i + 1) none

        first_there : ((first_seg_of ts).0 < length graph.ends) × IsEndOf graph (first_seg_of ts) n.0
        first_there = first_end graph n ts v.steps v.some

        node : n.0 < length graph.kinds
        node = end_below graph fit (first_seg_of ts) n.0 first_there.0 first_there.1

        alone : MeetAlone graph p.seg n q.seg
        alone = subst (λ (y : NodeId). MeetAlone graph p.seg y q.seg) (sym at) (next_at graph m ds w.steps i none h).alone

        by_first : (first_seg_of ts ≡ p.seg) ⊎ (first_seg_of ts ≡ q.seg) → ⊥
        by_first (inr e) = never_back graph fit few more has m ds w n ts v i none h at e ring
        by_first (inl e) = by_turned (to_back graph m ds w.steps p (in_at ds i none (omega (arith, h))))
          where
            by_turned : (r : ChainStep) × In r (back m ds) × (r.seg ≡ p.seg) × LeadsTo graph r.to p → ⊥
            by_turned (r, there, seg, leads) = by_number (place_in (back m ds) r none there)
              where
                turned : IsWay graph few (end_after m ds) (back m ds)
                turned = back_way graph few m ds w

                comes : LeadsTo graph n r
                comes = subst (λ (y : NodeId). LeadsTo graph y r) (sym at) (turned_leads graph r.to p r leads seg refl)

                by_number : (k : ℕ) × (k < length (back m ds)) × (get_or (back m ds) k none ≡ r) → ⊥
                by_number (zero, below, is) =
                    let begins = (first_at_zero graph (end_after m ds) (back m ds) turned.steps none turned.some).0 in
                    let same = leads_one graph (end_after m ds) n (get_or (back m ds) 0 none) r begins comes (ap (λ (x : ChainStep). x.seg) is) (ap (λ (x : ChainStep). x.to) is) in
                    true≢false (sym w.end ∙ ap (is_corner few) same ∙ w.inner n on)
                by_number (suc k, below, is) =
                    let one : get_or (back m ds) (k + 1) none ≡ get_or (back m ds) (suc k) none = ap (λ x. get_or (back m ds) x none) (omega arith) in
                    let a = next_at graph (end_after m ds) (back m ds) turned.steps k none (omega (arith, below)) in
                    let same = leads_one graph n (get_or (back m ds) k none).to r (get_or (back m ds) (k + 1) none) comes a.leads (ap (λ (x : ChainStep). x.seg) (sym (one ∙ is))) (ap (λ (x : ChainStep). x.to) (sym (one ∙ is))) in
                    never_back graph fit few more has (end_after m ds) (back m ds) turned n ts v k none (omega (arith, below)) same (e ∙ sym seg ∙ ap (λ (x : ChainStep). x.seg) (sym (one ∙ is))) ring
