-- What a run adds to the weight of a drawing on which it is laid: its walks, the nodes between its ends, and the turns of
-- lines that go on from it at both ends.
use Rattle.std.proofs.Common.{◌≡◌, refl, sym, ◌∙◌, ap, ap₂, subst, ℕ, ◌+◌, ◌-◌, ◌*◌, ◌<◌, ◌≤◌, true, false, cond, eqb, ◌||◌, List, [], ◌∷◌, length, map, get_or, Option, Some, None, ◌⊎◌, inl, inr, arith, get_or-set_other}
use Rattle.line_chains.specs.Chains.{ends_of}
use Rattle.run_laying.proofs.RunFacts.{IsOff}
use Rattle.drawing_search.proofs.Common.{apart_in, apart_weight_by, board_under, cases_Bool, contains_in, end_after}
use Rattle.drawing_search.proofs.Common.{end_below, end_of, end_point, ends_round, eq-eqb, eqb-true, false_from}
use Rattle.drawing_search.proofs.Common.{first_point, first_seg_of, has_segment, inner_nodes, inner_of, is_standing}
use Rattle.drawing_search.proofs.Common.{keeps_lifted, keeps_standing, last_seg, last_seg_of, leads_to, node_weight_in}
use Rattle.drawing_search.proofs.Common.{nowhere, once_first, or_cases, or_left, or_right, pairs_at, point_of_node}
use Rattle.drawing_search.proofs.Common.{port_at_node, port_by, range_with_len, reverse_of, run_gain, same_seg}
use Rattle.drawing_search.proofs.Common.{same_walk, segment_weight, sketch_weight, stands_below, step_of, steps_gain}
use Rattle.drawing_search.proofs.Common.{sum_by, sum_by-cons, to_stands, true≢false, turn_back, turn_between, turn_by}
use Rattle.drawing_search.proofs.Common.{turn_if, turn_in, turn_over, turns_by, turns_from, turns_in, twice}
use Rattle.drawing_search.proofs.Common.{walk_weight_if, with_piece, with_pieces, AreApart, AreOnce, AreSteps, Chain}
use Rattle.drawing_search.proofs.Common.{ChainStep, Dir, GraphParts, GridPoint, In, IsClearFor, IsConsistent, IsEndOf}
use Rattle.drawing_search.proofs.Common.{IsInner, IsLegalSketch, IsRun, LeadsTo, MeetAlone, NodeId, PlainWalk, Scale}
use Rattle.drawing_search.proofs.Common.{SegId, Sketch}
use Rattle.drawing_search.proofs.FieldFacts.{pair_joined, IsJoined, of_two}
use Rattle.drawing_search.proofs.Growing.{grown, in_range, is_one_of, same_sum, sum_both, sum_grows, sum_map, AreDifferent}
use Rattle.drawing_search.proofs.StraightWays.{turn_same_back}
use Rattle.drawing_search.proofs.Takable.{inner_apart, from_map, in_mapped}

-- ---- which segments of a run end where

which_end : (graph : GraphParts) (n : NodeId) (t : ChainStep) → LeadsTo graph n t → (m : ℕ) → IsEndOf graph t.seg m → (m ≡ n.0) ⊎ (m ≡ t.to.0)
which_end graph n t (inl e) m (inl a) = inl (sym a ∙ ap (λ (p : NodeId × NodeId). p.0.0) e)
which_end graph n t (inl e) m (inr b) = inr (sym b ∙ ap (λ (p : NodeId × NodeId). p.1.0) e)
which_end graph n t (inr e) m (inl a) = inr (sym a ∙ ap (λ (p : NodeId × NodeId). p.0.0) e)
which_end graph n t (inr e) m (inr b) = inl (sym b ∙ ap (λ (p : NodeId × NodeId). p.1.0) e)

-- node m lies between the steps
abbrev pub IsBetweenSteps : List ChainStep → ℕ → Type 0
IsBetweenSteps ts m = (p : NodeId) × In p (inner_nodes ts) × (p.0 ≡ m)

touches : (graph : GraphParts) (n : NodeId) (ts : List ChainStep) → AreSteps graph n ts → (q : ChainStep) → In q ts → (m : ℕ) → IsEndOf graph q.seg m → (m ≡ n.0) ⊎ ((m ≡ (end_after n ts).0) ⊎ IsBetweenSteps ts m)
touches graph n [] steps q i m e = absurd i
touches graph n (t ∷ []) steps q (inr i) m e = absurd i
touches graph n (t ∷ []) steps q (inl same) m e = by_end (which_end graph n t steps.1 m (subst (λ (p : ChainStep). IsEndOf graph p.seg m) same e))
  where
    by_end : (m ≡ n.0) ⊎ (m ≡ t.to.0) → (m ≡ n.0) ⊎ ((m ≡ t.to.0) ⊎ IsBetweenSteps (t ∷ []) m)
    by_end (inl a) = inl a
    by_end (inr b) = inr (inl b)
touches graph n (t ∷ u ∷ us) steps q (inl same) m e = by_end (which_end graph n t steps.1 m (subst (λ (p : ChainStep). IsEndOf graph p.seg m) same e))
  where
    by_end : (m ≡ n.0) ⊎ (m ≡ t.to.0) → (m ≡ n.0) ⊎ ((m ≡ (end_after t.to (u ∷ us)).0) ⊎ IsBetweenSteps (t ∷ u ∷ us) m)
    by_end (inl a) = inl a
    by_end (inr b) = inr (inr (t.to, inl refl, sym b))
touches graph n (t ∷ u ∷ us) steps q (inr i) m e = later (touches graph t.to (u ∷ us) steps.3 q i m e)
  where
    later : (m ≡ t.to.0) ⊎ ((m ≡ (end_after t.to (u ∷ us)).0) ⊎ IsBetweenSteps (u ∷ us) m) → (m ≡ n.0) ⊎ ((m ≡ (end_after t.to (u ∷ us)).0) ⊎ IsBetweenSteps (t ∷ u ∷ us) m)
    later (inl a) = inr (inr (t.to, inl refl, sym a))
    later (inr (inl b)) = inr (inl b)
    later (inr (inr (p, k, f))) = inr (inr (p, inr k, f))

pub first_at : (graph : GraphParts) (n : NodeId) (ts : List ChainStep) → AreSteps graph n ts → (n.0 ≡ (end_after n ts).0 → ⊥) → (IsBetweenSteps ts n.0 → ⊥) → (q : ChainStep) → In q ts → IsEndOf graph q.seg n.0 → q.seg ≡ first_seg_of ts
first_at graph n [] steps apart off q i e = absurd i
first_at graph n (t ∷ []) steps apart off q (inl same) e = ap (λ (p : ChainStep). p.seg) same
first_at graph n (t ∷ []) steps apart off q (inr i) e = absurd i
first_at graph n (t ∷ u ∷ us) steps apart off q (inl same) e = ap (λ (p : ChainStep). p.seg) same
first_at graph n (t ∷ u ∷ us) steps apart off q (inr i) e = absurd (later (touches graph t.to (u ∷ us) steps.3 q i n.0 e))
  where
    later : (n.0 ≡ t.to.0) ⊎ ((n.0 ≡ (end_after t.to (u ∷ us)).0) ⊎ IsBetweenSteps (u ∷ us) n.0) → ⊥
    later (inl a) = off (t.to, inl refl, sym a)
    later (inr (inl b)) = apart b
    later (inr (inr (p, k, f))) = off (p, inr k, f)

pub last_at : (graph : GraphParts) (n : NodeId) (ts : List ChainStep) (s : SegId) → AreSteps graph n ts → (n.0 ≡ (end_after n ts).0 → ⊥) → (IsBetweenSteps ts (end_after n ts).0 → ⊥) → (q : ChainStep) → In q ts → IsEndOf graph q.seg (end_after n ts).0
    → q.seg ≡ last_seg s ts
last_at graph n [] s steps apart off q i e = absurd i
last_at graph n (t ∷ []) s steps apart off q (inl same) e = ap (λ (p : ChainStep). p.seg) same
last_at graph n (t ∷ []) s steps apart off q (inr i) e = absurd i
last_at graph n (t ∷ u ∷ us) s steps apart off q (inl same) e = absurd (by_end (which_end graph n t steps.1 (end_after t.to (u ∷ us)).0 (subst (λ (p : ChainStep). IsEndOf graph p.seg (end_after t.to (u ∷ us)).0) same e)))
  where
    by_end : ((end_after t.to (u ∷ us)).0 ≡ n.0) ⊎ ((end_after t.to (u ∷ us)).0 ≡ t.to.0) → ⊥
    by_end (inl a) = apart (sym a)
    by_end (inr b) = off (t.to, inl refl, sym b)
last_at graph n (t ∷ u ∷ us) s steps apart off q (inr i) e = last_at graph t.to (u ∷ us) t.seg steps.3 (λ b. off (t.to, inl refl, b)) (λ k. off (k.0, inr k.1, k.2)) q i e

-- where a step leads to
pub leads_where : (n : NodeId) (ts : List ChainStep) → (q : ChainStep) → In q ts → (q.to.0 ≡ (end_after n ts).0) ⊎ IsBetweenSteps ts q.to.0
leads_where n [] q i = absurd i
leads_where n (t ∷ []) q (inl same) = inl (ap (λ (p : ChainStep). p.to.0) same)
leads_where n (t ∷ []) q (inr i) = absurd i
leads_where n (t ∷ u ∷ us) q (inl same) = inr (t.to, inl refl, sym (ap (λ (p : ChainStep). p.to.0) same))
leads_where n (t ∷ u ∷ us) q (inr i) = later (leads_where t.to (u ∷ us) q i)
  where
    later : (q.to.0 ≡ (end_after t.to (u ∷ us)).0) ⊎ IsBetweenSteps (u ∷ us) q.to.0 → (q.to.0 ≡ (end_after t.to (u ∷ us)).0) ⊎ IsBetweenSteps (t ∷ u ∷ us) q.to.0
    later (inl a) = inl a
    later (inr (p, k, f)) = inr (p, inr k, f)

-- a node to which no step leads stays where it was
pub same_point : (graph : GraphParts) (n : NodeId) (ts : List ChainStep) (vs : List PlainWalk) (k : Sketch) (m : ℕ) → ((q : ChainStep) → In q ts → q.to.0 ≡ m → ⊥) → point_of_node (with_pieces graph n ts vs k) m ≡ point_of_node k m
same_point graph n [] vs k m off = refl
same_point graph n (t ∷ ts) [] k m off = refl
same_point graph n (t ∷ ts) (v ∷ vs) k m off =
    same_point graph t.to ts vs (with_piece graph n t v k) m (λ q i e. off q (inr i) e) ∙ get_or-set_other k.points t.to.0 m (end_point v) nowhere (λ e. off t (inl refl) (sym e))

turn_none : (p : Option Dir) → turn_over p None ≡ 0
turn_none None = refl
turn_none (Some d) = refl

-- a line turns as much either way
over_turned : (o : Option Dir) (d : Dir) → turn_over o (Some d) ≡ turn_over (Some d) o
over_turned None d = refl
over_turned (Some e) d = turn_back (reverse_of e) d ∙ sym (turn_same_back d (reverse_of e)) ∙ ap (turn_between (reverse_of d)) (twice e)

-- what is in lists of numbers
one_of : (xs : List ℕ) (x : ℕ) → is_one_of xs x ≡ true → In x xs
one_of [] x e = cc
one_of (y ∷ ys) x e = by_first (λ f. one_of ys x f) (or_cases (eqb x y) (is_one_of ys x) e)
  where
    by_first : (is_one_of ys x ≡ true → In x ys) → (eqb x y ≡ true) ⊎ (is_one_of ys x ≡ true) → (x ≡ y) ⊎ In x ys
    by_first rest (inl a) = inl (eqb-true x y a)
    by_first rest (inr b) = inr (rest b)

one_from : (xs : List ℕ) (x : ℕ) → In x xs → is_one_of xs x ≡ true
one_from [] x i = absurd i
one_from (y ∷ ys) x (inl e) = or_left (eqb x y) (is_one_of ys x) (eq-eqb x y e)
one_from (y ∷ ys) x (inr i) = or_right (eqb x y) (is_one_of ys x) (one_from ys x i)

none_of : (xs : List ℕ) (x : ℕ) → (In x xs → ⊥) → is_one_of xs x ≡ false
none_of xs x f = false_from (is_one_of xs x) (λ e. f (one_of xs x e))

mapped : {X : Type 0} (f : X → ℕ) (xs : List X) (n : ℕ) → In n (map f xs) → (x : X) × In x xs × (f x ≡ n)
mapped f xs n i = let q = from_map f xs n i in (q.0, q.1, sym q.2)

in_map : {X : Type 0} (f : X → ℕ) (xs : List X) (x : X) (n : ℕ) → In x xs → f x ≡ n → In n (map f xs)
in_map f xs x n i e = subst (λ m. In m (map f xs)) e (in_mapped f xs x i)

once_different : (ts : List ChainStep) → AreOnce ts → AreDifferent (map (λ (t : ChainStep). t.seg.0) ts)
once_different [] once = tt
once_different (t ∷ ts) once =
    (none_of (map (λ (u : ChainStep). u.seg.0) ts) t.seg.0 (λ i. let q = mapped (λ (u : ChainStep). u.seg.0) ts t.seg.0 i in once_first t ts once q.0 q.1 q.2), once_different ts once.1)

apart_different : (ns : List NodeId) → AreApart ns → AreDifferent (map (λ (m : NodeId). m.0) ns)
apart_different [] apart = tt
apart_different (n ∷ ns) apart =
    (none_of (map (λ (m : NodeId). m.0) ns) n.0 (λ i. let m = mapped (λ (p : NodeId). p.0) ns n.0 i in apart.0 m.0 (contains_in ns m.0 m.1) m.2), apart_different ns apart.1)

-- the first and the last segment of steps
first_on : (ts : List ChainStep) → 0 < length ts → (q : ChainStep) × In q ts × (q.seg.0 ≡ (first_seg_of ts).0)
first_on [] some = absurd (omega (arith, some))
first_on (t ∷ ts) some = (t, inl refl, refl)

last_on : (s : SegId) (ts : List ChainStep) → 0 < length ts → (q : ChainStep) × In q ts × (q.seg.0 ≡ (last_seg s ts).0)
last_on s [] some = absurd (omega (arith, some))
last_on s (t ∷ []) some = (t, inl refl, refl)
last_on s (t ∷ u ∷ us) some = let rest = last_on t.seg (u ∷ us) (omega arith) in (rest.0, inr rest.1, rest.2)

zeros : (ps : List (SegId × SegId)) → sum_by (λ (pair : SegId × SegId). 0) ps ≡ 0
zeros [] = refl
zeros (p ∷ ps) = let rest = zeros ps in let all = sum_by-cons (λ (pair : SegId × SegId). 0) p ps in omega (arith, rest, all)

-- ---- a run that is laid

module _ (graph : GraphParts) (fit : IsConsistent graph) (k : Sketch) (h : IsLegalSketch graph k) (c : Chain) (run : IsRun graph c) (clear : IsClearFor k c) (pieces : List PlainWalk) (each : length pieces ≡ length c.steps)
    (there : point_of_node (with_pieces graph c.from c.steps pieces k) (end_of c).0 ≡ point_of_node k (end_of c).0) (scale : Scale) (first : List GridPoint) where
  abbrev new : Sketch
  new = with_pieces graph c.from c.steps pieces k

  abbrev from : ℕ
  from = c.from.0

  abbrev end : ℕ
  end = (end_of c).0

  abbrev inner : List NodeId
  inner = inner_nodes c.steps

  -- ends stand, and the nodes between them didn't
  from_off : IsBetweenSteps c.steps from → ⊥
  from_off (p, i, e) = true≢false (sym clear.from ∙ ap (is_standing k) (sym e) ∙ clear.inner p i)

  end_off : IsBetweenSteps c.steps end → ⊥
  end_off (p, i, e) = true≢false (sym clear.end ∙ ap (is_standing k) (sym e) ∙ clear.inner p i)

  -- ---- turns

  same_turn : (n : ℕ) (pair : SegId × SegId) → IsOff c.steps pair.0 → IsOff c.steps pair.1 → turn_in graph new n pair ≡ turn_in graph k n pair
  same_turn n pair off other =
      ap₂ (λ (p q : Option Dir). turn_over p q) (ap (port_by (ends_of graph pair.0) n) (same_walk graph c.from c.steps pieces k pair.0 off)) (ap (port_by (ends_of graph pair.1) n) (same_walk graph c.from c.steps pieces k pair.1 other))

  -- a segment is on the run
  abbrev IsOnRun : SegId → Type 0
  IsOnRun s = (q : ChainStep) × In q c.steps × (q.seg.0 ≡ s.0)

  no_port : (n : ℕ) (s : SegId) → IsOnRun s → port_at_node graph (board_under k) n s ≡ None
  no_port n s (q, i, e) = ap (port_by (ends_of graph s) n) (ap (λ j. get_or k.walks j None) (sym e) ∙ clear.walks q i)

  no_turn_first : (n : ℕ) (pair : SegId × SegId) → IsOnRun pair.0 → turn_in graph k n pair ≡ 0
  no_turn_first n pair on = ap (λ (p : Option Dir). turn_over p (port_at_node graph (board_under k) n pair.1)) (no_port n pair.0 on)

  no_turn_second : (n : ℕ) (pair : SegId × SegId) → IsOnRun pair.1 → turn_in graph k n pair ≡ 0
  no_turn_second n pair on = ap (λ (p : Option Dir). turn_over (port_at_node graph (board_under k) n pair.0) p) (no_port n pair.1 on) ∙ turn_none (port_at_node graph (board_under k) n pair.0)

  -- where all segments are on the run, nothing turned
  no_turns : (n : ℕ) → ((pair : SegId × SegId) → In pair (pairs_at graph n) → IsOnRun pair.0) → turns_in graph k n ≡ 0
  no_turns n on = same_sum (turn_in graph k n) (λ pair. 0) (pairs_at graph n) (λ pair i. no_turn_first n pair (on pair i)) ∙ zeros (pairs_at graph n)

  -- a node at which only this segment of the run ends
  module _ (n : ℕ) (node : n < length graph.kinds) (s : SegId) (on : IsOnRun s) (only : (q : ChainStep) → In q c.steps → IsEndOf graph q.seg n → q.seg ≡ s) where
    is_off : (pair : SegId × SegId) (t : SegId) → In t (get_or graph.rounds n []) → (t.0 ≡ s.0 → ⊥) → IsOff c.steps t
    is_off pair t i differ q m same =
        let end_here : IsEndOf graph t n = ends_round graph fit n node t i in
        differ (sym same ∙ ap (λ (u : SegId). u.0) (only q m (subst (λ j. IsEndOf graph (record { 0 = j }) n) (sym same) end_here)))

    one_turn : (pair : SegId × SegId) → In pair (pairs_at graph n) → turn_in graph new n pair ≡ turn_in graph k n pair + turn_if graph new n s pair
    one_turn pair i = by_first (cases_Bool (eqb pair.0.0 s.0)) (cases_Bool (eqb pair.1.0 s.0))
      where
        joined : IsJoined graph n pair
        joined = pair_joined graph fit n node pair i

        counted : has_segment s pair ≡ true → turn_in graph k n pair ≡ 0 → turn_in graph new n pair ≡ turn_in graph k n pair + turn_if graph new n s pair
        counted e none = let all : turn_if graph new n s pair ≡ turn_in graph new n pair = ap (λ b. cond b (turn_in graph new n pair) 0) e in omega (arith, all, none)

        by_first : (eqb pair.0.0 s.0 ≡ true) ⊎ (eqb pair.0.0 s.0 ≡ false) → (eqb pair.1.0 s.0 ≡ true) ⊎ (eqb pair.1.0 s.0 ≡ false) → turn_in graph new n pair ≡ turn_in graph k n pair + turn_if graph new n s pair
        by_first (inl e) o = counted (or_left (eqb pair.0.0 s.0) (eqb pair.1.0 s.0) e) (no_turn_first n pair (on.0, on.1, on.2 ∙ sym (eqb-true pair.0.0 s.0 e)))
        by_first (inr f) (inl e) = counted (or_right (eqb pair.0.0 s.0) (eqb pair.1.0 s.0) e) (no_turn_second n pair (on.0, on.1, on.2 ∙ sym (eqb-true pair.1.0 s.0 e)))
        by_first (inr f) (inr g) =
            let none : turn_if graph new n s pair ≡ 0 = ap (λ b. cond b (turn_in graph new n pair) 0) (ap (λ b. b || eqb pair.1.0 s.0) f ∙ g) in
            let same : turn_in graph new n pair ≡ turn_in graph k n pair = same_turn n pair (is_off pair pair.0 joined.lesser (λ e. true≢false (sym (eq-eqb pair.0.0 s.0 e) ∙ f))) (is_off pair pair.1 joined.greater (λ e. true≢false (sym (eq-eqb pair.1.0 s.0 e) ∙ g))) in
            omega (arith, none, same)

    more_turns : turns_in graph new n ≡ turns_in graph k n + turns_from graph new n s
    more_turns = same_sum (turn_in graph new n) (λ (pair : SegId × SegId). turn_in graph k n pair + turn_if graph new n s pair) (pairs_at graph n) one_turn ∙ sum_both (turn_in graph k n) (turn_if graph new n s) (pairs_at graph n)

    -- by the port that the segment has there
    turn_by_port : (d : Dir) → port_at_node graph (board_under new) n s ≡ Some d → (pair : SegId × SegId) → In pair (pairs_at graph n) → turn_if graph new n s pair ≡ turn_by graph k n s d pair
    turn_by_port d port pair i = by_first (cases_Bool (eqb pair.0.0 s.0)) (cases_Bool (eqb pair.1.0 s.0))
      where
        joined : IsJoined graph n pair
        joined = pair_joined graph fit n node pair i

        other_port : (t : SegId) → In t (get_or graph.rounds n []) → (t.0 ≡ s.0 → ⊥) → port_at_node graph (board_under new) n t ≡ port_at_node graph (board_under k) n t
        other_port t m differ = ap (port_by (ends_of graph t) n) (same_walk graph c.from c.steps pieces k t (is_off pair t m differ))

        this_port : (t : SegId) → t.0 ≡ s.0 → port_at_node graph (board_under new) n t ≡ Some d
        this_port t e = ap (port_at_node graph (board_under new) n) (same_seg t s e) ∙ port

        by_first : (eqb pair.0.0 s.0 ≡ true) ⊎ (eqb pair.0.0 s.0 ≡ false) → (eqb pair.1.0 s.0 ≡ true) ⊎ (eqb pair.1.0 s.0 ≡ false) → turn_if graph new n s pair ≡ turn_by graph k n s d pair
        by_first (inl e) o =
            let one : pair.0.0 ≡ s.0 = eqb-true pair.0.0 s.0 e in
            let differ : pair.1.0 ≡ s.0 → ⊥ = λ same. absurd (omega (arith, joined.order, one, same)) in
            ap (λ b. cond (b || eqb pair.1.0 s.0) (turn_in graph new n pair) 0) e
            ∙ ap₂ (λ (p q : Option Dir). turn_over p q) (this_port pair.0 one) (other_port pair.1 joined.greater differ)
            ∙ sym (ap (λ b. cond b (turn_over (Some d) (port_at_node graph (board_under k) n pair.1)) (cond (eqb pair.1.0 s.0) (turn_over (Some d) (port_at_node graph (board_under k) n pair.0)) 0)) e)
        by_first (inr f) (inl e) =
            let one : pair.1.0 ≡ s.0 = eqb-true pair.1.0 s.0 e in
            let differ : pair.0.0 ≡ s.0 → ⊥ = λ same. absurd (omega (arith, joined.order, one, same)) in
            ap (λ b. cond b (turn_in graph new n pair) 0) (or_right (eqb pair.0.0 s.0) (eqb pair.1.0 s.0) e)
            ∙ ap₂ (λ (p q : Option Dir). turn_over p q) (other_port pair.0 joined.lesser differ) (this_port pair.1 one)
            ∙ over_turned (port_at_node graph (board_under k) n pair.0) d
            ∙ sym (ap₂ (λ a b. cond a (turn_over (Some d) (port_at_node graph (board_under k) n pair.1)) (cond b (turn_over (Some d) (port_at_node graph (board_under k) n pair.0)) 0)) f e)
        by_first (inr f) (inr g) =
            ap₂ (λ a b. cond (a || b) (turn_in graph new n pair) 0) f g
            ∙ sym (ap₂ (λ a b. cond a (turn_over (Some d) (port_at_node graph (board_under k) n pair.1)) (cond b (turn_over (Some d) (port_at_node graph (board_under k) n pair.0)) 0)) f g)

    turns_by_port : (d : Dir) → port_at_node graph (board_under new) n s ≡ Some d → turns_from graph new n s ≡ turns_by graph k n s d
    turns_by_port d port = same_sum (turn_if graph new n s) (turn_by graph k n s d) (pairs_at graph n) (λ pair i. turn_by_port d port pair i)

  -- where no segment of the run ends, nothing turns that didn't
  still_turns : (n : ℕ) → n < length graph.kinds → ((q : ChainStep) → In q c.steps → IsEndOf graph q.seg n → ⊥) → turns_in graph new n ≡ turns_in graph k n
  still_turns n node off = same_sum (turn_in graph new n) (turn_in graph k n) (pairs_at graph n) (λ pair i. let joined = pair_joined graph fit n node pair i in same_turn n pair (off_run pair.0 joined.lesser) (off_run pair.1 joined.greater))
    where
      off_run : (t : SegId) → In t (get_or graph.rounds n []) → IsOff c.steps t
      off_run t i q m same = off q m (subst (λ j. IsEndOf graph (record { 0 = j }) n) (sym same) (ends_round graph fit n node t i))

  -- between two steps all turns are those from the first one, and there were none
  module _ (t u : ChainStep) (on : In t c.steps) (next : In u c.steps) (alone : MeetAlone graph t.seg t.to u.seg) (node : t.to.0 < length graph.kinds) where
    first_has : (pair : SegId × SegId) → In pair (pairs_at graph t.to.0) → has_segment t.seg pair ≡ true
    first_has pair i = by_first (of_two graph t.seg t.to u.seg alone pair.0 joined.lesser) (of_two graph t.seg t.to u.seg alone pair.1 joined.greater)
      where
        joined : IsJoined graph t.to.0 pair
        joined = pair_joined graph fit t.to.0 node pair i

        by_first : (pair.0 ≡ t.seg) ⊎ (pair.0 ≡ u.seg) → (pair.1 ≡ t.seg) ⊎ (pair.1 ≡ u.seg) → has_segment t.seg pair ≡ true
        by_first (inl e) o = or_left (eqb pair.0.0 t.seg.0) (eqb pair.1.0 t.seg.0) (eq-eqb pair.0.0 t.seg.0 (ap (λ (s : SegId). s.0) e))
        by_first (inr f) (inl e) = or_right (eqb pair.0.0 t.seg.0) (eqb pair.1.0 t.seg.0) (eq-eqb pair.1.0 t.seg.0 (ap (λ (s : SegId). s.0) e))
        by_first (inr f) (inr g) =
            let low : pair.0.0 ≡ u.seg.0 = ap (λ (s : SegId). s.0) f in
            let up : pair.1.0 ≡ u.seg.0 = ap (λ (s : SegId). s.0) g in
            absurd (omega (arith, joined.order, low, up))

    all_from_first : turns_in graph new t.to.0 ≡ turns_from graph new t.to.0 t.seg
    all_from_first =
        same_sum (turn_in graph new t.to.0) (turn_if graph new t.to.0 t.seg) (pairs_at graph t.to.0) (λ pair i. ap (λ b. cond b (turn_in graph new t.to.0 pair) 0) (sym (first_has pair i)))

    none_before : turns_in graph k t.to.0 ≡ 0
    none_before = no_turns t.to.0 (λ pair i. by_first pair.0 (of_two graph t.seg t.to u.seg alone pair.0 (pair_joined graph fit t.to.0 node pair i).lesser))
      where
        by_first : (s : SegId) → (s ≡ t.seg) ⊎ (s ≡ u.seg) → IsOnRun s
        by_first s (inl e) = (t, on, ap (λ (r : SegId). r.0) (sym e))
        by_first s (inr e) = (u, next, ap (λ (r : SegId). r.0) (sym e))

  -- what a node weighs more
  abbrev more : ℕ → ℕ
  more n = node_weight_in scale graph first new n - node_weight_in scale graph first k n

  to_below : (q : ChainStep) → In q c.steps → q.to.0 < length graph.kinds
  to_below q i = let on = step_of graph c.from c.steps run.steps q i in end_below graph fit q.seg q.to.0 on.segment (leads_to graph on.from q on.leads)

  -- at an end of the run, where the segment of a step ends alone
  at_end : (n : ℕ) → n < length graph.kinds → is_standing k n ≡ true → is_standing new n ≡ true → point_of_node new n ≡ point_of_node k n → (s : SegId) → IsOnRun s → ((q : ChainStep) → In q c.steps → IsEndOf graph q.seg n → q.seg ≡ s)
      → node_weight_in scale graph first new n ≡ node_weight_in scale graph first k n + scale.overs * turns_from graph new n s
  at_end n node stood stands same s on only =
      let turns = ap (λ m. scale.overs * m) (more_turns n node s on only) in
      let apart : cond (is_standing new n) (apart_in scale first new n) 0 ≡ cond (is_standing k n) (apart_in scale first k n) 0 =
      ap (λ b. cond b (apart_in scale first new n) 0) stands ∙ ap (λ (p : GridPoint). apart_weight_by scale n (first_point first n) p) same ∙ sym (ap (λ b. cond b (apart_in scale first k n) 0) stood) in
      omega (arith, turns, apart)

  -- between two steps
  at_inner : (t u : ChainStep) → In t c.steps → In u c.steps → MeetAlone graph t.seg t.to u.seg → is_standing k t.to.0 ≡ false → more t.to.0 ≡ scale.overs * turns_from graph new t.to.0 t.seg + apart_in scale first new t.to.0
  at_inner t u on next alone lifted =
      let node = to_below t on in
      let turns = ap (λ m. scale.overs * m) (all_from_first t u on next alone node) in
      let none = ap (λ m. scale.overs * m) (none_before t u on next alone node) in
      let now = ap (λ b. cond b (apart_in scale first new t.to.0) 0) (to_stands graph c.from c.steps pieces k each t on (omega (arith, node, h.stand_each))) in
      let before = ap (λ b. cond b (apart_in scale first k t.to.0) 0) lifted in
      omega (arith, turns, none, now, before)

  -- ---- all steps

  on_steps : (n : NodeId) (ts : List ChainStep) → AreSteps graph n ts → ((q : ChainStep) → In q ts → In q c.steps) → ((m : NodeId) → In m (inner_nodes ts) → is_standing k m.0 ≡ false)
      → steps_gain scale graph first new ts ≡ sum_by (λ (t : ChainStep). segment_weight scale new t.seg) ts + sum_by (λ (m : NodeId). more m.0) (inner_nodes ts)
  on_steps n [] steps on lifted = refl
  on_steps n (t ∷ []) steps on lifted = let one = sum_by-cons (λ (s : ChainStep). segment_weight scale new s.seg) t [] in omega (arith, one)
  on_steps n (t ∷ u ∷ us) steps on lifted =
      let rest = on_steps t.to (u ∷ us) steps.3 (λ q i. on q (inr i)) (λ m i. lifted m (inr i)) in
      let here = at_inner t u (on t (inl refl)) (on u (inr (inl refl))) steps.2 (lifted t.to (inl refl)) in
      let walks = sum_by-cons (λ (s : ChainStep). segment_weight scale new s.seg) t (u ∷ us) in
      let nodes = sum_by-cons (λ (m : NodeId). more m.0) t.to (inner_nodes (u ∷ us)) in
      omega (arith, rest, here, walks, nodes)

  -- ---- all segments

  abbrev weight_of : Sketch → ℕ → ℕ
  weight_of j s = segment_weight scale j (record { 0 = s })

  abbrev segments : List ℕ
  segments = map (λ (t : ChainStep). t.seg.0) c.steps

  each_segment : (s : ℕ) → weight_of new s ≡ grown (weight_of k) (weight_of new) segments s
  each_segment s = by_test (cases_Bool (is_one_of segments s))
    where
      by_test : (is_one_of segments s ≡ true) ⊎ (is_one_of segments s ≡ false) → weight_of new s ≡ grown (weight_of k) (weight_of new) segments s
      by_test (inl e) =
          let q = mapped (λ (t : ChainStep). t.seg.0) c.steps s (one_of segments s e) in
          let none : weight_of k s ≡ 0 = ap (walk_weight_if scale) (ap (λ j. get_or k.walks j None) (sym q.2) ∙ clear.walks q.0 q.1) in
          let all : cond (is_one_of segments s) (weight_of new s) 0 ≡ weight_of new s = ap (λ b. cond b (weight_of new s) 0) e in
          omega (arith, none, all)
      by_test (inr f) =
          let same : weight_of new s ≡ weight_of k s =
          ap (walk_weight_if scale) (same_walk graph c.from c.steps pieces k (record { 0 = s }) (λ q i e. true≢false (sym (one_from segments s (in_map (λ (t : ChainStep). t.seg.0) c.steps q s i e)) ∙ f))) in
          let none : cond (is_one_of segments s) (weight_of new s) 0 ≡ 0 = ap (λ b. cond b (weight_of new s) 0) f in
          omega (arith, same, none)

  all_segments : sum_by (weight_of new) (range_with_len 0 (length graph.ends)) ≡ sum_by (weight_of k) (range_with_len 0 (length graph.ends)) + sum_by (λ (t : ChainStep). segment_weight scale new t.seg) c.steps
  all_segments =
      let grows = same_sum (weight_of new) (grown (weight_of k) (weight_of new) segments) (range_with_len 0 (length graph.ends)) (λ s i. each_segment s) in
      let sums = sum_grows (weight_of k) (weight_of new) (length graph.ends) segments (once_different c.steps run.once)
      (λ s i. let q = mapped (λ (t : ChainStep). t.seg.0) c.steps s i in subst (λ j. j < length graph.ends) q.2 (step_of graph c.from c.steps run.steps q.0 q.1).segment) in
      let steps = sum_map (weight_of new) (λ (t : ChainStep). t.seg.0) c.steps in
      omega (arith, grows, sums, steps)

  -- ---- all nodes

  abbrev nodes : List ℕ
  nodes = from ∷ end ∷ map (λ (m : NodeId). m.0) inner

  -- no step leads to a node that is neither the end nor between steps
  no_step : (n : ℕ) → (n ≡ end → ⊥) → (IsBetweenSteps c.steps n → ⊥) → (q : ChainStep) → In q c.steps → q.to.0 ≡ n → ⊥
  no_step n other off q i e = elim (leads_where c.from c.steps q i) [ inl a ↦ other (sym e ∙ a) | inr b ↦ off (b.0, b.1, b.2 ∙ e) ]

  from_more : node_weight_in scale graph first new from ≡ node_weight_in scale graph first k from + scale.overs * turns_from graph new from (first_seg_of c.steps)
  from_more =
      at_end from (stands_below graph k h from clear.from) clear.from (keeps_standing graph c.from c.steps pieces k from clear.from) (same_point graph c.from c.steps pieces k from (no_step from run.apart from_off)) (first_seg_of c.steps) (first_on c.steps run.some)
      (λ q i e. first_at graph c.from c.steps run.steps run.apart from_off q i e)

  end_more : node_weight_in scale graph first new end ≡ node_weight_in scale graph first k end + scale.overs * turns_from graph new end (last_seg_of c)
  end_more =
      at_end end (stands_below graph k h end clear.end) clear.end (keeps_standing graph c.from c.steps pieces k end clear.end) there (last_seg_of c) (last_on (first_seg_of c.steps) c.steps run.some)
      (λ q i e. last_at graph c.from c.steps (first_seg_of c.steps) run.steps run.apart end_off q i e)

  -- by the ports of its first and its last segment there
  pub from_turns : (d : Dir) → port_at_node graph (board_under (with_pieces graph c.from c.steps pieces k)) c.from.0 (first_seg_of c.steps) ≡ Some d
      → turns_from graph (with_pieces graph c.from c.steps pieces k) c.from.0 (first_seg_of c.steps) ≡ turns_by graph k c.from.0 (first_seg_of c.steps) d
  from_turns d port =
      turns_by_port from (stands_below graph k h from clear.from) (first_seg_of c.steps) (first_on c.steps run.some) (λ q i e. first_at graph c.from c.steps run.steps run.apart from_off q i e) d port

  pub end_turns : (d : Dir) → port_at_node graph (board_under (with_pieces graph c.from c.steps pieces k)) (end_of c).0 (last_seg_of c) ≡ Some d
      → turns_from graph (with_pieces graph c.from c.steps pieces k) (end_of c).0 (last_seg_of c) ≡ turns_by graph k (end_of c).0 (last_seg_of c) d
  end_turns d port =
      turns_by_port end (stands_below graph k h end clear.end) (last_seg_of c) (last_on (first_seg_of c.steps) c.steps run.some)
      (λ q i e. last_at graph c.from c.steps (first_seg_of c.steps) run.steps run.apart end_off q i e) d port

  inner_none : (m : NodeId) → In m inner → node_weight_in scale graph first k m.0 ≡ 0
  inner_none m i =
      let at = inner_of graph fit c.from c.steps run.steps m i in
      let none = ap (λ n. scale.overs * n) (none_at at) in
      let before = ap (λ b. cond b (apart_in scale first k m.0) 0) (clear.inner m i) in
      omega (arith, none, before)
    where
      none_at : IsInner graph c.steps m → turns_in graph k m.0 ≡ 0
      none_at at = no_turns m.0 (λ pair j. by_first pair.0 (of_two graph at.before.seg m at.after.seg at.alone pair.0 (pair_joined graph fit m.0 at.node pair j).lesser))
        where
          by_first : (s : SegId) → (s ≡ at.before.seg) ⊎ (s ≡ at.after.seg) → IsOnRun s
          by_first s (inl e) = (at.before, at.on_before, ap (λ (r : SegId). r.0) (sym e))
          by_first s (inr e) = (at.after, at.on_after, ap (λ (r : SegId). r.0) (sym e))

  no_less : (n : ℕ) → In n nodes → node_weight_in scale graph first k n ≤ node_weight_in scale graph first new n
  no_less n (inl e) = subst (λ j. node_weight_in scale graph first k j ≤ node_weight_in scale graph first new j) (sym e) (omega (arith, from_more))
  no_less n (inr (inl e)) = subst (λ j. node_weight_in scale graph first k j ≤ node_weight_in scale graph first new j) (sym e) (omega (arith, end_more))
  no_less n (inr (inr i)) =
      let m = mapped (λ (p : NodeId). p.0) inner n i in
      subst (λ j. node_weight_in scale graph first k j ≤ node_weight_in scale graph first new j) m.2 (omega (arith, inner_none m.0 m.1))

  each_node : (n : ℕ) → n < length graph.kinds → node_weight_in scale graph first new n ≡ grown (node_weight_in scale graph first k) more nodes n
  each_node n node = by_test (cases_Bool (is_one_of nodes n))
    where
      untouched : is_one_of nodes n ≡ false → (n ≡ from) ⊎ ((n ≡ end) ⊎ IsBetweenSteps c.steps n) → ⊥
      untouched f (inl e) = true≢false (sym (one_from nodes n (inl e)) ∙ f)
      untouched f (inr (inl e)) = true≢false (sym (one_from nodes n (inr (inl e))) ∙ f)
      untouched f (inr (inr b)) = true≢false (sym (one_from nodes n (inr (inr (in_map (λ (p : NodeId). p.0) inner b.0 n b.1 b.2)))) ∙ f)

      no_end : is_one_of nodes n ≡ false → (q : ChainStep) → In q c.steps → q.to.0 ≡ n → ⊥
      no_end f = no_step n (λ a. untouched f (inr (inl a))) (λ b. untouched f (inr (inr b)))

      by_test : (is_one_of nodes n ≡ true) ⊎ (is_one_of nodes n ≡ false) → node_weight_in scale graph first new n ≡ grown (node_weight_in scale graph first k) more nodes n
      by_test (inl e) =
          let less = no_less n (one_of nodes n e) in
          let all : cond (is_one_of nodes n) (more n) 0 ≡ more n = ap (λ b. cond b (more n) 0) e in
          omega (arith, less, all)
      by_test (inr f) =
          let turns = ap (λ m. scale.overs * m) (still_turns n node (λ q i e. untouched f (touches graph c.from c.steps run.steps q i n e))) in
          let apart : cond (is_standing new n) (apart_in scale first new n) 0 ≡ cond (is_standing k n) (apart_in scale first k n) 0 =
          ap (λ b. cond b (apart_in scale first new n) 0) (keeps_lifted graph c.from c.steps pieces k n (no_end f))
          ∙ ap (λ (p : GridPoint). cond (is_standing k n) (apart_weight_by scale n (first_point first n) p) 0) (same_point graph c.from c.steps pieces k n (no_end f)) in
          let none : cond (is_one_of nodes n) (more n) 0 ≡ 0 = ap (λ b. cond b (more n) 0) f in
          omega (arith, turns, apart, none)

  different_nodes : AreDifferent nodes
  different_nodes =
      (none_of (end ∷ map (λ (m : NodeId). m.0) inner) from from_none, (none_of (map (λ (m : NodeId). m.0) inner) end end_none, apart_different inner (inner_apart graph fit c.from c.steps run.steps run.once)))
    where
      from_none : In from (end ∷ map (λ (m : NodeId). m.0) inner) → ⊥
      from_none (inl e) = run.apart e
      from_none (inr i) = from_off (mapped (λ (p : NodeId). p.0) inner from i)

      end_none : In end (map (λ (m : NodeId). m.0) inner) → ⊥
      end_none i = end_off (mapped (λ (p : NodeId). p.0) inner end i)

  all_nodes : sum_by (node_weight_in scale graph first new) (range_with_len 0 (length graph.kinds))
      ≡ sum_by (node_weight_in scale graph first k) (range_with_len 0 (length graph.kinds)) + (more from + (more end + sum_by (λ (m : NodeId). more m.0) inner))
  all_nodes =
      let grows = same_sum (node_weight_in scale graph first new) (grown (node_weight_in scale graph first k) more nodes) (range_with_len 0 (length graph.kinds)) (λ n i. each_node n (omega (arith, in_range 0 (length graph.kinds) n i))) in
      let sums = sum_grows (node_weight_in scale graph first k) more (length graph.kinds) nodes different_nodes below in
      let one = sum_by-cons more from (end ∷ map (λ (m : NodeId). m.0) inner) in
      let two = sum_by-cons more end (map (λ (m : NodeId). m.0) inner) in
      let rest = sum_map more (λ (m : NodeId). m.0) inner in
      omega (arith, grows, sums, one, two, rest)
    where
      below : (n : ℕ) → In n nodes → n < length graph.kinds
      below n (inl e) = subst (λ j. j < length graph.kinds) (sym e) (stands_below graph k h from clear.from)
      below n (inr (inl e)) = subst (λ j. j < length graph.kinds) (sym e) (stands_below graph k h end clear.end)
      below n (inr (inr i)) = let m = mapped (λ (p : NodeId). p.0) inner n i in subst (λ j. j < length graph.kinds) m.2 (inner_of graph fit c.from c.steps run.steps m.0 m.1).node

  -- a drawing on which a run is laid weighs more by what that adds
  pub run_gained : sketch_weight scale graph first (with_pieces graph c.from c.steps pieces k) ≡ sketch_weight scale graph first k + run_gain scale graph first (with_pieces graph c.from c.steps pieces k) c
  run_gained =
      let steps = on_steps c.from c.steps run.steps (λ q i. i) clear.inner in
      let least_from : node_weight_in scale graph first k from ≤ node_weight_in scale graph first new from = omega (arith, from_more) in
      let least_end : node_weight_in scale graph first k end ≤ node_weight_in scale graph first new end = omega (arith, end_more) in
      omega (arith, all_segments, all_nodes, steps, from_more, end_more, least_from, least_end)
