-- A consistent graph: its rounds name segments of the graph, and what is found at its nodes fits it.
use Rattle.std.proofs.Common.{◌≡◌, ℕ, ◌+◌, ◌-◌, ◌<◌, ◌≤◌, ◌==◌, nat_lt, Bool, true, false, cond, List, [], ◌∷◌, ◌++◌, length, map, get_or, refl, sym, subst, arith, inl, inr, ◌⊎◌, ltb-true, eqb-true}
use Rattle.std.specs.List.{All, Contains, flat_map}
use Rattle.std.proofs.lemmas.List.Elements.{All-nil, All-cons, All-head, All-tail, All-append, All-contains}
use Rattle.std.proofs.lemmas.List.Sorted.{All-permutation, length_permutation}
use Rattle.map_base.specs.declared.ids.NodeId.{NodeId}
use Rattle.map_base.specs.declared.ids.SegId.{SegId}
use Rattle.map_base.specs.declared.ids.LineId.{LineId}
use Rattle.map_base.specs.declared.weights.Weights.{Weights}
use Rattle.graph_core.specs.Round.{ends_at, segments_from}
use Rattle.graph_core.specs.Consistent.{IsConsistent, IsRound, IsJoin}
use Rattle.graph_core.specs.declared.parts.Join.{Join}
use Rattle.graph_core.specs.declared.parts.GraphParts.{GraphParts}
use Rattle.order_terms.specs.declared.found.Way.{Way}
use Rattle.order_terms.specs.declared.found.Found.{Found}
use Rattle.order_terms.specs.declared.found.Kind.{Kind}
use Rattle.order_terms.specs.declared.found.Kind.TheVariants.{Side, Link, Apart}
use Rattle.order_model.specs.declared.term.Term.{Term}
use Rattle.order_model.specs.Problems.{IsOn}
use Rattle.order_terms.specs.Terms.{way, ways_from, if_weighed, found_together, together, parting, parted_by, found_by, found_among, found_at, is_lower_end, in_order, IsSegmentsOf}
use Rattle.std.proofs.lemmas.List.{length-map}
use Rattle.map_base.specs.declared.limit_fault.LimitFault.{LimitFault}
use Rattle.order_terms.specs.Limits.{IsAbove}
use Rattle.order_terms.proofs.Faults.{above_more, above_room}
use Rattle.order_terms.proofs.Sorting.{All-in_order, length-in_order}

-- Rounds.

-- a segment of a graph that has n
abbrev IsKnown : ℕ → SegId → Type 0
IsKnown n s = s.0 < n

known_from : (i n most : ℕ) (ends : List (NodeId × NodeId)) → i + length ends ≤ most → All (IsKnown most) (segments_from i n ends)
known_from i n most [] h = All-nil (IsKnown most)
known_from i n most (e ∷ es) h =
    let rest : All (IsKnown most) (segments_from (i + 1) n es) = known_from (i + 1) n most es (omega arith) in
    let here : SegId = record { 0 = i } in
    let below : i < most = omega arith in
    elim (ends_at n e) as (λ b. All (IsKnown most) (cond b (record { 0 = i } ∷ segments_from (i + 1) n es) (segments_from (i + 1) n es)))
    [ true ↦ All-cons (IsKnown most) here (segments_from (i + 1) n es) below rest | false ↦ rest ]

few_from : (i n : ℕ) (ends : List (NodeId × NodeId)) → length (segments_from i n ends) ≤ length ends
few_from i n [] = omega arith
few_from i n (e ∷ es) =
    elim (ends_at n e) as (λ b. length (cond b (record { 0 = i } ∷ segments_from (i + 1) n es) (segments_from (i + 1) n es)) ≤ length (e ∷ es))
    [ true ↦ omega (arith, few_from (i + 1) n es) | false ↦ omega (arith, few_from (i + 1) n es) ]

segments_of_round : (ends : List (NodeId × NodeId)) (n : ℕ) (round : List SegId) → length ends ≤ 20000 → IsRound ends n round → IsSegmentsOf ends round
segments_of_round ends n round few h = record {
  some = h.0;
  few = omega (arith, length_permutation _ _ h.1, few_from 0 n ends);
  known = All-permutation (IsKnown (length ends)) _ _ h.1 (known_from 0 n (length ends) ends (omega arith));
}

pub round_of_graph : (g : GraphParts) → IsConsistent g → (n : ℕ) → n < length g.kinds → IsSegmentsOf g.ends (get_or g.rounds n [])
round_of_graph g ok n below = segments_of_round g.ends n _ ok.few_segments (ok.rounds n (omega (arith, ok.round_each)))

pub joins_of_graph : (g : GraphParts) → IsConsistent g → (n : ℕ) → n < length g.kinds → All (IsJoin g.lines (get_or g.rounds n [])) (get_or g.joins n [])
joins_of_graph g ok n below = ok.joins n (omega (arith, ok.joins_each))

-- Ways: a line that goes on stands on both segments.

record IsWay (g : GraphParts) (e : SegId) (u : Way) : Type 0 where
  to_known : u.to.0 < length g.ends
  on_here : IsOn g.lines e u.line
  on_there : IsOn g.lines u.to u.line

on_same : (lines : List (List LineId)) (s t : SegId) (a : LineId) → s.0 ≡ t.0 → IsOn lines s a → IsOn lines t a
on_same lines s t a e h = let P : ℕ → Type 0 = λ n. Contains (get_or lines n []) a in subst P e h

way_good : (g : GraphParts) (round : List SegId) (e : SegId) (j : Join) → IsJoin g.lines round j → All (IsKnown (length g.ends)) round
    → (here there : Bool) → (j.e.0 == e.0) ≡ here → (j.f.0 == e.0) ≡ there
    → All (IsWay g e) (cond here (way round e j.line j.f ∷ []) (cond there (way round e j.line j.e ∷ []) []))
way_good g round e j ok known true there p q =
    let good : IsWay g e (way round e j.line j.f) = record {
      to_known = All-contains (IsKnown (length g.ends)) round j.f known ok.greater;
      on_here = on_same g.lines j.e e j.line (eqb-true _ _ p) ok.on_lesser;
      on_there = ok.on_greater;
    } in All-cons (IsWay g e) (way round e j.line j.f) [] good (All-nil (IsWay g e))
way_good g round e j ok known false true p q =
    let good : IsWay g e (way round e j.line j.e) = record {
      to_known = All-contains (IsKnown (length g.ends)) round j.e known ok.lesser;
      on_here = on_same g.lines j.f e j.line (eqb-true _ _ q) ok.on_greater;
      on_there = ok.on_lesser;
    } in All-cons (IsWay g e) (way round e j.line j.e) [] good (All-nil (IsWay g e))
way_good g round e j ok known false false p q = All-nil (IsWay g e)

ways_good : (g : GraphParts) (round : List SegId) (e : SegId) (joins : List Join) → All (IsJoin g.lines round) joins
    → All (IsKnown (length g.ends)) round → All (IsWay g e) (ways_from round joins e)
ways_good g round e [] ok known = All-nil (IsWay g e)
ways_good g round e (j ∷ joins) ok known =
    All-append (IsWay g e) _ _ (way_good g round e j (All-head (IsJoin g.lines round) j joins ok) known (j.e.0 == e.0) (j.f.0 == e.0) refl refl)
    (ways_good g round e joins (All-tail (IsJoin g.lines round) j joins ok) known)

-- What is found.

abbrev pub weight_for : Weights → Kind → ℕ
weight_for w Side = w.split
weight_for w Link = w.link
weight_for w Apart = w.sep

pub record IsBoth (g : GraphParts) (x : Found) : Type 0 where
  pub seg_below : x.seg.0 < x.to.0
  pub lesser_there : IsOn g.lines x.to x.lesser
  pub greater_there : IsOn g.lines x.to x.greater

abbrev pub FitsKind : GraphParts → Found → Kind → Type 0
FitsKind g x Side = Unit {0}
FitsKind g x Link = IsBoth g x
FitsKind g x Apart = IsBoth g x

pub record IsGood (g : GraphParts) (w : Weights) (x : Found) : Type 0 where
  pub seg_known : x.seg.0 < length g.ends
  pub to_known : x.to.0 < length g.ends
  pub below : x.lesser.0 < x.greater.0
  pub lesser_on : IsOn g.lines x.seg x.lesser
  pub greater_on : IsOn g.lines x.seg x.greater
  pub first_is : (x.first ≡ x.lesser) ⊎ (x.first ≡ x.greater)
  pub fits_kind : FitsKind g x x.kind
  pub weighed : 0 < weight_for w x.kind

weighed_good : (g : GraphParts) (w : Weights) (n : ℕ) (x : Found) → (0 < n → IsGood g w x) → All (IsGood g w) (if_weighed n x)
weighed_good g w n x h = by_test (nat_lt 0 n) refl
  where
    by_test : (b : Bool) → nat_lt 0 n ≡ b → All (IsGood g w) (cond b (x ∷ []) [])
    by_test true e = All-cons (IsGood g w) x [] (h (ltb-true 0 n e)) (All-nil (IsGood g w))
    by_test false e = All-nil (IsGood g w)

together_good : (g : GraphParts) (w : Weights) (e : SegId) (u v : Way) → e.0 < length g.ends → IsWay g e u → IsWay g e v
    → u.line.0 < v.line.0 → u.to.0 ≡ v.to.0 → All (IsGood g w) (together w e u v)
together_good g w e u v known a b below same = by_test (nat_lt e.0 u.to.0) refl
  where
    found : (k : Kind) → (0 < weight_for w k) → FitsKind g (found_together k e u v) k → IsGood g w (found_together k e u v)
    found k heavy fits = record {
      seg_known = known;
      to_known = a.to_known;
      below = below;
      lesser_on = a.on_here;
      greater_on = b.on_here;
      first_is = inl refl;
      fits_kind = fits;
      weighed = heavy;
    }

    both : (k : Kind) → e.0 < u.to.0 → IsBoth g (found_together k e u v)
    both k up = record { seg_below = up; lesser_there = a.on_there; greater_there = on_same g.lines v.to u.to v.line (sym same) b.on_there }

    by_test : (t : Bool) → nat_lt e.0 u.to.0 ≡ t
        → All (IsGood g w) (cond t (if_weighed w.link (found_together Link e u v) ++ if_weighed w.sep (found_together Apart e u v)) [])
    by_test true p =
        let up : e.0 < u.to.0 = ltb-true e.0 u.to.0 p in
        All-append (IsGood g w) (if_weighed w.link (found_together Link e u v)) (if_weighed w.sep (found_together Apart e u v))
        (weighed_good g w w.link (found_together Link e u v) (λ heavy. found Link heavy (both Link up)))
        (weighed_good g w w.sep (found_together Apart e u v) (λ heavy. found Apart heavy (both Apart up)))
    by_test false p = All-nil (IsGood g w)

first_good : (at_lower : Bool) (a b lesser greater : LineId) → (a ≡ lesser) ⊎ (a ≡ greater) → (b ≡ lesser) ⊎ (b ≡ greater)
    → (cond at_lower b a ≡ lesser) ⊎ (cond at_lower b a ≡ greater)
first_good true a b lesser greater p q = q
first_good false a b lesser greater p q = p

parted_good : (g : GraphParts) (w : Weights) (at_lower : Bool) (e : SegId) (u v : Way) → e.0 < length g.ends → IsWay g e u → IsWay g e v
    → u.line.0 < v.line.0 → 0 < w.split → IsGood g w (parted_by at_lower e u v)
parted_good g w at_lower e u v known a b below heavy =
    elim (nat_lt u.turn v.turn) as (λ t. IsGood g w (cond t (parting at_lower e u.line v.line u v) (parting at_lower e u.line v.line v u))) [
      | true ↦ record {
        seg_known = known;
        to_known = a.to_known;
        below = below;
        lesser_on = a.on_here;
        greater_on = b.on_here;
        first_is = first_good at_lower u.line v.line u.line v.line (inl refl) (inr refl);
        fits_kind = tt;
        weighed = heavy;
      }
      | false ↦ record {
        seg_known = known;
        to_known = b.to_known;
        below = below;
        lesser_on = a.on_here;
        greater_on = b.on_here;
        first_is = first_good at_lower v.line u.line u.line v.line (inr refl) (inl refl);
        fits_kind = tt;
        weighed = heavy;
      }
    ]

found_by_good : (g : GraphParts) (w : Weights) (at_lower : Bool) (e : SegId) (u v : Way) → e.0 < length g.ends → IsWay g e u → IsWay g e v
    → All (IsGood g w) (found_by w at_lower e u v)
found_by_good g w at_lower e u v known a b = by_tests (nat_lt u.line.0 v.line.0) (u.to.0 == v.to.0) refl refl
  where
    by_tests : (s t : Bool) → nat_lt u.line.0 v.line.0 ≡ s → (u.to.0 == v.to.0) ≡ t
        → All (IsGood g w) (cond s (cond t (together w e u v) (if_weighed w.split (parted_by at_lower e u v))) [])
    by_tests true true p q = together_good g w e u v known a b (ltb-true u.line.0 v.line.0 p) (eqb-true u.to.0 v.to.0 q)
    by_tests true false p q = weighed_good g w w.split (parted_by at_lower e u v) (parted_good g w at_lower e u v known a b (ltb-true u.line.0 v.line.0 p))
    by_tests false t p q = All-nil (IsGood g w)

found_with_good : (g : GraphParts) (w : Weights) (at_lower : Bool) (e : SegId) (u : Way) (vs : List Way) → e.0 < length g.ends → IsWay g e u → All (IsWay g e) vs
    → All (IsGood g w) (flat_map (found_by w at_lower e u) vs)
found_with_good g w at_lower e u [] known a bs = All-nil (IsGood g w)
found_with_good g w at_lower e u (v ∷ vs) known a bs =
    All-append (IsGood g w) _ _ (found_by_good g w at_lower e u v known a (All-head (IsWay g e) v vs bs)) (found_with_good g w at_lower e u vs known a (All-tail (IsWay g e) v vs bs))

found_among_good : (g : GraphParts) (w : Weights) (at_lower : Bool) (e : SegId) (us vs : List Way) → e.0 < length g.ends → All (IsWay g e) us → All (IsWay g e) vs
    → All (IsGood g w) (flat_map (λ u. flat_map (found_by w at_lower e u) vs) us)
found_among_good g w at_lower e [] vs known ups downs = All-nil (IsGood g w)
found_among_good g w at_lower e (u ∷ us) vs known ups downs =
    All-append (IsGood g w) _ _ (found_with_good g w at_lower e u vs known (All-head (IsWay g e) u us ups) downs) (found_among_good g w at_lower e us vs known (All-tail (IsWay g e) u us ups) downs)

found_round_good : (g : GraphParts) (w : Weights) (n : ℕ) (round all : List SegId) (joins : List Join) → All (IsJoin g.lines all) joins
    → All (IsKnown (length g.ends)) all → All (IsKnown (length g.ends)) round
    → All (IsGood g w) (flat_map (λ e. found_among w (is_lower_end g.ends n e) e (ways_from all joins e)) round)
found_round_good g w n [] all joins ok allknown known = All-nil (IsGood g w)
found_round_good g w n (e ∷ es) all joins ok allknown known =
    let ways : All (IsWay g e) (ways_from all joins e) = ways_good g all e joins ok allknown in
    All-append (IsGood g w) _ _
    (found_among_good g w (is_lower_end g.ends n e) e _ _ (All-head (IsKnown (length g.ends)) e es known) ways ways)
    (found_round_good g w n es all joins ok allknown (All-tail (IsKnown (length g.ends)) e es known))

pub found_at_good : (g : GraphParts) → IsConsistent g → (w : Weights) (n : ℕ) → n < length g.kinds → All (IsGood g w) (in_order (found_at w g n))
found_at_good g ok w n below =
    let round = round_of_graph g ok n below in
    All-in_order (IsGood g w) _ (found_round_good g w n _ _ _ (joins_of_graph g ok n below) round.known round.known)

-- what is above the room that is left is above the whole, once it is in order and made to terms
pub above_in_order : (f : Found → Term) (xs : List Found) (most old : ℕ) (e : LimitFault) → old ≤ most
    → IsAbove (most - old) (length xs) e → IsAbove most (old + length (map f (in_order xs))) e
above_in_order f xs most old e le h =
    above_more most _ _ e (omega (arith, length-map (in_order xs) f, length-in_order xs)) (above_room most old (length xs) e le h)
