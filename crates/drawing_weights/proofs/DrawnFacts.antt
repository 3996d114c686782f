-- What a legal drawing puts where.
use Rattle.std.proofs.Common.{◌≡◌, ◌∙◌, ℕ, zero, suc, ◌+◌, ◌<◌, Bool, true, false, cond, eqb, pos, List, [], ◌∷◌, length, get_or, slice_get, Option, Some, None, sym, ap, subst, refl, arith, ◌⊎◌, inl, inr}
use Rattle.std.specs.Prelude.{is_none, unwrap_or}
use Rattle.std.specs.List.{list_all, All, AllByRecursion}
use Rattle.std.proofs.lemmas.Bool.{and_parts, cases_Bool, eqb-true, or_cases, true≢false}
use Rattle.std.proofs.lemmas.List.Elements.{All-from_recursion}
use Rattle.std.proofs.lemmas.List.Sorted.{All-permutation}
use Rattle.std.proofs.lemmas.Option.{get_or_from_slice_get, slice_get-get_or}
use Rattle.map_base.specs.declared.ids.NodeId.{NodeId}
use Rattle.map_base.specs.declared.ids.SegId.{SegId}
use Rattle.graph_core.specs.declared.parts.GraphParts.{GraphParts}
use Rattle.graph_core.specs.Consistent.{IsConsistent}
use Rattle.graph_core.specs.Round.{ends_at, segments_at, segments_from}
use Rattle.octi_grid.specs.declared.drawing.DrawWhy.{DrawWhy}
use Rattle.octi_grid.specs.declared.dir.Dir.{Dir}
use Rattle.octi_grid.specs.declared.point.GridPoint.{GridPoint}
use Rattle.octi_grid.specs.Ways.{after, points_from, step_from}
use Rattle.octi_grid.specs.Walks.{PlainWalk, doubled_of, end_point, points_of}
use Rattle.octi_grid.specs.Legal.{all_apart, are_apart, are_distinct, is_even, legal, legs_of, puts_by, puts_of, why_illegal, Leg, Put}
use Rattle.octi_grid.specs.Taking.{point_in}
use Rattle.octi_grid.proofs.Members.{all_at, in_flat_map, In}
use Rattle.octi_grid.proofs.LegalLemmas.{point_in-found, point_in-none, some_or_none, EndsFit, EndsFit-from}
use Rattle.octi_grid.proofs.MeetsLemmas.{MeetsFit, MeetsFit-from}
use Rattle.octi_grid.proofs.PortsLemmas.{AreLegal, AreLegal-from}
use Rattle.drawing_weights.specs.Weights.{point_of}
use Rattle.drawing_weights.specs.Drawn.{IsDrawn}

-- the reasons are none
no_reason : (o : Option DrawWhy) → is_none o ≡ true → o ≡ None
no_reason None e = refl
no_reason (Some why) e = let no : false ≡ true = e in absurd cc

pub parts_of_legal : (graph : GraphParts) (walks : List PlainWalk) → legal graph walks ≡ true → AreLegal graph.rounds (legs_of graph.ends walks)
parts_of_legal graph walks e = AreLegal-from graph.rounds (legs_of graph.ends walks) (no_reason (why_illegal graph.rounds (legs_of graph.ends walks)) e)

-- the leg of a segment
pub leg_in : (es : List (NodeId × NodeId)) (ws : List PlainWalk) (i : ℕ) (e : NodeId × NodeId) (w : PlainWalk) → slice_get es i ≡ Some e → slice_get ws i ≡ Some w
    → In (let l : Leg = (e, w) in l) (legs_of es ws)
leg_in [] ws i e w h k = cc
leg_in (f ∷ es) [] i e w h k = cc
leg_in (f ∷ es) (v ∷ ws) zero e w h k = let one : f ≡ e = cc in let other : v ≡ w = cc in inl (ap (λ (x : NodeId × NodeId). let l : Leg = (x, w) in l) (sym one) ∙ ap (λ (x : PlainWalk). let l : Leg = (f, x) in l) (sym other))
leg_in (f ∷ es) (v ∷ ws) (suc i) e w h k = inr (leg_in es ws i e w h k)

-- legs by their places
pub leg_place : (es : List (NodeId × NodeId)) (ws : List PlainWalk) (i : ℕ) (e : NodeId × NodeId) (w : PlainWalk) → slice_get es i ≡ Some e → slice_get ws i ≡ Some w → slice_get (legs_of es ws) i ≡ Some (let l : Leg = (e, w) in l)
leg_place [] ws i e w h k = cc
leg_place (f ∷ es) [] i e w h k = cc
leg_place (f ∷ es) (v ∷ ws) zero e w h k = let one : f ≡ e = cc in let other : v ≡ w = cc in ap (λ (x : NodeId × NodeId). Some (let l : Leg = (x, v) in l)) one ∙ ap (λ (x : PlainWalk). Some (let l : Leg = (e, x) in l)) other
leg_place (f ∷ es) (v ∷ ws) (suc i) e w h k = leg_place es ws i e w h k

in_place : (legs : List Leg) (i : ℕ) (l : Leg) → slice_get legs i ≡ Some l → In l legs
in_place [] i l e = cc
in_place (m ∷ legs) zero l e = let same : l ≡ m = cc in inl same
in_place (m ∷ legs) (suc i) l e = inr (in_place legs i l e)

pub apart_between : (legs : List Leg) (i j : ℕ) (l m : Leg) → all_apart legs ≡ true → i < j → slice_get legs i ≡ Some l → slice_get legs j ≡ Some m → are_apart l m ≡ true
apart_between [] i j l m a h e f = cc
apart_between (k ∷ legs) i zero l m a h e f = absurd (omega (arith, h))
apart_between (k ∷ legs) zero (suc j) l m a h e f =
    let same : k ≡ l = cc in
    subst (λ (x : Leg). are_apart x m ≡ true) same (all_at (are_apart k) legs m (and_parts (list_all (are_apart k) legs) (all_apart legs) a).0 (in_place legs j m f))
apart_between (k ∷ legs) (suc i) (suc j) l m a h e f = apart_between legs i j l m (and_parts (list_all (are_apart k) legs) (all_apart legs) a).1 (omega (arith, h)) e f

-- every walk is that of a leg
pub walks_each : (P : PlainWalk → Type 0) (es : List (NodeId × NodeId)) (ws : List PlainWalk) → length ws ≡ length es → ((l : Leg) → In l (legs_of es ws) → P l.1) → AllByRecursion P ws
walks_each P es [] same f = tt
walks_each P [] (w ∷ ws) same f = absurd (omega (arith, same))
walks_each P (e ∷ es) (w ∷ ws) same f = (f (e, w) (inl refl), walks_each P es ws (omega (arith, same)) (λ l m. f l (inr m)))

module _ (graph : GraphParts) (walks : List PlainWalk) (drawn : IsDrawn graph walks) where
  abbrev legs : List Leg
  legs = legs_of graph.ends walks

  pub ends_fit : EndsFit (puts_of (legs_of graph.ends walks))
  ends_fit = EndsFit-from (legs_of graph.ends walks) (parts_of_legal graph walks drawn.legal).ends

  pub meets_fit : MeetsFit (legs_of graph.ends walks)
  meets_fit = MeetsFit-from (legs_of graph.ends walks) (parts_of_legal graph walks drawn.legal).meets

  -- no walk comes to a doubled point again
  pub walks_once : AllByRecursion (λ (w : PlainWalk). are_distinct (doubled_of w) ≡ true) walks
  walks_once = walks_each (λ (w : PlainWalk). are_distinct (doubled_of w) ≡ true) graph.ends walks drawn.each (λ l m. meets_fit.distinct l m)

  -- each walk puts a node where the first one does
  pub put_point : (q : Put) → In q (puts_of (legs_of graph.ends walks)) → point_of graph walks q.0 ≡ q.1
  put_point q m = by_found (some_or_none (point_in (puts_of (legs_of graph.ends walks)) q.0))
    where
      by_found : ((p : GridPoint) × (point_in (puts_of (legs_of graph.ends walks)) q.0 ≡ Some p)) ⊎ (point_in (puts_of (legs_of graph.ends walks)) q.0 ≡ None) → point_of graph walks q.0 ≡ q.1
      by_found (inl (p, e)) =
          ap (λ (o : Option GridPoint). unwrap_or o (record { x = pos 0; y = pos 0 })) e
          ∙ ends_fit.one_place (q.0, p) q (point_in-found (puts_of (legs_of graph.ends walks)) q.0 p e) m refl
      by_found (inr e) = absurd (point_in-none (puts_of (legs_of graph.ends walks)) q.0 e q m refl)

  pub low_put : (l : Leg) → In l (legs_of graph.ends walks) → point_of graph walks l.0.0.0 ≡ l.1.start
  low_put l m = put_point (l.0.0.0, l.1.start) (in_flat_map puts_by (legs_of graph.ends walks) l (l.0.0.0, l.1.start) m (inl refl))

  pub up_put : (l : Leg) → In l (legs_of graph.ends walks) → point_of graph walks l.0.1.0 ≡ end_point l.1
  up_put l m = put_point (l.0.1.0, end_point l.1) (in_flat_map puts_by (legs_of graph.ends walks) l (l.0.1.0, end_point l.1) m (inr (inl refl)))

  -- so a walk at a node puts it at its start or at its end
  pub point_by : (n : ℕ) (l : Leg) → In l (legs_of graph.ends walks) → ends_at n l.0 ≡ true → cond (eqb l.0.0.0 n) l.1.start (end_point l.1) ≡ point_of graph walks n
  point_by n l m e = by_low (cases_Bool (eqb l.0.0.0 n))
    where
      by_low : (eqb l.0.0.0 n ≡ true) ⊎ (eqb l.0.0.0 n ≡ false) → cond (eqb l.0.0.0 n) l.1.start (end_point l.1) ≡ point_of graph walks n
      by_low (inl t) = ap (λ b. cond b l.1.start (end_point l.1)) t ∙ sym (low_put l m) ∙ ap (point_of graph walks) (eqb-true _ _ t)
      by_low (inr f) = ap (λ b. cond b l.1.start (end_point l.1)) f ∙ sym (up_put l m) ∙ ap (point_of graph walks) (eqb-true _ _ (up (or_cases _ _ e)))
        where
          up : (eqb l.0.0.0 n ≡ true) ⊎ (eqb l.0.1.0 n ≡ true) → eqb l.0.1.0 n ≡ true
          up (inl t) = absurd (true≢false (sym t ∙ f))
          up (inr t) = t

-- the segments of a round end at its node
abbrev pub no_ends : NodeId × NodeId
no_ends = (record { 0 = 0 }, record { 0 = 0 })

abbrev pub EndsThere : List (NodeId × NodeId) → ℕ → SegId → Type 0
EndsThere es n s = (s.0 < length es) × (ends_at n (get_or es s.0 no_ends) ≡ true)

segments_each : (P : SegId → Type 0) (n i : ℕ) (es : List (NodeId × NodeId)) → ((k : ℕ) → k < length es → ends_at n (get_or es k no_ends) ≡ true → P (record { 0 = i + k }))
    → AllByRecursion P (segments_from i n es)
segments_each P n i [] f = tt
segments_each P n i (e ∷ es) f =
    by_test (ends_at n e) refl (segments_each P n (i + 1) es (λ k h t. let step : i + suc k ≡ i + 1 + k = omega arith in subst (λ v. P (record { 0 = v })) step (f (suc k) (omega arith) t)))
  where
    by_test : (b : Bool) → ends_at n e ≡ b → AllByRecursion P (segments_from (i + 1) n es) → AllByRecursion P (cond b (record { 0 = i } ∷ segments_from (i + 1) n es) (segments_from (i + 1) n es))
    by_test true t rest = let step : i + 0 ≡ i = omega arith in (subst (λ v. P (record { 0 = v })) step (f 0 (omega arith) t), rest)
    by_test false t rest = rest

pub round_there : (graph : GraphParts) → IsConsistent graph → (n : ℕ) → n < length graph.kinds → (round : List SegId) → slice_get graph.rounds n ≡ Some round
    → (0 < length round) × All (EndsThere graph.ends n) round
round_there graph fit n h round e =
    let below : n < length graph.rounds = omega (arith, h, fit.round_each) in
    let is : get_or graph.rounds n [] ≡ round = get_or_from_slice_get graph.rounds n round [] e in
    let there = fit.rounds n below in
    let all = All-permutation (EndsThere graph.ends n) (segments_at n graph.ends) (get_or graph.rounds n []) there.1
    (All-from_recursion (EndsThere graph.ends n) (segments_at n graph.ends)
    (segments_each (EndsThere graph.ends n) n 0 graph.ends (λ k b t. let same : 0 + k ≡ k = omega arith in subst (λ v. EndsThere graph.ends n (record { 0 = v })) (sym same) (b, t)))) in
    (subst (λ (r : List SegId). 0 < length r) is there.0, subst (λ (r : List SegId). All (EndsThere graph.ends n) r) is all)

-- the legs of walks
pub leg_of_walk : (es : List (NodeId × NodeId)) (ws : List PlainWalk) (l : Leg) → In l (legs_of es ws) → In l.1 ws
leg_of_walk [] ws l m = absurd m
leg_of_walk (e ∷ es) [] l m = absurd m
leg_of_walk (e ∷ es) (w ∷ ws) l (inl h) = inl (ap (λ (x : Leg). x.1) h)
leg_of_walk (e ∷ es) (w ∷ ws) l (inr m) = inr (leg_of_walk es ws l m)

-- what holds along a way holds at its ends
pub start_holds : (test : GridPoint → Bool) (p : GridPoint) (ds : List Dir) → list_all test (points_from p ds) ≡ true → test p ≡ true
start_holds test p [] e = (and_parts _ _ e).0
start_holds test p (d ∷ ds) e = (and_parts _ _ e).0

pub end_holds : (test : GridPoint → Bool) (p : GridPoint) (ds : List Dir) → list_all test (points_from p ds) ≡ true → test (after p ds) ≡ true
end_holds test p [] e = (and_parts _ _ e).0
end_holds test p (d ∷ ds) e = end_holds test (step_from p d) ds (and_parts _ _ e).1

abbrev pub no_way : PlainWalk
no_way = record { start = record { x = pos 0; y = pos 0 }; steps = [] }

-- some walk of a drawing puts a node at its point
pub record PutAt (graph : GraphParts) (walks : List PlainWalk) (m : ℕ) : Type 0 where
  pub put : Put
  pub there : In put (puts_of (legs_of graph.ends walks))
  pub node : put.0 ≡ m
  pub point : point_of graph walks m ≡ put.1
  pub leg : Leg
  pub of_leg : In leg (legs_of graph.ends walks)
  pub on_leg : (put.1 ≡ leg.1.start) ⊎ (put.1 ≡ end_point leg.1)

module _ (graph : GraphParts) (fit : IsConsistent graph) (walks : List PlainWalk) (drawn : IsDrawn graph walks) where
  pub put_at : (m : ℕ) → m < length graph.kinds → PutAt graph walks m
  put_at m h =
      let below : m < length graph.rounds = omega (arith, h, fit.round_each) in
      let there = round_there graph fit m h (get_or graph.rounds m []) (slice_get-get_or graph.rounds m [] below) in
      let s : SegId = get_or (get_or graph.rounds m []) 0 (record { 0 = 0 }) in
      let facts = there.1 0 (record { 0 = 0 }) there.0 in
      let e : NodeId × NodeId = get_or graph.ends s.0 no_ends in
      let w : PlainWalk = get_or walks s.0 no_way in
      let l : Leg = (e, w) in
      let of_leg = leg_in graph.ends walks s.0 e w (slice_get-get_or graph.ends s.0 no_ends facts.0)
      (slice_get-get_or walks s.0 no_way (omega (arith, facts.0, drawn.each))) in
      by_end l of_leg (or_cases (eqb e.0.0 m) (eqb e.1.0 m) facts.1)
    where
      by_end : (l : Leg) → In l (legs_of graph.ends walks) → (eqb l.0.0.0 m ≡ true) ⊎ (eqb l.0.1.0 m ≡ true) → PutAt graph walks m
      by_end l k (inl t) =
          let same : l.0.0.0 ≡ m = eqb-true l.0.0.0 m t in
          record {
            put = (l.0.0.0, l.1.start);
            there = in_flat_map puts_by (legs_of graph.ends walks) l (l.0.0.0, l.1.start) k (inl refl);
            node = same;
            point = ap (point_of graph walks) (sym same) ∙ low_put graph walks drawn l k;
            leg = l;
            of_leg = k;
            on_leg = inl refl;
          }
      by_end l k (inr t) =
          let same : l.0.1.0 ≡ m = eqb-true l.0.1.0 m t in
          record {
            put = (l.0.1.0, end_point l.1);
            there = in_flat_map puts_by (legs_of graph.ends walks) l (l.0.1.0, end_point l.1) k (inr (inl refl));
            node = same;
            point = ap (point_of graph walks) (sym same) ∙ up_put graph walks drawn l k;
            leg = l;
            of_leg = k;
            on_leg = inr refl;
          }

  pub node_even : (m : ℕ) → m < length graph.kinds → is_even (point_of graph walks m) ≡ true
  node_even m h = let a = put_at m h in ap is_even a.point ∙ (ends_fit graph walks drawn).even a.put a.there

  pub node_apart : (m k : ℕ) → m < length graph.kinds → k < length graph.kinds → point_of graph walks m ≡ point_of graph walks k → m ≡ k
  node_apart m k h j e =
      let a = put_at m h in
      let b = put_at k j in
      sym a.node ∙ (ends_fit graph walks drawn).one_node a.put b.put a.there b.there (sym a.point ∙ e ∙ b.point) ∙ b.node

  -- what holds of all grid points of walks holds of nodes
  pub node_holds : (test : GridPoint → Bool) → list_all (λ (w : PlainWalk). list_all test (points_of w)) walks ≡ true → (m : ℕ) → m < length graph.kinds → test (point_of graph walks m) ≡ true
  node_holds test all m h =
      let a = put_at m h in
      ap test a.point ∙ by_end a (all_at (λ (w : PlainWalk). list_all test (points_of w)) walks a.leg.1 all (leg_of_walk graph.ends walks a.leg a.of_leg)) a.on_leg
    where
      by_end : (a : PutAt graph walks m) → list_all test (points_of a.leg.1) ≡ true → (a.put.1 ≡ a.leg.1.start) ⊎ (a.put.1 ≡ end_point a.leg.1) → test a.put.1 ≡ true
      by_end a walk (inl e) = ap test e ∙ start_holds test a.leg.1.start a.leg.1.steps walk
      by_end a walk (inr e) = ap test e ∙ end_holds test a.leg.1.start a.leg.1.steps walk
