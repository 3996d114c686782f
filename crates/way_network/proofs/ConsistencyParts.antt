-- The rounds, the lines and the joins of the graph of a network.
use Rattle.std.proofs.Common.{◌≡◌, ◌≢◌, refl, sym, ◌∙◌, ap, subst, ℕ, zero, suc, ◌+◌, ◌<◌, ◌≤◌, ◌⊎◌, inl, inr, Bool, true, false, cond, not, eqb, ltb, ◌||◌, ◌&&◌, List, [], ◌∷◌, length, get_or, map, filter, arith}
use Rattle.std.specs.Prelude.{ℤ, pos, negsuc, unsigned_abs, ◌≤ℤ◌}
use Rattle.std.specs.List.{All, Contains, range_with_len}
use Rattle.std.proofs.lemmas.Bool.{eq-eqb, eqb-true}
use Rattle.std.proofs.lemmas.Int.{ints}
use Rattle.std.proofs.lemmas.List.{length-map, get_or-map}
use Rattle.std.proofs.lemmas.List.Elements.{All-map}
use Rattle.map_base.specs.declared.point.Point.{Point}
use Rattle.map_base.specs.declared.ids.NodeId.{NodeId}
use Rattle.map_base.specs.declared.ids.SegId.{SegId}
use Rattle.map_base.specs.declared.ids.LineId.{LineId}
use Rattle.fixed_plane.specs.Plane.{IsInPlane}
use Rattle.graph_core.specs.declared.parts.Join.{Join}
use Rattle.graph_core.specs.Round.{ends_at, segments_from, segments_at}
use Rattle.graph_core.specs.Consistent.{IsNear, AreEnds, AreRising, IsBefore, AreSorted, lines_at, IsJoin, IsRound}
use Rattle.way_network.specs.declared.way.Way.{Way}
use Rattle.way_network.specs.declared.way.Passage.{Passage}
use Rattle.way_network.specs.Edges.{runs_over, line_runs_over, lines_over, is_used, is_on_edges, passes}
use Rattle.way_network.specs.Chains.{Network, used_at, has_node}
use Rattle.way_network.specs.Segments.{first_of, second_of, last_of, reversed, around, nodes_of, segment_chains, node_at, begins_with, leaves, segment_at, node_numbered, segment_numbered, line_numbered, ends_of, lines_of, round_of}
use Rattle.way_network.specs.Joins.{leads, joins, join_of, joins_of_pair, joins_from, joins_at}
use Rattle.way_network.specs.Premises.{IsNetwork, IsPassage}
use Rattle.way_network.specs.Pieces.{IsChain}
use Rattle.way_network.proofs.ChainLaws.{turned, used_first, equal_lines}
use Rattle.way_network.proofs.ConsistencyLists.{In, in_map, from_map, in_filter, from_filter, from_flat_map, in_range, from_range, in_at, to_contains, all_in, all_at, from_any, Follow, follow_filter, follow_map, follow_flat_map, follow_range, follow_weaker, Apart, same_members}
use Rattle.way_network.proofs.ConsistencySegments.{low, both, either, is_left, is_right, first_reversed, line_used, used_line, from_nodes, node_place, node_is, node_rises, in_around, from_around, around_apart, from_segments, first_node, last_node, begins_at, is_begun, at_leaving, at_is, less_apart}

some_in : {X : Type 0} (x : X) (xs : List X) → In x xs → 0 < length xs
some_in x [] m = absurd m
some_in x (a ∷ xs) m = omega arith

-- Places.

near : (x : ℤ) → unsigned_abs x ≤ 300000000 → (negsuc 299999999 ≤ℤ x) × (x ≤ℤ pos 300000000)
near x l = (omega (arith, ints), omega (arith, ints))

pub is_near : (p : Point) → IsInPlane p → IsNear p
is_near p plane = ((near p.x plane.across).0, (near p.x plane.across).1, (near p.y plane.along).0, (near p.y plane.along).1)

-- Lines.

pub in_lines : (g : Network) (p q line : ℕ) → line < g.lines → line_runs_over g.ways p q line ≡ true → In line (lines_over g.lines g.ways p q)
in_lines g p q line l t = in_filter (line_runs_over g.ways p q) line (range_with_len 0 g.lines) (in_range line 0 g.lines (omega arith) (omega arith)) t

lines_rise : (xs : List ℕ) → Follow (λ x y. x < y) xs → AreRising (map line_numbered xs)
lines_rise [] u = tt
lines_rise (a ∷ []) u = tt
lines_rise (a ∷ b ∷ rest) u = (u.0 b (inl refl), lines_rise (b ∷ rest) u.1)

pub over_rise : (g : Network) (p q : ℕ) → AreRising (map line_numbered (lines_over g.lines g.ways p q))
over_rise g p q = lines_rise (lines_over g.lines g.ways p q) (follow_filter (λ x y. x < y) (line_runs_over g.ways p q) (range_with_len 0 g.lines) (follow_range 0 g.lines))

pub known_over : (g : Network) (known : List LineId) → All (λ (w : Way). Contains known w.line) g.ways → (p q : ℕ) → All (Contains known) (map line_numbered (lines_over g.lines g.ways p q))
known_over g known each p q = all_in (Contains known) (map line_numbered (lines_over g.lines g.ways p q)) (λ line m. by line (from_map line_numbered line (lines_over g.lines g.ways p q) m))
  where
    by : (line : LineId) → (k : ℕ) × In k (lines_over g.lines g.ways p q) × (line_numbered k ≡ line) → Contains known line
    by line r =
        let f = from_filter (line_runs_over g.ways p q) r.0 (range_with_len 0 g.lines) r.1 in
        let w = from_any (λ (w : Way). eqb w.line.0 r.0 && runs_over p q w.points) g.ways f.1 in
        let same : w.0.line ≡ line = ap line_numbered (eqb-true w.0.line.0 r.0 (both (eqb w.0.line.0 r.0) (runs_over p q w.0.points) w.2).0) ∙ r.2 in
        subst (λ x. Contains known x) same (all_at (λ (v : Way). Contains known v.line) w.0 g.ways each w.1)

-- Segments at a node.

segments_after : (i n : ℕ) (es : List (NodeId × NodeId)) (s : SegId) → In s (segments_from i n es)
    → (k : ℕ) × (k < length es) × (segment_numbered (i + k) ≡ s) × ((d : NodeId × NodeId) → ends_at n (get_or es k d) ≡ true)
segments_after i n [] s m = absurd m
segments_after i n (e ∷ es) s m = by (ends_at n e) refl (λ k. segments_after (i + 1) n es s k) m
  where
    later : (k : ℕ) × (k < length es) × (segment_numbered (i + 1 + k) ≡ s) × ((d : NodeId × NodeId) → ends_at n (get_or es k d) ≡ true)
        → (k : ℕ) × (k < suc (length es)) × (segment_numbered (i + k) ≡ s) × ((d : NodeId × NodeId) → ends_at n (get_or (e ∷ es) k d) ≡ true)
    later r =
        let l : r.0 < length es = r.1 in
        let at : i + suc r.0 ≡ i + 1 + r.0 = omega arith in
        (suc r.0, omega arith, ap segment_numbered at ∙ r.2, r.3)

    by : (b : Bool) → ends_at n e ≡ b
        → (In s (segments_from (i + 1) n es) → (k : ℕ) × (k < length es) × (segment_numbered (i + 1 + k) ≡ s) × ((d : NodeId × NodeId) → ends_at n (get_or es k d) ≡ true))
        → In s (cond b (segment_numbered i ∷ segments_from (i + 1) n es) (segments_from (i + 1) n es))
        → (k : ℕ) × (k < suc (length es)) × (segment_numbered (i + k) ≡ s) × ((d : NodeId × NodeId) → ends_at n (get_or (e ∷ es) k d) ≡ true)
    by true t again (inl f) =
        let at : i + 0 ≡ i = omega arith in
        (0, omega arith, ap segment_numbered at ∙ f, λ d. t)
    by true t again (inr k) = later (again k)
    by false t again k = later (again k)

in_segments_from : (i n k : ℕ) (es : List (NodeId × NodeId)) (d : NodeId × NodeId) → k < length es → ends_at n (get_or es k d) ≡ true → In (segment_numbered (i + k)) (segments_from i n es)
in_segments_from i n k [] d l t = absurd (omega arith)
in_segments_from i n zero (e ∷ es) d l t =
    let at : i ≡ i + 0 = omega arith in
    subst (λ (b : Bool). In (segment_numbered (i + 0)) (cond b (segment_numbered i ∷ segments_from (i + 1) n es) (segments_from (i + 1) n es))) (sym t) (inl (ap segment_numbered at))
in_segments_from i n (suc k) (e ∷ es) d l t =
    let at : i + 1 + k ≡ i + suc k = omega arith in
    by (ends_at n e) (subst (λ (j : ℕ). In (segment_numbered j) (segments_from (i + 1) n es)) at (in_segments_from (i + 1) n k es d (omega arith) t))
  where
    by : (b : Bool) → In (segment_numbered (i + suc k)) (segments_from (i + 1) n es)
        → In (segment_numbered (i + suc k)) (cond b (segment_numbered i ∷ segments_from (i + 1) n es) (segments_from (i + 1) n es))
    by true m = inr m
    by false m = m

segments_rise : (i n : ℕ) (es : List (NodeId × NodeId)) → Follow (λ (s r : SegId). s.0 < r.0) (segments_from i n es)
segments_rise i n [] = tt
segments_rise i n (e ∷ es) = by (ends_at n e) (segments_rise (i + 1) n es)
  where
    above : (s : SegId) → (k : ℕ) × (k < length es) × (segment_numbered (i + 1 + k) ≡ s) × ((d : NodeId × NodeId) → ends_at n (get_or es k d) ≡ true) → i < s.0
    above s r =
        let k : ℕ = r.0 in
        let at : i + 1 + k ≡ s.0 = ap (λ (t : SegId). t.0) r.2 in
        omega arith

    by : (b : Bool) → Follow (λ (s r : SegId). s.0 < r.0) (segments_from (i + 1) n es)
        → Follow (λ (s r : SegId). s.0 < r.0) (cond b (segment_numbered i ∷ segments_from (i + 1) n es) (segments_from (i + 1) n es))
    by true u = (λ s m. above s (segments_after (i + 1) n es s m), u)
    by false u = u

segments_differ : (s r : SegId) → s.0 < r.0 → s ≢ r
segments_differ s r l e = less_apart s.0 r.0 l (ap (λ (t : SegId). t.0) e)

-- Joins.

-- a join by a passage between these segments
pub record IsMade (chains : List (List ℕ)) (passages : List Passage) (lines p : ℕ) (j : Join) : Type 0 where
  pub e : ℕ
  pub f : ℕ
  pub line : ℕ
  pub order : e < f
  pub known : line < lines
  pub joined : joins chains passages p e f line ≡ true
  pub is : join_of e f line ≡ j

module _ (chains : List (List ℕ)) (passages : List Passage) (lines p : ℕ) where
  abbrev made_of : ℕ → ℕ → List Join
  made_of e f = cond (ltb e f) (joins_of_pair chains passages lines p e f) []

  from_pair : (e f : ℕ) (j : Join) → In j (made_of e f) → (e < f) × In j (joins_of_pair chains passages lines p e f)
  from_pair e f j m = by (ltb e f) refl m
    where
      by : (b : Bool) → ltb e f ≡ b → In j (cond b (joins_of_pair chains passages lines p e f) []) → (e < f) × In j (joins_of_pair chains passages lines p e f)
      by true t k = (low e f t, k)
      by false t k = absurd k

  ends_are : (e f : ℕ) (j : Join) → In j (joins_of_pair chains passages lines p e f) → (j.e.0 ≡ e) × (j.f.0 ≡ f)
  ends_are e f j m =
      let r = from_map (join_of e f) j (filter (joins chains passages p e f) (range_with_len 0 lines)) m in
      (ap (λ (x : Join). x.e.0) (sym r.2), ap (λ (x : Join). x.f.0) (sym r.2))

  lesser_is : (e : ℕ) (j : Join) → In j (joins_from chains passages lines p e) → j.e.0 ≡ e
  lesser_is e j m =
      let r = from_flat_map (made_of e) j (range_with_len 0 (length chains)) m in
      (ends_are e r.0 j (from_pair e r.0 j r.2).1).0

  pub from_joins : (j : Join) → In j (joins_at chains passages lines p) → IsMade chains passages lines p j
  from_joins j m =
      let r = from_flat_map (joins_from chains passages lines p) j (range_with_len 0 (length chains)) m in
      let s = from_flat_map (made_of r.0) j (range_with_len 0 (length chains)) r.2 in
      let t = from_pair r.0 s.0 j s.2 in
      let u = from_map (join_of r.0 s.0) j (filter (joins chains passages p r.0 s.0) (range_with_len 0 lines)) t.1 in
      let v = from_filter (joins chains passages p r.0 s.0) u.0 (range_with_len 0 lines) u.1 in
      let w : (0 ≤ u.0) × (u.0 < 0 + lines) = from_range u.0 0 lines v.0 in
      record { e = r.0; f = s.0; line = u.0; order = t.0; known = omega arith; joined = v.1; is = u.2 }

  by_line : (e f : ℕ) → Follow IsBefore (joins_of_pair chains passages lines p e f)
  by_line e f =
      follow_map (λ x y. x < y) IsBefore (join_of e f) (filter (joins chains passages p e f) (range_with_len 0 lines))
      (follow_filter (λ x y. x < y) (joins chains passages p e f) (range_with_len 0 lines) (follow_range 0 lines))
      (λ x y m k l. inr (refl, inr (refl, l)))

  by_greater : (e : ℕ) → Follow IsBefore (joins_from chains passages lines p e)
  by_greater e =
      follow_flat_map (λ x y. x < y) IsBefore (made_of e) (range_with_len 0 (length chains)) (follow_range 0 (length chains)) (λ f m. at f) across
    where
      at : (f : ℕ) → Follow IsBefore (made_of e f)
      at f = by (ltb e f)
        where
          by : (b : Bool) → Follow IsBefore (cond b (joins_of_pair chains passages lines p e f) [])
          by true = by_line e f
          by false = tt

      across : (f h : ℕ) → f < h → (a b : Join) → In a (made_of e f) → In b (made_of e h) → IsBefore a b
      across f h l a b m k =
          let r = ends_are e f a (from_pair e f a m).1 in
          let s = ends_are e h b (from_pair e h b k).1 in
          inr (r.0 ∙ sym s.0, inl (omega (arith, r.1, s.1, l)))

  by_lesser : Follow IsBefore (joins_at chains passages lines p)
  by_lesser =
      follow_flat_map (λ x y. x < y) IsBefore (joins_from chains passages lines p) (range_with_len 0 (length chains)) (follow_range 0 (length chains)) (λ e m. by_greater e)
      (λ e h l a b m k. inl (omega (arith, lesser_is e a m, lesser_is h b k, l)))

  pub joins_sorted : AreSorted (joins_at chains passages lines p)
  joins_sorted = sorted (joins_at chains passages lines p) by_lesser
    where
      sorted : (xs : List Join) → Follow IsBefore xs → AreSorted xs
      sorted [] u = tt
      sorted (a ∷ []) u = tt
      sorted (a ∷ b ∷ rest) u = (u.0 b (inl refl), sorted (b ∷ rest) u.1)

-- The parts of the graph.

module _ (points : List Point) (g : Network) (network : IsNetwork points g) where
  abbrev pub chains : List (List ℕ)
  chains = segment_chains points g

  pub lines_fit : All (λ (ls : List LineId). (0 < length ls) × AreRising ls) (map (lines_of g) chains)
  lines_fit =
      All-map (λ (ls : List LineId). (0 < length ls) × AreRising ls) (lines_of g) chains
      (all_in (λ (c : List ℕ). (0 < length (lines_of g c)) × AreRising (lines_of g c)) chains (λ c m. at c (from_segments points g network c m).0))
    where
      at : (c : List ℕ) → IsChain g c → (0 < length (lines_of g c)) × AreRising (lines_of g c)
      at c chain =
          let p : ℕ = first_of c in
          let q : ℕ = second_of c in
          let r = used_line g network.ways p q (used_first g c network.ways chain) in
          let some : 0 < length (lines_over g.lines g.ways p q) = some_in r.0 (lines_over g.lines g.ways p q) (in_lines g p q r.0 r.1 r.2) in
          (omega (arith, some, length-map (lines_over g.lines g.ways p q) line_numbered), over_rise g p q)

  pub ends_fit : All (AreEnds (length (nodes_of g))) (map (ends_of g) chains)
  ends_fit =
      All-map (AreEnds (length (nodes_of g))) (ends_of g) chains
      (all_in (λ (c : List ℕ). AreEnds (length (nodes_of g)) (ends_of g c)) chains (λ c m. at c (from_segments points g network c m)))
    where
      at : (c : List ℕ) → IsChain g c × (first_of c < last_of c) → AreEnds (length (nodes_of g)) (ends_of g c)
      at c r =
          let one = first_node points g network c r.0 in
          let other = last_node points g network c r.0 in
          (node_rises g (first_of c) (last_of c) one other r.1, (node_place g (last_of c) other).0)

  leaves_ends : (p q : ℕ) (c : List ℕ) → leaves p q c ≡ true → (first_of c ≡ p) ⊎ (last_of c ≡ p)
  leaves_ends p q c t = by (either (begins_with p q c) (begins_with p q (reversed c)) t)
    where
      by : (begins_with p q c ≡ true) ⊎ (begins_with p q (reversed c) ≡ true) → (first_of c ≡ p) ⊎ (last_of c ≡ p)
      by (inl e) = inl (begins_at points g network p q c e).0
      by (inr e) = inr (sym (first_reversed c) ∙ (begins_at points g network p q (reversed c) e).0)

  some_edge : (p : ℕ) (c : List ℕ) → IsChain g c → (first_of c ≡ p) ⊎ (last_of c ≡ p) → (q : ℕ) × (is_used g.ways p q ≡ true) × (leaves p q c ≡ true)
  some_edge p c chain (inl e) = (
    second_of c,
    ap (λ (k : ℕ). is_used g.ways k (second_of c)) (sym e) ∙ used_first g c network.ways chain,
    is_left (begins_with p (second_of c) c) (begins_with p (second_of c) (reversed c)) (is_begun points g network p (second_of c) c e refl),
  )
  some_edge p c chain (inr e) =
      let q : ℕ = second_of (reversed c) in
      let first : first_of (reversed c) ≡ p = first_reversed c ∙ e in (
        q,
        ap (λ (k : ℕ). is_used g.ways k q) (sym first) ∙ used_first g (reversed c) network.ways (turned g c chain),
        is_right (begins_with p q c) (begins_with p q (reversed c)) (is_begun points g network p q (reversed c) first refl),
      )

  same_edge : (p q r : ℕ) (c : List ℕ) → first_of c < last_of c → leaves p q c ≡ true → leaves p r c ≡ true → q ≡ r
  same_edge p q r c up s t = by (either (begins_with p q c) (begins_with p q (reversed c)) s) (either (begins_with p r c) (begins_with p r (reversed c)) t)
    where
      clash : first_of c ≡ p → first_of (reversed c) ≡ p → ⊥
      clash e f = omega (arith, up, e, f, first_reversed c)

      by : (begins_with p q c ≡ true) ⊎ (begins_with p q (reversed c) ≡ true) → (begins_with p r c ≡ true) ⊎ (begins_with p r (reversed c) ≡ true) → q ≡ r
      by (inl e) (inl f) = sym (begins_at points g network p q c e).1 ∙ (begins_at points g network p r c f).1
      by (inl e) (inr f) = absurd (clash (begins_at points g network p q c e).0 (begins_at points g network p r (reversed c) f).0)
      by (inr e) (inl f) = absurd (clash (begins_at points g network p r c f).0 (begins_at points g network p q (reversed c) e).0)
      by (inr e) (inr f) = sym (begins_at points g network p q (reversed c) e).1 ∙ (begins_at points g network p r (reversed c) f).1

  node_used : (p : ℕ) → has_node g p ≡ true → (q : ℕ) × (is_used g.ways p q ≡ true)
  node_used p node = by (used_at g p) refl (on (either (ltb p g.stations) (is_on_edges (used_at g p) && not (passes g.lines g.ways p (used_at g p))) node))
    where
      on : (ltb p g.stations ≡ true) ⊎ ((is_on_edges (used_at g p) && not (passes g.lines g.ways p (used_at g p))) ≡ true) → is_on_edges (used_at g p) ≡ true
      on (inl t) = network.served p (low p g.stations t)
      on (inr t) = (both (is_on_edges (used_at g p)) (not (passes g.lines g.ways p (used_at g p))) t).0

      by : (xs : List ℕ) → used_at g p ≡ xs → is_on_edges xs ≡ true → (q : ℕ) × (is_used g.ways p q ≡ true)
      by [] e t = absurd cc
      by (q ∷ xs) e t = (q, (from_filter (is_used g.ways p) q (range_with_len 0 g.points) (subst (λ ys. In q ys) (sym e) (inl refl))).1)

  module _ (n : ℕ) (l : n < length (nodes_of g)) where
    abbrev pub p : ℕ
    p = get_or (nodes_of g) n 0

    node : has_node g p ≡ true
    node = (from_nodes g p (in_at (nodes_of g) n 0 l)).1

    test_ends : (c : List ℕ) → (first_of c ≡ p) ⊎ (last_of c ≡ p) → ends_at n (ends_of g c) ≡ true
    test_ends c (inl e) = is_left (eqb (node_at g (first_of c)) n) (eqb (node_at g (last_of c)) n) (eq-eqb (node_at g (first_of c)) n (ap (node_at g) e ∙ node_is g n l))
    test_ends c (inr e) = is_right (eqb (node_at g (first_of c)) n) (eqb (node_at g (last_of c)) n) (eq-eqb (node_at g (last_of c)) n (ap (node_at g) e ∙ node_is g n l))

    ends_test : (c : List ℕ) → IsChain g c → ends_at n (ends_of g c) ≡ true → (first_of c ≡ p) ⊎ (last_of c ≡ p)
    ends_test c chain t = by (either (eqb (node_at g (first_of c)) n) (eqb (node_at g (last_of c)) n) t)
      where
        point : (k : ℕ) → In k (nodes_of g) → eqb (node_at g k) n ≡ true → k ≡ p
        point k m e = sym ((node_place g k m).1 0) ∙ ap (λ (j : ℕ). get_or (nodes_of g) j 0) (eqb-true (node_at g k) n e)

        by : (eqb (node_at g (first_of c)) n ≡ true) ⊎ (eqb (node_at g (last_of c)) n ≡ true) → (first_of c ≡ p) ⊎ (last_of c ≡ p)
        by (inl e) = inl (point (first_of c) (first_node points g network c chain) e)
        by (inr e) = inr (point (last_of c) (last_node points g network c chain) e)

    abbrev pub number_at : ℕ → SegId
    number_at q = segment_numbered (segment_at chains p q)

    abbrev pub round : List SegId
    round = round_of points g chains p

    abbrev pub ends : List (NodeId × NodeId)
    ends = map (ends_of g) chains

    abbrev no_ends : NodeId × NodeId
    no_ends = (node_numbered 0, node_numbered 0)

    round_apart : Apart round
    round_apart =
        follow_map (λ (x y : ℕ). x ≢ y) (λ (s r : SegId). s ≢ r) number_at (around points g p) (around_apart points g p)
        (λ q r m k other e. other (same q r (from_around points g p q m) (from_around points g p r k) (ap (λ (s : SegId). s.0) e)))
      where
        same : (q r : ℕ) → is_used g.ways p q ≡ true → is_used g.ways p r ≡ true → segment_at chains p q ≡ segment_at chains p r → q ≡ r
        same q r s t e =
            let one = at_leaving points g network p q node s in
            let other = at_leaving points g network p r node t in
            let k : ℕ = segment_at chains p q in
            let c : List ℕ = get_or chains k [] in
            same_edge p q r (get_or chains (segment_at chains p q) []) (from_segments points g network c (in_at chains k [] one.0)).1 (one.1 [])
            (subst (λ (j : ℕ). leaves p r (get_or chains j []) ≡ true) (sym e) (other.1 []))

    in_round : (s : SegId) → In s (segments_at n ends) → In s round
    in_round s m =
        let r = segments_after 0 n ends s m in
        let k : ℕ = r.0 in
        let within : k < length chains = subst (λ (j : ℕ). k < j) (length-map chains (ends_of g)) r.1 in
        let c : List ℕ = get_or chains k [] in
        let chain = (from_segments points g network c (in_at chains k [] within)).0 in
        let test : ends_at n (ends_of g c) ≡ true =
        ap (ends_at n) (sym (get_or-map (ends_of g) chains k [] no_ends within)) ∙ r.3 no_ends in
        let edge = some_edge p c chain (ends_test c chain test) in
        let at : 0 + k ≡ k = omega arith in
        let number : segment_at chains p edge.0 ≡ k = at_is points g network p edge.0 k [] within edge.2 in
        let same : number_at edge.0 ≡ s = ap segment_numbered (number ∙ sym at) ∙ r.2 in
        subst (λ t. In t round) same
        (in_map number_at edge.0 (around points g p) (in_around points g network.ways p edge.0 edge.1))

    from_round : (s : SegId) → In s round → In s (segments_at n ends)
    from_round s m =
        let r = from_map number_at s (around points g p) m in
        let k : ℕ = segment_at chains p r.0 in
        let f = at_leaving points g network p r.0 node (from_around points g p r.0 r.1) in
        let c : List ℕ = get_or chains k [] in
        let test : ends_at n (get_or ends k no_ends) ≡ true =
        ap (ends_at n) (get_or-map (ends_of g) chains k [] no_ends f.0) ∙ test_ends c (leaves_ends p r.0 c (f.1 [])) in
        let within : k < length ends = subst (λ (j : ℕ). k < j) (sym (length-map chains (ends_of g))) f.0 in
        let at : 0 + k ≡ k = omega arith in
        subst (λ t. In t (segments_at n ends)) (ap segment_numbered at ∙ r.2)
        (in_segments_from 0 n k ends no_ends within test)

    pub round_fits : IsRound ends n round
    round_fits =
        let q = node_used p node in (
          some_in (number_at q.0) round
              (in_map number_at q.0 (around points g p) (in_around points g network.ways p q.0 q.1)),
          same_members (segments_at n ends) round
              (follow_weaker (λ (s r : SegId). s.0 < r.0) (λ (s r : SegId). s ≢ r) (segments_at n ends) segments_differ
              (segments_rise 0 n ends))
              round_apart in_round from_round,
        )

  leaves_lines : (p q : ℕ) (c : List ℕ) → IsChain g c → leaves p q c ≡ true → lines_over g.lines g.ways (first_of c) (second_of c) ≡ lines_over g.lines g.ways p q
  leaves_lines p q c chain t = by (either (begins_with p q c) (begins_with p q (reversed c)) t)
    where
      by : (begins_with p q c ≡ true) ⊎ (begins_with p q (reversed c) ≡ true) → lines_over g.lines g.ways (first_of c) (second_of c) ≡ lines_over g.lines g.ways p q
      by (inl e) =
          let r = begins_at points g network p q c e in
          λ i. lines_over g.lines g.ways (r.0 i) (r.1 i)
      by (inr e) =
          let r = begins_at points g network p q (reversed c) e in
          equal_lines g c network.ways chain ∙ (λ i. lines_over g.lines g.ways (r.0 i) (r.1 i))

  -- a line of an edge at a node is on the segment that leaves the node there
  on_segment : (p q line : ℕ) → has_node g p ≡ true → line < g.lines → line_runs_over g.ways p q line ≡ true
      → Contains (round_of points g chains p) (segment_numbered (segment_at chains p q))
      × Contains (lines_at (map (lines_of g) chains) (segment_numbered (segment_at chains p q))) (line_numbered line)
  on_segment p q line node l t =
      let used : is_used g.ways p q ≡ true = line_used g p q line t in
      let k : ℕ = segment_at chains p q in
      let f = at_leaving points g network p q node used in
      let c : List ℕ = get_or chains k [] in
      let chain = (from_segments points g network c (in_at chains k [] f.0)).0 in
      let lines : get_or (map (lines_of g) chains) k [] ≡ map line_numbered (lines_over g.lines g.ways p q) =
      get_or-map (lines_of g) chains k [] [] f.0 ∙ ap (map line_numbered) (leaves_lines p q c chain (f.1 [])) in (
        to_contains (segment_numbered k) (round_of points g chains p)
            (in_map (λ q. segment_numbered (segment_at chains p q)) q (around points g p) (in_around points g network.ways p q used)),
        subst (λ (ls : List LineId). Contains ls (line_numbered line)) (sym lines)
            (to_contains (line_numbered line) (map line_numbered (lines_over g.lines g.ways p q)) (in_map line_numbered line (lines_over g.lines g.ways p q) (in_lines g p q line l t))),
      )

  abbrev FitsOne : ℕ → ℕ → ℕ → Type 0
  FitsOne p e line = Contains (round_of points g chains p) (segment_numbered e) × Contains (lines_at (map (lines_of g) chains) (segment_numbered e)) (line_numbered line)

  module _ (passages : List Passage) (all : All (IsPassage g) passages) (p : ℕ) (node : has_node g p ≡ true) where
    abbrev Fits : Join → Type 0
    Fits j = IsJoin (map (lines_of g) chains) (round_of points g chains p) j

    pair : (e f line : ℕ) → line < g.lines → joins chains passages p e f line ≡ true → FitsOne p e line × FitsOne p f line
    pair e f line l t =
        let r = from_any (λ (x : Passage). eqb x.line.0 line && (eqb x.at p && leads chains e f x)) passages t in
        let x : Passage = r.0 in
        let one = both (eqb x.line.0 line) (eqb x.at p && leads chains e f x) r.2 in
        let two = both (eqb x.at p) (leads chains e f x) one.1 in
        let passage : IsPassage g r.0 = all_at (IsPassage g) r.0 passages all r.1 in
        by r.0.at r.0.from r.0.to r.0.line.0 (eqb-true x.at p two.0) (eqb-true x.line.0 line one.0) passage.comes passage.goes two.1
      where
        by : (at from to number : ℕ) → at ≡ p → number ≡ line → line_runs_over g.ways at from number ≡ true → line_runs_over g.ways at to number ≡ true
            → ((eqb (segment_at chains at from) e && eqb (segment_at chains at to) f)
            || (eqb (segment_at chains at from) f && eqb (segment_at chains at to) e)) ≡ true
            → FitsOne p e line × FitsOne p f line
        by at from to number same same_line comes goes h = cases
            (either (eqb (segment_at chains at from) e && eqb (segment_at chains at to) f)
            (eqb (segment_at chains at from) f && eqb (segment_at chains at to) e) h)
          where
            over : (q k : ℕ) → line_runs_over g.ways at q number ≡ true → segment_at chains at q ≡ k → FitsOne p k line
            over q k runs e =
                subst (λ (j : ℕ). FitsOne p j line) (ap (λ (z : ℕ). segment_at chains z q) (sym same) ∙ e)
                (on_segment p q line node l (sym (λ i. line_runs_over g.ways (same i) q (same_line i)) ∙ runs))

            cases : ((eqb (segment_at chains at from) e && eqb (segment_at chains at to) f) ≡ true)
                ⊎ ((eqb (segment_at chains at from) f && eqb (segment_at chains at to) e) ≡ true)
                → FitsOne p e line × FitsOne p f line
            cases (inl t) =
                let r = both (eqb (segment_at chains at from) e) (eqb (segment_at chains at to) f) t in
                (over from e comes (eqb-true (segment_at chains at from) e r.0), over to f goes (eqb-true (segment_at chains at to) f r.1))
            cases (inr t) =
                let r = both (eqb (segment_at chains at from) f) (eqb (segment_at chains at to) e) t in
                (over to e goes (eqb-true (segment_at chains at to) e r.1), over from f comes (eqb-true (segment_at chains at from) f r.0))

    pub joins_fit : All (IsJoin (map (lines_of g) chains) (round_of points g chains p)) (joins_at chains passages g.lines p)
    joins_fit = all_in Fits (joins_at chains passages g.lines p) (λ j m. by j (from_joins chains passages g.lines p j m))
      where
        by : (j : Join) → IsMade chains passages g.lines p j → Fits j
        by j made =
            let r = pair made.e made.f made.line made.known made.joined in
            subst (λ (k : Join). Fits k) made.is record { order = made.order; lesser = r.0.0; greater = r.1.0; on_lesser = r.0.1; on_greater = r.1.1 }
