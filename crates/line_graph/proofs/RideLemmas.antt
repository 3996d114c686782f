-- The segments over the edges that a line runs over, and where it goes on from one to another.
use Rattle.std.proofs.Common.{◌≡◌, refl, sym, ◌∙◌, ap, subst, ℕ, zero, suc, ◌+◌, ◌<◌, ◌≤◌, ◌⊎◌, inl, inr, Bool, true, false, cond, not, ◌&&◌, ◌||◌, eqb, eqb-true, eq-eqb, ltb, List, [], ◌∷◌, ◌++◌, append_assoc, append-nil, length, get_or, map, filter, min, max, All, Contains, arith, Some, None, unwrap_or, position}
use Rattle.std.specs.List.{IsDistinct, list_any, flat_map, range_with_len, position_or_len}
use Rattle.std.proofs.lemmas.Bool.{and_parts, and_from, or_cases, or_left, or_right, false≢true, lt-ltb, cases_lt, cases_order}
use Rattle.std.proofs.lemmas.List.{length-map, get_or-map, length-append}
use Rattle.std.proofs.lemmas.List.Elements.{All-nil, All-cons, All-contains, All-head, All-tail, Contains-append_left, Contains-append_right}
use Rattle.std.proofs.lemmas.List.Folds.{list_any_at}
use Rattle.std.proofs.lemmas.List.Sums.{passes_at_first}
use Rattle.map_base.specs.declared.ids.LineId.{LineId}
use Rattle.map_base.specs.declared.ids.StationId.{StationId}
use Rattle.map_base.specs.declared.point.Point.{Point}
use Rattle.graph_core.specs.declared.parts.Join.{Join}
use Rattle.graph_core.specs.declared.parts.GraphParts.{GraphParts}
use Rattle.track_net.specs.Nearness.{point_at}
use Rattle.track_net.proofs.EdgeFacts.{Contains-range, Contains-filter}
use Rattle.way_network.specs.declared.way.Passage.{Passage}
use Rattle.way_network.specs.Edges.{are_ends, runs_over, line_runs_over, is_used}
use Rattle.way_network.specs.Chains.{Network, has_node}
use Rattle.way_network.specs.Segments.{first_of, second_of, last_of, reversed, segment_chains, segment_at, begins_with, leaves, lines_of, line_numbered, nodes_of}
use Rattle.way_network.specs.Joins.{passages_along, leads, joins, join_of, joins_of_pair, joins_from, joins_at}
use Rattle.way_network.specs.Graphs.{graph_over}
use Rattle.way_network.specs.Pieces.{StandsIn, IsChain}
use Rattle.way_network.specs.Premises.{IsNetwork, IsPassage}
use Rattle.way_network.specs.Laws.{chain_numbered, is_line_of}
use Rattle.way_network.proofs.ChainEdges.{StepsOver, steps_from_runs, steps_turned, runs_either, runs_turned_back, runs_at, turned_at, used_either, ends_are, either_true}
use Rattle.way_network.proofs.ChainPaths.{IsPath, path_in, path_of_chain}
use Rattle.way_network.proofs.ChainSteps.{goes_on}
use Rattle.way_network.proofs.ChainPieces.{chain_turned, last_appended, runs_first}
use Rattle.way_network.proofs.ChainSegments.{segments_are}
use Rattle.way_network.proofs.ChainThrough.{has_used_edges, has_edges_once, has_lines_of_edges, has_lines_of_ways}
use Rattle.line_graph.proofs.FeedLines.{chain_below}
use Rattle.line_graph.proofs.NetworkFacts.{used_by_line}
use Rattle.line_graph.specs.Rides.{segment_over, segments_along, IsOn, GoesOn, Rides, Passes}

-- ---- the first place that passes a test

pub first_place : {X : Type 0} (test : X → Bool) (xs : List X) → list_any test xs ≡ true → (unwrap_or (position test xs) 0 < length xs) × ((d : X) → test (get_or xs (unwrap_or (position test xs) 0) d) ≡ true)
first_place {X} test xs e = of_place (cases_lt (position_or_len test xs) (length xs))
  where
    none_met : (xs : List X) → length xs ≤ position_or_len test xs → list_any test xs ≡ false
    none_met [] l = refl
    none_met (x ∷ xs) l = by (test x) refl l (none_met xs)
      where
        by : (b : Bool) → test x ≡ b → length (x ∷ xs) ≤ cond (not b) (1 + position_or_len test xs) 0 → (length xs ≤ position_or_len test xs → list_any test xs ≡ false) → (test x || list_any test xs) ≡ false
        by true e l later = absurd (omega (arith, l))
        by false e l later = ap (λ (b : Bool). b || list_any test xs) e ∙ later (omega (arith, l))

    below : (n : ℕ) → n < length xs → unwrap_or (cond (ltb n (length xs)) (Some n) None) 0 < length xs
    below n l = subst (λ (b : Bool). unwrap_or (cond b (Some n) None) 0 < length xs) (sym (lt-ltb n (length xs) l)) l

    at : (n : ℕ) (d : X) → n < length xs → test (get_or xs n d) ≡ true → test (get_or xs (unwrap_or (cond (ltb n (length xs)) (Some n) None) 0) d) ≡ true
    at n d l h = subst (λ (b : Bool). test (get_or xs (unwrap_or (cond b (Some n) None) 0) d) ≡ true) (sym (lt-ltb n (length xs) l)) h

    of_place : (position_or_len test xs < length xs) ⊎ (length xs ≤ position_or_len test xs)
        → (unwrap_or (position test xs) 0 < length xs) × ((d : X) → test (get_or xs (unwrap_or (position test xs) 0) d) ≡ true)
    of_place (inl l) = (below (position_or_len test xs) l, λ d. at (position_or_len test xs) d l (passes_at_first test xs d l))
    of_place (inr l) = absurd (false≢true (sym (none_met xs l) ∙ e))

-- what is contained in lists that are made of others
contains_mapped : {X Y : Type 0} (f : X → Y) (xs : List X) (x : X) → Contains xs x → Contains (map f xs) (f x)
contains_mapped f xs x c = (c.0, omega (arith, c.1, length-map xs f), get_or-map f xs c.0 x (f x) c.1 ∙ ap f c.2)

pub contains_joined : {X A : Type 0} (f : A → List X) (items : List A) (a : A) (x : X) → Contains items a → Contains (f a) x → Contains (flat_map f items) x
contains_joined {X} {A} f items a x c has = at items c.0 c.1 c.2
  where
    at : (items : List A) (k : ℕ) → k < length items → get_or items k a ≡ a → Contains (flat_map f items) x
    at [] k l e = absurd (omega (arith, l))
    at (b ∷ rest) zero l e = Contains-append_left (f b) (flat_map f rest) x (subst (λ (c : A). Contains (f c) x) (sym e) has)
    at (b ∷ rest) (suc k) l e = Contains-append_right (f b) (flat_map f rest) x (at rest k (omega (arith, l)) e)

pub from_joined : {X A : Type 0} (f : A → List X) (items : List A) (x : X) → Contains (flat_map f items) x → (a : A) × Contains items a × Contains (f a) x
from_joined f [] x c = absurd (omega (arith, c.1))
from_joined {X} {A} f (b ∷ rest) x c = of_part (in_part (f b) (flat_map f rest) c.0 c.1 c.2) (from_joined f rest x)
  where
    in_part : (xs ys : List X) (k : ℕ) → k < length (xs ++ ys) → get_or (xs ++ ys) k x ≡ x → Contains xs x ⊎ Contains ys x
    in_part [] ys k l e = inr (k, l, e)
    in_part (y ∷ xs) ys zero l e = inl (0, omega arith, e)
    in_part (y ∷ xs) ys (suc k) l e = of_later (in_part xs ys k (omega (arith, l)) e)
      where
        of_later : Contains xs x ⊎ Contains ys x → Contains (y ∷ xs) x ⊎ Contains ys x
        of_later (inl c) = inl (suc c.0, omega (arith, c.1), c.2)
        of_later (inr c) = inr c

    of_part : Contains (f b) x ⊎ Contains (flat_map f rest) x → (Contains (flat_map f rest) x → (a : A) × Contains rest a × Contains (f a) x) → (a : A) × Contains (b ∷ rest) a × Contains (f a) x
    of_part (inl here) later = (b, (0, omega arith, refl), here)
    of_part (inr there) later = let found = later there in (found.0, (suc found.1.0, omega (arith, found.1.1), found.1.2), found.2)

-- an edge is on a segment that is the same from both ends
over_either : (chains : List (List ℕ)) (p q : ℕ) → segment_over chains p q ≡ segment_over chains q p
over_either chains p q = ap (λ (test : List ℕ → Bool). unwrap_or (position test chains) 0) (λ i xs. runs_either p q xs i)

-- where an element stands
stands_at : (before : List ℕ) (p : ℕ) (after : List ℕ) (d : ℕ) → get_or (before ++ p ∷ after) (length before) d ≡ p
stands_at [] p after d = refl
stands_at (x ∷ before) p after d = stands_at before p after d

-- three numbers that differ
three_apart : (a b c : ℕ) → (a ≡ b → ⊥) → (a ≡ c → ⊥) → (b ≡ c → ⊥) → IsDistinct eqb (a ∷ b ∷ c ∷ [])
unfolding IsDistinct
three_apart a b c ab ac bc = ((differ a b ab, (differ a c ac, tt)), ((differ b c bc, tt), (tt, tt)))
  where
    differ : (m n : ℕ) → (m ≡ n → ⊥) → eqb m n ≡ false
    differ m n apart = of_test (eqb m n) refl
      where
        of_test : (b : Bool) → eqb m n ≡ b → b ≡ false
        of_test true e = absurd (apart (eqb-true m n e))
        of_test false e = refl

-- ---- the network

module _ (stations : List StationId) (points : List Point) (g : Network) (passages : List Passage) (network : IsNetwork points g) where
  abbrev chains : List (List ℕ)
  chains = segment_chains points g

  abbrev graph : GraphParts
  graph = graph_over stations points g passages

  -- the segment over a used edge
  over_used : (p q : ℕ) → is_used g.ways p q ≡ true → (segment_over chains p q < length chains) × (runs_over p q (chain_numbered points g (segment_over chains p q)) ≡ true)
  over_used p q used =
      let found = first_place (runs_over p q) chains (has_used_edges points g network.ways p q ∙ used) in
      (found.0, found.1 [])

  is_chain : (k : ℕ) → k < length chains → IsChain g (chain_numbered points g k)
  is_chain k l = (segments_are points g network.ways k [] l).0

  one_segment : (p q k : ℕ) → is_used g.ways p q ≡ true → k < length chains → runs_over p q (chain_numbered points g k) ≡ true → segment_over chains p q ≡ k
  one_segment p q k used l runs = let over = over_used p q used in has_edges_once points g network.ways (segment_over chains p q) k p q over.0 l over.1 runs

  -- a line that runs over an edge is on the segment over it
  on_segment : (p q line : ℕ) → line < g.lines → line_runs_over g.ways p q line ≡ true → is_used g.ways p q ≡ true → IsOn graph line (segment_over chains p q)
  on_segment p q line below runs used =
      let over = over_used p q used in
      let k = segment_over chains p q in
      let lines = lines_of g (chain_numbered points g k) in
      let told : list_any (λ (x : LineId). eqb x.0 line) lines ≡ true = has_lines_of_edges points g network.ways k p q line over.0 below over.1 ∙ runs in
      let counted : length graph.lines ≡ length chains = length-map chains (lines_of g) in
      let here : get_or graph.lines k [] ≡ lines = get_or-map (lines_of g) chains k [] [] over.0 in
      (omega (arith, counted, over.0), subst (λ (ls : List LineId). Contains ls (line_numbered line)) (sym here) (among lines told))
    where
      among : (ls : List LineId) → list_any (λ (x : LineId). eqb x.0 line) ls ≡ true → Contains ls (line_numbered line)
      among ls e =
          let found = first_place (λ (x : LineId). eqb x.0 line) ls e in
          let k = unwrap_or (position (λ (x : LineId). eqb x.0 line) ls) 0 in
          let number : ℕ → LineId = λ n. record { 0 = n } in
          (k, found.0, ap number (eqb-true (get_or ls k (line_numbered line)).0 line (found.1 (line_numbered line))))

  -- ---- at a point that is no node

  -- a point within a chain is no node
  inner : (xs before after : List ℕ) (p : ℕ) → IsChain g xs → xs ≡ before ++ p ∷ after → 0 < length before → 0 < length after → has_node g p ≡ false
  inner xs before after p chain is some more =
      sym (ap (has_node g) (ap (λ (ys : List ℕ). get_or ys (length before) 0) is ∙ stands_at before p after 0))
      ∙ chain.between (length before) some (omega (arith, some, more, ap length is, length-append before (p ∷ after)))

  -- what follows an edge of a chain to such a point
  on_from : (ys : List ℕ) (a p c : ℕ) → IsChain g ys → StepsOver a p ys → has_node g p ≡ false → IsPath g (a ∷ p ∷ c ∷ []) → runs_over p c ys ≡ true
  on_from ys a p c chain s plain corner = of_after s.after s.is
    where
      of_after : (after : List ℕ) → ys ≡ s.before ++ a ∷ p ∷ after → runs_over p c ys ≡ true
      of_after [] is =
          let last : last_of ys ≡ p = ap last_of is ∙ last_appended s.before a (p ∷ []) in
          absurd (false≢true (sym plain ∙ sym (ap (has_node g) last) ∙ chain.ends))
      of_after (y ∷ rest) is =
          let stands : StandsIn (a ∷ p ∷ y ∷ rest) ys = record { before = s.before; after = []; is = is ∙ ap (λ (zs : List ℕ). s.before ++ zs) (sym (append-nil (a ∷ p ∷ y ∷ rest))) } in
          let part : IsPath g (a ∷ p ∷ y ∷ rest) = path_in g (a ∷ p ∷ y ∷ rest) ys stands (path_of_chain g ys network.ways chain) in
          let same : y ≡ c = sym (goes_on g a p y rest part plain).goes ∙ (goes_on g a p c [] corner plain).goes in
          let further : ys ≡ (s.before ++ a ∷ []) ++ p ∷ y ∷ rest = is ∙ sym (append_assoc s.before (a ∷ []) (p ∷ y ∷ rest)) in
          ap (runs_over p c) further
          ∙ ap (λ (n : ℕ). runs_over p n ((s.before ++ a ∷ []) ++ p ∷ y ∷ rest)) (sym same)
          ∙ runs_at (s.before ++ a ∷ []) p y rest

  -- the ends of a used edge are points that differ
  used_apart : (p q : ℕ) → is_used g.ways p q ≡ true → (p ≡ q → ⊥)
  used_apart p q used same = network.apart p q used (ap (point_at points) (sym same))

  used_points : (p q : ℕ) → is_used g.ways p q ≡ true → (p < g.points) × (q < g.points)
  used_points p q used =
      let over = over_used p q used in
      let x = chain_numbered points g (segment_over chains p q) in
      of_steps x (path_of_chain g x network.ways (is_chain (segment_over chains p q) over.0)) (steps_from_runs p q x over.1)
    where
      both : (x before after : List ℕ) (a b : ℕ) → IsPath g x → x ≡ before ++ a ∷ b ∷ after → (a < g.points) × (b < g.points)
      both x before after a b path is = (
        subst (λ n. n < g.points) (ap (λ (ys : List ℕ). get_or ys (length before) 0) is ∙ stands_at before a (b ∷ after) 0)
            (path.known (length before) 0 (omega (arith, ap length is, length-append before (a ∷ b ∷ after)))),
        subst (λ n. n < g.points)
            (ap (λ (ys : List ℕ). get_or ys (length (before ++ a ∷ [])) 0) (is ∙ sym (append_assoc before (a ∷ []) (b ∷ after))) ∙ stands_at (before ++ a ∷ []) b after 0)
            (path.known (length (before ++ a ∷ [])) 0 (omega (arith, ap length is, length-append before (a ∷ b ∷ after), length-append before (a ∷ [])))),
      )

      of_steps : (x : List ℕ) → IsPath g x → StepsOver p q x ⊎ StepsOver q p x → (p < g.points) × (q < g.points)
      of_steps x path (inl s) = both x s.before s.after p q path s.is
      of_steps x path (inr s) = let other = both x s.before s.after q p path s.is in (other.1, other.0)

  -- two used edges of a point are a path
  corner_of : (a p c : ℕ) → is_used g.ways p a ≡ true → is_used g.ways p c ≡ true → (a ≡ c → ⊥) → IsPath g (a ∷ p ∷ c ∷ [])
  corner_of a p c first second apart = record {
    known = All-cons (λ q. q < g.points) a (p ∷ c ∷ []) (used_points p a first).1
        (All-cons (λ q. q < g.points) p (c ∷ []) (used_points p a first).0 (All-cons (λ q. q < g.points) c [] (used_points p c second).1 (All-nil (λ q. q < g.points))));
    distinct = three_apart a p c (λ same. used_apart p a first (sym same)) apart (used_apart p c second);
    used = used;
  }
    where
      at_ends : (p q u v : ℕ) → is_used g.ways p q ≡ true → ((p ≡ u) × (q ≡ v)) ⊎ ((p ≡ v) × (q ≡ u)) → is_used g.ways u v ≡ true
      at_ends p q u v used (inl h) = subst (λ n. is_used g.ways n v ≡ true) h.0 (subst (λ n. is_used g.ways p n ≡ true) h.1 used)
      at_ends p q u v used (inr h) =
          used_either g.ways u v ∙ subst (λ n. is_used g.ways n u ≡ true) h.0 (subst (λ n. is_used g.ways p n ≡ true) h.1 used)

      used : (u v : ℕ) → runs_over u v (a ∷ p ∷ c ∷ []) ≡ true → is_used g.ways u v ≡ true
      used u v e = of_first (either_true (are_ends u v a p) (are_ends u v p c || false) e)
        where
          of_second : (are_ends u v p c ≡ true) ⊎ (false ≡ true) → is_used g.ways u v ≡ true
          of_second (inl h) = at_ends p c u v second (ends_are u v p c h)
          of_second (inr h) = absurd (false≢true h)

          of_first : (are_ends u v a p ≡ true) ⊎ ((are_ends u v p c || false) ≡ true) → is_used g.ways u v ≡ true
          of_first (inl h) = at_ends a p u v (used_either g.ways a p ∙ first) (ends_are u v a p h)
          of_first (inr h) = of_second (either_true (are_ends u v p c) false h)

  -- both used edges of a point that is no node are on one segment
  through : (p a c : ℕ) → has_node g p ≡ false → is_used g.ways p a ≡ true → is_used g.ways p c ≡ true → segment_over chains p a ≡ segment_over chains p c
  through p a c plain first second = of_test (eqb a c) refl
    where
      k : ℕ
      k = segment_over chains p a

      over : (k < length chains) × (runs_over p a (chain_numbered points g k) ≡ true)
      over = over_used p a first

      apart_by : eqb a c ≡ false → a ≡ c → ⊥
      apart_by e same = false≢true (sym e ∙ eq-eqb a c same)

      goes : (a ≡ c → ⊥) → StepsOver p a (chain_numbered points g k) ⊎ StepsOver a p (chain_numbered points g k) → runs_over p c (chain_numbered points g k) ≡ true
      goes apart (inl s) =
          runs_turned_back p c (chain_numbered points g k)
          (on_from (reversed (chain_numbered points g k)) a p c (chain_turned g (chain_numbered points g k) (is_chain k over.0)) (steps_turned p a (chain_numbered points g k) s) plain (corner_of a p c first second apart))
      goes apart (inr s) = on_from (chain_numbered points g k) a p c (is_chain k over.0) s plain (corner_of a p c first second apart)

      of_test : (b : Bool) → eqb a c ≡ b → segment_over chains p a ≡ segment_over chains p c
      of_test true e = ap (segment_over chains p) (eqb-true a c e)
      of_test false e = sym (one_segment p c k second over.0 (goes (apart_by e) (steps_from_runs p a (chain_numbered points g k) over.1)))

  -- ---- at a node

  -- a segment that runs over an edge of a node leaves the node over it
  leaves_at : (p q : ℕ) (x : List ℕ) → has_node g p ≡ true → IsChain g x → runs_over p q x ≡ true → leaves p q x ≡ true
  leaves_at p q x node chain runs = of_steps (steps_from_runs p q x runs)
    where
      begun : (ys rest : List ℕ) → ys ≡ p ∷ q ∷ rest → begins_with p q ys ≡ true
      begun ys rest is = and_from (eqb (first_of ys) p) (eqb (second_of ys) q) (eq-eqb (first_of ys) p (ap first_of is)) (eq-eqb (second_of ys) q (ap second_of is))

      of_before : (before after : List ℕ) → x ≡ before ++ p ∷ q ∷ after → leaves p q x ≡ true
      of_before [] after is = or_left (begins_with p q x) (begins_with p q (reversed x)) (begun x after is)
      of_before (y ∷ before) after is = absurd (false≢true (sym (inner x (y ∷ before) (q ∷ after) p chain is (omega arith) (omega arith)) ∙ node))

      of_after : (before after : List ℕ) → x ≡ before ++ q ∷ p ∷ after → leaves p q x ≡ true
      of_after before [] is = or_right (begins_with p q x) (begins_with p q (reversed x)) (begun (reversed x) (reversed before) (ap reversed is ∙ turned_at before q p []))
      of_after before (y ∷ after) is =
          absurd (false≢true (sym (inner x (before ++ q ∷ []) (y ∷ after) p chain (is ∙ sym (append_assoc before (q ∷ []) (p ∷ y ∷ after))) (omega (arith, length-append before (q ∷ []))) (omega arith)) ∙ node))

      of_steps : StepsOver p q x ⊎ StepsOver q p x → leaves p q x ≡ true
      of_steps (inl s) = of_before s.before s.after s.is
      of_steps (inr s) = of_after s.before s.after s.is

  -- and one that leaves it over an edge runs over that
  runs_leaving : (p q : ℕ) (x : List ℕ) → IsChain g x → leaves p q x ≡ true → runs_over p q x ≡ true
  runs_leaving p q x chain e = of_cases (or_cases (begins_with p q x) (begins_with p q (reversed x)) e)
    where
      begun : (ys : List ℕ) → 2 ≤ length ys → begins_with p q ys ≡ true → runs_over p q ys ≡ true
      begun ys long h =
          let parts = and_parts (eqb (first_of ys) p) (eqb (second_of ys) q) h in
          subst (λ n. runs_over n q ys ≡ true) (eqb-true (first_of ys) p parts.0) (subst (λ n. runs_over (first_of ys) n ys ≡ true) (eqb-true (second_of ys) q parts.1) (runs_first ys long))

      of_cases : (begins_with p q x ≡ true) ⊎ (begins_with p q (reversed x) ≡ true) → runs_over p q x ≡ true
      of_cases (inl h) = begun x chain.long h
      of_cases (inr h) = runs_turned_back p q x (begun (reversed x) (chain_turned g x chain).long h)

  at_over : (p q : ℕ) → has_node g p ≡ true → is_used g.ways p q ≡ true → segment_at chains p q ≡ segment_over chains p q
  at_over p q node used =
      let over = over_used p q used in
      let k = segment_over chains p q in
      let found = first_place (leaves p q) chains (list_any_at (leaves p q) chains k [] over.0 (leaves_at p q (chain_numbered points g k) node (is_chain k over.0) over.1)) in
      let j = segment_at chains p q in
      sym (one_segment p q j used found.0 (runs_leaving p q (chain_numbered points g j) (is_chain j found.0) (found.1 [])))

  -- where a passage leads from one segment to another, its line joins them
  joined : (x : Passage) (low high : ℕ) → IsPassage g x → Contains passages x → has_node g x.at ≡ true → low < high → low < length chains → high < length chains
      → leads chains low high x ≡ true → (n : ℕ) × (n < length graph.joins) × Contains (get_or graph.joins n []) (join_of low high x.line.0)
  joined x low high passage known node order low_in high_in leading =
      let place : Contains (nodes_of g) x.at = Contains-filter (has_node g) (range_with_len 0 g.points) x.at (Contains-range g.points x.at passage.known) node in
      let here : get_or graph.joins place.0 [] ≡ joins_at chains passages g.lines x.at =
      get_or-map (joins_at chains passages g.lines) (nodes_of g) place.0 x.at [] place.1 ∙ ap (joins_at chains passages g.lines) place.2 in (
        place.0,
        omega (arith, place.1, length-map (nodes_of g) (joins_at chains passages g.lines)),
        subst (λ (js : List Join). Contains js (join_of low high x.line.0)) (sym here)
            (contains_joined (joins_from chains passages g.lines x.at) (range_with_len 0 (length chains)) low (join_of low high x.line.0) (Contains-range (length chains) low low_in)
            (contains_joined (λ f. cond (ltb low f) (joins_of_pair chains passages g.lines x.at low f) []) (range_with_len 0 (length chains)) high (join_of low high x.line.0) (Contains-range (length chains) high high_in)
            (subst (λ (b : Bool). Contains (cond b (joins_of_pair chains passages g.lines x.at low high) []) (join_of low high x.line.0)) (sym (lt-ltb low high order))
            (contains_mapped (join_of low high) (filter (joins chains passages x.at low high) (range_with_len 0 g.lines)) x.line.0
            (Contains-filter (joins chains passages x.at low high) (range_with_len 0 g.lines) x.line.0 (Contains-range g.lines x.line.0 passage.line) by_it))))),
      )
    where
      test : Passage → Bool
      test y = eqb y.line.0 x.line.0 && (eqb y.at x.at && leads chains low high y)

      by_it : joins chains passages x.at low high x.line.0 ≡ true
      by_it =
          list_any_at test passages known.0 x known.1
          (ap test known.2 ∙ and_from (eqb x.line.0 x.line.0) (eqb x.at x.at && leads chains low high x) (eq-eqb x.line.0 x.line.0 refl)
          (and_from (eqb x.at x.at) (leads chains low high x) (eq-eqb x.at x.at refl) leading))

  -- ---- a line goes on over each of its passages

  pub passes : (x : Passage) → IsPassage g x → Contains passages x → Passes graph chains x
  passes x passage known = of_node (has_node g x.at) refl
    where
      from_used : is_used g.ways x.at x.from ≡ true
      from_used = used_by_line x.at x.from x.line.0 g.ways passage.comes

      to_used : is_used g.ways x.at x.to ≡ true
      to_used = used_by_line x.at x.to x.line.0 g.ways passage.goes

      e : ℕ
      e = segment_over chains x.at x.from

      f : ℕ
      f = segment_over chains x.at x.to

      of_order : has_node g x.at ≡ true → (e ≡ f) ⊎ ((e < f) ⊎ (f < e)) → Passes graph chains x
      of_order node (inl same) = inl same
      of_order node (inr (inl less)) = inr (as_ends (min e f) (max e f) (omega arith) (omega arith))
        where
          as_ends : (low high : ℕ) → low ≡ e → high ≡ f → (n : ℕ) × (n < length graph.joins) × Contains (get_or graph.joins n []) (join_of low high x.line.0)
          as_ends low high is_low is_high =
              joined x low high passage known node (omega (arith, less, is_low, is_high))
              (omega (arith, is_low, (over_used x.at x.from from_used).0)) (omega (arith, is_high, (over_used x.at x.to to_used).0))
              (or_left (eqb (segment_at chains x.at x.from) low && eqb (segment_at chains x.at x.to) high) (eqb (segment_at chains x.at x.from) high && eqb (segment_at chains x.at x.to) low)
              (and_from (eqb (segment_at chains x.at x.from) low) (eqb (segment_at chains x.at x.to) high)
              (eq-eqb (segment_at chains x.at x.from) low (at_over x.at x.from node from_used ∙ sym is_low))
              (eq-eqb (segment_at chains x.at x.to) high (at_over x.at x.to node to_used ∙ sym is_high))))
      of_order node (inr (inr more)) = inr (as_ends (min e f) (max e f) (omega arith) (omega arith))
        where
          as_ends : (low high : ℕ) → low ≡ f → high ≡ e → (n : ℕ) × (n < length graph.joins) × Contains (get_or graph.joins n []) (join_of low high x.line.0)
          as_ends low high is_low is_high =
              joined x low high passage known node (omega (arith, more, is_low, is_high))
              (omega (arith, is_low, (over_used x.at x.to to_used).0)) (omega (arith, is_high, (over_used x.at x.from from_used).0))
              (or_right (eqb (segment_at chains x.at x.from) low && eqb (segment_at chains x.at x.to) high) (eqb (segment_at chains x.at x.from) high && eqb (segment_at chains x.at x.to) low)
              (and_from (eqb (segment_at chains x.at x.from) high) (eqb (segment_at chains x.at x.to) low)
              (eq-eqb (segment_at chains x.at x.from) high (at_over x.at x.from node from_used ∙ sym is_high))
              (eq-eqb (segment_at chains x.at x.to) low (at_over x.at x.to node to_used ∙ sym is_low))))

      of_node : (b : Bool) → has_node g x.at ≡ b → Passes graph chains x
      of_node true node = of_order node (cases_order e f)
      of_node false plain = inl (through x.at x.from x.to plain from_used to_used)

  -- a line rides over the segments along points that it runs over, where its passages there are known
  pub rides_along : (line : LineId) (xs : List ℕ) → line.0 < g.lines → ((p q : ℕ) → runs_over p q xs ≡ true → line_runs_over g.ways p q line.0 ≡ true)
      → All (λ (x : Passage). IsPassage g x × Contains passages x) (passages_along line xs) → Rides graph line.0 (segments_along chains xs)
  rides_along line [] below runs each = tt
  rides_along line (a ∷ []) below runs each = tt
  rides_along line (a ∷ b ∷ []) below runs each = on_first line a b [] below runs
    where
      on_first : (line : LineId) (a b : ℕ) (rest : List ℕ) → line.0 < g.lines → ((p q : ℕ) → runs_over p q (a ∷ b ∷ rest) ≡ true → line_runs_over g.ways p q line.0 ≡ true) → IsOn graph line.0 (segment_over chains a b)
      on_first line a b rest below runs = let over = runs a b (runs_at [] a b rest) in on_segment a b line.0 below over (used_by_line a b line.0 g.ways over)
  rides_along line (a ∷ b ∷ c ∷ rest) below runs each =
      let x : Passage = record { line = line; at = b; from = a; to = c } in
      let known = All-head (λ (x : Passage). IsPassage g x × Contains passages x) x (passages_along line (b ∷ c ∷ rest)) each in
      let over = runs a b (runs_at [] a b (c ∷ rest)) in (
        on_segment a b line.0 below over (used_by_line a b line.0 g.ways over),
        subst (λ e. GoesOn graph line.0 e (segment_over chains b c)) (over_either chains b a) (passes x known.0 known.1),
        rides_along line (b ∷ c ∷ rest) below
            (λ p q e. runs p q (or_right (are_ends p q a b) (runs_over p q (b ∷ c ∷ rest)) e))
            (All-tail (λ (x : Passage). IsPassage g x × Contains passages x) x (passages_along line (b ∷ c ∷ rest)) each),
      )

  -- ---- a line on a segment rides there

  along_has : (a b : ℕ) (xs : List ℕ) → runs_over a b xs ≡ true → Contains (segments_along chains xs) (segment_over chains a b)
  along_has a b [] e = absurd (false≢true e)
  along_has a b (x ∷ []) e = absurd (false≢true e)
  along_has a b (x ∷ y ∷ rest) e = of_cases (or_cases (are_ends a b x y) (runs_over a b (y ∷ rest)) e) (along_has a b (y ∷ rest))
    where
      here : ((x ≡ a) × (y ≡ b)) ⊎ ((x ≡ b) × (y ≡ a)) → segment_over chains x y ≡ segment_over chains a b
      here (inl h) = ap (λ n. segment_over chains n y) h.0 ∙ ap (segment_over chains a) h.1
      here (inr h) = ap (λ n. segment_over chains n y) h.0 ∙ ap (segment_over chains b) h.1 ∙ over_either chains b a

      of_cases : (are_ends a b x y ≡ true) ⊎ (runs_over a b (y ∷ rest) ≡ true) → (runs_over a b (y ∷ rest) ≡ true → Contains (segments_along chains (y ∷ rest)) (segment_over chains a b))
          → Contains (segment_over chains x y ∷ segments_along chains (y ∷ rest)) (segment_over chains a b)
      of_cases (inl h) later = (0, omega arith, here (ends_are a b x y h))
      of_cases (inr h) later = let c = later h in (suc c.0, omega (arith, c.1), c.2)

  -- it runs over an edge that is on this segment alone
  pub ridden : (line segment : ℕ) → IsOn graph line segment → (a : ℕ) × (b : ℕ) × (line_runs_over g.ways a b line ≡ true) × ((xs : List ℕ) → runs_over a b xs ≡ true → Contains (segments_along chains xs) segment)
  ridden line segment on =
      let chain = chain_numbered points g segment in
      let in_chains : segment < length chains = omega (arith, on.0, length-map chains (lines_of g)) in
      let here : get_or graph.lines segment [] ≡ lines_of g chain = get_or-map (lines_of g) chains segment [] [] in_chains in
      let among : Contains (lines_of g chain) (line_numbered line) = subst (λ (ls : List LineId). Contains ls (line_numbered line)) here on.1 in
      let below : line < g.lines = All-contains (λ (l : LineId). l.0 < g.lines) (lines_of g chain) (line_numbered line) (chain_below g chain) among in
      let told : is_line_of g chain line ≡ true = told_by (lines_of g chain) among in
      let s = (has_lines_of_ways points g network.ways segment line in_chains below).0 told in
      let used : is_used g.ways s.a s.b ≡ true = used_by_line s.a s.b line g.ways s.way in
      (s.a, s.b, s.way, λ xs e. subst (Contains (segments_along chains xs)) (one_segment s.a s.b segment used in_chains s.segment) (along_has s.a s.b xs e))
    where
      told_by : (ls : List LineId) → Contains ls (line_numbered line) → list_any (λ (x : LineId). eqb x.0 line) ls ≡ true
      told_by ls c = list_any_at (λ (x : LineId). eqb x.0 line) ls c.0 (line_numbered line) c.1 (ap (λ (x : LineId). eqb x.0 line) c.2 ∙ eq-eqb line line refl)
