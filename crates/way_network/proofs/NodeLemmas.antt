-- The nodes of a network, from its used edges.
use Rattle.std.proofs.Common.{◌≡◌, ℕ, zero, suc, ◌+◌, ◌-◌, ◌<◌, ◌≤◌, Bool, true, false, cond, not, eqb, ltb, ◌&&◌, ◌||◌, List, [], ◌∷◌, ◌++◌, length, get_or, map, filter, Some, None, unwrap_or, refl, sym, ◌∙◌, ap, subst, arith, append-nil}
use Rattle.std.specs.List.{range_with_len, position_or_len}
use Rattle.std.specs.Cmp.Lexicographic.{pointwise}
use Rattle.std.proofs.lemmas.Bool.{eq-eqb}
use Rattle.std.proofs.lemmas.Bool.Decides.{nat_tests}
use Rattle.std.proofs.lemmas.List.{same_lists, length-append}
use Rattle.std.proofs.lemmas.List.Elements.{All-filter, filter-append}
use Rattle.std.proofs.lemmas.List.FromFn.{length-range_with_len, length-map-range_with_len, get_or-map-range_with_len, map-range_with_len_more}
use Rattle.map_base.specs.declared.ids.LineId.{LineId}
use Rattle.track_net.proofs.Lists.{filter-range_more, range_below}
use Rattle.way_network.specs.declared.edges.UsedEdge.{UsedEdge}
use Rattle.way_network.specs.Edges.{are_equal, lines_over, passes, is_on_edges}
use Rattle.way_network.specs.Chains.{Network, used_at, has_node}
use Rattle.way_network.specs.Segments.{nodes_of}
use Rattle.way_network.specs.Tables.{edge_to, edges_from, edge_table, row_at}
use Rattle.way_network.specs.Uses.{has_number, line_numbers}
use Rattle.way_network.specs.Nodes.{is_node_in, row_has_node, node_points_in, place_in, NodeTable, KeepsNodes}
use Rattle.way_network.proofs.UseOrder.{numbers_of_numbered}
use Rattle.way_network.proofs.RisingLists.{has_filtered, has_below}

pub equal_numbers : (a b : List LineId) → pointwise (λ (x y : LineId). eqb x.0 y.0) a b ≡ are_equal (map (λ line. line.0) a) (map (λ line. line.0) b)
equal_numbers [] [] = refl
equal_numbers [] (y ∷ ys) = refl
equal_numbers (x ∷ xs) [] = refl
equal_numbers (x ∷ xs) (y ∷ ys) = ap (λ (t : Bool). eqb x.0 y.0 && t) (equal_numbers xs ys)

-- how many numbers below one pass a test, where it passes itself
abbrev pub before_number : (ℕ → Bool) → ℕ → ℕ
before_number f p = cond (f p) (length (filter f (range_with_len 0 p))) 0

-- The place of a number among those that pass.

range_split : (a q m : ℕ) → range_with_len a (q + suc m) ≡ range_with_len a q ++ (a + q) ∷ range_with_len (a + q + 1) m
range_split a zero m =
    let n : 0 + suc m ≡ suc m = omega arith in
    let z : a + 0 ≡ a = omega arith in
    ap (range_with_len a) n ∙ ap (λ (b : ℕ). b ∷ range_with_len (b + 1) m) (sym z)
range_split a (suc q) m =
    let n : suc q + suc m ≡ suc (q + suc m) = omega arith in
    let b : a + 1 + q ≡ a + suc q = omega arith in
    ap (range_with_len a) n ∙ ap (λ (xs : List ℕ). a ∷ xs) (range_split (a + 1) q m)
    ∙ ap (λ (c : ℕ). a ∷ (range_with_len (a + 1) q ++ c ∷ range_with_len (c + 1) m)) b

turned : (a b : ℕ) → eqb a b ≡ eqb b a
turned a b = grind (arith, nat_tests)

both_false : (x y : Bool) → (x || y) ≡ false → (x ≡ false) × (y ≡ false)
both_false true y e = absurd cc
both_false false y e = (refl, e)

past : (q : ℕ) (xs ys : List ℕ) → has_number xs q ≡ false → position_or_len (λ n. eqb n q) (xs ++ ys) ≡ length xs + position_or_len (λ n. eqb n q) ys
past q [] ys e = omega arith
past q (x ∷ xs) ys e =
    let parts = both_false (eqb q x) (has_number xs q) e in
    ap (λ (t : Bool). cond (not t) (1 + position_or_len (λ n. eqb n q) (xs ++ ys)) 0) (turned x q ∙ parts.0) ∙ omega (arith, past q xs ys parts.1)

place_of_first : (k n : ℕ) → k < n → unwrap_or (cond (ltb k n) (Some k) None) 0 ≡ k
place_of_first k n l = ap (λ (t : Bool). unwrap_or (cond t (Some k) None) 0) (low k n l)
  where
    low : (k n : ℕ) → k < n → ltb k n ≡ true
    low k n l = grind (arith, nat_tests)

place_of_none : (k n : ℕ) → n ≤ k → unwrap_or (cond (ltb k n) (Some k) None) 0 ≡ 0
place_of_none k n l = ap (λ (t : Bool). unwrap_or (cond t (Some k) None) 0) (high k n l)
  where
    high : (k n : ℕ) → n ≤ k → ltb k n ≡ false
    high k n l = grind (arith, nat_tests)

no_place : (q : ℕ) (xs : List ℕ) → has_number xs q ≡ false → place_in xs q ≡ 0
no_place q xs none =
    place_of_none (position_or_len (λ n. eqb n q) xs) (length xs)
    (omega (arith, past q xs [] none, ap (λ (ys : List ℕ). position_or_len (λ n. eqb n q) ys) (append-nil xs)))

place_after : (q : ℕ) (xs ys : List ℕ) → has_number xs q ≡ false → place_in (xs ++ q ∷ ys) q ≡ length xs
place_after q xs ys none =
    let here : position_or_len (λ n. eqb n q) (q ∷ ys) ≡ 0 = ap (λ (t : Bool). cond (not t) (1 + position_or_len (λ n. eqb n q) ys) 0) (eq-eqb q q refl) in
    let at : position_or_len (λ n. eqb n q) (xs ++ q ∷ ys) ≡ length xs = omega (arith, past q xs (q ∷ ys) none, here) in
    place_of_first (position_or_len (λ n. eqb n q) (xs ++ q ∷ ys)) (length (xs ++ q ∷ ys)) (omega (arith, at, length-append xs (q ∷ ys))) ∙ at

module _ (f : ℕ → Bool) (n : ℕ) where
  abbrev passing : List ℕ
  passing = filter f (range_with_len 0 n)

  has_passing : (q : ℕ) → q < n → has_number passing q ≡ f q
  has_passing q l = has_filtered f q (range_with_len 0 n) ∙ ap (λ (t : Bool). t && f q) (has_below q n ∙ low q n l)
    where
      low : (q n : ℕ) → q < n → ltb q n ≡ true
      low q n l = grind (arith, nat_tests)

  place_is : (q : ℕ) → q < n → place_in passing q ≡ before_number f q
  place_is q l = by (f q) refl
    where
      low : List ℕ
      low = filter f (range_with_len 0 q)

      rest : List ℕ
      rest = filter f (range_with_len (0 + q + 1) (n - (q + 1)))

      not_low : has_number (filter f (range_with_len 0 q)) q ≡ false
      not_low = has_filtered f q (range_with_len 0 q) ∙ ap (λ (t : Bool). t && f q) (has_below q q ∙ itself q)
        where
          itself : (q : ℕ) → ltb q q ≡ false
          itself q = grind (arith, nat_tests)

      parted : (b : Bool) → f q ≡ b → filter f (range_with_len 0 n) ≡ filter f (range_with_len 0 q) ++ cond b (q ∷ filter f (range_with_len (0 + q + 1) (n - (q + 1)))) (filter f (range_with_len (0 + q + 1) (n - (q + 1))))
      parted b e =
          let m : n ≡ q + suc (n - (q + 1)) = omega (arith, l) in
          let z : 0 + q ≡ q = omega arith in
          ap (λ (k : ℕ). filter f (range_with_len 0 k)) m
          ∙ ap (filter f) (range_split 0 q (n - (q + 1)))
          ∙ filter-append f (range_with_len 0 q) ((0 + q) ∷ range_with_len (0 + q + 1) (n - (q + 1)))
          ∙ ap (λ (k : ℕ). filter f (range_with_len 0 q) ++ cond (f k) (k ∷ filter f (range_with_len (0 + q + 1) (n - (q + 1)))) (filter f (range_with_len (0 + q + 1) (n - (q + 1))))) z
          ∙ ap (λ (t : Bool). filter f (range_with_len 0 q) ++ cond t (q ∷ filter f (range_with_len (0 + q + 1) (n - (q + 1)))) (filter f (range_with_len (0 + q + 1) (n - (q + 1))))) e

      by : (b : Bool) → f q ≡ b → place_in (filter f (range_with_len 0 n)) q ≡ cond (f q) (length (filter f (range_with_len 0 q))) 0
      by true e =
          ap (λ (xs : List ℕ). place_in xs q) (parted true e)
          ∙ place_after q (filter f (range_with_len 0 q)) (filter f (range_with_len (0 + q + 1) (n - (q + 1)))) not_low
          ∙ sym (ap (λ (t : Bool). cond t (length (filter f (range_with_len 0 q))) 0) e)
      by false e = no_place q (filter f (range_with_len 0 n)) (has_passing q l ∙ e) ∙ sym (ap (λ (t : Bool). cond t (length (filter f (range_with_len 0 q))) 0) e)

  -- what agrees below a bound gives one list
  agree_below : {Y : Type 0} (g h : ℕ → Y) → ((q : ℕ) → q < n → g q ≡ h q) → map g (range_with_len 0 n) ≡ map h (range_with_len 0 n)
  agree_below g h same =
      same_lists (map g (range_with_len 0 n)) (map h (range_with_len 0 n)) (length-map-range_with_len g 0 n ∙ sym (length-map-range_with_len h 0 n))
      (λ k d l.
      let low : k < n = omega (arith, l, length-map-range_with_len g 0 n) in
      let z : 0 + k ≡ k = omega arith in
      get_or-map-range_with_len g 0 n k k d low z ∙ same k low ∙ sym (get_or-map-range_with_len h 0 n k k d low z))

  pub nodes_kept : (flags : List Bool) (places : List ℕ) → flags ≡ map f (range_with_len 0 n) → places ≡ map (before_number f) (range_with_len 0 n) → KeepsNodes n passing flags places
  nodes_kept flags places flagged placed = record {
    flagged = flagged ∙ agree_below f (has_number passing) (λ q l. sym (has_passing q l));
    placed = placed ∙ agree_below (before_number f) (place_in passing) (λ q l. sym (place_is q l));
    known = All-filter f (λ p. p < n) (range_with_len 0 n) (range_below n);
  }

pub at_most : (f : ℕ → Bool) (n : ℕ) → length (filter f (range_with_len 0 n)) ≤ n
at_most f n = omega (arith, fewer (range_with_len 0 n), length-range_with_len 0 n)
  where
    fewer : (xs : List ℕ) → length (filter f xs) ≤ length xs
    fewer [] = omega arith
    fewer (x ∷ xs) = elim (f x) as (λ b. length (cond b (x ∷ filter f xs) (filter f xs)) ≤ suc (length xs)) [ true ↦ omega (arith, fewer xs) | false ↦ omega (arith, fewer xs) ]

-- one more point is looked at
pub point_more : (f : ℕ → Bool) (k p : ℕ) (before after : List ℕ) (b : Bool) → p ≡ k → b ≡ f p → before ≡ filter f (range_with_len 0 k) → after ≡ before ++ cond b (p ∷ []) []
    → after ≡ filter f (range_with_len 0 (k + 1))
point_more f k p before after b e t so_far more =
    more ∙ ap (λ (xs : List ℕ). xs ++ cond b (p ∷ []) []) so_far ∙ ap (λ (u : Bool). filter f (range_with_len 0 k) ++ cond u (p ∷ []) []) t
    ∙ ap (λ (q : ℕ). filter f (range_with_len 0 k) ++ cond (f q) (q ∷ []) []) e ∙ sym (filter-range_more f k)

pub value_more : {Y : Type 0} (f : ℕ → Y) (k p : ℕ) (before after : List Y) (y : Y) → p ≡ k → y ≡ f p → before ≡ map f (range_with_len 0 k) → after ≡ before ++ y ∷ []
    → after ≡ map f (range_with_len 0 (k + 1))
value_more {Y} f k p before after y e t so_far more =
    more ∙ ap (λ (xs : List Y). xs ++ y ∷ []) so_far ∙ ap (λ (z : Y). map f (range_with_len 0 k) ++ z ∷ []) (t ∙ ap f e) ∙ sym (map-range_with_len_more f 0 k k (omega arith))

pub number_is : (f : ℕ → Bool) (p count number : ℕ) (b : Bool) (points : List ℕ) → b ≡ f p → points ≡ filter f (range_with_len 0 p) → count ≡ length points → number ≡ cond b count 0
    → number ≡ before_number f p
number_is f p count number b points t so_far c is =
    is ∙ ap (λ (u : Bool). cond u count 0) t ∙ ap (λ (n : ℕ). cond (f p) n 0) (c ∙ ap length so_far)

-- The nodes that the table of a network tells are its nodes.

module _ (g : Network) where
  row_of_point : (p : ℕ) → p < g.points → row_at (edge_table g) p ≡ edges_from g p
  row_of_point p l = get_or-map-range_with_len (edges_from g) 0 g.points p p [] l (omega arith)

  equal_lines : (p a b : ℕ) → are_equal (line_numbers (edge_to g p a)) (line_numbers (edge_to g p b)) ≡ are_equal (lines_over g.lines g.ways p a) (lines_over g.lines g.ways p b)
  equal_lines p a b =
      ap (λ (xs : List ℕ). are_equal xs (line_numbers (edge_to g p b))) (numbers_of_numbered (lines_over g.lines g.ways p a))
      ∙ ap (λ (ys : List ℕ). are_equal (lines_over g.lines g.ways p a) ys) (numbers_of_numbered (lines_over g.lines g.ways p b))

  node_by_row : (p : ℕ) (others : List ℕ) → row_has_node (map (edge_to g p) others) ≡ (is_on_edges others && not (passes g.lines g.ways p others))
  node_by_row p [] = refl
  node_by_row p (a ∷ []) = refl
  node_by_row p (a ∷ b ∷ []) = ap not (equal_lines p a b)
  node_by_row p (a ∷ b ∷ c ∷ rest) = refl

  pub node_told : (p : ℕ) → p < g.points → is_node_in g.stations (edge_table g) p ≡ has_node g p
  node_told p l =
      ap (λ (row : List UsedEdge). ltb p g.stations || row_has_node row) (row_of_point p l) ∙ ap (λ (t : Bool). ltb p g.stations || t) (node_by_row p (used_at g p))

  pub length-edge_table : length (edge_table g) ≡ g.points
  length-edge_table = length-map-range_with_len (edges_from g) 0 g.points

  filter_below : (f h : ℕ → Bool) (a n : ℕ) → ((q : ℕ) → q < a + n → f q ≡ h q) → filter f (range_with_len a n) ≡ filter h (range_with_len a n)
  filter_below f h a zero same = refl
  filter_below f h a (suc n) same =
      ap (λ (t : Bool). cond t (a ∷ filter f (range_with_len (a + 1) n)) (filter f (range_with_len (a + 1) n))) (same a (omega arith))
      ∙ ap (λ (xs : List ℕ). cond (h a) (a ∷ xs) xs) (filter_below f h (a + 1) n (λ q l. same q (omega (arith, l))))

  pub nodes_told : node_points_in g.stations (edge_table g) ≡ nodes_of g
  nodes_told =
      ap (λ (n : ℕ). filter (is_node_in g.stations (edge_table g)) (range_with_len 0 n)) length-edge_table
      ∙ filter_below (is_node_in g.stations (edge_table g)) (has_node g) 0 g.points (λ q l. node_told q (omega (arith, l)))

-- what the loop over all points leaves
pub nodes_made : (f : ℕ → Bool) (n : ℕ) (points : List ℕ) (flags : List Bool) (places : List ℕ) → points ≡ filter f (range_with_len 0 n) → flags ≡ map f (range_with_len 0 n)
    → places ≡ map (before_number f) (range_with_len 0 n) → KeepsNodes (length flags) points flags places
nodes_made f n points flags places are flagged placed =
    let count : length flags ≡ n = ap length flagged ∙ length-map-range_with_len f 0 n in
    subst (λ (m : ℕ). KeepsNodes m points flags places) (sym count) (subst (λ (ps : List ℕ). KeepsNodes n ps flags places) (sym are) (nodes_kept f n flags places flagged placed))

abbrev table_with : ℕ → List ℕ → NodeTable
table_with a xs = record { points = a; nodes = xs }

pub same_table : (a b : ℕ) (xs ys : List ℕ) → a ≡ b → xs ≡ ys → table_with a xs ≡ table_with b ys
same_table a b xs ys e f = λ i. record { points = e i; nodes = f i }

-- what is kept for a point
pub flag_kept : (n p : ℕ) (nodes : List ℕ) (flags : List Bool) (places : List ℕ) (d : Bool) → KeepsNodes n nodes flags places → p < n → get_or flags p d ≡ has_number nodes p
flag_kept n p nodes flags places d k l = ap (λ (xs : List Bool). get_or xs p d) k.flagged ∙ get_or-map-range_with_len (has_number nodes) 0 n p p d l (omega arith)

pub place_kept : (n p : ℕ) (nodes : List ℕ) (flags : List Bool) (places : List ℕ) (d : ℕ) → KeepsNodes n nodes flags places → p < n → get_or places p d ≡ place_in nodes p
place_kept n p nodes flags places d k l = ap (λ (xs : List ℕ). get_or xs p d) k.placed ∙ get_or-map-range_with_len (place_in nodes) 0 n p p d l (omega arith)

pub nodes_view : (f : ℕ → Bool) (n m : ℕ) (points : List ℕ) (flags : List Bool) → n ≡ m → points ≡ filter f (range_with_len 0 n) → flags ≡ map f (range_with_len 0 n)
    → table_with (length flags) points ≡ table_with m (filter f (range_with_len 0 m))
nodes_view f n m points flags e are flagged =
    same_table (length flags) m points (filter f (range_with_len 0 m)) (ap length flagged ∙ length-map-range_with_len f 0 n ∙ e) (are ∙ ap (λ (k : ℕ). filter f (range_with_len 0 k)) e)
