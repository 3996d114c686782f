-- The segments of a network: the chains that rise, each once, and the one that leaves a node over an edge.
use Rattle.std.proofs.Common.{◌≡◌, ◌≢◌, refl, sym, ◌∙◌, ap, subst, ℕ, ◌+◌, ◌<◌, ◌≤◌, ◌⊎◌, inl, inr, Bool, true, false, cond, eqb, ltb, ◌||◌, ◌&&◌, List, [], ◌∷◌, ◌++◌, length, get_or, map, append-nil, arith}
use Rattle.std.specs.List.{All, range_with_len}
use Rattle.std.proofs.lemmas.Bool.{cases_lt, eq-eqb, eqb-true}
use Rattle.std.proofs.lemmas.Bool.Decides.{nat_tests}
use Rattle.map_base.specs.declared.point.Point.{Point}
use Rattle.way_network.specs.declared.way.Way.{Way}
use Rattle.way_network.specs.Edges.{are_ends, runs_over, line_runs_over, is_used}
use Rattle.way_network.specs.Chains.{Network, used_at, has_node, chain_from}
use Rattle.way_network.specs.Segments.{first_of, second_of, last_of, reversed, reversed_onto, put_in, put_in_order, turns_before, around, rising_chains, nodes_of, segment_chains, node_at, begins_with, leaves, segment_at}
use Rattle.way_network.specs.Premises.{IsNetwork, IsWay}
use Rattle.way_network.specs.Pieces.{IsChain}
use Rattle.way_network.proofs.ChainLaws.{begun, begun_first, begun_second, turned, followed, apart, below, used_first}
use Rattle.way_network.proofs.ConsistencyLists.{In, in_map, from_map, in_filter, from_filter, in_flat_map, from_flat_map, in_range, from_range, in_at, all_at, any_in, from_any, first_found, Follow, follow_filter, follow_map, follow_flat_map, follow_range, follow_weaker, follow_at, Apart, same_place}

-- Tests.

pub low : (a b : ℕ) → ltb a b ≡ true → a < b
low a b h = grind (arith, nat_tests)

pub is_low : (a b : ℕ) → a < b → ltb a b ≡ true
is_low a b h = grind (arith, nat_tests)

pub both : (a b : Bool) → (a && b) ≡ true → (a ≡ true) × (b ≡ true)
both true b e = (refl, e)
both false b e = absurd cc

pub is_both : (a b : Bool) → a ≡ true → b ≡ true → (a && b) ≡ true
is_both a b e f = λ i. e i && f i

pub either : (a b : Bool) → (a || b) ≡ true → (a ≡ true) ⊎ (b ≡ true)
either true b e = inl refl
either false b e = inr e

pub is_left : (a b : Bool) → a ≡ true → (a || b) ≡ true
is_left true b e = refl
is_left false b e = absurd cc

pub is_right : (a b : Bool) → b ≡ true → (a || b) ≡ true
is_right true b e = refl
is_right false b e = e

-- Numbers in reverse.

first_onto : (a : ℕ) (done xs : List ℕ) → first_of (reversed_onto done (a ∷ xs)) ≡ last_of (a ∷ xs)
first_onto a done [] = refl
first_onto a done (b ∷ xs) = first_onto b (a ∷ done) xs

last_onto : (a : ℕ) (done xs : List ℕ) → last_of (reversed_onto (a ∷ done) xs) ≡ last_of (a ∷ done)
last_onto a done [] = refl
last_onto a done (b ∷ xs) = last_onto b (a ∷ done) xs

twice : (ys done xs : List ℕ) → reversed_onto ys (reversed_onto done xs) ≡ reversed_onto (xs ++ ys) done
twice ys done [] = refl
twice ys done (a ∷ xs) = twice ys (a ∷ done) xs

pub first_reversed : (c : List ℕ) → first_of (reversed c) ≡ last_of c
first_reversed [] = refl
first_reversed (a ∷ xs) = first_onto a [] xs

pub last_reversed : (c : List ℕ) → last_of (reversed c) ≡ first_of c
last_reversed [] = refl
last_reversed (a ∷ xs) = last_onto a [] xs

pub reversed_twice : (c : List ℕ) → reversed (reversed c) ≡ c
reversed_twice c = twice [] [] c ∙ append-nil c

pub first_in : (c : List ℕ) → 2 ≤ length c → In (first_of c) c
first_in [] l = absurd (omega arith)
first_in (a ∷ xs) l = inl refl

pub second_in : (c : List ℕ) → 2 ≤ length c → In (second_of c) c
second_in [] l = absurd (omega arith)
second_in (a ∷ []) l = absurd (omega arith)
second_in (a ∷ b ∷ xs) l = inr (inl refl)

pub last_in : (c : List ℕ) → 1 ≤ length c → In (last_of c) c
last_in [] l = absurd (omega arith)
last_in (a ∷ []) l = inl refl
last_in (a ∷ b ∷ xs) l = inr (last_in (b ∷ xs) (omega arith))

-- Numbers put in order.

in_put_in : (before : ℕ → ℕ → Bool) (a x : ℕ) (xs : List ℕ) → (a ≡ x) ⊎ In x xs → In x (put_in before a xs)
in_put_in before a x [] m = m
in_put_in before a x (b ∷ rest) m = by (before a b) (in_put_in before a x rest) m
  where
    by : (t : Bool) → ((a ≡ x) ⊎ In x rest → In x (put_in before a rest)) → (a ≡ x) ⊎ ((b ≡ x) ⊎ In x rest) → In x (cond t (a ∷ b ∷ rest) (b ∷ put_in before a rest))
    by true again k = k
    by false again (inl e) = inr (again (inl e))
    by false again (inr (inl e)) = inl e
    by false again (inr (inr k)) = inr (again (inr k))

from_put_in : (before : ℕ → ℕ → Bool) (a x : ℕ) (xs : List ℕ) → In x (put_in before a xs) → (a ≡ x) ⊎ In x xs
from_put_in before a x [] m = m
from_put_in before a x (b ∷ rest) m = by (before a b) (λ k. from_put_in before a x rest k) m
  where
    by : (t : Bool) → (In x (put_in before a rest) → (a ≡ x) ⊎ In x rest) → In x (cond t (a ∷ b ∷ rest) (b ∷ put_in before a rest)) → (a ≡ x) ⊎ ((b ≡ x) ⊎ In x rest)
    by true again k = k
    by false again (inl e) = inr (inl e)
    by false again (inr k) = on (again k)
      where
        on : (a ≡ x) ⊎ In x rest → (a ≡ x) ⊎ ((b ≡ x) ⊎ In x rest)
        on (inl e) = inl e
        on (inr m) = inr (inr m)

apart_put_in : (before : ℕ → ℕ → Bool) (a : ℕ) (xs : List ℕ) → Apart xs → (In a xs → ⊥) → Apart (put_in before a xs)
apart_put_in before a [] u none = (λ x m. absurd m, tt)
apart_put_in before a (b ∷ rest) u none = by (before a b) (apart_put_in before a rest u.1 (λ m. none (inr m)))
  where
    others : (x : ℕ) → (a ≡ x) ⊎ In x rest → b ≢ x
    others x (inl e) f = none (inl (f ∙ sym e))
    others x (inr m) f = u.0 x m f

    by : (t : Bool) → Apart (put_in before a rest) → Apart (cond t (a ∷ b ∷ rest) (b ∷ put_in before a rest))
    by true v = (λ x m e. none (subst (λ z. In z (b ∷ rest)) (sym e) m), u)
    by false v = (λ x m. others x (from_put_in before a x rest m), v)

in_order : (before : ℕ → ℕ → Bool) (x : ℕ) (xs : List ℕ) → In x xs → In x (put_in_order before xs)
in_order before x [] m = absurd m
in_order before x (a ∷ xs) (inl e) = in_put_in before a x (put_in_order before xs) (inl e)
in_order before x (a ∷ xs) (inr m) = in_put_in before a x (put_in_order before xs) (inr (in_order before x xs m))

from_order : (before : ℕ → ℕ → Bool) (x : ℕ) (xs : List ℕ) → In x (put_in_order before xs) → In x xs
from_order before x [] m = absurd m
from_order before x (a ∷ xs) m = by (λ k. from_order before x xs k) (from_put_in before a x (put_in_order before xs) m)
  where
    by : (In x (put_in_order before xs) → In x xs) → (a ≡ x) ⊎ In x (put_in_order before xs) → (a ≡ x) ⊎ In x xs
    by again (inl e) = inl e
    by again (inr k) = inr (again k)

apart_order : (before : ℕ → ℕ → Bool) (xs : List ℕ) → Apart xs → Apart (put_in_order before xs)
apart_order before [] u = tt
apart_order before (a ∷ xs) u = apart_put_in before a (put_in_order before xs) (apart_order before xs u.1) (λ m. u.0 a (from_order before a xs m) refl)

-- Used edges.

over_member : (p q : ℕ) (xs : List ℕ) → runs_over p q xs ≡ true → In q xs
over_member p q [] t = absurd cc
over_member p q (a ∷ []) t = absurd cc
over_member p q (a ∷ b ∷ rest) t = by (either (are_ends p q a b) (runs_over p q (b ∷ rest)) t) (λ k. over_member p q (b ∷ rest) k)
  where
    ends : (eqb a p && eqb b q ≡ true) ⊎ (eqb a q && eqb b p ≡ true) → In q (a ∷ b ∷ rest)
    ends (inl e) = inr (inl (eqb-true b q (both (eqb a p) (eqb b q) e).1))
    ends (inr e) = inl (eqb-true a q (both (eqb a q) (eqb b p) e).0)

    by : (are_ends p q a b ≡ true) ⊎ (runs_over p q (b ∷ rest) ≡ true) → (runs_over p q (b ∷ rest) ≡ true → In q (b ∷ rest)) → In q (a ∷ b ∷ rest)
    by (inl e) again = ends (either (eqb a p && eqb b q) (eqb a q && eqb b p) e)
    by (inr e) again = inr (again e)

pub used_below : (g : Network) → All (IsWay g) g.ways → (p q : ℕ) → is_used g.ways p q ≡ true → q < g.points
used_below g ways p q t =
    let r = from_any (λ (w : Way). runs_over p q w.points) g.ways t in
    let way : IsWay g r.0 = all_at (IsWay g) r.0 g.ways ways r.1 in
    all_at (λ k. k < g.points) q r.0.points way.known (over_member p q r.0.points r.2)

pub line_used : (g : Network) (p q line : ℕ) → line_runs_over g.ways p q line ≡ true → is_used g.ways p q ≡ true
line_used g p q line t =
    let r = from_any (λ (w : Way). eqb w.line.0 line && runs_over p q w.points) g.ways t in
    any_in (λ (w : Way). runs_over p q w.points) r.0 g.ways r.1 (both (eqb r.0.line.0 line) (runs_over p q r.0.points) r.2).1

pub used_line : (g : Network) → All (IsWay g) g.ways → (p q : ℕ) → is_used g.ways p q ≡ true → (line : ℕ) × (line < g.lines) × (line_runs_over g.ways p q line ≡ true)
used_line g ways p q t =
    let r = from_any (λ (w : Way). runs_over p q w.points) g.ways t in
    let way : IsWay g r.0 = all_at (IsWay g) r.0 g.ways ways r.1 in
    let w : Way = r.0 in (
      w.line.0,
      way.line,
      any_in (λ (v : Way). eqb v.line.0 w.line.0 && runs_over p q v.points) w g.ways r.1
          (is_both (eqb w.line.0 w.line.0) (runs_over p q w.points) (eq-eqb w.line.0 w.line.0 refl) r.2),
    )

-- Nodes.

pub in_nodes : (g : Network) (p : ℕ) → p < g.points → has_node g p ≡ true → In p (nodes_of g)
in_nodes g p l t = in_filter (has_node g) p (range_with_len 0 g.points) (in_range p 0 g.points (omega arith) (omega arith)) t

pub from_nodes : (g : Network) (p : ℕ) → In p (nodes_of g) → (p < g.points) × (has_node g p ≡ true)
from_nodes g p m =
    let r = from_filter (has_node g) p (range_with_len 0 g.points) m in
    let within : (0 ≤ p) × (p < 0 + g.points) = from_range p 0 g.points r.0 in
    (omega arith, r.1)

pub nodes_rise : (g : Network) → Follow (λ x y. x < y) (nodes_of g)
nodes_rise g = follow_filter (λ x y. x < y) (has_node g) (range_with_len 0 g.points) (follow_range 0 g.points)

pub less_apart : (x y : ℕ) → x < y → x ≢ y
less_apart x y l e = omega (arith, l, e)

pub nodes_apart : (g : Network) → Apart (nodes_of g)
nodes_apart g = follow_weaker (λ x y. x < y) (λ x y. x ≢ y) (nodes_of g) less_apart (nodes_rise g)

-- the number of a node is its place
pub node_place : (g : Network) (p : ℕ) → In p (nodes_of g) → (node_at g p < length (nodes_of g)) × ((d : ℕ) → get_or (nodes_of g) (node_at g p) d ≡ p)
node_place g p m =
    let r = first_found (λ n. eqb n p) p (nodes_of g) m (eq-eqb p p refl) in
    (r.0, λ d. eqb-true (get_or (nodes_of g) (node_at g p) d) p (r.1 d))

pub node_is : (g : Network) (n : ℕ) → n < length (nodes_of g) → node_at g (get_or (nodes_of g) n 0) ≡ n
node_is g n l =
    let r = node_place g (get_or (nodes_of g) n 0) (in_at (nodes_of g) n 0 l) in
    same_place (nodes_of g) (nodes_apart g) (node_at g (get_or (nodes_of g) n 0)) n 0 r.0 l (r.1 0)

pub node_rises : (g : Network) (p q : ℕ) → In p (nodes_of g) → In q (nodes_of g) → p < q → node_at g p < node_at g q
node_rises g p q m k l = by (cases_lt (node_at g p) (node_at g q)) (cases_lt (node_at g q) (node_at g p))
  where
    one : get_or (nodes_of g) (node_at g p) 0 ≡ p
    one = (node_place g p m).1 0

    other : get_or (nodes_of g) (node_at g q) 0 ≡ q
    other = (node_place g q k).1 0

    by : (node_at g p < node_at g q) ⊎ (node_at g q ≤ node_at g p) → (node_at g q < node_at g p) ⊎ (node_at g p ≤ node_at g q) → node_at g p < node_at g q
    by (inl a) b = a
    by (inr a) (inl b) =
        let falls : get_or (nodes_of g) (node_at g q) 0 < get_or (nodes_of g) (node_at g p) 0 = follow_at (λ x y. x < y) (nodes_of g) (nodes_rise g) (node_at g q) (node_at g p) 0 b (node_place g p m).0 in
        absurd (omega (arith, l, one, other, falls))
    by (inr a) (inr b) =
        let same : node_at g p ≡ node_at g q = omega (arith, a, b) in
        absurd (less_apart p q l (sym one ∙ ap (λ (n : ℕ). get_or (nodes_of g) n 0) same ∙ other))

-- Neighbours.

pub in_around : (points : List Point) (g : Network) → All (IsWay g) g.ways → (p q : ℕ) → is_used g.ways p q ≡ true → In q (around points g p)
in_around points g ways p q t =
    let l : q < g.points = used_below g ways p q t in
    in_order (turns_before points p) q (used_at g p) (in_filter (is_used g.ways p) q (range_with_len 0 g.points) (in_range q 0 g.points (omega arith) (omega arith)) t)

pub from_around : (points : List Point) (g : Network) (p q : ℕ) → In q (around points g p) → is_used g.ways p q ≡ true
from_around points g p q m = (from_filter (is_used g.ways p) q (range_with_len 0 g.points) (from_order (turns_before points p) q (used_at g p) m)).1

pub around_apart : (points : List Point) (g : Network) (p : ℕ) → Apart (around points g p)
around_apart points g p =
    apart_order (turns_before points p) (used_at g p)
    (follow_filter (λ x y. x ≢ y) (is_used g.ways p) (range_with_len 0 g.points)
    (follow_weaker (λ x y. x < y) (λ x y. x ≢ y) (range_with_len 0 g.points) less_apart (follow_range 0 g.points)))

-- Segments.

module _ (points : List Point) (g : Network) (network : IsNetwork points g) where
  abbrev pub chains : List (List ℕ)
  chains = segment_chains points g

  pub from_segments : (c : List ℕ) → In c chains → IsChain g c × (first_of c < last_of c)
  from_segments c m =
      let r = from_flat_map (rising_chains points g) c (nodes_of g) m in
      let f = from_filter (λ (chain : List ℕ). ltb r.0 (last_of chain)) c (map (chain_from g r.0) (around points g r.0)) r.2 in
      let s = from_map (chain_from g r.0) c (around points g r.0) f.0 in
      let chain : IsChain g (chain_from g r.0 s.0) = begun g network.ways r.0 s.0 (from_nodes g r.0 r.1).1 (from_around points g r.0 s.0 s.1) in
      let first : r.0 ≡ first_of c = sym (begun_first g r.0 s.0) ∙ ap first_of s.2 in
      (subst (λ d. IsChain g d) s.2 chain, subst (λ (k : ℕ). k < last_of c) first (low r.0 (last_of c) f.1))

  pub chain_below : (c : List ℕ) → IsChain g c → (first_of c < g.points) × (last_of c < g.points)
  chain_below c chain =
      let l : 2 ≤ length c = chain.long in
      (all_at (λ k. k < g.points) (first_of c) c (below g c network.ways chain) (first_in c l), all_at (λ k. k < g.points) (last_of c) c (below g c network.ways chain) (last_in c (omega arith)))

  pub first_node : (c : List ℕ) → IsChain g c → In (first_of c) (nodes_of g)
  first_node c chain = in_nodes g (first_of c) (chain_below c chain).0 chain.begins

  pub last_node : (c : List ℕ) → IsChain g c → In (last_of c) (nodes_of g)
  last_node c chain = in_nodes g (last_of c) (chain_below c chain).1 chain.ends

  pub in_segments : (c : List ℕ) → IsChain g c → first_of c < last_of c → In c chains
  in_segments c chain up =
      let p : ℕ = first_of c in
      let q : ℕ = second_of c in
      let made : In (chain_from g p q) (map (chain_from g p) (around points g p)) =
      in_map (chain_from g p) q (around points g p) (in_around points g network.ways p q (used_first g c network.ways chain)) in
      let kept : In c (map (chain_from g p) (around points g p)) = subst (λ d. In d (map (chain_from g p) (around points g p))) (followed g c network.ways chain) made in
      in_flat_map (rising_chains points g) p c (nodes_of g) (first_node c chain)
      (in_filter (λ (d : List ℕ). ltb p (last_of d)) c (map (chain_from g p) (around points g p)) kept (is_low p (last_of c) up))

  pub segments_apart : Apart chains
  segments_apart =
      follow_flat_map (λ x y. x < y) (λ (c d : List ℕ). c ≢ d) (rising_chains points g) (nodes_of g) (nodes_rise g) (λ p m. at_one p) (λ p q l c d m k e. less_apart p q l (sym (first p c m) ∙ ap first_of e ∙ first q d k))
    where
      at_one : (p : ℕ) → Apart (rising_chains points g p)
      at_one p =
          follow_filter (λ (c d : List ℕ). c ≢ d) (λ (chain : List ℕ). ltb p (last_of chain)) (map (chain_from g p) (around points g p))
          (follow_map (λ (x y : ℕ). x ≢ y) (λ (c d : List ℕ). c ≢ d) (chain_from g p) (around points g p) (around_apart points g p)
          (λ q r m k other e. other (sym (begun_second g p q) ∙ ap second_of e ∙ begun_second g p r)))

      first : (p : ℕ) (c : List ℕ) → In c (rising_chains points g p) → first_of c ≡ p
      first p c m =
          let f = from_filter (λ (chain : List ℕ). ltb p (last_of chain)) c (map (chain_from g p) (around points g p)) m in
          let s = from_map (chain_from g p) c (around points g p) f.0 in
          sym (ap first_of s.2) ∙ begun_first g p s.0

  -- what leaves a node over an edge is the chain over that edge, the one way or the other
  pub begins_at : (p q : ℕ) (c : List ℕ) → begins_with p q c ≡ true → (first_of c ≡ p) × (second_of c ≡ q)
  begins_at p q c t =
      let r = both (eqb (first_of c) p) (eqb (second_of c) q) t in
      (eqb-true (first_of c) p r.0, eqb-true (second_of c) q r.1)

  pub is_begun : (p q : ℕ) (c : List ℕ) → first_of c ≡ p → second_of c ≡ q → begins_with p q c ≡ true
  is_begun p q c e f = is_both (eqb (first_of c) p) (eqb (second_of c) q) (eq-eqb (first_of c) p e) (eq-eqb (second_of c) q f)

  begins_chain : (p q : ℕ) (c : List ℕ) → IsChain g c → begins_with p q c ≡ true → c ≡ chain_from g p q
  begins_chain p q c chain t =
      let r = begins_at p q c t in
      sym (followed g c network.ways chain) ∙ (λ i. chain_from g (r.0 i) (r.1 i))

  either_way : (p q : ℕ) (c : List ℕ) → IsChain g c → leaves p q c ≡ true → (c ≡ chain_from g p q) ⊎ (reversed c ≡ chain_from g p q)
  either_way p q c chain t = by (either (begins_with p q c) (begins_with p q (reversed c)) t)
    where
      by : (begins_with p q c ≡ true) ⊎ (begins_with p q (reversed c) ≡ true) → (c ≡ chain_from g p q) ⊎ (reversed c ≡ chain_from g p q)
      by (inl e) = inl (begins_chain p q c chain e)
      by (inr e) = inr (begins_chain p q (reversed c) (turned g c chain) e)

  crossed : (c d : List ℕ) → first_of c < last_of c → first_of d < last_of d → c ≡ reversed d → ⊥
  crossed c d up_c up_d e =
      let one : first_of c ≡ last_of d = ap first_of e ∙ first_reversed d in
      let two : last_of c ≡ first_of d = ap last_of e ∙ last_reversed d in
      omega (arith, up_c, up_d, one, two)

  pub only_one : (p q : ℕ) (c d : List ℕ) → In c chains → In d chains → leaves p q c ≡ true → leaves p q d ≡ true → c ≡ d
  only_one p q c d m k s t =
      let r = from_segments c m in
      let u = from_segments d k in
      by r.1 u.1 (either_way p q c r.0 s) (either_way p q d u.0 t)
    where
      by : first_of c < last_of c → first_of d < last_of d → (c ≡ chain_from g p q) ⊎ (reversed c ≡ chain_from g p q) → (d ≡ chain_from g p q) ⊎ (reversed d ≡ chain_from g p q) → c ≡ d
      by up_c up_d (inl e) (inl f) = e ∙ sym f
      by up_c up_d (inl e) (inr f) = absurd (crossed c d up_c up_d (e ∙ sym f))
      by up_c up_d (inr e) (inl f) = absurd (crossed d c up_d up_c (f ∙ sym e))
      by up_c up_d (inr e) (inr f) = sym (reversed_twice c) ∙ ap reversed (e ∙ sym f) ∙ reversed_twice d

  -- a chain that begins with two points rises, or falls and is turned
  some_rises : (p q : ℕ) (c : List ℕ) → IsChain g c → begins_with p q c ≡ true → (d : List ℕ) × In d chains × (leaves p q d ≡ true)
  some_rises p q c chain begins = by (cases_lt (first_of c) (last_of c)) (cases_lt (last_of c) (first_of c))
    where
      by : (first_of c < last_of c) ⊎ (last_of c ≤ first_of c) → (last_of c < first_of c) ⊎ (first_of c ≤ last_of c) → (d : List ℕ) × In d chains × (leaves p q d ≡ true)
      by (inl up) other = (c, in_segments c chain up, is_left (begins_with p q c) (begins_with p q (reversed c)) begins)
      by (inr a) (inl down) =
          let up : first_of (reversed c) < last_of (reversed c) = omega (arith, down, first_reversed c, last_reversed c) in (
            reversed c,
            in_segments (reversed c) (turned g c chain) up,
            is_right (begins_with p q (reversed c)) (begins_with p q (reversed (reversed c))) (ap (begins_with p q) (reversed_twice c) ∙ begins),
          )
      by (inr a) (inr b) = absurd (apart g c network.ways chain (omega (arith, a, b)))

  some_leaves : (p q : ℕ) → has_node g p ≡ true → is_used g.ways p q ≡ true → (c : List ℕ) × In c chains × (leaves p q c ≡ true)
  some_leaves p q node used =
      some_rises p q (chain_from g p q) (begun g network.ways p q node used) (is_begun p q (chain_from g p q) (begun_first g p q) (begun_second g p q))

  -- the segment that leaves a node over a used edge
  pub at_leaving : (p q : ℕ) → has_node g p ≡ true → is_used g.ways p q ≡ true
      → (segment_at chains p q < length chains) × ((d : List ℕ) → leaves p q (get_or chains (segment_at chains p q) d) ≡ true)
  at_leaving p q node used =
      let r = some_leaves p q node used in
      first_found (leaves p q) r.0 chains r.1 r.2

  -- a segment that leaves a node over an edge is that one
  pub at_is : (p q k : ℕ) (d : List ℕ) → k < length chains → leaves p q (get_or chains k d) ≡ true → segment_at chains p q ≡ k
  at_is p q k d l t =
      let f = first_found (leaves p q) (get_or chains k d) chains (in_at chains k d l) t in
      let n : ℕ = segment_at chains p q in
      same_place chains segments_apart n k d f.0 l
      (only_one p q (get_or chains n d) (get_or chains k d) (in_at chains n d f.0) (in_at chains k d l) (f.1 d) t)
