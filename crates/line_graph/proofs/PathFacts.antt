-- Ways over a net: from station to station over net edges.
use Rattle.std.proofs.Common.{◌≡◌, ◌≢◌, refl, sym, ◌∙◌, ap, subst, ℕ, zero, suc, ◌-◌, ◌<◌, ◌≤◌, ◌⊎◌, inl, inr, true, cond, ◌&&◌, eqb, eqb-true, eq-eqb, List, [], ◌∷◌, ◌++◌, length, get_or, min, max, All, arith}
use Rattle.std.proofs.lemmas.Bool.{and_parts, and_from, or_cases, or_left, or_right, false≢true, lt-ltb, le-ltb, cases_order}
use Rattle.std.proofs.lemmas.List.{reverse-reverse}
use Rattle.std.proofs.lemmas.List.Elements.{All-nil, All-cons}
use Rattle.map_base.specs.declared.ids.LineId.{LineId}
use Rattle.map_base.specs.declared.point.Point.{Point}
use Rattle.least_path.specs.Paths.{Path}
use Rattle.track_net.specs.Nets.{NetParts, IsNet, net_over, HasEdge, Leads, Joins}
use Rattle.track_net.proofs.EdgeFacts.{IsEdge, IsEdge_symm, edge_of_net, has_edge_from, net_has_edge}
use Rattle.net_paths.specs.Stretches.{IsStep}
use Rattle.way_network.specs.declared.way.Passage.{Passage}
use Rattle.way_network.specs.Edges.{are_ends, runs_over}
use Rattle.way_network.specs.Joins.{passages_along}
use Rattle.way_network.specs.Segments.{first_of, second_of, last_of, reversed}
use Rattle.way_network.proofs.Numbering.{upper_edge_at}
use Rattle.way_network.proofs.Walking.{last_of_at}
use Rattle.line_graph.specs.StretchTables.{directed_between}

-- ---- edges of a net

whole_net : (net : NetParts) (kept : IsNet net) → net ≡ net_over kept.near net.points
whole_net net kept = ap (λ (es : List (List ℕ)). record { points = net.points; edges = es }) kept.edges

pub edge_of : (net : NetParts) (kept : IsNet net) (i j : ℕ) → HasEdge net i j → IsEdge kept.near net.points i j
edge_of net kept i j edge = edge_of_net kept.near net.points i j (subst (λ (n : NetParts). HasEdge n i j) (whole_net net kept) edge)

pub edge_back : (net : NetParts) → IsNet net → (i j : ℕ) → HasEdge net i j → HasEdge net j i
edge_back net kept i j edge =
    let back = IsEdge_symm kept.near net.points i j (edge_of net kept i j edge) in
    subst (λ (n : NetParts). HasEdge n j i) (sym (whole_net net kept)) (net_has_edge kept.near net.points j i back.i_in back.j_in (has_edge_from kept.near net.points j i back))

-- what the net joins one way it joins the other way
one_further : (net : NetParts) (i j k : ℕ) (ks : List ℕ) → Leads net i j ks → HasEdge net j k → Leads net i k (ks ++ k ∷ [])
one_further net i j k [] same edge = (subst (λ n. HasEdge net n k) (sym same) edge, refl)
one_further net i j k (l ∷ ks) leads edge = (leads.0, one_further net l j k ks leads.1 edge)

leads_back : (net : NetParts) → IsNet net → (i j : ℕ) (ks : List ℕ) → Leads net i j ks → Joins net j i
leads_back net kept i j [] same = ([], sym same)
leads_back net kept i j (k ∷ ks) leads =
    let rest = leads_back net kept k j ks leads.1 in (rest.0 ++ i ∷ [], one_further net j k i rest.0 rest.1 (edge_back net kept i k leads.0))

pub joins_lower : (net : NetParts) → IsNet net → (i j : ℕ) → Joins net i j → Joins net (min i j) (max i j)
joins_lower net kept i j joined = of_order (cases_order i j)
  where
    moved : (a b : ℕ) → a ≡ min i j → b ≡ max i j → Joins net a b → Joins net (min i j) (max i j)
    moved a b lower upper h = subst (λ n. Joins net n (max i j)) lower (subst (λ n. Joins net a n) upper h)

    of_order : (i ≡ j) ⊎ ((i < j) ⊎ (j < i)) → Joins net (min i j) (max i j)
    of_order (inl e) = moved i j (omega arith) (omega arith) joined
    of_order (inr (inl h)) = moved i j (omega arith) (omega arith) joined
    of_order (inr (inr h)) = moved j i (omega arith) (omega arith) (leads_back net kept i j joined.0 joined.1)

-- ---- steps of a way

-- a path leads over edges
pub path_leads : (near : ℕ) (corridor : List Point) (net : NetParts) (a b : ℕ) (ls : List ℕ) (k : ℕ) → Path (IsStep near corridor net) a b ls k → Leads net a b ls
path_leads near corridor net a b [] k path = path.0
path_leads near corridor net a b (l ∷ ls) k path =
    (path.3.edge, path_leads near corridor net l b ls path.2 (subst (λ (s : ℕ). Path (IsStep near corridor net) s b ls path.2) path.3.leads_to path.4))

ends_ahead : (p q : ℕ) → are_ends p q p q ≡ true
ends_ahead p q = or_left (eqb p p && eqb q q) (eqb p q && eqb q p) (and_from (eqb p p) (eqb q q) (eq-eqb p p refl) (eq-eqb q q refl))

ends_behind : (p q : ℕ) → are_ends p q q p ≡ true
ends_behind p q = or_right (eqb q p && eqb p q) (eqb q q && eqb p p) (and_from (eqb q q) (eqb p p) (eq-eqb q q refl) (eq-eqb p p refl))

-- the points run over each step, seen from either end
pub runs_ahead : (xs : List ℕ) (k : ℕ) → suc k < length xs → runs_over (get_or xs k 0) (get_or xs (suc k) 0) xs ≡ true
runs_ahead [] k below = absurd (omega (arith, below))
runs_ahead (a ∷ []) k below = absurd (omega (arith, below))
runs_ahead (a ∷ b ∷ rest) zero below = or_left (are_ends a b a b) (runs_over a b (b ∷ rest)) (ends_ahead a b)
runs_ahead (a ∷ b ∷ rest) (suc k) below =
    or_right (are_ends (get_or (b ∷ rest) k 0) (get_or (b ∷ rest) (suc k) 0) a b) (runs_over (get_or (b ∷ rest) k 0) (get_or (b ∷ rest) (suc k) 0) (b ∷ rest)) (runs_ahead (b ∷ rest) k (omega (arith, below)))

pub runs_behind : (xs : List ℕ) (k : ℕ) → suc k < length xs → runs_over (get_or xs (suc k) 0) (get_or xs k 0) xs ≡ true
runs_behind [] k below = absurd (omega (arith, below))
runs_behind (a ∷ []) k below = absurd (omega (arith, below))
runs_behind (a ∷ b ∷ rest) zero below = or_left (are_ends b a a b) (runs_over b a (b ∷ rest)) (ends_behind b a)
runs_behind (a ∷ b ∷ rest) (suc k) below =
    or_right (are_ends (get_or (b ∷ rest) (suc k) 0) (get_or (b ∷ rest) k 0) a b) (runs_over (get_or (b ∷ rest) (suc k) 0) (get_or (b ∷ rest) k 0) (b ∷ rest)) (runs_behind (b ∷ rest) k (omega (arith, below)))

-- over its first step from the first point, and over its last from the last
pub runs_first : (a b : ℕ) (rest : List ℕ) → runs_over a b (a ∷ b ∷ rest) ≡ true
runs_first a b rest = or_left (are_ends a b a b) (runs_over a b (b ∷ rest)) (ends_ahead a b)

pub runs_last : (xs : List ℕ) → 2 ≤ length xs → runs_over (last_of xs) (second_of (reversed xs)) xs ≡ true
runs_last xs some = by_count (length xs) refl some
  where
    by_count : (n : ℕ) → n ≡ length xs → 2 ≤ n → runs_over (last_of xs) (second_of (reversed xs)) xs ≡ true
    by_count zero e some = absurd (omega (arith, some))
    by_count (suc zero) e some = absurd (omega (arith, some))
    by_count (suc (suc k)) e some =
        let last : get_or xs (suc k) 0 ≡ last_of xs = ap (λ n. get_or xs n 0) (last_place k e) ∙ last_of_at xs in
        let before : get_or xs k 0 ≡ second_of (reversed xs) = ap (λ n. get_or xs n 0) (place_before k e) ∙ ap (λ pair. pair.1) (upper_edge_at xs (omega (arith, e))) in
        subst (λ p. runs_over p (second_of (reversed xs)) xs ≡ true) last (subst (λ q. runs_over (get_or xs (suc k) 0) q xs ≡ true) before (runs_behind xs k (omega (arith, e))))
      where
        last_place : (k : ℕ) → suc (suc k) ≡ length xs → suc k ≡ length xs - 1
        last_place k e = omega arith

        place_before : (k : ℕ) → suc (suc k) ≡ length xs → k ≡ length xs - 2
        place_before k e = omega arith

-- the points run over net edges alone
pub runs_over_edge : (net : NetParts) → IsNet net → (p q i j : ℕ) (ks : List ℕ) → Leads net i j ks → runs_over p q (i ∷ ks) ≡ true → HasEdge net p q
runs_over_edge net kept p q i j [] leads e = absurd (false≢true e)
runs_over_edge net kept p q i j (k ∷ ks) leads e = of_cases (or_cases (are_ends p q i k) (runs_over p q (k ∷ ks)) e) (runs_over_edge net kept p q k j ks leads.1)
  where
    of_ends : ((eqb i p && eqb k q) ≡ true) ⊎ ((eqb i q && eqb k p) ≡ true) → HasEdge net p q
    of_ends (inl h) =
        let parts = and_parts (eqb i p) (eqb k q) h in
        subst (λ n. HasEdge net n q) (eqb-true i p parts.0) (subst (λ n. HasEdge net i n) (eqb-true k q parts.1) leads.0)
    of_ends (inr h) =
        let parts = and_parts (eqb i q) (eqb k p) h in
        edge_back net kept q p (subst (λ n. HasEdge net n p) (eqb-true i q parts.0) (subst (λ n. HasEdge net i n) (eqb-true k p parts.1) leads.0))

    of_cases : (are_ends p q i k ≡ true) ⊎ (runs_over p q (k ∷ ks) ≡ true) → (runs_over p q (k ∷ ks) ≡ true → HasEdge net p q) → HasEdge net p q
    of_cases (inl h) later = of_ends (or_cases (eqb i p && eqb k q) (eqb i q && eqb k p) h)
    of_cases (inr h) later = later h

-- they end where they lead
pub leads_last : (net : NetParts) (i j : ℕ) (ks : List ℕ) → Leads net i j ks → last_of (i ∷ ks) ≡ j
leads_last net i j [] same = same
leads_last net i j (k ∷ ks) leads = leads_last net k j ks leads.1

pub leads_some : (net : NetParts) (i j : ℕ) (ks : List ℕ) → Leads net i j ks → i ≢ j → 2 ≤ length (i ∷ ks)
leads_some net i j [] same apart = absurd (apart same)
leads_some net i j (k ∷ ks) leads apart = omega arith

-- and are points of the net
pub leads_known : (net : NetParts) → IsNet net → (i j : ℕ) (ks : List ℕ) → Leads net i j ks → i < length net.points → All (λ p. p < length net.points) (i ∷ ks)
leads_known net kept i j [] same below = All-cons (λ p. p < length net.points) i [] below (All-nil (λ p. p < length net.points))
leads_known net kept i j (k ∷ ks) leads below =
    All-cons (λ p. p < length net.points) i (k ∷ ks) below (leads_known net kept k j ks leads.1 (edge_of net kept i k leads.0).j_in)

-- ---- passages along a way

-- a passage of a line runs over two edges of these points
pub record IsAlong (line : LineId) (points : List ℕ) (x : Passage) : Type 0 where
  pub line_is : x.line ≡ line
  pub comes : runs_over x.at x.from points ≡ true
  pub goes : runs_over x.at x.to points ≡ true

all_later : (line : LineId) (a b : ℕ) (rest : List ℕ) (xs : List Passage) → All (IsAlong line (b ∷ rest)) xs → All (IsAlong line (a ∷ b ∷ rest)) xs
all_later line a b rest xs each k d below =
    let x : Passage = get_or xs k d in
    let here = each k d below in
    record {
      line_is = here.line_is;
      comes = or_right (are_ends x.at x.from a b) (runs_over x.at x.from (b ∷ rest)) here.comes;
      goes = or_right (are_ends x.at x.to a b) (runs_over x.at x.to (b ∷ rest)) here.goes;
    }

pub all_along : (line : LineId) (points : List ℕ) → All (IsAlong line points) (passages_along line points)
all_along line [] = All-nil (IsAlong line [])
all_along line (a ∷ []) = All-nil (IsAlong line (a ∷ []))
all_along line (a ∷ b ∷ []) = All-nil (IsAlong line (a ∷ b ∷ []))
all_along line (a ∷ b ∷ c ∷ rest) =
    All-cons (IsAlong line (a ∷ b ∷ c ∷ rest)) (record { line = line; at = b; from = a; to = c }) (passages_along line (b ∷ c ∷ rest))
    (record {
      line_is = refl;
      comes = or_left (are_ends b a a b) (runs_over b a (b ∷ c ∷ rest)) (ends_behind b a);
      goes = or_right (are_ends b c a b) (runs_over b c (b ∷ c ∷ rest)) (runs_first b c rest);
    })
    (all_later line a b (c ∷ rest) (passages_along line (b ∷ c ∷ rest)) (all_along line (b ∷ c ∷ rest)))

-- ---- the ends of a leg on the path of its stretch

-- the points lead from the lower of two stations to the other, over at least one edge
pub record RunsBetween (from to : ℕ) (points : List ℕ) : Type 0 where
  pub some : 2 ≤ length points
  pub begins : first_of points ≡ min from to
  pub ends : last_of points ≡ max from to

runs_begin : (xs : List ℕ) → 2 ≤ length xs → runs_over (first_of xs) (second_of xs) xs ≡ true
runs_begin [] some = absurd (omega (arith, some))
runs_begin (a ∷ []) some = absurd (omega (arith, some))
runs_begin (a ∷ b ∷ rest) some = runs_first a b rest

-- a leg leaves its first station over an edge of the path
pub leaves_first : (from to : ℕ) (points : List ℕ) → from ≢ to → RunsBetween from to points → runs_over from (second_of (directed_between from to points)) points ≡ true
leaves_first from to points apart runs = of_order (cases_order from to)
  where
    of_order : (from ≡ to) ⊎ ((from < to) ⊎ (to < from)) → runs_over from (second_of (directed_between from to points)) points ≡ true
    of_order (inl e) = absurd (apart e)
    of_order (inr (inl h)) =
        let first : first_of points ≡ from = runs.begins ∙ (let low : min from to ≡ from = omega arith in low) in
        subst (λ p. runs_over p (second_of (directed_between from to points)) points ≡ true) first
        (subst (λ b. runs_over (first_of points) (second_of (cond b (reversed points) points)) points ≡ true) (sym (le-ltb to from (omega arith))) (runs_begin points runs.some))
    of_order (inr (inr h)) =
        let last : last_of points ≡ from = runs.ends ∙ (let high : max from to ≡ from = omega arith in high) in
        subst (λ p. runs_over p (second_of (directed_between from to points)) points ≡ true) last
        (subst (λ b. runs_over (last_of points) (second_of (cond b (reversed points) points)) points ≡ true) (sym (lt-ltb to from h)) (runs_last points runs.some))

-- and comes to its last over one
pub comes_last : (from to : ℕ) (points : List ℕ) → from ≢ to → RunsBetween from to points → runs_over to (second_of (reversed (directed_between from to points))) points ≡ true
comes_last from to points apart runs = of_order (cases_order from to)
  where
    of_order : (from ≡ to) ⊎ ((from < to) ⊎ (to < from)) → runs_over to (second_of (reversed (directed_between from to points))) points ≡ true
    of_order (inl e) = absurd (apart e)
    of_order (inr (inl h)) =
        let last : last_of points ≡ to = runs.ends ∙ (let high : max from to ≡ to = omega arith in high) in
        subst (λ p. runs_over p (second_of (reversed (directed_between from to points))) points ≡ true) last
        (subst (λ b. runs_over (last_of points) (second_of (reversed (cond b (reversed points) points))) points ≡ true) (sym (le-ltb to from (omega arith))) (runs_last points runs.some))
    of_order (inr (inr h)) =
        let first : first_of points ≡ to = runs.begins ∙ (let low : min from to ≡ to = omega arith in low) in
        subst (λ p. runs_over p (second_of (reversed (directed_between from to points))) points ≡ true) first
        (subst (λ b. runs_over (first_of points) (second_of (reversed (cond b (reversed points) points))) points ≡ true) (sym (lt-ltb to from h))
        (subst (λ xs. runs_over (first_of points) (second_of xs) points ≡ true) (sym (reverse-reverse points)) (runs_begin points runs.some)))
