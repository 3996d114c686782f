-- What uses in order say of a network: its used edges.
use Rattle.std.proofs.Common.{◌≡◌, ℕ, ◌+◌, ◌<◌, ◌≤◌, Bool, true, false, eqb, ◌&&◌, ◌||◌, List, [], ◌∷◌, ◌++◌, length, get_or, map, take, refl, sym, ◌∙◌, ap, subst, arith}
use Rattle.std.specs.List.{All, list_any, range_with_len}
use Rattle.std.proofs.lemmas.Bool.Decides.{nat_tests}
use Rattle.std.proofs.lemmas.List.{map_push, take_more, take_all}
use Rattle.std.proofs.lemmas.List.Elements.{All-head, All-tail, All-push, All-weaker}
use Rattle.std.proofs.lemmas.List.Folds.{list_any-append, list_any_none}
use Rattle.std.proofs.lemmas.List.Sorted.{list_any-IsPermutation}
use Rattle.std.proofs.lemmas.List.FromFn.{map-range_with_len_more}
use Rattle.map_base.specs.declared.ids.LineId.{LineId}
use Rattle.way_network.specs.declared.way.Way.{Way}
use Rattle.way_network.specs.declared.edges.UsedEdge.{UsedEdge}
use Rattle.way_network.specs.declared.edge_use.EdgeUse.{EdgeUse}
use Rattle.way_network.specs.Edges.{are_ends, runs_over, line_runs_over, lines_over, is_used}
use Rattle.way_network.specs.Chains.{Network, used_at}
use Rattle.way_network.specs.Segments.{line_numbered}
use Rattle.way_network.specs.Tables.{edge_to, edges_from}
use Rattle.way_network.specs.Uses.{uses_along, uses_of, uses_of_way, AreUsesOf, is_over, leads_to, is_run_by, AreThose, IsRowOf, IsRising, line_numbers, neighbours_in}
use Rattle.way_network.proofs.RisingLists.{those_are_filter}

-- Uses along a way.

either_way : (x y z r : Bool) → (x || ((y && z) || r)) ≡ ((x || (z && y)) || r)
either_way true y z r = refl
either_way false true true r = refl
either_way false true false r = refl
either_way false false true r = refl
either_way false false false r = refl

over_along : (p q line : ℕ) (points : List ℕ) → list_any (is_over p q) (uses_along line points) ≡ runs_over p q points
over_along p q line [] = refl
over_along p q line (a ∷ []) = refl
over_along p q line (a ∷ b ∷ rest) =
    either_way (eqb a p && eqb b q) (eqb b p) (eqb a q) (list_any (is_over p q) (uses_along line (b ∷ rest)))
    ∙ ap (λ (t : Bool). are_ends p q a b || t) (over_along p q line (b ∷ rest))

over_ways : (p q : ℕ) (ways : List Way) → list_any (is_over p q) (uses_of ways) ≡ is_used ways p q
over_ways p q [] = refl
over_ways p q (w ∷ ws) =
    list_any-append (is_over p q) (uses_of_way w) (uses_of ws)
    ∙ ap (λ (t : Bool). t || list_any (is_over p q) (uses_of ws)) (over_along p q w.line.0 w.points)
    ∙ ap (λ (t : Bool). runs_over p q w.points || t) (over_ways p q ws)

by_that : (e x y z r : Bool) → ((x && e) || (((y && z) && e) || (e && r))) ≡ (e && ((x || (z && y)) || r))
by_that true true y z r = refl
by_that true false true true r = refl
by_that true false true false r = refl
by_that true false false true r = refl
by_that true false false false r = refl
by_that false true true true r = refl
by_that false true true false r = refl
by_that false true false z r = refl
by_that false false true true r = refl
by_that false false true false r = refl
by_that false false false z r = refl

abbrev over_by : ℕ → ℕ → ℕ → EdgeUse → Bool
over_by p q line u = is_over p q u && eqb u.line line

no_way : (e : Bool) → false ≡ (e && false)
no_way true = refl
no_way false = refl

run_along : (p q k line : ℕ) (points : List ℕ) → list_any (over_by p q k) (uses_along line points) ≡ (eqb line k && runs_over p q points)
run_along p q k line [] = no_way (eqb line k)
run_along p q k line (a ∷ []) = no_way (eqb line k)
run_along p q k line (a ∷ b ∷ rest) =
    ap (λ (t : Bool). ((eqb a p && eqb b q) && eqb line k) || (((eqb b p && eqb a q) && eqb line k) || t)) (run_along p q k line (b ∷ rest))
    ∙ by_that (eqb line k) (eqb a p && eqb b q) (eqb b p) (eqb a q) (runs_over p q (b ∷ rest))

run_ways : (p q k : ℕ) (ways : List Way) → list_any (over_by p q k) (uses_of ways) ≡ line_runs_over ways p q k
run_ways p q k [] = refl
run_ways p q k (w ∷ ws) =
    list_any-append (over_by p q k) (uses_of_way w) (uses_of ws)
    ∙ ap (λ (t : Bool). t || list_any (over_by p q k) (uses_of ws)) (run_along p q k w.line.0 w.points)
    ∙ ap (λ (t : Bool). (eqb w.line.0 k && runs_over p q w.points) || t) (run_ways p q k ws)

-- Numbers that no way has.

not_an_end : (p k a b n : ℕ) → a < n → b < n → n ≤ k → are_ends p k a b ≡ false
not_an_end p k a b n l m h = grind (arith, nat_tests)

not_run_over : (p k n : ℕ) (points : List ℕ) → All (λ q. q < n) points → n ≤ k → runs_over p k points ≡ false
not_run_over p k n [] below h = refl
not_run_over p k n (a ∷ []) below h = refl
not_run_over p k n (a ∷ b ∷ rest) below h =
    let others : All (λ q. q < n) (b ∷ rest) = All-tail (λ q. q < n) a (b ∷ rest) below in
    ap (λ (t : Bool). t || runs_over p k (b ∷ rest)) (not_an_end p k a b n (All-head (λ q. q < n) a (b ∷ rest) below) (All-head (λ q. q < n) b rest others) h)
    ∙ not_run_over p k n (b ∷ rest) others h

-- Rows.

module _ (g : Network) (known : All (λ (w : Way). All (λ q. q < g.points) w.points) g.ways) (known_lines : All (λ (w : Way). w.line.0 < g.lines) g.ways) where
  not_used : (p k : ℕ) → g.points ≤ k → is_used g.ways p k ≡ false
  not_used p k h =
      list_any_none (λ (w : Way). runs_over p k w.points) g.ways
      (All-weaker (λ (w : Way). All (λ q. q < g.points) w.points) (λ (w : Way). runs_over p k w.points ≡ false) (λ w below. not_run_over p k g.points w.points below h) g.ways known)

  not_run : (p q k : ℕ) → g.lines ≤ k → line_runs_over g.ways p q k ≡ false
  not_run p q k h =
      list_any_none (λ (w : Way). eqb w.line.0 k && runs_over p q w.points) g.ways
      (All-weaker (λ (w : Way). w.line.0 < g.lines) (λ (w : Way). (eqb w.line.0 k && runs_over p q w.points) ≡ false)
      (λ w below. ap (λ (t : Bool). t && runs_over p q w.points) (apart w.line.0 k g.lines below h)) g.ways known_lines)
    where
      apart : (a k n : ℕ) → a < n → n ≤ k → eqb a k ≡ false
      apart a k n l h = grind (arith, nat_tests)

  module _ (uses : List EdgeUse) (are : AreUsesOf g.ways uses) where
    leads_where_used : (p q : ℕ) → leads_to uses p q ≡ is_used g.ways p q
    leads_where_used p q = sym (list_any-IsPermutation (is_over p q) (uses_of g.ways) uses are.permutation) ∙ over_ways p q g.ways

    run_by_those : (p q k : ℕ) → is_run_by uses p q k ≡ line_runs_over g.ways p q k
    run_by_those p q k = sym (list_any-IsPermutation (over_by p q k) (uses_of g.ways) uses are.permutation) ∙ run_ways p q k g.ways

    others_used : (p : ℕ) (others : List ℕ) → AreThose (leads_to uses p) others → others ≡ used_at g p
    others_used p others those =
        those_are_filter (is_used g.ways p) g.points others (record { rises = those.rises; each = λ k. those.each k ∙ leads_where_used p k }) (not_used p)

    lines_run : (p q : ℕ) (numbers : List ℕ) → AreThose (is_run_by uses p q) numbers → numbers ≡ lines_over g.lines g.ways p q
    lines_run p q numbers those =
        those_are_filter (line_runs_over g.ways p q) g.lines numbers (record { rises = those.rises; each = λ k. those.each k ∙ run_by_those p q k }) (not_run p q)

    numbered_again : (lines : List LineId) → lines ≡ map line_numbered (map (λ line. line.0) lines)
    numbered_again [] = refl
    numbered_again (line ∷ rest) = ap (λ (others : List LineId). line ∷ others) (numbered_again rest)

    edge_is : (p : ℕ) (edge : UsedEdge) → AreThose (is_run_by uses p edge.to) (line_numbers edge) → edge ≡ edge_to g p edge.to
    edge_is p edge those =
        let lines_are : edge.lines ≡ map line_numbered (lines_over g.lines g.ways p edge.to) = numbered_again edge.lines ∙ ap (map line_numbered) (lines_run p edge.to (line_numbers edge) those) in
        λ i. record { to = edge.to; lines = lines_are i }

    edges_are : (p : ℕ) (row : List UsedEdge) → All (λ edge. AreThose (is_run_by uses p edge.to) (line_numbers edge)) row → row ≡ map (edge_to g p) (neighbours_in row)
    edges_are p [] all = refl
    edges_are p (edge ∷ rest) all =
        let P : UsedEdge → Type 0 = λ edge. AreThose (is_run_by uses p edge.to) (line_numbers edge) in
        ap (λ (e : UsedEdge). e ∷ rest) (edge_is p edge (All-head P edge rest all)) ∙ ap (λ (es : List UsedEdge). edge_to g p edge.to ∷ es) (edges_are p rest (All-tail P edge rest all))

    pub row_is : (p : ℕ) (row : List UsedEdge) → IsRowOf uses p row → row ≡ edges_from g p
    row_is p row of = edges_are p row of.lines ∙ ap (map (edge_to g p)) (others_used p (neighbours_in row) of.neighbours)

    -- one more row
    pub row_more : (p : ℕ) (before after : List (List UsedEdge)) (row : List UsedEdge) → before ≡ map (edges_from g) (range_with_len 0 p) → IsRowOf uses p row → after ≡ before ++ row ∷ []
        → after ≡ map (edges_from g) (range_with_len 0 (p + 1))
    row_more p before after row so_far of more =
        more ∙ ap (λ (rows : List (List UsedEdge)). rows ++ row ∷ []) so_far ∙ ap (λ (r : List UsedEdge). map (edges_from g) (range_with_len 0 p) ++ r ∷ []) (row_is p row of)
        ∙ sym (map-range_with_len_more (edges_from g) 0 p p (omega arith))

-- one more edge of a row
pub edge_more : (others : List ℕ) (i : ℕ) (row after : List UsedEdge) (edge : UsedEdge) (d : ℕ) → i < length others → neighbours_in row ≡ take i others → edge.to ≡ get_or others i d
    → after ≡ row ++ edge ∷ [] → neighbours_in after ≡ take (i + 1) others
edge_more others i row after edge d l so_far to more =
    ap neighbours_in more ∙ map_push (λ (e : UsedEdge). e.to) row edge ∙ ap (λ (ns : List ℕ). ns ++ edge.to ∷ []) so_far ∙ ap (λ (n : ℕ). take i others ++ n ∷ []) to
    ∙ sym (take_more others i d l)

pub edge_lines_more : (uses : List EdgeUse) (p q : ℕ) (row after : List UsedEdge) (edge : UsedEdge) → All (λ edge. AreThose (is_run_by uses p edge.to) (line_numbers edge)) row
    → edge.to ≡ q → AreThose (is_run_by uses p q) (line_numbers edge) → after ≡ row ++ edge ∷ [] → All (λ edge. AreThose (is_run_by uses p edge.to) (line_numbers edge)) after
edge_lines_more uses p q row after edge all to those more =
    let P : UsedEdge → Type 0 = λ edge. AreThose (is_run_by uses p edge.to) (line_numbers edge) in
    let here : P edge = subst (λ (k : ℕ). AreThose (is_run_by uses p k) (line_numbers edge)) (sym to) those in
    subst (All P) (sym more) (All-push P row edge all here)

-- the row once all others have their edges
pub row_whole : (uses : List EdgeUse) (p : ℕ) (others : List ℕ) (n : ℕ) (row after : List UsedEdge) → AreThose (leads_to uses p) others → neighbours_in row ≡ take n others → length others ≤ n
    → All (λ edge. AreThose (is_run_by uses p edge.to) (line_numbers edge)) row → after ≡ row → IsRowOf uses p after
row_whole uses p others n row after those so_far all lines is =
    let these : others ≡ neighbours_in row = sym (so_far ∙ take_all n others all) in
    subst (IsRowOf uses p) (sym is) (record { neighbours = subst (AreThose (leads_to uses p)) these those; lines = lines })

pub rising_more : (before after : List (List UsedEdge)) (row : List UsedEdge) → All IsRising before → IsRising row → after ≡ before ++ row ∷ [] → All IsRising after
rising_more before after row all up more = subst (All IsRising) (sym more) (All-push IsRising before row all up)
