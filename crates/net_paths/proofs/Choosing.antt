-- The stretch path is the one that is chosen among all ways.
use Rattle.std.proofs.Common.{◌≡◌, refl, sym, ◌∙◌, ap, subst, ℕ, zero, suc, ◌+◌, ◌<◌, ◌≤◌, ◌⊎◌, inl, inr, Bool, true, false, cond, eqb, nat_lt, ◌==◌, ◌||◌, ◌&&◌, List, [], ◌∷◌, length, get_or, map, Contains, arith}
use Rattle.std.specs.List.{flat_map, list_any, IsDistinct, AllByRecursion}
use Rattle.std.proofs.lemmas.Bool.{lt-ltb, ltb-true, eq-eqb, eqb-true, ne_eqb, cases_order}
use Rattle.std.proofs.lemmas.Map.Keys.{IsDistinct-cons}
use Rattle.std.proofs.lemmas.Map.Steps.{length-le_from_distinct_below}
use Rattle.map_base.specs.declared.point.Point.{Point}
use Rattle.fixed_plane.specs.Measures.{dist2_of}
use Rattle.least_path.specs.Orders.{LexLe}
use Rattle.least_path.specs.Paths.{Path, IsLeastPath}
use Rattle.least_path.specs.Least.{is_not_after}
use Rattle.least_path.proofs.Chosen.{StandsIn, AllAre, IsBetter, least-is, stands-left, stands-right, stands-map, stands-flat_map, all-append, all-map, all-flat_map, all-weaker}
use Rattle.track_net.specs.Nearness.{point_at}
use Rattle.track_net.specs.Nets.{NetParts, IsNet, edges_of_point}
use Rattle.net_paths.specs.Corridors.{is_in_corridor, edge_cost}
use Rattle.net_paths.specs.Stretches.{IsStep, IsStretchPath}
use Rattle.net_paths.specs.Choices.{arrived, ways, way_cost, is_no_worse, stretch_path_of}
use Rattle.net_paths.proofs.NetSteps.{edge_of, apart, not_free}
use Rattle.net_paths.proofs.Tables.{Contains-behind}

-- a path costs what its way costs
path_cost : (near : ℕ) (corridor : List Point) (net : NetParts) (a b : ℕ) (ls : List ℕ) (k : ℕ) → Path (IsStep near corridor net) a b ls k → k ≡ way_cost near corridor net a ls
path_cost near corridor net a b [] k p = p.1
path_cost near corridor net a b (l ∷ ls) k p =
    let s = p.0 in
    let step : IsStep near corridor net a l s p.1 = p.3 in
    let rest : p.2 ≡ way_cost near corridor net l ls =
    path_cost near corridor net s b ls p.2 p.4 ∙ ap (λ (n : ℕ). way_cost near corridor net n ls) step.leads_to in
    p.5 ∙ ap (λ (c : ℕ). c + p.2) step.cost ∙ ap (λ (r : ℕ). edge_cost near corridor (point_at net.points a) (point_at net.points l) + r) rest

-- a number that a list has stands in it
stands : (xs : List ℕ) (x : ℕ) → Contains xs x → StandsIn x xs
stands xs x h = at_place xs h.0 h.1 h.2
  where
    at_place : (xs : List ℕ) (k : ℕ) → k < length xs → get_or xs k x ≡ x → StandsIn x xs
    at_place [] k below e = absurd (omega arith)
    at_place (y ∷ ys) zero below e = inl e
    at_place (y ∷ ys) (suc k) below e = inr (at_place ys k (omega arith) e)

each_contained : (xs : List ℕ) → AllAre (Contains xs) xs
each_contained [] = tt
each_contained (x ∷ xs) = ((0, (omega arith), refl), all-weaker (Contains xs) (Contains (x ∷ xs)) xs (λ y h. Contains-behind x y xs h) (each_contained xs))

-- where a way has arrived
has_arrived : (a b : ℕ) → a ≡ b → StandsIn [] (arrived a b)
has_arrived a b e = subst (λ (t : Bool). StandsIn {A = List ℕ} [] (cond t ([] ∷ []) [])) (sym (eq-eqb a b e)) (inl refl)

arrived_paths : (near : ℕ) (corridor : List Point) (net : NetParts) (a b : ℕ) → AllAre (λ ls. Path (IsStep near corridor net) a b ls (way_cost near corridor net a ls)) (arrived a b)
arrived_paths near corridor net a b = of_test (a == b) refl
  where
    of_test : (t : Bool) → (a == b) ≡ t → AllAre (λ ls. Path (IsStep near corridor net) a b ls (way_cost near corridor net a ls)) (cond t ([] ∷ []) [])
    of_test true e = ((eqb-true a b e, refl), tt)
    of_test false e = tt

-- a path is one of the ways of as many steps
among_ways : (near : ℕ) (corridor : List Point) (net : NetParts) (n a b : ℕ) (ls : List ℕ) (k : ℕ) → Path (IsStep near corridor net) a b ls k → length ls ≤ n → StandsIn ls (ways net n a b)
among_ways near corridor net zero a b [] k p short = has_arrived a b p.0
among_ways near corridor net (suc n) a b [] k p short =
    stands-left [] (arrived a b) (flat_map (λ l. map (λ (ls : List ℕ). l ∷ ls) (ways net n l b)) (edges_of_point net a)) (has_arrived a b p.0)
among_ways near corridor net zero a b (l ∷ ls) k p short = absurd (omega arith)
among_ways near corridor net (suc n) a b (l ∷ ls) k p short =
    let step : IsStep near corridor net a l p.0 p.1 = p.3 in
    let later : Path (IsStep near corridor net) l b ls p.2 = subst (λ (s : ℕ). Path (IsStep near corridor net) s b ls p.2) step.leads_to p.4 in
    stands-right (l ∷ ls) (arrived a b) (flat_map (λ m. map (λ (ms : List ℕ). m ∷ ms) (ways net n m b)) (edges_of_point net a))
    (stands-flat_map (λ m. map (λ (ms : List ℕ). m ∷ ms) (ways net n m b)) l (l ∷ ls) (edges_of_point net a) (stands (edges_of_point net a) l step.edge)
    (stands-map (λ (ms : List ℕ). l ∷ ms) ls (ways net n l b) (among_ways near corridor net n l b ls p.2 later (omega arith))))

-- all ways are paths
ways_are_paths : (near : ℕ) (corridor : List Point) (net : NetParts) (n a b : ℕ) → AllAre (λ ls. Path (IsStep near corridor net) a b ls (way_cost near corridor net a ls)) (ways net n a b)
ways_are_paths near corridor net zero a b = arrived_paths near corridor net a b
ways_are_paths near corridor net (suc n) a b =
    all-append (λ ls. Path (IsStep near corridor net) a b ls (way_cost near corridor net a ls)) (arrived a b) (flat_map (λ l. map (λ (ls : List ℕ). l ∷ ls) (ways net n l b)) (edges_of_point net a))
    (arrived_paths near corridor net a b)
    (all-flat_map (λ ls. Path (IsStep near corridor net) a b ls (way_cost near corridor net a ls)) (λ l. map (λ (ls : List ℕ). l ∷ ls) (ways net n l b)) (edges_of_point net a)
    (all-weaker (Contains (edges_of_point net a)) (λ l. AllAre (λ ls. Path (IsStep near corridor net) a b ls (way_cost near corridor net a ls)) (map (λ (ls : List ℕ). l ∷ ls) (ways net n l b)))
    (edges_of_point net a)
    (λ l edge.
    all-map (λ ls. Path (IsStep near corridor net) a b ls (way_cost near corridor net a ls)) (λ (ls : List ℕ). l ∷ ls) (ways net n l b)
    (all-weaker (λ ls. Path (IsStep near corridor net) l b ls (way_cost near corridor net l ls)) (λ ls. Path (IsStep near corridor net) a b (l ∷ ls) (way_cost near corridor net a (l ∷ ls)))
    (ways net n l b) (λ ls p. (l, edge_cost near corridor (point_at net.points a) (point_at net.points l), way_cost near corridor net l ls, record { edge = edge; leads_to = refl; cost = refl }, p, refl))
    (ways_are_paths near corridor net n l b)))
    (each_contained (edges_of_point net a))))

-- a step is not free
step_cost : (near : ℕ) (corridor : List Point) (net : NetParts) → IsNet net → (a l s c : ℕ) → IsStep near corridor net a l s c → 1 ≤ c
step_cost near corridor net kept a l s c step =
    subst (λ (n : ℕ). 1 ≤ n) (sym step.cost)
    (not_free (is_in_corridor near corridor (point_at net.points a) && is_in_corridor near corridor (point_at net.points l)) (dist2_of (point_at net.points a) (point_at net.points l))
    (apart net kept a l step.edge))

-- from each point of a path there is a path that costs less
pub record GoesOn (near : ℕ) (corridor : List Point) (net : NetParts) (b x k : ℕ) : Type 0 where
  pub further : List ℕ
  pub cost : ℕ
  pub path : Path (IsStep near corridor net) x b further cost
  pub less : cost < k

goes_on : (near : ℕ) (corridor : List Point) (net : NetParts) → IsNet net → (a b x : ℕ) (ls : List ℕ) (k : ℕ) → Path (IsStep near corridor net) a b ls k → StandsIn x ls → GoesOn near corridor net b x k
goes_on near corridor net kept a b x [] k p at = absurd at
goes_on near corridor net kept a b x (l ∷ ls) k p at = of_place at (goes_on near corridor net kept p.0 b x ls p.2 p.4)
  where
    step : IsStep near corridor net a l p.0 p.1
    step = p.3

    some : 1 ≤ p.1
    some = step_cost near corridor net kept a l p.0 p.1 step

    sum : k ≡ p.1 + p.2
    sum = p.5

    of_place : StandsIn x (l ∷ ls) → (StandsIn x ls → GoesOn near corridor net b x p.2) → GoesOn near corridor net b x k
    of_place (inl e) later = record {
      further = ls;
      cost = p.2;
      path = subst (λ (s : ℕ). Path (IsStep near corridor net) s b ls p.2) (step.leads_to ∙ e) p.4;
      less = omega (arith, some, sum);
    }
    of_place (inr behind) later = let g = later behind in record { further = g.further; cost = g.cost; path = g.path; less = omega (arith, some, sum, g.less) }

-- no path costs less
abbrev IsLeast : ℕ → List Point → NetParts → ℕ → ℕ → ℕ → Type 0
IsLeast near corridor net a b k = (others : List ℕ) (r : ℕ) → Path (IsStep near corridor net) a b others r → k ≤ r

not_again : (near : ℕ) (corridor : List Point) (net : NetParts) → IsNet net → (a b : ℕ) (ls : List ℕ) (k : ℕ) → Path (IsStep near corridor net) a b ls k → IsLeast near corridor net a b k → StandsIn a ls → ⊥
not_again near corridor net kept a b ls k p least at =
    let g = goes_on near corridor net kept a b a ls k p at in
    let least_here : k ≤ g.cost = least g.further g.cost g.path in
    let less : g.cost < k = g.less in absurd (omega arith)

tested_apart : (a : ℕ) (ls : List ℕ) → (StandsIn a ls → ⊥) → AllByRecursion (λ y. eqb a y ≡ false) ls
tested_apart a [] not_in = tt
tested_apart a (l ∷ ls) not_in = (ne_eqb a l (λ e. not_in (inl (sym e))), tested_apart a ls (λ at. not_in (inr at)))

-- so a path than which none costs less has no point twice
IsDistinct-none : IsDistinct eqb []
unfolding IsDistinct
IsDistinct-none = tt

no_point_twice : (near : ℕ) (corridor : List Point) (net : NetParts) → IsNet net → (a b : ℕ) (ls : List ℕ) (k : ℕ) → Path (IsStep near corridor net) a b ls k → IsLeast near corridor net a b k →
    IsDistinct eqb (a ∷ ls)
no_point_twice near corridor net kept a b [] k p least = IsDistinct-cons eqb a [] tt IsDistinct-none
no_point_twice near corridor net kept a b (l ∷ ls) k p least =
    IsDistinct-cons eqb a (l ∷ ls) (tested_apart a (l ∷ ls) (not_again near corridor net kept a b (l ∷ ls) k p least))
    (no_point_twice near corridor net kept l b ls p.2 later least_later)
  where
    step : IsStep near corridor net a l p.0 p.1
    step = p.3

    later : Path (IsStep near corridor net) l b ls p.2
    later = subst (λ (s : ℕ). Path (IsStep near corridor net) s b ls p.2) step.leads_to p.4

    sum : k ≡ p.1 + p.2
    sum = p.5

    least_later : IsLeast near corridor net l b p.2
    least_later others r q =
        let whole : k ≤ p.1 + r = least (l ∷ others) (p.1 + r) (p.0, p.1, r, p.3, subst (λ (s : ℕ). Path (IsStep near corridor net) s b others r) (sym step.leads_to) q, refl) in
        omega (arith, sum)

first_or_later : (net : NetParts) (a : ℕ) (ls : List ℕ) (q : ℕ) → a < length net.points → (t : Bool) → eqb q a ≡ t → (t || list_any (eqb q) ls) ≡ true →
    (list_any (eqb q) ls ≡ true → q < length net.points) → q < length net.points
first_or_later net a ls q inside true e found later = subst (λ (n : ℕ). n < length net.points) (sym (eqb-true q a e)) inside
first_or_later net a ls q inside false e found later = later found

-- and no more points than the net
points_in_range : (near : ℕ) (corridor : List Point) (net : NetParts) → IsNet net → (a b : ℕ) (ls : List ℕ) (k : ℕ) → a < length net.points → Path (IsStep near corridor net) a b ls k →
    (q : ℕ) → list_any (eqb q) (a ∷ ls) ≡ true → q < length net.points
points_in_range near corridor net kept a b [] k inside p q found = first_or_later net a [] q inside (eqb q a) refl found (λ none. cc)
points_in_range near corridor net kept a b (l ∷ ls) k inside p q found =
    let step : IsStep near corridor net a l p.0 p.1 = p.3 in
    let onward : Path (IsStep near corridor net) l b ls p.2 = subst (λ (s : ℕ). Path (IsStep near corridor net) s b ls p.2) step.leads_to p.4 in
    first_or_later net a (l ∷ ls) q inside (eqb q a) refl found (λ later. points_in_range near corridor net kept l b ls p.2 (edge_of net kept a l step.edge).j_in onward q later)

short_enough : (near : ℕ) (corridor : List Point) (net : NetParts) → IsNet net → (a b : ℕ) (ls : List ℕ) (k : ℕ) → a < length net.points → Path (IsStep near corridor net) a b ls k →
    IsLeast near corridor net a b k → length ls ≤ length net.points
short_enough near corridor net kept a b ls k inside p least =
    let all : length (a ∷ ls) ≤ length net.points =
    length-le_from_distinct_below (a ∷ ls) (length net.points) (no_point_twice near corridor net kept a b ls k p least) (points_in_range near corridor net kept a b ls k inside p) in omega arith

-- the order of dictionaries, as a test
not_after : (ls ms : List ℕ) → LexLe ls ms → is_not_after ls ms ≡ true
not_after [] ms h = refl
not_after (l ∷ ls) [] h = absurd h
not_after (l ∷ ls) (m ∷ ms) (inl less) = ap (λ b. b || ((l == m) && is_not_after ls ms)) (lt-ltb l m less)
not_after (l ∷ ls) (m ∷ ms) (inr tie) =
    ap (λ b. nat_lt l m || (b && is_not_after ls ms)) (eq-eqb l m tie.0) ∙ ap (λ b. nat_lt l m || b) (not_after ls ms tie.1) ∙ or_true (nat_lt l m)
  where
    or_true : (b : Bool) → (b || true) ≡ true
    or_true true = refl
    or_true false = refl

-- what a test by head and rest says
by_head : (i j : ℕ) (rest : Bool) → (nat_lt i j || ((i == j) && rest)) ≡ true → (i < j) ⊎ ((i ≡ j) × (rest ≡ true))
by_head i j rest h = of_test (nat_lt i j) refl h
  where
    both : (a b : Bool) → (a && b) ≡ true → (a ≡ true) × (b ≡ true)
    both true b e = (refl, e)
    both false b e = cc

    of_test : (t : Bool) → nat_lt i j ≡ t → (t || ((i == j) && rest)) ≡ true → (i < j) ⊎ ((i ≡ j) × (rest ≡ true))
    of_test true e g = inl (ltb-true i j e)
    of_test false e g = let parts = both (i == j) rest g in inr (eqb-true i j parts.0, parts.1)

same_lists_both : (ls ms : List ℕ) → LexLe ms ls → is_not_after ls ms ≡ true → ls ≡ ms
same_lists_both [] [] h e = refl
same_lists_both [] (m ∷ ms) h e = absurd h
same_lists_both (l ∷ ls) [] h e = cc
same_lists_both (l ∷ ls) (m ∷ ms) h e = of_cases h (by_head l m (is_not_after ls ms) e) (same_lists_both ls ms)
  where
    of_cases : (m < l) ⊎ ((m ≡ l) × LexLe ms ls) → (l < m) ⊎ ((l ≡ m) × (is_not_after ls ms ≡ true)) → (LexLe ms ls → is_not_after ls ms ≡ true → ls ≡ ms) → l ∷ ls ≡ m ∷ ms
    of_cases (inl p) (inl q) rest = absurd (omega arith)
    of_cases (inl p) (inr q) rest = let same : l ≡ m = q.0 in absurd (omega arith)
    of_cases (inr p) (inl q) rest = let same : m ≡ l = p.0 in absurd (omega arith)
    of_cases (inr p) (inr q) rest = ap (λ x. x ∷ ls) q.0 ∙ ap (λ xs. m ∷ xs) (rest p.1 q.1)

-- the least path is better than each way
better : (near : ℕ) (corridor : List Point) (net : NetParts) (a b : ℕ) (ks : List ℕ) (k : ℕ) → IsLeastPath (IsStep near corridor net) a b ks k → (ls : List ℕ) →
    Path (IsStep near corridor net) a b ls (way_cost near corridor net a ls) → IsBetter (is_no_worse near corridor net a) ks ls
better near corridor net a b ks k best ls p = record { no_worse = no_worse (cases_order mine other); alone = λ e. alone (by_head other mine (is_not_after ls ks) e) }
  where
    mine : ℕ
    mine = way_cost near corridor net a ks

    other : ℕ
    other = way_cost near corridor net a ls

    cost : k ≡ mine
    cost = path_cost near corridor net a b ks k best.path

    least : mine ≤ other
    least = subst (λ (n : ℕ). n ≤ other) cost (best.least ls other p)

    first : mine ≡ other → LexLe ks ls
    first e = best.first ls (subst (λ (n : ℕ). Path (IsStep near corridor net) a b ls n) (sym (cost ∙ e)) p)

    or_true : (b : Bool) → (b || true) ≡ true
    or_true true = refl
    or_true false = refl

    no_worse : (mine ≡ other) ⊎ ((mine < other) ⊎ (other < mine)) → (nat_lt mine other || ((mine == other) && is_not_after ks ls)) ≡ true
    no_worse (inl e) =
        ap (λ t. nat_lt mine other || (t && is_not_after ks ls)) (eq-eqb mine other e) ∙ ap (λ t. nat_lt mine other || t) (not_after ks ls (first e)) ∙ or_true (nat_lt mine other)
    no_worse (inr (inl less)) = ap (λ t. t || ((mine == other) && is_not_after ks ls)) (lt-ltb mine other less)
    no_worse (inr (inr more)) = let low : mine ≤ other = least in absurd (omega arith)

    alone : (other < mine) ⊎ ((other ≡ mine) × (is_not_after ls ks ≡ true)) → ls ≡ ks
    alone (inl less) = let low : mine ≤ other = least in absurd (omega arith)
    alone (inr tie) = same_lists_both ls ks (first (sym tie.0)) tie.1

-- so it is the one that is chosen
pub path_chosen : (near : ℕ) (corridor : List Point) (net : NetParts) → IsNet net → (from to : ℕ) → from < length net.points → (numbers : List ℕ) → IsStretchPath near corridor net from to numbers →
    numbers ≡ stretch_path_of near corridor net from to
path_chosen near corridor net kept from to inside numbers s =
    s.begins
    ∙ ap (λ (ls : List ℕ). from ∷ ls)
    (sym
    (least-is (is_no_worse near corridor net from) [] s.further (ways net (length net.points) from to)
    (among_ways near corridor net (length net.points) from to s.further s.cost s.least.path (short_enough near corridor net kept from to s.further s.cost inside s.least.path s.least.least))
    (all-weaker (λ ls. Path (IsStep near corridor net) from to ls (way_cost near corridor net from ls)) (IsBetter (is_no_worse near corridor net from) s.further) (ways net (length net.points) from to)
    (λ ls p. better near corridor net from to s.further s.cost s.least ls p) (ways_are_paths near corridor net (length net.points) from to))))
