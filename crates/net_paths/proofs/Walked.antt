-- The walk along known costs is the least path.
use Rattle.std.proofs.Common.{◌≡◌, ◌≢◌, refl, sym, ◌∙◌, ap, subst, ℕ, ◌+◌, ◌<◌, ◌≤◌, ◌⊎◌, inl, inr, List, [], ◌∷◌, ◌++◌, Option, Some, None, length, get_or, arith}
use Rattle.std.proofs.lemmas.Bool.{cases_eq, cases_lt}
use Rattle.std.proofs.lemmas.List.{get_or_default}
use Rattle.least_path.proofs.Walks.{IsNext, next_exists, next_is_nearer, walk_begins, walk_goes_on, walk_ends}
use Rattle.least_path.proofs.Walks as walks
use Rattle.track_net.specs.Nets.{NetParts, IsNet, HasEdge, Leads, Joins, edges_of_point}
use Rattle.net_paths.specs.Corridors.{CorridorParts}
use Rattle.net_paths.specs.Stretches.{IsStretchPath}
use Rattle.net_paths.specs.Searching.{cost_along, StepAlong, known_at, IsSearched}
use Rattle.net_paths.specs.Walking.{KeepsCost, IsLeastStep}
use Rattle.net_paths.proofs.NetSteps.{edge_of, steps_are_weighted}
use Rattle.net_paths.proofs.Rising.{edge_not_below}

-- the least of the edges that keep the cost is the first of them
pub least_at : (corridor : CorridorParts) (net : NetParts) (table : List (Option ℕ)) → IsNet net → (at done : ℕ) → at < length net.points → (edges : List ℕ) → edges ≡ edges_of_point net at → done < length edges →
    ((i : ℕ) → i < done → KeepsCost corridor net table at (get_or edges i 0) → ⊥) → KeepsCost corridor net table at (get_or edges done 0) → IsLeastStep corridor net table at (get_or edges done 0)
least_at corridor net table kept at done inside edges is below before keeps =
    subst (λ (es : List ℕ). IsLeastStep corridor net table at (get_or es done 0)) (sym is)
    (record {
      edge = (done, within, get_or_default es done (get_or es done 0) 0 within);
      keeps = subst (λ (xs : List ℕ). KeepsCost corridor net table at (get_or xs done 0)) is keeps;
      least = λ other edge keeps_it. not_below other edge keeps_it (cases_lt edge.0 done);
    })
  where
    es : List ℕ
    es = edges_of_point net at

    within : done < length es
    within = subst (λ (xs : List ℕ). done < length xs) is below

    not_below : (other : ℕ) (edge : HasEdge net at other) → KeepsCost corridor net table at other → (edge.0 < done) ⊎ (done ≤ edge.0) → get_or es done 0 ≤ other
    not_below other edge keeps_it (inl h) =
        let here : get_or es edge.0 0 ≡ other = get_or_default es edge.0 0 other edge.1 ∙ edge.2 in
        absurd (subst (λ (xs : List ℕ). (i : ℕ) → i < done → KeepsCost corridor net table at (get_or xs i 0) → ⊥) is before edge.0 h (subst (λ (n : ℕ). KeepsCost corridor net table at n) (sym here) keeps_it))
    not_below other edge keeps_it (inr h) = edge_not_below net kept at inside done other edge h

-- where none keeps it, none of the edges does
pub none_keeps : (corridor : CorridorParts) (net : NetParts) (table : List (Option ℕ)) (at done : ℕ) (edges : List ℕ) → edges ≡ edges_of_point net at → length edges ≤ done →
    ((i : ℕ) → i < done → KeepsCost corridor net table at (get_or edges i 0) → ⊥) → (other : ℕ) → HasEdge net at other → KeepsCost corridor net table at other → ⊥
none_keeps corridor net table at done edges is all before other edge keeps =
    let here : get_or (edges_of_point net at) edge.0 0 ≡ other = get_or_default (edges_of_point net at) edge.0 0 other edge.1 ∙ edge.2 in
    let within : length (edges_of_point net at) ≤ done = subst (λ (xs : List ℕ). length xs ≤ done) is all in
    let below : edge.0 < length (edges_of_point net at) = edge.1 in
    subst (λ (xs : List ℕ). (i : ℕ) → i < done → KeepsCost corridor net table at (get_or xs i 0) → ⊥) is before edge.0 (omega arith)
    (subst (λ (n : ℕ). KeepsCost corridor net table at n) (sym here) keeps)

-- an edge that keeps the cost, as a step, and the other way round
next_of : (corridor : CorridorParts) (net : NetParts) (table : List (Option ℕ)) (at next : ℕ) → HasEdge net at next → (keeps : KeepsCost corridor net table at next) →
    IsNext (StepAlong corridor net) (known_at table) at next next (cost_along corridor net.points at next) keeps.0
next_of corridor net table at next edge keeps = record { goes = record { edge = edge; leads_to = refl; cost = refl }; rest = keeps.1; whole = keeps.2 }

keeps_of : (corridor : CorridorParts) (net : NetParts) (table : List (Option ℕ)) (at l s c r : ℕ) → IsNext (StepAlong corridor net) (known_at table) at l s c r → KeepsCost corridor net table at l
keeps_of corridor net table at l s c r n =
    (r, subst (λ (q : ℕ). known_at table q ≡ Some r) n.goes.leads_to n.rest, n.whole ∙ ap (λ m. Some (m + r)) n.goes.cost)

-- what is left to walk
abbrev pub cost_or_none : Option ℕ → ℕ
cost_or_none None = 0
cost_or_none (Some k) = k

-- each step leaves less
pub nearer : (corridor : CorridorParts) (net : NetParts) (table : List (Option ℕ)) → IsNet net → (at next : ℕ) → IsLeastStep corridor net table at next →
    cost_or_none (known_at table next) < cost_or_none (known_at table at)
nearer corridor net table kept at next step =
    let keeps = step.keeps in
    let fewer : keeps.0 < cost_along corridor net.points at next + keeps.0 =
    next_is_nearer (StepAlong corridor net) (known_at table) (steps_are_weighted corridor net kept) at next next (cost_along corridor net.points at next) keeps.0
    (cost_along corridor net.points at next + keeps.0) (next_of corridor net table at next step.edge keeps) keeps.2 in
    let left : cost_or_none (known_at table next) ≡ keeps.0 = ap cost_or_none keeps.1 in
    let whole : cost_or_none (known_at table at) ≡ cost_along corridor net.points at next + keeps.0 = ap cost_or_none keeps.2 in
    subst (λ (n : ℕ). n < cost_or_none (known_at table at)) (sym left) (subst (λ (n : ℕ). keeps.0 < n) (sym whole) fewer)

pub next_in_range : (corridor : CorridorParts) (net : NetParts) (table : List (Option ℕ)) → IsNet net → (at next : ℕ) → IsLeastStep corridor net table at next → next < length net.points
next_in_range corridor net table kept at next step = (edge_of net kept at next step.edge).j_in

-- a walk on its way
pub record IsWalking (corridor : CorridorParts) (net : NetParts) (table : List (Option ℕ)) (from to bound : ℕ) (numbers : List ℕ) (at : ℕ) : Type 0 where
  pub walked : List ℕ
  pub spent : ℕ
  pub rest : ℕ
  pub begins : numbers ≡ from ∷ walked
  pub leads : walks.Leads (StepAlong corridor net) from to walked spent at
  pub known : known_at table at ≡ Some rest
  pub within : rest ≤ bound

pub walking_begins : (corridor : CorridorParts) (net : NetParts) (table : List (Option ℕ)) (from to : ℕ) (s : IsSearched corridor net from to table) → IsWalking corridor net table from to s.cost (from ∷ []) from
walking_begins corridor net table from to s = record {
  walked = [];
  spent = 0;
  rest = s.cost;
  begins = refl;
  leads = walk_begins (StepAlong corridor net) from to;
  known = s.known;
  within = omega arith;
}

pub walking_goes_on : (corridor : CorridorParts) (net : NetParts) (table : List (Option ℕ)) (from to : ℕ) → IsNet net → (s : IsSearched corridor net from to table) → (numbers more : List ℕ) (at next : ℕ) →
    IsWalking corridor net table from to s.cost numbers at → IsLeastStep corridor net table at next → more ≡ numbers ++ next ∷ [] → IsWalking corridor net table from to s.cost more next
walking_goes_on corridor net table from to kept s numbers more at next w step is = record {
  walked = w.walked ++ next ∷ [];
  spent = w.spent + c;
  rest = r;
  begins = is ∙ ap (λ ns. ns ++ next ∷ []) w.begins;
  leads =
      walk_goes_on (StepAlong corridor net) to s.cost (known_at table) (steps_are_weighted corridor net kept) s.least from at w.walked w.spent w.leads next next c r whole
      (next_of corridor net table at next step.edge step.keeps) (λ m t d q n. lowest m t d q n);
  known = step.keeps.1;
  within = omega (arith, whole);
}
  where
    r : ℕ
    r = step.keeps.0

    c : ℕ
    c = cost_along corridor net.points at next

    whole : c + r ≤ s.cost
    whole = let same : Some (c + r) ≡ Some w.rest = sym step.keeps.2 ∙ w.known in let sum : c + r ≡ w.rest = cc in omega (arith, w.within)

    lowest : (m t d q : ℕ) → IsNext (StepAlong corridor net) (known_at table) at m t d q → next ≤ m
    lowest m t d q n = step.least m n.goes.edge (keeps_of corridor net table at m t d q n)

pub walking_ends : (corridor : CorridorParts) (net : NetParts) (table : List (Option ℕ)) (from to : ℕ) → (s : IsSearched corridor net from to table) → (numbers : List ℕ) (at : ℕ) →
    IsWalking corridor net table from to s.cost numbers at → ((other : ℕ) → HasEdge net at other → KeepsCost corridor net table at other → ⊥) → IsStretchPath corridor.near corridor.samples net from to numbers
walking_ends corridor net table from to s numbers at w none = record {
  further = w.walked;
  cost = w.spent;
  begins = w.begins;
  least = walk_ends (StepAlong corridor net) from to at w.walked w.spent w.leads (at_end (cases_eq at to));
}
  where
    at_end : (at ≡ to) ⊎ (at ≡ to → ⊥) → at ≡ to
    at_end (inl e) = e
    at_end (inr apart) =
        let more = next_exists (StepAlong corridor net) to s.cost (known_at table) s.least at w.rest apart w.within w.known in
        absurd (none more.0 more.4.goes.edge (keeps_of corridor net table at more.0 more.1 more.2 more.3 more.4))

-- the ends of what the net joins are points of it
last_in_range : (net : NetParts) → IsNet net → (i j : ℕ) (ks : List ℕ) → i < length net.points → Leads net i j ks → j < length net.points
last_in_range net kept i j [] inside h = subst (λ (n : ℕ). n < length net.points) h inside
last_in_range net kept i j (k ∷ ks) inside h = last_in_range net kept k j ks (edge_of net kept i k h.0).j_in h.1

pub joined_in_range : (net : NetParts) → IsNet net → (i j : ℕ) → i ≢ j → Joins net i j → (i < length net.points) × (j < length net.points)
joined_in_range net kept i j apart joined = of_path joined.0 joined.1
  where
    of_path : (ks : List ℕ) → Leads net i j ks → (i < length net.points) × (j < length net.points)
    of_path [] h = absurd (apart h)
    of_path (k ∷ ks) h =
        let e = edge_of net kept i k h.0 in (e.i_in, last_in_range net kept k j ks e.j_in h.1)
