-- Chains from node to node along pieces of ways.
use Rattle.std.proofs.Common.{◌≡◌, ◌≢◌, refl, sym, ◌∙◌, ap, subst, ℕ, zero, suc, ◌+◌, ◌-◌, ◌<◌, ◌≤◌, ◌⊎◌, inl, inr, Bool, true, false, ltb, not, ◌&&◌, ◌||◌, List, [], ◌∷◌, ◌++◌, append-nil, length, get_or, All, arith}
use Rattle.std.specs.List.{Contains}
use Rattle.std.proofs.lemmas.Bool.Decides.{nat_tests}
use Rattle.std.proofs.lemmas.List.{reverse-reverse, length-reverse, length-append, get_or-reverse, get_or-append-add}
use Rattle.std.proofs.lemmas.List.Elements.{All-contains}
use Rattle.std.proofs.lemmas.List.Folds.{Any-from_list_any}
use Rattle.way_network.specs.declared.way.Way.{Way}
use Rattle.way_network.specs.Edges.{are_ends, runs_over, is_used, lines_over, is_on_edges, passes}
use Rattle.way_network.specs.Chains.{Network, used_at, has_node, chain_on, chain_from}
use Rattle.way_network.specs.Segments.{first_of, second_of, last_of, reversed}
use Rattle.way_network.specs.Premises.{IsWay}
use Rattle.way_network.specs.Pieces.{StandsIn, IsChain}
use Rattle.way_network.proofs.Numbering.{first_of_at}
use Rattle.way_network.proofs.Walking.{last_of_at}
use Rattle.way_network.proofs.ChainEdges.{StepsOver, steps_from_runs, steps_turned, either_true, ends_are, lines_either, runs_at, runs_turned_back}
use Rattle.way_network.proofs.ChainPaths.{IsPath, path_in, path_tail, path_turned, path_of_way, path_of_chain, path_length, path_apart, stands_turned}
use Rattle.way_network.proofs.ChainSteps.{LeadsOn, goes_on, up_to, up_to_begins, up_to_inner, up_to_last, up_to_all, follows}

-- The ends of a list, turned round.

pub first_turned : (xs : List ℕ) → first_of (reversed xs) ≡ last_of xs
first_turned [] = refl
first_turned (a ∷ rest) =
    let zeroth : length (a ∷ rest) - 1 - 0 ≡ length (a ∷ rest) - 1 = omega arith in
    first_of_at (reversed (a ∷ rest)) ∙ get_or-reverse (a ∷ rest) 0 0 (omega arith) ∙ ap (λ (k : ℕ). get_or (a ∷ rest) k 0) zeroth ∙ last_of_at (a ∷ rest)

pub last_turned : (xs : List ℕ) → last_of (reversed xs) ≡ first_of xs
last_turned xs = sym (first_turned (reversed xs)) ∙ ap first_of (reverse-reverse xs)

pub last_appended : (xs : List ℕ) (b : ℕ) (ys : List ℕ) → last_of (xs ++ b ∷ ys) ≡ last_of (b ∷ ys)
last_appended [] b ys = refl
last_appended (a ∷ []) b ys = refl
last_appended (a ∷ c ∷ xs) b ys = last_appended (c ∷ xs) b ys

-- a station is a node
pub station_node : (g : Network) (p : ℕ) → p < g.stations → has_node g p ≡ true
station_node g p below = ap (λ (t : Bool). t || (is_on_edges (used_at g p) && not (passes g.lines g.ways p (used_at g p)))) (low p g.stations below)
  where
    low : (k n : ℕ) → k < n → ltb k n ≡ true
    low k n l = grind (arith, nat_tests)

-- A way, in the one or the other direction.
pub record IsCourse (g : Network) (xs : List ℕ) : Type 0 where
  pub way : Way
  pub known : Contains g.ways way
  pub along : (xs ≡ way.points) ⊎ (xs ≡ reversed way.points)

pub path_of_course : (g : Network) (xs : List ℕ) → All (IsWay g) g.ways → IsCourse g xs → IsPath g xs
path_of_course g xs ways c = of_along c.way (path_of_way g c.way ways c.known) c.along
  where
    of_along : (way : Way) → IsPath g way.points → (xs ≡ way.points) ⊎ (xs ≡ reversed way.points) → IsPath g xs
    of_along way path (inl e) = subst (IsPath g) (sym e) path
    of_along way path (inr e) = subst (IsPath g) (sym e) (path_turned g way.points path)

pub course_ends : (g : Network) (xs : List ℕ) → All (IsWay g) g.ways → IsCourse g xs → (has_node g (first_of xs) ≡ true) × (has_node g (last_of xs) ≡ true)
course_ends g xs ways c =
    let w : IsWay g c.way = All-contains (IsWay g) g.ways c.way ways c.known in
    of_along c.way (station_node g (first_of c.way.points) w.begins) (station_node g (last_of c.way.points) w.ends) c.along
  where
    of_along : (way : Way) → has_node g (first_of way.points) ≡ true → has_node g (last_of way.points) ≡ true → (xs ≡ way.points) ⊎ (xs ≡ reversed way.points)
        → (has_node g (first_of xs) ≡ true) × (has_node g (last_of xs) ≡ true)
    of_along way begins ends (inl e) = (ap (λ (ys : List ℕ). has_node g (first_of ys)) e ∙ begins, ap (λ (ys : List ℕ). has_node g (last_of ys)) e ∙ ends)
    of_along way begins ends (inr e) = (
      ap (λ (ys : List ℕ). has_node g (first_of ys)) e ∙ ap (has_node g) (first_turned way.points) ∙ ends,
      ap (λ (ys : List ℕ). has_node g (last_of ys)) e ∙ ap (has_node g) (last_turned way.points) ∙ begins,
    )

pub course_turned : (g : Network) (xs : List ℕ) → IsCourse g xs → IsCourse g (reversed xs)
course_turned g xs c = record { way = c.way; known = c.known; along = of_along c.way c.along }
  where
    of_along : (way : Way) → (xs ≡ way.points) ⊎ (xs ≡ reversed way.points) → (reversed xs ≡ way.points) ⊎ (reversed xs ≡ reversed way.points)
    of_along way (inl e) = inr (ap reversed e)
    of_along way (inr e) = inl (ap reversed e ∙ reverse-reverse way.points)

-- a part of a course runs as a chain does
pub runs_in_course : (g : Network) (part xs : List ℕ) (c : IsCourse g xs) → StandsIn part xs → StandsIn part c.way.points ⊎ StandsIn (reversed part) c.way.points
runs_in_course g part xs c s = of_along c.way c.along
  where
    of_along : (way : Way) → (xs ≡ way.points) ⊎ (xs ≡ reversed way.points) → StandsIn part way.points ⊎ StandsIn (reversed part) way.points
    of_along way (inl e) = inl (subst (StandsIn part) e s)
    of_along way (inr e) = inr (subst (StandsIn (reversed part)) (ap reversed e ∙ reverse-reverse way.points) (stands_turned part xs s))

-- a used edge is on a course, in the direction wanted
pub course_over : (g : Network) (p q : ℕ) → is_used g.ways p q ≡ true → (xs : List ℕ) × IsCourse g xs × StepsOver p q xs
course_over g p q used = of_way (Any-from_list_any (λ (w : Way). runs_over p q w.points) g.ways used)
  where
    of_steps : (way : Way) → Contains g.ways way → StepsOver p q way.points ⊎ StepsOver q p way.points → (xs : List ℕ) × IsCourse g xs × StepsOver p q xs
    of_steps way known (inl s) = (way.points, record { way = way; known = known; along = inl refl }, s)
    of_steps way known (inr s) = (reversed way.points, record { way = way; known = known; along = inr refl }, steps_turned q p way.points s)

    of_way : (k : ℕ) × (w : Way) × (k < length g.ways) × (get_or g.ways k w ≡ w) × (runs_over p q w.points ≡ true) → (xs : List ℕ) × IsCourse g xs × StepsOver p q xs
    of_way found = of_steps found.1 (found.0, found.2, found.3) (steps_from_runs p q found.1.points found.4)

-- Chains.

-- what follows an edge on a course, up to the first node
pub follows_course : (g : Network) (before : List ℕ) (a b : ℕ) (after : List ℕ) → All (IsWay g) g.ways → IsCourse g (before ++ a ∷ b ∷ after)
    → chain_on g g.points a b ≡ up_to (has_node g) (b ∷ after)
follows_course g before a b after ways c =
    let whole : List ℕ = before ++ a ∷ b ∷ after in
    let path : IsPath g (a ∷ b ∷ after) =
    path_in g (a ∷ b ∷ after) whole (record { before = before; after = []; is = ap (λ (ys : List ℕ). before ++ ys) (sym (append-nil (a ∷ b ∷ after))) }) (path_of_course g whole ways c) in
    let ends : has_node g (last_of (b ∷ after)) ≡ true = ap (has_node g) (sym (last_appended before a (b ∷ after))) ∙ (course_ends g whole ways c).1 in
    follows g g.points a b after path ends (omega (arith, path_length g (a ∷ b ∷ after) path))

-- a chain that begins at a node
pub begun_on : (g : Network) (before : List ℕ) (p q : ℕ) (after : List ℕ) → All (IsWay g) g.ways → IsCourse g (before ++ p ∷ q ∷ after) → has_node g p ≡ true → IsChain g (p ∷ up_to (has_node g) (q ∷ after))
begun_on g before p q after ways c node =
    let whole : List ℕ = before ++ p ∷ q ∷ after in
    let rest : List ℕ = up_to (has_node g) (q ∷ after) in
    let ends : has_node g (last_of (q ∷ after)) ≡ true = ap (has_node g) (sym (last_appended before p (q ∷ after))) ∙ (course_ends g whole ways c).1 in
    let left = up_to_begins (has_node g) (q ∷ after) in
    record {
      long = omega arith;
      begins = node;
      ends = up_to_last (has_node g) q after ends;
      between = inner (has_node g) (q ∷ after);
      way = c.way;
      known = c.known;
      runs = runs_in_course g (p ∷ rest) whole c (record { before = before; after = left.0; is = ap (λ (ys : List ℕ). before ++ p ∷ ys) left.1 });
    }
  where
    inner : (node : ℕ → Bool) (xs : List ℕ) (k : ℕ) → 0 < k → suc k < suc (length (up_to node xs)) → node (get_or (p ∷ up_to node xs) k 0) ≡ false
    inner node xs zero some l = absurd (omega arith)
    inner node xs (suc k) some l = up_to_inner node xs k (omega arith)

pub begun_over : (g : Network) → All (IsWay g) g.ways → (p q : ℕ) → has_node g p ≡ true → is_used g.ways p q ≡ true → IsChain g (chain_from g p q)
begun_over g ways p q node used = of_course (course_over g p q used)
  where
    of_course : (xs : List ℕ) × IsCourse g xs × StepsOver p q xs → IsChain g (chain_from g p q)
    of_course found =
        let s : StepsOver p q found.0 = found.2 in
        let c : IsCourse g (s.before ++ p ∷ q ∷ s.after) = subst (IsCourse g) s.is found.1 in
        subst (λ (ys : List ℕ). IsChain g (p ∷ ys)) (sym (follows_course g s.before p q s.after ways c)) (begun_on g s.before p q s.after ways c node)

-- the second point of a chain that is begun
pub second_on : (g : Network) (n from here : ℕ) → second_of (from ∷ chain_on g n from here) ≡ here
second_on g zero from here = refl
second_on g (suc n) from here = refl

pub chain_turned : (g : Network) (chain : List ℕ) → IsChain g chain → IsChain g (reversed chain)
chain_turned g chain c = record {
  long = omega (arith, length-reverse chain, c.long);
  begins = ap (has_node g) (first_turned chain) ∙ c.ends;
  ends = ap (has_node g) (last_turned chain) ∙ c.begins;
  between = λ k some l. inner k some (omega (arith, l, length-reverse chain));
  way = c.way;
  known = c.known;
  runs = of_runs c.way c.runs;
}
  where
    inner : (k : ℕ) → 0 < k → suc k < length chain → has_node g (get_or (reversed chain) k 0) ≡ false
    inner k some l = ap (has_node g) (get_or-reverse chain k 0 (omega arith)) ∙ c.between (length chain - 1 - k) (omega arith) (omega arith)

    of_runs : (way : Way) → StandsIn chain way.points ⊎ StandsIn (reversed chain) way.points → StandsIn (reversed chain) way.points ⊎ StandsIn (reversed (reversed chain)) way.points
    of_runs way (inl s) = inr (subst (λ (ys : List ℕ). StandsIn ys way.points) (sym (reverse-reverse chain)) s)
    of_runs way (inr s) = inl s

-- what follows an edge in a chain
pub follows_chain : (g : Network) (before : List ℕ) (a b : ℕ) (after : List ℕ) → All (IsWay g) g.ways → IsChain g (before ++ a ∷ b ∷ after) → chain_on g g.points a b ≡ b ∷ after
follows_chain g before a b after ways c =
    let whole : List ℕ = before ++ a ∷ b ∷ after in
    let path : IsPath g (a ∷ b ∷ after) =
    path_in g (a ∷ b ∷ after) whole (record { before = before; after = []; is = ap (λ (ys : List ℕ). before ++ ys) (sym (append-nil (a ∷ b ∷ after))) }) (path_of_chain g whole ways c) in
    let ends : has_node g (last_of (b ∷ after)) ≡ true = ap (has_node g) (sym (last_appended before a (b ∷ after))) ∙ c.ends in
    follows g g.points a b after path ends (omega (arith, path_length g (a ∷ b ∷ after) path))
    ∙ up_to_all (has_node g) (b ∷ after) (λ k l. inner k l)
  where
    inner : (k : ℕ) → suc k < length (b ∷ after) → has_node g (get_or (b ∷ after) k 0) ≡ false
    inner k l =
        let at : get_or (before ++ a ∷ b ∷ after) (length before + suc k) 0 ≡ get_or (b ∷ after) k 0 = get_or-append-add before (a ∷ b ∷ after) (suc k) 0 in
        ap (has_node g) (sym at) ∙ c.between (length before + suc k) (omega arith) (omega (arith, l, length-append before (a ∷ b ∷ after)))

pub chain_followed : (g : Network) (chain : List ℕ) → All (IsWay g) g.ways → IsChain g chain → chain_from g (first_of chain) (second_of chain) ≡ chain
chain_followed g [] ways c = absurd (omega (arith, c.long))
chain_followed g (a ∷ []) ways c = absurd (omega (arith, c.long))
chain_followed g (a ∷ b ∷ rest) ways c = ap (λ (ys : List ℕ). a ∷ ys) (follows_chain g [] a b rest ways c)

pub chain_apart : (g : Network) (chain : List ℕ) → All (IsWay g) g.ways → IsChain g chain → first_of chain ≢ last_of chain
chain_apart g chain ways c same =
    path_apart g chain (path_of_chain g chain ways c) 0 (length chain - 1) 0 (omega (arith, c.long)) (omega (arith, c.long)) (sym (first_of_at chain) ∙ same ∙ sym (last_of_at chain))

pub chain_used : (g : Network) (chain : List ℕ) → All (IsWay g) g.ways → IsChain g chain → is_used g.ways (first_of chain) (second_of chain) ≡ true
chain_used g [] ways c = absurd (omega (arith, c.long))
chain_used g (a ∷ []) ways c = absurd (omega (arith, c.long))
chain_used g (a ∷ b ∷ rest) ways c = (path_of_chain g (a ∷ b ∷ rest) ways c).used a b (runs_at [] a b rest)

lines_here : (g : Network) (a b p q : ℕ) → are_ends p q a b ≡ true → lines_over g.lines g.ways a b ≡ lines_over g.lines g.ways p q
lines_here g a b p q e = of_ends (ends_are p q a b e)
  where
    of_ends : ((a ≡ p) × (b ≡ q)) ⊎ ((a ≡ q) × (b ≡ p)) → lines_over g.lines g.ways a b ≡ lines_over g.lines g.ways p q
    of_ends (inl h) = λ i. lines_over g.lines g.ways (h.0 i) (h.1 i)
    of_ends (inr h) = lines_either g.lines g.ways a b ∙ (λ i. lines_over g.lines g.ways (h.1 i) (h.0 i))

-- all edges of a path without nodes between its ends have the same lines
lines_along : (g : Network) (a b : ℕ) (rest : List ℕ) → IsPath g (a ∷ b ∷ rest) → ((k : ℕ) → suc k < length (b ∷ rest) → has_node g (get_or (b ∷ rest) k 0) ≡ false)
    → (p q : ℕ) → runs_over p q (a ∷ b ∷ rest) ≡ true → lines_over g.lines g.ways a b ≡ lines_over g.lines g.ways p q
lines_along g a b [] path plain p q e = of_either (either_true (are_ends p q a b) false e)
  where
    of_either : (are_ends p q a b ≡ true) ⊎ (false ≡ true) → lines_over g.lines g.ways a b ≡ lines_over g.lines g.ways p q
    of_either (inl h) = lines_here g a b p q h
    of_either (inr h) = absurd cc
lines_along g a b (c ∷ rest) path plain p q e =
    of_either (either_true (are_ends p q a b) (runs_over p q (b ∷ c ∷ rest)) e) (lines_along g b c rest (path_tail g a (b ∷ c ∷ rest) path) (λ k l. plain (suc k) (omega arith)) p q)
  where
    of_either : (are_ends p q a b ≡ true) ⊎ (runs_over p q (b ∷ c ∷ rest) ≡ true) → (runs_over p q (b ∷ c ∷ rest) ≡ true → lines_over g.lines g.ways b c ≡ lines_over g.lines g.ways p q)
        → lines_over g.lines g.ways a b ≡ lines_over g.lines g.ways p q
    of_either (inl h) later = lines_here g a b p q h
    of_either (inr h) later =
        let on : LeadsOn g.lines g.ways b a c (used_at g b) = goes_on g a b c rest path (plain 0 (omega arith)) in
        lines_either g.lines g.ways a b ∙ on.same ∙ later h

pub chain_lines : (g : Network) (chain : List ℕ) → All (IsWay g) g.ways → IsChain g chain → (p q : ℕ) → runs_over p q chain ≡ true
    → lines_over g.lines g.ways (first_of chain) (second_of chain) ≡ lines_over g.lines g.ways p q
chain_lines g [] ways c p q e = absurd (omega (arith, c.long))
chain_lines g (a ∷ []) ways c p q e = absurd (omega (arith, c.long))
chain_lines g (a ∷ b ∷ rest) ways c p q e = lines_along g a b rest (path_of_chain g (a ∷ b ∷ rest) ways c) (λ k l. c.between (suc k) (omega arith) (omega arith)) p q e

-- a list of at least two points runs over its first edge
pub runs_first : (xs : List ℕ) → 2 ≤ length xs → runs_over (first_of xs) (second_of xs) xs ≡ true
runs_first [] long = absurd (omega arith)
runs_first (a ∷ []) long = absurd (omega arith)
runs_first (a ∷ b ∷ rest) long = runs_at [] a b rest

pub chain_equal_lines : (g : Network) (chain : List ℕ) → All (IsWay g) g.ways → IsChain g chain →
    lines_over g.lines g.ways (first_of chain) (second_of chain) ≡ lines_over g.lines g.ways (first_of (reversed chain)) (second_of (reversed chain))
chain_equal_lines g chain ways c =
    let back : List ℕ = reversed chain in
    chain_lines g chain ways c (first_of back) (second_of back)
    (runs_turned_back (first_of back) (second_of back) chain (runs_first back (omega (arith, length-reverse chain, c.long))))
