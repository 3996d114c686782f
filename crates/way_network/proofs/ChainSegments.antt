-- The segments: chains that end higher than they begin, each of them once.
use Rattle.std.proofs.Common.{◌≡◌, ◌≢◌, refl, sym, ◌∙◌, ap, subst, ℕ, zero, suc, ◌<◌, ◌≤◌, ◌⊎◌, inl, inr, Bool, true, false, cond, eqb, ltb, List, [], ◌∷◌, ◌++◌, length, get_or, map, filter, All, arith}
use Rattle.std.specs.List.{AllPairs, Contains, flat_map, range_with_len, position_or_len}
use Rattle.std.specs.List.Sorted.{IsPermutation}
use Rattle.std.proofs.lemmas.Bool.{cases_lt}
use Rattle.std.proofs.lemmas.Bool.Decides.{nat_tests, Decides-eqb}
use Rattle.std.proofs.lemmas.List.{length-map, get_or-map}
use Rattle.std.proofs.lemmas.List.Elements.{All-nil, All-head, All-tail, All-append, All-weaker, All-filter, All-map, Contains-append_left, Contains-append_right, filter_passes}
use Rattle.std.proofs.lemmas.List.Kept.{AllPairs-filter, AllPairs-from_increasing}
use Rattle.std.proofs.lemmas.List.Sorted.{IsPermutation-refl, IsPermutation-cons, IsPermutation-trans, IsPermutation-insert, Contains-permutation, All-permutation}
use Rattle.std.proofs.lemmas.Map.Keys.{IsDistinct-IsPermutation}
use Rattle.std.proofs.lemmas.Map.Made.{AllPairs-from_IsDistinct, IsDistinct-from_AllPairs}
use Rattle.map_base.specs.declared.point.Point.{Point}
use Rattle.track_net.proofs.Lists.{range_below}
use Rattle.track_net.proofs.EdgeFacts.{Contains-range}
use Rattle.way_network.specs.Edges.{is_used}
use Rattle.way_network.specs.Chains.{Network, used_at, has_node, chain_from}
use Rattle.way_network.specs.Segments.{turns_before, put_in, put_in_order, around, first_of, second_of, last_of, chains_from, rising_chains, nodes_of, segment_chains}
use Rattle.way_network.specs.Premises.{IsWay}
use Rattle.way_network.specs.Pieces.{IsChain}
use Rattle.way_network.proofs.RisingLists.{range_rises}
use Rattle.way_network.proofs.Turning.{put_in_at}
use Rattle.way_network.proofs.ChainPaths.{IsPath, eqb_either, path_of_chain}
use Rattle.way_network.proofs.ChainPieces.{begun_over, second_on, chain_followed, chain_used}
use Rattle.way_network.proofs.Numbering.{first_of_at, second_of_at}

-- What is contained in lists that are made of others.

Contains_later : {X : Type 0} (y : X) (ys : List X) (x : X) → Contains ys x → Contains (y ∷ ys) x
Contains_later y ys x c = (suc c.0, omega (arith, c.1), c.2)

Contains_mapped : {X Y : Type 0} (f : X → Y) (xs : List X) (x : X) → Contains xs x → Contains (map f xs) (f x)
Contains_mapped f xs x c = (c.0, omega (arith, c.1, length-map xs f), get_or-map f xs c.0 x (f x) c.1 ∙ ap f c.2)

Contains_kept : {X : Type 0} (p : X → Bool) (xs : List X) (x : X) → Contains xs x → p x ≡ true → Contains (filter p xs) x
Contains_kept {X} p xs x c passes = at xs c.0 c.1 c.2
  where
    here : (y : X) (ys : List X) → y ≡ x → Contains (cond (p y) (y ∷ filter p ys) (filter p ys)) x
    here y ys e = subst (λ (t : Bool). Contains (cond t (y ∷ filter p ys) (filter p ys)) x) (sym (ap p e ∙ passes)) (0, omega arith, e)

    later : (y : X) (ys : List X) (t : Bool) → Contains (filter p ys) x → Contains (cond t (y ∷ filter p ys) (filter p ys)) x
    later y ys true c = Contains_later y (filter p ys) x c
    later y ys false c = c

    at : (xs : List X) (k : ℕ) → k < length xs → get_or xs k x ≡ x → Contains (filter p xs) x
    at [] k l e = absurd (omega arith)
    at (y ∷ ys) zero l e = here y ys e
    at (y ∷ ys) (suc k) l e = later y ys (p y) (at ys k (omega arith) e)

Contains_joined : {X A : Type 0} (f : A → List X) (items : List A) (a : A) (x : X) → Contains items a → Contains (f a) x → Contains (flat_map f items) x
Contains_joined {X} {A} f items a x c has = at items c.0 c.1 c.2
  where
    at : (items : List A) (k : ℕ) → k < length items → get_or items k a ≡ a → Contains (flat_map f items) x
    at [] k l e = absurd (omega arith)
    at (b ∷ rest) zero l e = Contains-append_left (f b) (flat_map f rest) x (subst (λ (c : A). Contains (f c) x) (sym e) has)
    at (b ∷ rest) (suc k) l e = Contains-append_right (f b) (flat_map f rest) x (at rest k (omega arith) e)

All_joined : {X A : Type 0} (P : X → Type 0) (f : A → List X) (items : List A) → All (λ a. All P (f a)) items → All P (flat_map f items)
All_joined P f [] all = All-nil P
All_joined P f (a ∷ rest) all = All-append P (f a) (flat_map f rest) (All-head (λ b. All P (f b)) a rest all) (All_joined P f rest (All-tail (λ b. All P (f b)) a rest all))

All_both : {X : Type 0} (P Q : X → Type 0) (xs : List X) → All P xs → All Q xs → All (λ x. P x × Q x) xs
All_both P Q xs p q k d l = (p k d l, q k d l)

-- Lists that have nothing twice.

pairs_cons : {X : Type 0} (R : X → X → Type 0) (x : X) (xs : List X) → All (R x) xs → AllPairs R xs → AllPairs R (x ∷ xs)
pairs_cons R x xs all pairs zero zero d up l = absurd (omega arith)
pairs_cons R x xs all pairs zero (suc j) d up l = all j d (omega arith)
pairs_cons R x xs all pairs (suc i) zero d up l = absurd (omega arith)
pairs_cons R x xs all pairs (suc i) (suc j) d up l = pairs i j d (omega arith) (omega arith)

pairs_tail : {X : Type 0} (R : X → X → Type 0) (x : X) (xs : List X) → AllPairs R (x ∷ xs) → AllPairs R xs
pairs_tail R x xs pairs i j d up l = pairs (suc i) (suc j) d (omega arith) (omega arith)

pairs_head : {X : Type 0} (R : X → X → Type 0) (x : X) (xs : List X) → AllPairs R (x ∷ xs) → All (R x) xs
pairs_head R x xs pairs k d l = pairs 0 (suc k) d (omega arith) (omega arith)

pairs_append : {X : Type 0} (R : X → X → Type 0) (xs ys : List X) → AllPairs R xs → AllPairs R ys → All (λ x. All (R x) ys) xs → AllPairs R (xs ++ ys)
pairs_append R [] ys p q all = q
pairs_append R (x ∷ xs) ys p q all =
    pairs_cons R x (xs ++ ys) (All-append (R x) xs ys (pairs_head R x xs p) (All-head (λ z. All (R z) ys) x xs all))
    (pairs_append R xs ys (pairs_tail R x xs p) q (All-tail (λ z. All (R z) ys) x xs all))

-- lists that are made by different numbers, and tell these
joined_apart : {X : Type 0} (f : ℕ → List X) (key : X → ℕ) → ((a : ℕ) → All (λ x. key x ≡ a) (f a)) → ((a : ℕ) → AllPairs (λ x y. x ≢ y) (f a)) → (items : List ℕ) → AllPairs (λ a b. a ≢ b) items
    → AllPairs (λ x y. x ≢ y) (flat_map f items)
joined_apart f key tells each [] apart = λ i j d up l. absurd (omega arith)
joined_apart {X} f key tells each (a ∷ rest) apart =
    pairs_append (λ x y. x ≢ y) (f a) (flat_map f rest) (each a) (joined_apart f key tells each rest (pairs_tail (λ (b c : ℕ). b ≢ c) a rest apart)) (λ k d l. others (get_or (f a) k d) (tells a k d l))
  where
    others : (x : X) → key x ≡ a → All (λ y. x ≢ y) (flat_map f rest)
    others x here =
        All_joined (λ y. x ≢ y) f rest
        (All-weaker (λ b. a ≢ b) (λ b. All (λ y. x ≢ y) (f b)) (λ b differ k d l same. differ (sym here ∙ ap key same ∙ tells b k d l)) rest (pairs_head (λ (b c : ℕ). b ≢ c) a rest apart))

mapped_apart : (f : ℕ → List ℕ) (back : List ℕ → ℕ) → ((q : ℕ) → back (f q) ≡ q) → (xs : List ℕ) → AllPairs (λ a b. a ≢ b) xs → AllPairs (λ x y. x ≢ y) (map f xs)
mapped_apart f back tells xs apart i j d up l same =
    let in_j : j < length xs = omega (arith, l, length-map xs f) in
    let in_i : i < length xs = omega (arith, in_j, up) in
    apart i j 0 up in_j
    (sym (tells (get_or xs i 0)) ∙ ap back (sym (get_or-map f xs i 0 d in_i) ∙ same ∙ get_or-map f xs j 0 d in_j) ∙ tells (get_or xs j 0))

-- numbers put in order are the same numbers
in_order_permutes : (before : ℕ → ℕ → Bool) (xs : List ℕ) → IsPermutation xs (put_in_order before xs)
in_order_permutes before [] = IsPermutation-refl []
in_order_permutes before (a ∷ rest) =
    let ys : List ℕ = put_in_order before rest in
    IsPermutation-trans (a ∷ rest) (a ∷ ys) (put_in before a ys) (IsPermutation-cons a rest ys (in_order_permutes before rest))
    (subst (IsPermutation (a ∷ ys)) (put_in_at before a ys) (IsPermutation-insert ys (position_or_len (before a) ys) a))

filtered_apart : (f : ℕ → Bool) (n : ℕ) → AllPairs (λ a b. a ≢ b) (filter f (range_with_len 0 n))
filtered_apart f n = AllPairs-filter (λ (a b : ℕ). a ≢ b) f (range_with_len 0 n) differ
  where
    differ : AllPairs (λ a b. a ≢ b) (range_with_len 0 n)
    differ i j d up l = let less : get_or (range_with_len 0 n) i d < get_or (range_with_len 0 n) j d = AllPairs-from_increasing (range_with_len 0 n) (range_rises n) i j d up l in λ same. omega arith

module _ (points : List Point) (g : Network) where
  around_permutes : (p : ℕ) → IsPermutation (used_at g p) (around points g p)
  around_permutes p = in_order_permutes (turns_before points p) (used_at g p)

  pub around_apart : (p : ℕ) → AllPairs (λ a b. a ≢ b) (around points g p)
  around_apart p =
      AllPairs-from_IsDistinct Decides-eqb (around points g p)
      (IsDistinct-IsPermutation eqb eqb_either (used_at g p) (around points g p) (around_permutes p)
      (IsDistinct-from_AllPairs Decides-eqb (used_at g p) (filtered_apart (is_used g.ways p) g.points)))

  -- what stands round a point is joined with it by used edges
  pub around_used : (p : ℕ) → All (λ q. (is_used g.ways p q ≡ true) × (q < g.points)) (around points g p)
  around_used p =
      All-permutation (λ q. (is_used g.ways p q ≡ true) × (q < g.points)) (used_at g p) (around points g p) (around_permutes p)
      (All_both (λ q. is_used g.ways p q ≡ true) (λ q. q < g.points) (used_at g p) (filter_passes (is_used g.ways p) (range_with_len 0 g.points))
      (All-filter (is_used g.ways p) (λ q. q < g.points) (range_with_len 0 g.points) (range_below g.points)))

  pub around_has : (p q : ℕ) → q < g.points → is_used g.ways p q ≡ true → Contains (around points g p) q
  around_has p q below used =
      Contains-permutation (used_at g p) (around points g p) q (around_permutes p) (Contains_kept (is_used g.ways p) (range_with_len 0 g.points) q (Contains-range g.points q below) used)

  -- no segment stands twice among the segments
  pub segments_apart : AllPairs (λ x y. x ≢ y) (segment_chains points g)
  segments_apart = joined_apart (rising_chains points g) first_of begins each (nodes_of g) (filtered_apart (has_node g) g.points)
    where
      begins : (p : ℕ) → All (λ (chain : List ℕ). first_of chain ≡ p) (rising_chains points g p)
      begins p =
          All-filter (λ (chain : List ℕ). ltb p (last_of chain)) (λ (chain : List ℕ). first_of chain ≡ p) (chains_from points g p)
          (All-map (λ (chain : List ℕ). first_of chain ≡ p) (chain_from g p) (around points g p) (λ k d l. refl))

      each : (p : ℕ) → AllPairs (λ x y. x ≢ y) (rising_chains points g p)
      each p =
          AllPairs-filter (λ (x y : List ℕ). x ≢ y) (λ (chain : List ℕ). ltb p (last_of chain)) (chains_from points g p)
          (mapped_apart (chain_from g p) second_of (λ q. second_on g g.points p q) (around points g p) (around_apart p))

  -- two places of one segment are one
  pub segment_once : (i j : ℕ) → i < length (segment_chains points g) → j < length (segment_chains points g) → get_or (segment_chains points g) i [] ≡ get_or (segment_chains points g) j [] → i ≡ j
  segment_once i j in_i in_j same = of_cases (cases_lt i j) (cases_lt j i)
    where
      of_cases : (i < j) ⊎ (j ≤ i) → (j < i) ⊎ (i ≤ j) → i ≡ j
      of_cases (inl l) other = absurd (segments_apart i j [] l in_j same)
      of_cases (inr l) (inl m) = absurd (segments_apart j i [] m in_i (sym same))
      of_cases (inr l) (inr m) = omega arith

  module _ (ways : All (IsWay g) g.ways) where
    -- each segment is a chain, and ends at a higher point than it begins
    pub segments_are : All (λ (chain : List ℕ). IsChain g chain × (first_of chain < last_of chain)) (segment_chains points g)
    segments_are =
        All_joined (λ (chain : List ℕ). IsChain g chain × (first_of chain < last_of chain)) (rising_chains points g) (nodes_of g)
        (λ k d l. of_node (get_or (nodes_of g) k d) (filter_passes (has_node g) (range_with_len 0 g.points) k d l))
      where
        low : (a b : ℕ) → ltb a b ≡ true → a < b
        low a b e = grind (arith, nat_tests)

        of_node : (p : ℕ) → has_node g p ≡ true → All (λ (chain : List ℕ). IsChain g chain × (first_of chain < last_of chain)) (rising_chains points g p)
        of_node p node =
            let all : All (λ (chain : List ℕ). IsChain g chain × (first_of chain ≡ p)) (rising_chains points g p) =
            All-filter (λ (chain : List ℕ). ltb p (last_of chain)) (λ (chain : List ℕ). IsChain g chain × (first_of chain ≡ p)) (chains_from points g p)
            (All-map (λ (chain : List ℕ). IsChain g chain × (first_of chain ≡ p)) (chain_from g p) (around points g p)
            (λ k d l. (begun_over g ways p (get_or (around points g p) k d) node (around_used p k d l).0, refl))) in
            λ k d l.
            let chain : List ℕ = get_or (rising_chains points g p) k d in
            let rises : p < last_of chain = low p (last_of chain) (filter_passes (λ (c : List ℕ). ltb p (last_of c)) (chains_from points g p) k d l) in
            let begins : first_of chain ≡ p = (all k d l).1 in
            ((all k d l).0, subst (λ (n : ℕ). n < last_of chain) (sym begins) rises)

    -- each chain that ends at a higher point than it begins is a segment
    pub segment_listed : (chain : List ℕ) → IsChain g chain → first_of chain < last_of chain → Contains (segment_chains points g) chain
    segment_listed chain c rises =
        let p : ℕ = first_of chain in
        let q : ℕ = second_of chain in
        let path : IsPath g chain = path_of_chain g chain ways c in
        let long : 2 ≤ length chain = c.long in
        let in_p : p < g.points = subst (λ (n : ℕ). n < g.points) (sym (first_of_at chain)) (path.known 0 0 (omega arith)) in
        let in_q : q < g.points = subst (λ (n : ℕ). n < g.points) (sym (second_of_at chain long)) (path.known 1 0 (omega arith)) in
        let is : chain_from g p q ≡ chain = chain_followed g chain ways c in
        let node : Contains (nodes_of g) p = Contains_kept (has_node g) (range_with_len 0 g.points) p (Contains-range g.points p in_p) c.begins in
        let begun : Contains (chains_from points g p) chain =
        subst (Contains (chains_from points g p)) is (Contains_mapped (chain_from g p) (around points g p) q (around_has p q in_q (chain_used g chain ways c))) in
        Contains_joined (rising_chains points g) (nodes_of g) p chain node (Contains_kept (λ (d : List ℕ). ltb p (last_of d)) (chains_from points g p) chain begun (high p (last_of chain) rises))
      where
        high : (a b : ℕ) → a < b → ltb a b ≡ true
        high a b l = grind (arith, nat_tests)
