-- Where a way goes on at a point that is no node, and what a chain follows.
use Rattle.std.proofs.Common.{◌≡◌, ◌≢◌, refl, sym, ◌∙◌, ap, ℕ, zero, suc, ◌<◌, ◌⊎◌, inl, inr, Bool, true, false, cond, not, eqb, ltb, ◌&&◌, ◌||◌, List, [], ◌∷◌, ◌++◌, length, get_or, arith, Some, None, unwrap_or}
use Rattle.std.specs.List.{find, range_with_len}
use Rattle.std.proofs.lemmas.Bool.{eq-eqb, eqb-true}
use Rattle.std.proofs.lemmas.Bool.Decides.{nat_tests}
use Rattle.way_network.specs.declared.way.Way.{Way}
use Rattle.way_network.specs.Edges.{is_used, are_equal, lines_over, passes, is_on_edges}
use Rattle.way_network.specs.Chains.{Network, used_at, has_node, onward, chain_on}
use Rattle.way_network.specs.Segments.{last_of}
use Rattle.way_network.specs.Uses.{has_number}
use Rattle.way_network.proofs.RisingLists.{has_filtered, has_below}
use Rattle.way_network.proofs.ChainEdges.{either_true, used_either, runs_at}
use Rattle.way_network.proofs.ChainPaths.{IsPath, path_tail, path_apart}

lists_equal : (xs ys : List ℕ) → are_equal xs ys ≡ true → xs ≡ ys
lists_equal [] [] e = refl
lists_equal [] (y ∷ ys) e = absurd cc
lists_equal (x ∷ xs) [] e = absurd cc
lists_equal (x ∷ xs) (y ∷ ys) e = of_both (eqb x y) refl e (lists_equal xs ys)
  where
    of_both : (t : Bool) → eqb x y ≡ t → (t && are_equal xs ys) ≡ true → (are_equal xs ys ≡ true → xs ≡ ys) → x ∷ xs ≡ y ∷ ys
    of_both true first rest later = λ i. eqb-true x y first i ∷ later rest i
    of_both false first rest later = absurd cc

-- a point that is no node and on an edge has two edges of equal lines
passed_at : (lines : ℕ) (ways : List Way) (p a : ℕ) (t : Bool) (others : List ℕ) → (t || (is_on_edges others && not (passes lines ways p others))) ≡ false → has_number others a ≡ true
    → passes lines ways p others ≡ true
passed_at lines ways p a t [] e has = absurd cc
passed_at lines ways p a t (x ∷ rest) e has = of_tests t (passes lines ways p (x ∷ rest)) e
  where
    of_tests : (t u : Bool) → (t || not u) ≡ false → u ≡ true
    of_tests true u e = absurd cc
    of_tests false true e = refl
    of_tests false false e = absurd cc

-- where it leads that doesn't lead back, and over which lines
pub record LeadsOn (lines : ℕ) (ways : List Way) (p a c : ℕ) (others : List ℕ) : Type 0 where
  pub goes : unwrap_or (find (λ q. not (eqb q a)) others) p ≡ c
  pub same : lines_over lines ways p a ≡ lines_over lines ways p c

differ : (a c : ℕ) → a ≢ c → eqb c a ≡ false
differ a c apart = of_test (eqb c a) refl
  where
    of_test : (t : Bool) → eqb c a ≡ t → eqb c a ≡ false
    of_test true e = absurd (apart (sym (eqb-true c a e)))
    of_test false e = e

one_of_two : (k x y : ℕ) → has_number (x ∷ y ∷ []) k ≡ true → (k ≡ x) ⊎ (k ≡ y)
one_of_two k x y e = of_either (either_true (eqb k x) (eqb k y || false) e)
  where
    of_last : (eqb k y ≡ true) ⊎ (false ≡ true) → (k ≡ x) ⊎ (k ≡ y)
    of_last (inl h) = inr (eqb-true k y h)
    of_last (inr h) = absurd cc

    of_either : (eqb k x ≡ true) ⊎ ((eqb k y || false) ≡ true) → (k ≡ x) ⊎ (k ≡ y)
    of_either (inl h) = inl (eqb-true k x h)
    of_either (inr h) = of_last (either_true (eqb k y) false h)

leads_on : (lines : ℕ) (ways : List Way) (p a c : ℕ) (others : List ℕ) → passes lines ways p others ≡ true → has_number others a ≡ true → has_number others c ≡ true → a ≢ c
    → LeadsOn lines ways p a c others
leads_on lines ways p a c [] e has_a has_c apart = absurd cc
leads_on lines ways p a c (x ∷ []) e has_a has_c apart = absurd cc
leads_on lines ways p a c (x ∷ y ∷ []) e has_a has_c apart = of_places (one_of_two a x y has_a) (one_of_two c x y has_c)
  where
    equal : lines_over lines ways p x ≡ lines_over lines ways p y
    equal = lists_equal (lines_over lines ways p x) (lines_over lines ways p y) e

    of_places : (a ≡ x) ⊎ (a ≡ y) → (c ≡ x) ⊎ (c ≡ y) → LeadsOn lines ways p a c (x ∷ y ∷ [])
    of_places (inl f) (inl h) = absurd (apart (f ∙ sym h))
    of_places (inr f) (inr h) = absurd (apart (f ∙ sym h))
    of_places (inl f) (inr h) = record {
      goes = ap (λ (t : Bool). unwrap_or (cond (not t) (Some x) (find (λ q. not (eqb q a)) (y ∷ []))) p) (eq-eqb x a (sym f))
          ∙ ap (λ (t : Bool). unwrap_or (cond (not t) (Some y) None) p) (ap (λ (n : ℕ). eqb n a) (sym h) ∙ differ a c apart)
          ∙ sym h;
      same = ap (lines_over lines ways p) f ∙ equal ∙ ap (lines_over lines ways p) (sym h);
    }
    of_places (inr f) (inl h) = record {
      goes = ap (λ (t : Bool). unwrap_or (cond (not t) (Some x) (find (λ q. not (eqb q a)) (y ∷ []))) p) (ap (λ (n : ℕ). eqb n a) (sym h) ∙ differ a c apart)
          ∙ sym h;
      same = ap (lines_over lines ways p) f ∙ sym equal ∙ ap (lines_over lines ways p) (sym h);
    }
leads_on lines ways p a c (x ∷ y ∷ z ∷ rest) e has_a has_c apart = absurd cc

-- a used edge leads to one of the points that are kept for its end
pub used_has : (g : Network) (p q : ℕ) → q < g.points → is_used g.ways p q ≡ true → has_number (used_at g p) q ≡ true
used_has g p q below used =
    has_filtered (is_used g.ways p) q (range_with_len 0 g.points)
    ∙ ap (λ (t : Bool). t && is_used g.ways p q) (has_below q g.points ∙ low q g.points below) ∙ used
  where
    low : (k n : ℕ) → k < n → ltb k n ≡ true
    low k n l = grind (arith, nat_tests)

-- a way goes on from a point that is no node where a chain does, over the same lines
pub goes_on : (g : Network) (a b c : ℕ) (rest : List ℕ) → IsPath g (a ∷ b ∷ c ∷ rest) → has_node g b ≡ false → LeadsOn g.lines g.ways b a c (used_at g b)
goes_on g a b c rest path plain =
    let has_a : has_number (used_at g b) a ≡ true =
    used_has g b a (path.known 0 0 (omega arith)) (used_either g.ways b a ∙ path.used a b (runs_at [] a b (c ∷ rest))) in
    let has_c : has_number (used_at g b) c ≡ true = used_has g b c (path.known 2 0 (omega arith)) (path.used b c (runs_at (a ∷ []) b c rest)) in
    leads_on g.lines g.ways b a c (used_at g b) (passed_at g.lines g.ways b a (ltb b g.stations) (used_at g b) plain has_a) has_a has_c (path_apart g (a ∷ b ∷ c ∷ rest) path 0 2 0 (omega arith) (omega arith))

-- The first points of a list, up to the first that passes a test.

abbrev pub up_to : (ℕ → Bool) → List ℕ → List ℕ
up_to node [] = []
up_to node (x ∷ xs) = x ∷ cond (node x) [] (up_to node xs)

pub up_to_begins : (node : ℕ → Bool) (xs : List ℕ) → (after : List ℕ) × (xs ≡ up_to node xs ++ after)
up_to_begins node [] = ([], refl)
up_to_begins node (x ∷ xs) =
    elim (node x) as (λ t. (after : List ℕ) × (x ∷ xs ≡ x ∷ (cond t [] (up_to node xs) ++ after))) [
      | true ↦ (xs, refl)
      | false ↦ ((up_to_begins node xs).0, ap (λ (ys : List ℕ). x ∷ ys) ((up_to_begins node xs).1))
    ]

pub up_to_inner : (node : ℕ → Bool) (xs : List ℕ) (k : ℕ) → suc k < length (up_to node xs) → node (get_or (up_to node xs) k 0) ≡ false
up_to_inner node [] k l = absurd (omega arith)
up_to_inner node (x ∷ xs) k l = of_test (node x) refl k l (up_to_inner node xs)
  where
    of_test : (t : Bool) → node x ≡ t → (k : ℕ) → suc k < suc (length (cond t [] (up_to node xs))) → ((k : ℕ) → suc k < length (up_to node xs) → node (get_or (up_to node xs) k 0) ≡ false)
        → node (get_or (x ∷ cond t [] (up_to node xs)) k 0) ≡ false
    of_test true e k l later = absurd (omega arith)
    of_test false e zero l later = e
    of_test false e (suc k) l later = later k (omega arith)

pub up_to_last : (node : ℕ → Bool) (x : ℕ) (xs : List ℕ) → node (last_of (x ∷ xs)) ≡ true → node (last_of (up_to node (x ∷ xs))) ≡ true
up_to_last node x [] e = elim (node x) as (λ t. node (last_of (x ∷ cond t [] [])) ≡ true) [ true ↦ e | false ↦ e ]
up_to_last node x (y ∷ ys) e = of_test (node x) refl (up_to_last node y ys e)
  where
    of_test : (t : Bool) → node x ≡ t → node (last_of (up_to node (y ∷ ys))) ≡ true → node (last_of (x ∷ cond t [] (up_to node (y ∷ ys)))) ≡ true
    of_test true h later = h
    of_test false h later = later

pub up_to_all : (node : ℕ → Bool) (xs : List ℕ) → ((k : ℕ) → suc k < length xs → node (get_or xs k 0) ≡ false) → up_to node xs ≡ xs
up_to_all node [] none = refl
up_to_all node (x ∷ []) none = elim (node x) as (λ t. x ∷ cond t [] [] ≡ x ∷ []) [ true ↦ refl | false ↦ refl ]
up_to_all node (x ∷ y ∷ ys) none =
    ap (λ (t : Bool). x ∷ cond t [] (up_to node (y ∷ ys))) (none 0 (omega arith)) ∙ ap (λ (zs : List ℕ). x ∷ zs) (up_to_all node (y ∷ ys) (λ k l. none (suc k) (omega arith)))

-- A chain follows the way that its first edge is on, up to the first node.
pub follows : (g : Network) (n a b : ℕ) (rest : List ℕ) → IsPath g (a ∷ b ∷ rest) → has_node g (last_of (b ∷ rest)) ≡ true → length rest < n
    → chain_on g n a b ≡ up_to (has_node g) (b ∷ rest)
follows g zero a b rest path ends long = absurd (omega arith)
follows g (suc n) a b [] path ends long =
    ap (λ (t : Bool). b ∷ cond t [] (chain_on g n b (onward g a b))) ends ∙ ap (λ (t : Bool). b ∷ cond t [] []) (sym ends)
follows g (suc n) a b (c ∷ rest) path ends long = of_test (has_node g b) refl (follows g n b c rest (path_tail g a (b ∷ c ∷ rest) path) ends (omega arith))
  where
    of_test : (t : Bool) → has_node g b ≡ t → chain_on g n b c ≡ up_to (has_node g) (c ∷ rest)
        → b ∷ cond (has_node g b) [] (chain_on g n b (onward g a b)) ≡ b ∷ cond (has_node g b) [] (up_to (has_node g) (c ∷ rest))
    of_test true e later = ap (λ (u : Bool). b ∷ cond u [] (chain_on g n b (onward g a b))) e ∙ sym (ap (λ (u : Bool). b ∷ cond u [] (up_to (has_node g) (c ∷ rest))) e)
    of_test false e later =
        let on : LeadsOn g.lines g.ways b a c (used_at g b) = goes_on g a b c rest path e in
        ap (λ (p : ℕ). b ∷ cond (has_node g b) [] (chain_on g n b p)) on.goes ∙ ap (λ (ys : List ℕ). b ∷ cond (has_node g b) [] ys) later
