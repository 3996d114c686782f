-- Pieces of ways: their points are known and different, and their edges are used.
use Rattle.std.proofs.Common.{◌≡◌, ◌≢◌, sym, ◌∙◌, ap, subst, ℕ, ◌+◌, ◌-◌, ◌<◌, ◌≤◌, ◌⊎◌, inl, inr, true, eqb, List, [], ◌∷◌, ◌++◌, append_assoc, append-nil, length, get_or, All, arith}
use Rattle.std.specs.List.{IsDistinct, Contains}
use Rattle.std.proofs.lemmas.Bool.{eqb-true}
use Rattle.std.proofs.lemmas.Bool.Decides.{nat_tests, Decides-eqb}
use Rattle.std.proofs.lemmas.List.{reverse-append, reverse-reverse, length-append, length-reverse, get_or-append-add, get_or_append_left, get_or-reverse}
use Rattle.std.proofs.lemmas.List.Elements.{All-contains}
use Rattle.std.proofs.lemmas.List.Folds.{list_any-from_Any}
use Rattle.std.proofs.lemmas.List.Sorted.{IsPermutation-reverse}
use Rattle.std.proofs.lemmas.Map.Keys.{IsDistinct-tail, IsDistinct-IsPermutation}
use Rattle.std.proofs.lemmas.Map.Made.{AllPairs-from_IsDistinct}
use Rattle.std.proofs.lemmas.Map.Steps.{length-le_from_distinct_below}
use Rattle.std.proofs.lemmas.Map.Views.{Contains-from_any}
use Rattle.way_network.specs.declared.way.Way.{Way}
use Rattle.way_network.specs.Edges.{runs_over, is_used}
use Rattle.way_network.specs.Chains.{Network}
use Rattle.way_network.specs.Segments.{reversed}
use Rattle.way_network.specs.Premises.{IsWay}
use Rattle.way_network.specs.Pieces.{StandsIn, IsChain}
use Rattle.way_network.proofs.ChainEdges.{runs_turned_back, runs_in_whole}

-- different points of the network, with a used edge from each to the next
pub record IsPath (g : Network) (xs : List ℕ) : Type 0 where
  pub known : All (λ p. p < g.points) xs
  pub distinct : IsDistinct eqb xs
  pub used : (p q : ℕ) → runs_over p q xs ≡ true → is_used g.ways p q ≡ true

-- Parts of a list, and lists turned round.

all_in_part : (P : ℕ → Type 0) (before part after : List ℕ) → All P (before ++ (part ++ after)) → All P part
all_in_part P before part after all k d l =
    let within : length before + k < length (before ++ (part ++ after)) = omega (arith, length-append before (part ++ after), length-append part after, l) in
    subst P (get_or-append-add before (part ++ after) k d ∙ get_or_append_left part after d k l) (all (length before + k) d within)

all_turned : (P : ℕ → Type 0) (xs : List ℕ) → All P xs → All P (reversed xs)
all_turned P xs all k d l =
    let within : k < length xs = omega (arith, l, length-reverse xs) in
    subst P (sym (get_or-reverse xs k d within)) (all (length xs - 1 - k) d (omega arith))

pub eqb_either : (a b : ℕ) → eqb a b ≡ eqb b a
eqb_either a b = grind (arith, nat_tests)

distinct_turned : (xs : List ℕ) → IsDistinct eqb xs → IsDistinct eqb (reversed xs)
distinct_turned xs d = IsDistinct-IsPermutation eqb eqb_either xs (reversed xs) (IsPermutation-reverse xs) d

distinct_end : (before xs : List ℕ) → IsDistinct eqb (before ++ xs) → IsDistinct eqb xs
distinct_end [] xs d = d
distinct_end (b ∷ before) xs d = distinct_end before xs (IsDistinct-tail eqb b (before ++ xs) d)

distinct_begin : (xs after : List ℕ) → IsDistinct eqb (xs ++ after) → IsDistinct eqb xs
distinct_begin xs after d =
    subst (IsDistinct eqb) (reverse-reverse xs)
    (distinct_turned (reversed xs) (distinct_end (reversed after) (reversed xs) (subst (IsDistinct eqb) (reverse-append xs after) (distinct_turned (xs ++ after) d))))

pub stands_turned : (part whole : List ℕ) → StandsIn part whole → StandsIn (reversed part) (reversed whole)
stands_turned part whole s = record {
  before = reversed s.after;
  after = reversed s.before;
  is = ap reversed s.is ∙ reverse-append s.before (part ++ s.after) ∙ ap (λ (ys : List ℕ). ys ++ reversed s.before) (reverse-append part s.after)
      ∙ append_assoc (reversed s.after) (reversed part) (reversed s.before);
}

-- Paths.

pub path_in : (g : Network) (part whole : List ℕ) → StandsIn part whole → IsPath g whole → IsPath g part
path_in g part whole s path = of_whole s.before s.after s.is
  where
    of_whole : (before after : List ℕ) → whole ≡ before ++ (part ++ after) → IsPath g part
    of_whole before after is = record {
      known = all_in_part (λ p. p < g.points) before part after (subst (All (λ p. p < g.points)) is path.known);
      distinct = distinct_begin part after (distinct_end before (part ++ after) (subst (IsDistinct eqb) is path.distinct));
      used = λ p q e. path.used p q (ap (runs_over p q) is ∙ runs_in_whole p q before part after e);
    }

pub path_turned : (g : Network) (xs : List ℕ) → IsPath g xs → IsPath g (reversed xs)
path_turned g xs path = record {
  known = all_turned (λ p. p < g.points) xs path.known;
  distinct = distinct_turned xs path.distinct;
  used = λ p q e. path.used p q (runs_turned_back p q xs e);
}

pub path_tail : (g : Network) (a : ℕ) (xs : List ℕ) → IsPath g (a ∷ xs) → IsPath g xs
path_tail g a xs path = path_in g xs (a ∷ xs) (record { before = a ∷ []; after = []; is = ap (λ (ys : List ℕ). a ∷ ys) (sym (append-nil xs)) }) path

pub path_of_way : (g : Network) (way : Way) → All (IsWay g) g.ways → Contains g.ways way → IsPath g way.points
path_of_way g way ways known =
    let w : IsWay g way = All-contains (IsWay g) g.ways way ways known in record {
      known = w.known;
      distinct = w.simple;
      used = λ p q e. list_any-from_Any (λ (v : Way). runs_over p q v.points) g.ways (known.0, way, known.1, known.2, e);
    }

pub path_of_chain : (g : Network) (chain : List ℕ) → All (IsWay g) g.ways → IsChain g chain → IsPath g chain
path_of_chain g chain ways c = of_runs c.way (path_of_way g c.way ways c.known) c.runs
  where
    of_runs : (way : Way) → IsPath g way.points → StandsIn chain way.points ⊎ StandsIn (reversed chain) way.points → IsPath g chain
    of_runs way path (inl s) = path_in g chain way.points s path
    of_runs way path (inr s) = subst (IsPath g) (reverse-reverse chain) (path_turned g (reversed chain) (path_in g (reversed chain) way.points s path))

-- a path has at most as many points as there are
pub path_length : (g : Network) (xs : List ℕ) → IsPath g xs → length xs ≤ g.points
path_length g xs path =
    length-le_from_distinct_below xs g.points path.distinct
    (λ q e. All-contains (λ p. p < g.points) xs q path.known (Contains-from_any (λ (a b : ℕ) (h : eqb a b ≡ true). eqb-true a b h) q xs e))

-- points at different places differ
pub path_apart : (g : Network) (xs : List ℕ) → IsPath g xs → (i j d : ℕ) → i < j → j < length xs → get_or xs i d ≢ get_or xs j d
path_apart g xs path i j d up below = AllPairs-from_IsDistinct Decides-eqb xs path.distinct i j d up below
