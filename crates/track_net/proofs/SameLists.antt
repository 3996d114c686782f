-- Lists that have the same numbers.
use Rattle.std.proofs.Common.{◌≡◌, refl, sym, ◌∙◌, ap, ℕ, inl, inr, Bool, true, false, ◌&&◌, nat_eq, not, List, get_or, filter, All, Contains, IsPermutation, eqb}
use Rattle.std.specs.Ordering.{nat_cmp}
use Rattle.std.specs.List.{list_any, dedup}
use Rattle.std.specs.List.Sorted.{IsSorted, IsStrictlyIncreasing}
use Rattle.std.proofs.lemmas.Bool.{both_ways, eq-eqb}
use Rattle.std.proofs.lemmas.List.Elements.{All-contains, filter_passes, Contains-get_or}
use Rattle.std.proofs.lemmas.List.Folds.{Any-from_list_any, list_any_at}
use Rattle.std.proofs.lemmas.List.Kept.{Contains-dedup_nat, Contains-from_dedup, AllPairs-from_increasing}
use Rattle.std.proofs.lemmas.List.Sorted.{IsPermutation-sym, Contains-permutation}
use Rattle.std.proofs.lemmas.Map.Keys.{IsStrictlyIncreasing-dedup}
use Rattle.map_base.specs.declared.point.Point.{Point}
use Rattle.track_net.specs.Nearness.{HaveTheSame, point_at}
use Rattle.track_net.specs.Nets.{is_in_disk, parts_them}
use Rattle.track_net.specs.Searching.{IsOneOf, is_undivided}
use Rattle.track_net.proofs.Lists.{Contains-from_filter, same_tests}
use Rattle.track_net.proofs.RisingLists.{same_where_rising}
use Rattle.track_net.proofs.EdgeFacts.{Contains-filter}

-- what some number of a list passes, some number of a list with all its numbers passes
any_there : (p : ℕ → Bool) (xs ys : List ℕ) → ((k : ℕ) → Contains xs k → Contains ys k) → list_any p xs ≡ true → list_any p ys ≡ true
any_there p xs ys there e =
    let found = Any-from_list_any p xs e in
    let here = there found.1 (found.0, found.2, found.3) in
    list_any_at p ys here.0 found.1 here.1 (ap p here.2 ∙ found.4)

any_same : (p : ℕ → Bool) (xs ys : List ℕ) → HaveTheSame xs ys → list_any p xs ≡ list_any p ys
any_same p xs ys same = same_tests (list_any p xs) (list_any p ys) (any_there p xs ys same.0) (any_there p ys xs same.1)

pub is_undivided-same : (ps : List Point) (xs ys : List ℕ) (i j : ℕ) → HaveTheSame xs ys → is_undivided ps xs i j ≡ is_undivided ps ys i j
is_undivided-same ps xs ys i j same = ap (λ b. not (nat_eq i j) && not b) (any_same (parts_them ps i j) xs ys same)

filtered : (p : ℕ → Bool) (xs : List ℕ) (k : ℕ) → Contains (filter p xs) k → Contains xs k × (p k ≡ true)
filtered p xs k h =
    (Contains-from_filter p xs k h, All-contains (λ j. p j ≡ true) (filter p xs) k (filter_passes p xs) h)

-- of such lists the same numbers pass a test
pub HaveTheSame-filter : (p q : ℕ → Bool) (xs ys : List ℕ) → HaveTheSame xs ys → ((k : ℕ) → p k ≡ q k) → HaveTheSame (filter p xs) (filter q ys)
HaveTheSame-filter p q xs ys same tests = (there, back)
  where
    there : (k : ℕ) → Contains (filter p xs) k → Contains (filter q ys) k
    there k h = let f = filtered p xs k h in Contains-filter q ys k (same.0 k f.0) (sym (tests k) ∙ f.1)

    back : (k : ℕ) → Contains (filter q ys) k → Contains (filter p xs) k
    back k h = let f = filtered q ys k h in Contains-filter p xs k (same.1 k f.0) (tests k ∙ f.1)

-- what holds of each number of a list holds of each of a list with no others
pub All-there : (P : ℕ → Type 0) (xs ys : List ℕ) → ((k : ℕ) → Contains xs k → Contains ys k) → All P ys → All P xs
All-there P xs ys there all k d below = All-contains P ys (get_or xs k d) all (there (get_or xs k d) (Contains-get_or xs k d below))

-- the numbers of a rising list, found in any order and put in order, each once, are that list
pub same_in_order : (found sorted ns : List ℕ) → HaveTheSame found ns → IsPermutation found sorted → IsSorted nat_cmp sorted → IsStrictlyIncreasing ns → dedup eqb sorted ≡ ns
same_in_order found sorted ns same moved in_order rising =
    same_where_rising (dedup eqb sorted) ns (AllPairs-from_increasing (dedup eqb sorted) (IsStrictlyIncreasing-dedup sorted in_order)) (AllPairs-from_increasing ns rising) there back
  where
    there : (k : ℕ) → Contains (dedup eqb sorted) k → Contains ns k
    there k h = same.0 k (Contains-permutation sorted found k (IsPermutation-sym found sorted moved) (Contains-from_dedup eqb sorted k h))

    back : (k : ℕ) → Contains ns k → Contains (dedup eqb sorted) k
    back k h = Contains-dedup_nat sorted k (Contains-permutation found sorted k moved (same.1 k h))

-- what is parted by some of the candidates, or by i, is parted by the candidates
pub divided_by_some : (ps : List Point) (some candidates : List ℕ) (i j : ℕ) → All (IsOneOf candidates i) some → is_undivided ps some i j ≡ false → is_undivided ps candidates i j ≡ false
divided_by_some ps some candidates i j ones divided = of_test (nat_eq i j) divided
  where
    itself : parts_them ps i j i ≡ false
    itself = ap (λ b. (not b && not (nat_eq i j)) && is_in_disk (point_at ps i) (point_at ps j) (point_at ps i)) (eq-eqb i i refl)

    not_itself : (k : ℕ) → IsOneOf candidates i k → parts_them ps i j k ≡ true → Contains candidates k
    not_itself k (inr h) parting = h
    not_itself k (inl e) parting = absurd (both_ways (parts_them ps i j i) itself (sym (ap (parts_them ps i j) e) ∙ parting))

    by_all : list_any (parts_them ps i j) some ≡ true → list_any (parts_them ps i j) candidates ≡ true
    by_all e =
        let found = Any-from_list_any (parts_them ps i j) some e in
        let one : IsOneOf candidates i found.1 = All-contains (IsOneOf candidates i) some found.1 ones (found.0, found.2, found.3) in
        let here = not_itself found.1 one found.4 in
        list_any_at (parts_them ps i j) candidates here.0 found.1 here.1 (ap (parts_them ps i j) here.2 ∙ found.4)

    turned : (b : Bool) → not b ≡ false → b ≡ true
    turned true e = refl
    turned false e = sym e

    of_test : (b : Bool) → (not b && not (list_any (parts_them ps i j) some)) ≡ false → (not b && not (list_any (parts_them ps i j) candidates)) ≡ false
    of_test true e = refl
    of_test false e = ap not (by_all (turned (list_any (parts_them ps i j) some) e))
