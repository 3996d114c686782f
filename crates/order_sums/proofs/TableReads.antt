-- What is read of a table of sums.
use Rattle.std.proofs.Common.{◌≡◌, ℕ, ◌+◌, ◌<◌, ◌≤◌, Bool, true, ◌&&◌, List, [], ◌∷◌, ◌++◌, length, map, get_or, take, drop, max, refl, sym, ap, ◌∙◌, arith}
use Rattle.std.specs.List.{list_all}
use Rattle.std.proofs.lemmas.List.{ext_get_or, get_or-map, length-map, drop-map, take_more, at_drop_more, at_drop_all}
use Rattle.std.proofs.lemmas.List.Folds.{list_all-map}
use Rattle.map_base.specs.declared.ids.SegId.{SegId}
use Rattle.map_base.specs.declared.ids.LineId.{LineId}
use Rattle.order_model.specs.declared.term.Term.{Term}
use Rattle.order_rules.specs.PairWeights.{all_pairs, most_by, most_over_pairs}
use Rattle.order_rules.specs.Merging.{outweighs}
use Rattle.order_sums.specs.declared.pair_sums.PairSums.{PairSums}
use Rattle.order_sums.specs.PairSums.{no_sums, pair_sums, sums_outweigh, most_aparts}
use Rattle.order_sums.specs.PairTables.{line_at, IsTable}

-- A row has the sums of its line with each.

pub row_is : (w : LineId → LineId → PairSums) (lines : List LineId) (table : List (List PairSums)) (i : ℕ) → IsTable w lines table → i < length lines
    → get_or table i [] ≡ map (w (line_at lines i)) lines
row_is w lines table i is below =
    ext_get_or no_sums (get_or table i []) (map (w (line_at lines i)) lines) (wide ∙ sym (length-map lines (w (line_at lines i))))
    (λ j inside. let known : j < length lines = omega (arith, inside, wide) in
    is.sums i j below known ∙ sym (get_or-map (w (line_at lines i)) lines j (record { 0 = 0 }) no_sums known))
  where
    wide : length (get_or table i []) ≡ length lines
    wide = is.sized.widths i below

-- Merges.

pub row_outweighs : (e f : SegId) (terms : List Term) (lines : List LineId) (table : List (List PairSums)) (cells : List PairSums) (i : ℕ) → IsTable (pair_sums e f terms) lines table → i < length lines
    → cells ≡ drop (i + 1) (get_or table i []) → list_all sums_outweigh cells ≡ list_all (outweighs e f terms (line_at lines i)) (drop (i + 1) lines)
row_outweighs e f terms lines table cells i is below are =
    ap (list_all sums_outweigh) (are ∙ (ap (drop (i + 1)) (row_is (pair_sums e f terms) lines table i is below) ∙ drop-map (pair_sums e f terms (line_at lines i)) (i + 1) lines))
    ∙ list_all-map sums_outweigh (pair_sums e f terms (line_at lines i)) (drop (i + 1) lines)

pub pairs_from : (test : LineId → LineId → Bool) (lines : List LineId) (i : ℕ) → i < length lines
    → all_pairs test (drop i lines) ≡ (list_all (test (line_at lines i)) (drop (i + 1) lines) && all_pairs test (drop (i + 1) lines))
pairs_from test lines i below = at_drop_more (all_pairs test) lines i (record { 0 = 0 }) below

pub pairs_passed : (e f : SegId) (terms : List Term) (lines : List LineId) (table : List (List PairSums)) (cells : List PairSums) (i : ℕ) (passes c : Bool) → IsTable (pair_sums e f terms) lines table → i < length lines
    → cells ≡ drop (i + 1) (get_or table i []) → passes ≡ list_all sums_outweigh cells → passes ≡ c → all_pairs (outweighs e f terms) (drop i lines) ≡ (c && all_pairs (outweighs e f terms) (drop (i + 1) lines))
pairs_passed e f terms lines table cells i passes c is below are passes_is h =
    pairs_from (outweighs e f terms) lines i below
    ∙ ap (λ (b : Bool). b && all_pairs (outweighs e f terms) (drop (i + 1) lines)) (sym (row_outweighs e f terms lines table cells i is below are) ∙ (sym passes_is ∙ h))

pub all_passed : (test : LineId → LineId → Bool) (lines : List LineId) (i : ℕ) → length lines ≤ i → all_pairs test (drop i lines) ≡ true
all_passed test lines i done = at_drop_all (all_pairs test) lines i done

-- The greatest weight of Aparts.

most_max : (m n k : ℕ) → max m (max n k) ≡ max (max m n) k
most_max m n k = omega arith

most_cells : (w : LineId → LineId → PairSums) (a : LineId) (lines : List LineId) → most_aparts (map (w a) lines) ≡ most_by (λ b. (w a b).all_aparts) lines
most_cells w a [] = refl
most_cells w a (b ∷ lines) = ap (λ (n : ℕ). max (w a b).all_aparts n) (most_cells w a lines)

pub most_from : (w : LineId → LineId → PairSums) (lines : List LineId) (table : List (List PairSums)) (cells : List PairSums) (i m n k : ℕ) → IsTable w lines table → i < length lines
    → cells ≡ drop (i + 1) (get_or table i []) → n ≡ most_aparts cells → k ≡ max m n
    → max m (most_over_pairs (λ a b. (w a b).all_aparts) (drop i lines)) ≡ max k (most_over_pairs (λ a b. (w a b).all_aparts) (drop (i + 1) lines))
most_from w lines table cells i m n k is below are n_is k_is =
    ap (max m) (at_drop_more (most_over_pairs (λ a b. (w a b).all_aparts)) lines i (record { 0 = 0 }) below)
    ∙ (ap (λ (x : ℕ). max m (max x (most_over_pairs (λ a b. (w a b).all_aparts) (drop (i + 1) lines)))) (sym row)
    ∙ (most_max m n (most_over_pairs (λ a b. (w a b).all_aparts) (drop (i + 1) lines))
    ∙ ap (λ (x : ℕ). max x (most_over_pairs (λ a b. (w a b).all_aparts) (drop (i + 1) lines))) (sym k_is)))
  where
    row : n ≡ most_by (λ b. (w (line_at lines i) b).all_aparts) (drop (i + 1) lines)
    row =
        n_is ∙ (ap most_aparts (are ∙ (ap (drop (i + 1)) (row_is w lines table i is below) ∙ drop-map (w (line_at lines i)) (i + 1) lines))
        ∙ most_cells w (line_at lines i) (drop (i + 1) lines))

pub most_done : (w : LineId → LineId → PairSums) (lines : List LineId) (i m : ℕ) → length lines ≤ i → max m (most_over_pairs (λ a b. (w a b).all_aparts) (drop i lines)) ≡ m
most_done w lines i m done = ap (max m) (at_drop_all (most_over_pairs (λ a b. (w a b).all_aparts)) lines i done) ∙ max_zero m
  where
    max_zero : (x : ℕ) → max x 0 ≡ x
    max_zero x = omega arith

pub most_all : (w : LineId → LineId → PairSums) (lines : List LineId) → most_over_pairs (λ a b. (w a b).all_aparts) lines ≡ max 0 (most_over_pairs (λ a b. (w a b).all_aparts) (drop 0 lines))
most_all w lines = zero_max (most_over_pairs (λ a b. (w a b).all_aparts) lines)
  where
    zero_max : (x : ℕ) → x ≡ max 0 x
    zero_max x = omega arith

pub most_one_more : (row : List PairSums) (i : ℕ) (d : PairSums) (m k : ℕ) → i < length row → m ≡ most_aparts (take i row) → k ≡ max m (get_or row i d).all_aparts → k ≡ most_aparts (take (i + 1) row)
most_one_more row i d m k below old is =
    is ∙ (ap (λ (n : ℕ). max n (get_or row i d).all_aparts) old
    ∙ (sym (pushed (take i row) (get_or row i d)) ∙ sym (ap most_aparts (take_more row i d below))))
  where
    pushed : (xs : List PairSums) (s : PairSums) → most_aparts (xs ++ s ∷ []) ≡ max (most_aparts xs) s.all_aparts
    pushed [] s = swapped s.all_aparts
      where
        swapped : (n : ℕ) → max n 0 ≡ max 0 n
        swapped n = omega arith
    pushed (x ∷ xs) s = ap (max x.all_aparts) (pushed xs s) ∙ most_max x.all_aparts (most_aparts xs) s.all_aparts
