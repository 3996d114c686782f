-- A tree that is accepted, and that a proof may have, is in range.
use Rattle.std.proofs.Common.{◌≡◌, ◌≢◌, sym, refl, ℕ, zero, suc, ◌*◌, ◌≤◌, ◌==◌, ◌&&◌, ◌||◌, not, nat_lt, nat_le, Bool, true, false, true≢false, cond, ℤ, pos, negsuc, List, [], ◌∷◌, length, arith, eqb-true, leb-true, Some, None, All}
use Rattle.std.specs.Prelude.{unsigned_abs}
use Rattle.std.specs.List.{AllByRecursion, Contains, list_all, list_any}
use Rattle.std.proofs.lemmas.Bool.{and_parts}
use Rattle.std.proofs.lemmas.List.Elements.{All-contains, All-from_recursion, All-weaker}
use Rattle.std.proofs.lemmas.List.Folds.{Any-from_list_any}
use Rattle.map_base.specs.declared.ids.SegId.{SegId}
use Rattle.map_base.specs.declared.ids.LineId.{LineId}
use Rattle.order_model.specs.declared.term.Term.{Term}
use Rattle.order_model.specs.declared.term.Term.TheVariants.{Side, Link}
use Rattle.order_model.specs.Problems.{lines_on}
use Rattle.order_model.specs.Costs.{weight_of}
use Rattle.order_model.specs.Places.{has_line}
use Rattle.order_model.specs.Looks.{is_decided}
use Rattle.order_model.specs.PartTerms.{is_in}
use Rattle.order_model.specs.Prefixes.{none_placed, is_left, is_placed, is_unplaced, AreApart}
use Rattle.order_model.specs.Completions.{placed_more}
use Rattle.order_model.proofs.PrefixLemmas.{contains_placed, few_apart}
use Rattle.order_values.specs.PriceLists.{AreRisingPrices}
use Rattle.order_values.specs.DualTrees.{PlainDual, fork, stop}
use Rattle.order_proof.specs.Plain.{PlainTree, split, close, Cases, no_case, case_of, PlainPartTree, by_cases, by_pairs}
use Rattle.order_proof.specs.Trees.{count_of, is_among, lines_of, AreDistinct, AreNotZero, AreTrees, IsTree, IsDualTree, IsPartTree, depth_of_part, most_depth}
use Rattle.order_proof.specs.Forms.{most_id, most_cases, most_price, most_stop_price}
use Rattle.order_proof.specs.Ranges.{AreCasesInRange, ArePrices, IsPrice, IsTreeInRange, IsDualInRange, IsPartTreeInRange}
use Rattle.order_bound.specs.Accepting.{accepts, accepts_cases, are_those_left, is_closed, is_split, reaches}
use Rattle.order_model.specs.Questions.{Question}
use Rattle.order_bound.proofs.Failing.{accepted_exactly}
use Rattle.dual_bound.specs.declared.settled.SettledPair.{SettledPair}
use Rattle.dual_bound.specs.Settled.{with_pair}
use Rattle.dual_bound.specs.Shares.{thousand}
use Rattle.dual_bound.specs.Values as pairs
use Rattle.dual_bound.specs.Accepting as dual
use Rattle.dual_bound.proofs.Sound.{nothing_fails}
use Rattle.order_check.specs.Verdict.{failing}
use Rattle.order_bound.specs.Values.{allows, are_allowed, value_of}

-- the number of a term and its weight are in range
abbrev pub IsTermInRange : ℕ × Term → Type 0
IsTermInRange t = (t.0 ≤ most_id) × (weight_of t.1 ≤ most_price)

-- what is asked of a tree is in range
pub record IsAsked (q : Question) : Type 0 where
  pub segs : (s : SegId) → is_in q.part s ≡ true → s.0 ≤ most_id
  pub few : (s : SegId) → length (lines_on q.segs s) ≤ most_cases
  pub lines : (s : SegId) (a : LineId) → has_line (lines_on q.segs s) a ≡ true → a.0 ≤ most_id
  pub terms : All IsTermInRange q.terms

-- Prices that are allowed are in range.

abbrev IsSmall : ℕ → ℕ × ℤ → Type 0
IsSmall most q = (q.0 ≤ most_id) × (unsigned_abs q.1 ≤ most)

allowed_here : (placed : List (List LineId)) (q : ℕ × ℤ) (k : ℕ) (t : Term) → allows placed q k t ≡ true → (k ≡ q.0) × (unsigned_abs q.1 ≤ weight_of t)
allowed_here placed q k (Link seg other flip a b w) h =
    let parts = and_parts (k == q.0 && not (is_decided placed seg a b || is_decided placed other a b)) (nat_le (unsigned_abs q.1) w) h in
    let one = and_parts (k == q.0) (not (is_decided placed seg a b || is_decided placed other a b)) parts.0 in
    (eqb-true k q.0 one.0, leb-true (unsigned_abs q.1) w parts.1)
allowed_here placed q k t h = absurd (true≢false (sym h))

price_small : (placed : List (List LineId)) (q : ℕ × ℤ) (terms : List (ℕ × Term)) → All IsTermInRange terms
    → list_any (λ (t : ℕ × Term). allows placed q t.0 t.1) terms ≡ true → IsSmall most_price q
price_small placed q terms range h =
    let found = Any-from_list_any (λ (t : ℕ × Term). allows placed q t.0 t.1) terms h in
    let in_range = All-contains IsTermInRange terms found.1 range (found.0, found.2, found.3) in
    let at = allowed_here placed q found.1.0 found.1.1 found.4 in
    (omega (arith, at.0, in_range.0), omega (arith, at.1, in_range.1))

prices_small : (placed : List (List LineId)) (terms : List (ℕ × Term)) → All IsTermInRange terms → (prices : List (ℕ × ℤ)) → are_allowed placed terms prices ≡ true
    → AllByRecursion (IsSmall most_price) prices
prices_small placed terms range [] h = tt
prices_small placed terms range (q ∷ prices) h =
    let parts = and_parts (list_any (λ (t : ℕ × Term). allows placed q t.0 t.1) terms) (are_allowed placed terms prices) h in
    (price_small placed q terms range parts.0, prices_small placed terms range prices parts.1)

price_range : (most : ℕ) (y : ℤ) → y ≢ pos 0 → unsigned_abs y ≤ most → IsPrice most y
price_range most (pos zero) some small = absurd (some refl)
price_range most (pos (suc n)) some small = (omega arith, small)
price_range most (negsuc n) some small = omega (arith, small)

-- the first number is at least so much
abbrev pub StartsAt : {X : Type 0} → (X → ℕ) → ℕ → List X → Type 0
StartsAt number least [] = Unit {0}
StartsAt number least (x ∷ rest) = least ≤ number x

pub starts_at_0 : {X : Type 0} (number : X → ℕ) (xs : List X) → StartsAt number 0 xs
starts_at_0 number [] = tt
starts_at_0 number (x ∷ rest) = omega arith

abbrev number_of : ℕ × ℤ → ℕ
number_of p = p.0

starts_after : (p : ℕ × ℤ) (rest : List (ℕ × ℤ)) → AreRisingPrices (p ∷ rest)
    → StartsAt number_of (suc p.0) rest × AreRisingPrices rest
starts_after p [] rise = (tt, tt)
starts_after p (q ∷ rest) rise = (omega (arith, rise.0), rise.1)

prices_range : (most least : ℕ) (prices : List (ℕ × ℤ)) → StartsAt number_of least prices → AreRisingPrices prices → AreNotZero prices
    → AllByRecursion (IsSmall most) prices → ArePrices most least prices
prices_range most least [] starts rise some small = tt
prices_range most least (p ∷ rest) starts rise some small =
    let after = starts_after p rest rise in (
      starts,
      small.0.0,
      price_range most p.1 some.0 small.0.1,
      prices_range most (suc p.0) rest after.0 after.1 some.1 small.1,
    )

allowed_where_closed : (q : Question) (placed : List (List LineId)) (prices : List (ℕ × ℤ)) → is_closed q placed prices ≡ true → are_allowed placed q.terms prices ≡ true
allowed_where_closed q placed prices h = by_test (are_allowed placed q.terms prices) refl h
  where
    by_test : (b : Bool) → are_allowed placed q.terms prices ≡ b → reaches q.target (cond b (Some (value_of q.segs q.part q.terms placed prices)) None) ≡ true → are_allowed placed q.terms prices ≡ true
    by_test true e holds = e
    by_test false e holds = absurd (true≢false (sym holds))

-- Splits that hold have few cases, each of a line of the segment.

own_lines : (lines placed these : List LineId) → list_all (is_left lines placed) these ≡ true → AllByRecursion (λ (a : LineId). has_line lines a ≡ true) these
own_lines lines placed [] h = tt
own_lines lines placed (a ∷ these) h =
    let parts = and_parts (is_left lines placed a) (list_all (is_left lines placed) these) h in
    ((and_parts (has_line lines a) (is_unplaced placed a) parts.0).0, own_lines lines placed these parts.1)

distinct_apart : (lines : List LineId) → AreDistinct lines → AreApart lines
distinct_apart [] h = tt
distinct_apart (a ∷ lines) h = (h.0, distinct_apart lines h.1)

count_is : (cases : Cases) → count_of cases ≡ length (lines_of cases)
count_is no_case = refl
count_is (case_of a tree rest) = let later = count_is rest in omega (arith, later)

record IsSplitInRange (q : Question) (s : SegId) (cases : Cases) : Type 0 where
  seg : s.0 ≤ most_id
  few : count_of cases ≤ most_cases
  own : AllByRecursion (λ (a : LineId). has_line (lines_on q.segs s) a ≡ true) (lines_of cases)

split_range : (q : Question) → IsAsked q → (placed : List (List LineId)) (s : SegId) (cases : Cases) → AreDistinct (lines_of cases) → is_split q placed s (lines_of cases) ≡ true
    → IsSplitInRange q s cases
split_range q asked placed s cases distinct h =
    let lines : List LineId = lines_on q.segs s in
    let before : List LineId = lines_on placed s in
    let these : List LineId = lines_of cases in
    let parts = and_parts (is_in q.part s) (nat_lt 0 (length these) && are_those_left lines before these) h in
    let left = and_parts (nat_lt 0 (length these)) (are_those_left lines before these) parts.1 in
    let each = and_parts (list_all (is_left lines before) these) (list_all (λ b. is_placed before b || is_among these b) lines) left.1 in
    let own = own_lines lines before these each.0 in
    let all_own = All-from_recursion (λ (a : LineId). has_line lines a ≡ true) these own in
    let there : All (Contains lines) these =
    All-weaker (λ (a : LineId). has_line lines a ≡ true) (Contains lines) (contains_placed lines) these all_own in
    let few = few_apart these lines (distinct_apart these distinct) there in
    record { seg = asked.segs s parts.0; few = omega (arith, few, count_is cases, asked.few s); own = own }

mutual
  pub tree_range : (q : Question) → IsAsked q → (placed : List (List LineId)) (tree : PlainTree) → IsTree tree → accepts q placed tree ≡ true → IsTreeInRange tree
  tree_range q asked placed (split s cases) is h =
      let parts = and_parts (is_split q placed s (lines_of cases)) (accepts_cases q placed s cases) h in
      let at = split_range q asked placed s cases is.1 parts.0 in
      (at.seg, omega (arith, is.0), at.few, is.1, cases_range q asked placed s cases is.2 at.own parts.1)
  tree_range q asked placed (close prices) is h =
      prices_range most_price 0 prices (starts_at_0 number_of prices) is.0 is.1 (prices_small placed q.terms asked.terms prices (allowed_where_closed q placed prices h))

  cases_range : (q : Question) → IsAsked q → (placed : List (List LineId)) (s : SegId) (cases : Cases) → AreTrees cases → AllByRecursion (λ (a : LineId). has_line (lines_on q.segs s) a ≡ true) (lines_of cases)
      → accepts_cases q placed s cases ≡ true → AreCasesInRange cases
  cases_range q asked placed s no_case are own h = tt
  cases_range q asked placed s (case_of a tree rest) are own h =
      let parts = and_parts (accepts q (placed_more q.segs placed s a) tree) (accepts_cases q placed s rest) h in
      (asked.lines s a own.0, tree_range q asked (placed_more q.segs placed s a) tree are.0 parts.0, cases_range q asked placed s rest are.1 own.1 parts.1)

-- The same of a tree of settled pairs.

pair_allowed : (q : ℕ × ℤ) (t : ℕ × Term) → pairs.allows q t ≡ true
    → (t.0 ≡ q.0) × (unsigned_abs q.1 ≤ thousand * weight_of t.1)
pair_allowed q (k, Side seg first second w) h = absurd (true≢false (sym h))
pair_allowed q (k, t) h =
    let parts = and_parts (k == q.0) (nat_le (unsigned_abs q.1) (thousand * weight_of t)) h in
    (eqb-true k q.0 parts.0, leb-true (unsigned_abs q.1) (thousand * weight_of t) parts.1)

stop_small : (q : ℕ × ℤ) (terms : List (ℕ × Term)) → All IsTermInRange terms → list_any (pairs.allows q) terms ≡ true
    → IsSmall most_stop_price q
stop_small q terms range h =
    let found = Any-from_list_any (pairs.allows q) terms h in
    let in_range = All-contains IsTermInRange terms found.1 range (found.0, found.2, found.3) in
    let at = pair_allowed q found.1 found.4 in
    (omega (arith, at.0, in_range.0), omega (arith, at.1, in_range.1))

stops_small : (terms : List (ℕ × Term)) → All IsTermInRange terms → (prices : List (ℕ × ℤ))
    → pairs.are_allowed terms prices ≡ true → AllByRecursion (IsSmall most_stop_price) prices
stops_small terms range [] h = tt
stops_small terms range (q ∷ prices) h =
    let parts = and_parts (list_any (pairs.allows q) terms) (pairs.are_allowed terms prices) h in
    (stop_small q terms range parts.0, stops_small terms range prices parts.1)

dual_range : (q : Question) → IsAsked q → (settled : List SettledPair) (tree : PlainDual) → IsDualTree tree
    → dual.accepts q settled tree ≡ true → IsDualInRange tree
dual_range q asked settled (fork s a b first second) is h =
    let one = with_pair s a b settled in
    let other = with_pair s b a settled in
    let lines = lines_on q.segs s in
    let parts = and_parts (dual.is_fork q s a b) (dual.accepts q one first && dual.accepts q other second) h in
    let both = and_parts (dual.accepts q one first) (dual.accepts q other second) parts.1 in
    let here = and_parts (is_in q.part s) (has_line lines a && (has_line lines b && not (a.0 == b.0))) parts.0 in
    let from_a = and_parts (has_line lines a) (has_line lines b && not (a.0 == b.0)) here.1 in
    let from_b = and_parts (has_line lines b) (not (a.0 == b.0)) from_a.1 in (
      asked.segs s here.0,
      asked.lines s a from_a.0,
      asked.lines s b from_b.0,
      dual_range q asked one first is.0 both.0,
      dual_range q asked other second is.1 both.1,
    )
dual_range q asked settled (stop prices) is h =
    let allowed = (and_parts (pairs.are_allowed q.terms prices) _ h).0 in
    prices_range most_stop_price 0 prices (starts_at_0 number_of prices) is.0 is.1 (stops_small q.terms asked.terms prices allowed)

-- a part's tree that does not fail is in range
pub part_tree_range : (q : Question) → IsAsked q → (tree : PlainPartTree) → IsPartTree tree → failing q tree ≡ None
    → IsPartTreeInRange tree
part_tree_range q asked (by_cases tree) is h =
    tree_range q asked (none_placed q.segs) tree is.is_tree ((accepted_exactly q (none_placed q.segs) tree).1 h)
part_tree_range q asked (by_pairs tree) is h = dual_range q asked [] tree is.is_tree (((nothing_fails q tree).0 h).1)

pub part_depth : (tree : PlainPartTree) → IsPartTree tree → depth_of_part tree ≤ most_depth
part_depth (by_cases tree) is = is.depth
part_depth (by_pairs tree) is = is.depth
