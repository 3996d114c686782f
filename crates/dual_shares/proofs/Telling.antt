-- Rows and sets of one segment tell its least share.
use Rattle.std.proofs.Common.{◌≡◌, ℕ, ◌+◌, ◌*◌, ◌<◌, ◌≤◌, ◌&&◌, true, List, [], ◌∷◌, ◌++◌, length, take, get_or, refl, sym, ◌∙◌, ap, subst, arith, ◌⊎◌, inl, inr}
use Rattle.std.specs.Prelude.{ℤ, pos, ◌+ℤ◌, unsigned_abs}
use Rattle.std.specs.List.{All, AllByRecursion, list_all}
use Rattle.std.proofs.lemmas.Bool.{cases_lt}
use Rattle.std.proofs.lemmas.Int.{ints}
use Rattle.std.proofs.lemmas.List.{get_or-take, map_more, get_or_past, length-take}
use Rattle.map_base.specs.declared.ids.SegId.{SegId}
use Rattle.map_base.specs.declared.ids.LineId.{LineId}
use Rattle.graph_core.specs.Consistent.{AreRising}
use Rattle.order_model.specs.declared.term.Term.{Term}
use Rattle.order_model.specs.Problems.{lines_on, IsTerm}
use Rattle.order_model.specs.PartTerms.{no_term, terms_by_number}
use Rattle.whole_sums.specs.Sums.{int_sum}
use Rattle.whole_sums.proofs.Sums.{int_sum-append}
use Rattle.least_orders.specs.OrderCosts.{PairCosts, summed_costs}
use Rattle.least_orders.specs.LeastOrders.{least_cost}
use Rattle.least_orders.specs.Rows.{Rows, line_at, entry, named, is_one_of, row_lines, row_costs, row_pairs, AreRows, TellCosts}
use Rattle.least_orders.proofs.Renaming.{least_cost_by_rows}
use Rattle.dual_bound.specs.declared.settled.SettledPair.{SettledPair}
use Rattle.dual_bound.specs.Settled.{settled_on}
use Rattle.dual_bound.specs.ShareCosts.{term_costs, share_costs}
use Rattle.dual_bound.specs.Values.{least_share}
use Rattle.dual_bound.proofs.Segments.{rising_at}
use Rattle.dual_bound.proofs.ShareCosts.{least_share_is_cost}
use Rattle.dual_shares.specs.Groups.{numbers_on}
use Rattle.dual_shares.specs.RowSteps.{row_entry, TellPairs, AreSmall, HaveAdded}
use Rattle.dual_shares.specs.SettledSets.{TellAhead}
use Rattle.dual_shares.proofs.Adding.{off_costs, sum_on}
use Rattle.dual_shares.proofs.Entries.{row_before, squares}

-- Term by term.

last_sum : {A : Type 0} (f : A → ℤ) (xs : List A) (x : A) → int_sum f (xs ++ x ∷ []) ≡ int_sum f xs +ℤ f x
last_sum f xs x = int_sum-append f xs (x ∷ []) ∙ ap (λ v. int_sum f xs +ℤ v) (alone (f x))
  where
    alone : (a : ℤ) → a +ℤ pos 0 ≡ a
    alone a = omega (arith, ints)

-- one more of those that make lines cost something
pub tell_more : {A : Type 0} (lines : List LineId) (costs : A → PairCosts) (xs : List A) (x : A) (before_old beside_old before_new beside_new : List ℤ)
    → TellPairs lines (summed_costs costs xs) before_old beside_old → HaveAdded lines (costs x) before_old beside_old before_new beside_new
    → TellPairs lines (summed_costs costs (xs ++ x ∷ [])) before_new beside_new
tell_more lines costs xs x before_old beside_old before_new beside_new told added = record {
  before_told = λ j k here there.
      added.before_added j k here there
      ∙ (ap (λ v. v +ℤ (costs x).before (named lines (line_at j)) (named lines (line_at k))) (told.before_told j k here there)
      ∙ sym (last_sum (λ y. (costs y).before (named lines (line_at j)) (named lines (line_at k))) xs x));
  beside_told = λ j k here there.
      added.beside_added j k here there
      ∙ (ap (λ v. v +ℤ (costs x).beside (named lines (line_at j)) (named lines (line_at k))) (told.beside_told j k here there)
      ∙ sym (last_sum (λ y. (costs y).beside (named lines (line_at j)) (named lines (line_at k))) xs x));
}

-- one term more
pub tell_term : (lines : List LineId) (terms : List Term) (price : ℕ → ℤ) (s : SegId) (numbers : List ℕ) (i n : ℕ) (before_old beside_old before_new beside_new : List ℤ)
    → i < length numbers → n ≡ get_or numbers i 0
    → TellPairs lines (share_costs (terms_by_number terms (take i numbers)) price s) before_old beside_old
    → HaveAdded lines (term_costs (price n) s (get_or terms n no_term)) before_old beside_old before_new beside_new
    → TellPairs lines (share_costs (terms_by_number terms (take (i + 1) numbers)) price s) before_new beside_new
tell_term lines terms price s numbers i n before_old beside_old before_new beside_new below is told added =
    subst (λ (ts : List (ℕ × Term)). TellPairs lines (share_costs ts price s) before_new beside_new) (sym pushed)
    (tell_more lines (λ (t : ℕ × Term). term_costs (price t.0) s t.1) (terms_by_number terms (take i numbers)) (n, get_or terms n no_term) before_old beside_old before_new beside_new told added)
  where
    pushed : terms_by_number terms (take (i + 1) numbers) ≡ terms_by_number terms (take i numbers) ++ (n, get_or terms n no_term) ∷ []
    pushed =
        map_more (λ m. (m, get_or terms m no_term)) numbers i 0 below
        ∙ ap (λ m. terms_by_number terms (take i numbers) ++ (m, get_or terms m no_term) ∷ []) (sym is)

-- The rows of a segment.

abbrev pub rows_told : List LineId → List ℤ → List ℤ → List ℕ → Rows
rows_told lines before beside ahead = record { count = length lines; before = before; beside = beside; ahead = ahead }

pub rows_are_told : (r : Rows) (lines : List LineId) (before beside : List ℤ) (ahead : List ℕ) → r.count ≡ length lines → r.before ≡ before → r.beside ≡ beside → r.ahead ≡ ahead
    → r ≡ rows_told lines before beside ahead
rows_are_told r lines before beside ahead e f g h =
    let by_count : ℕ → Rows = λ n. record { count = n; before = r.before; beside = r.beside; ahead = r.ahead } in
    let by_before : List ℤ → Rows = λ l. record { count = length lines; before = l; beside = r.beside; ahead = r.ahead } in
    let by_beside : List ℤ → Rows = λ l. record { count = length lines; before = before; beside = l; ahead = r.ahead } in
    let by_ahead : List ℕ → Rows = λ l. record { count = length lines; before = before; beside = beside; ahead = l } in
    ap by_count e ∙ (ap by_before f ∙ (ap by_beside g ∙ ap by_ahead h))

module _ (segs : List (List LineId)) (terms : List Term) (numbers : List ℕ) (price : ℕ → ℤ) (settled : List SettledPair) (s : SegId) (before beside : List ℤ) (ahead : List ℕ)
    (rising : All AreRising segs) (fit : AllByRecursion (λ (t : ℕ × Term). IsTerm segs t.1) (terms_by_number terms numbers))
    (told : TellPairs (lines_on segs s) (share_costs (terms_by_number terms (numbers_on terms numbers s)) price s) before beside)
    (tell : TellAhead (settled_on settled s) (lines_on segs s) ahead)
    (known : list_all (λ (p : LineId × LineId). is_one_of (lines_on segs s) p.0 && is_one_of (lines_on segs s) p.1) (settled_on settled s) ≡ true) where
  pub told_costs : TellCosts (rows_told (lines_on segs s) before beside ahead) (share_costs (terms_by_number terms numbers) price s) (settled_on settled s) (lines_on segs s)
  told_costs = record {
    each = refl;
    before = λ i j here there apart. told.before_told i j here there
        ∙ sum_on (λ (t : ℕ × Term). (term_costs (price t.0) s t.1).before (named (lines_on segs s) (line_at i)) (named (lines_on segs s) (line_at j))) terms s numbers
        (λ t h. (off_costs (price t.0) s t.1 (named (lines_on segs s) (line_at i)) (named (lines_on segs s) (line_at j)) h).0);
    beside = λ i j here there apart. told.beside_told i j here there
        ∙ sum_on (λ (t : ℕ × Term). (term_costs (price t.0) s t.1).beside (named (lines_on segs s) (line_at i)) (named (lines_on segs s) (line_at j))) terms s numbers
        (λ t h. (off_costs (price t.0) s t.1 (named (lines_on segs s) (line_at i)) (named (lines_on segs s) (line_at j)) h).1);
    ahead = λ i j here there. tell.told i j here there;
    known = known;
  }

  -- the least cost by the rows is the least share
  pub told_share : least_cost (row_costs (rows_told (lines_on segs s) before beside ahead)) (row_pairs (rows_told (lines_on segs s) before beside ahead)) (row_lines (rows_told (lines_on segs s) before beside ahead))
      ≡ least_share segs (terms_by_number terms numbers) price settled s
  told_share =
      sym (least_share_is_cost segs (terms_by_number terms numbers) price settled s rising fit
      ∙ least_cost_by_rows (lines_on segs s) (rising_at segs s.0 rising) (rows_told (lines_on segs s) before beside ahead) (share_costs (terms_by_number terms numbers) price s) (settled_on settled s) told_costs)

-- The rows that are given to the program end behind the last entry.

taken_entry : (n : ℕ) (row : List ℤ) (i j : ℕ) → i < n → j < n → entry n (take (n * n) row) (line_at i) (line_at j) ≡ entry n row (line_at i) (line_at j)
taken_entry n row i j here there = get_or-take (n * n) row (i * n + j) (pos 0) (row_before i n n j here there)

pub told_taken : (lines : List LineId) (costs : PairCosts) (before beside : List ℤ) → TellPairs lines costs before beside
    → TellPairs lines costs (take (length lines * length lines) before) (take (length lines * length lines) beside)
told_taken lines costs before beside told = record {
  before_told = λ i j here there. taken_entry (length lines) before i j here there ∙ told.before_told i j here there;
  beside_told = λ i j here there. taken_entry (length lines) beside i j here there ∙ told.beside_told i j here there;
}

taken_small : (n : ℕ) (row : List ℤ) (most : ℕ) → ((k : ℕ) → k < n → unsigned_abs (row_entry row k) ≤ most) → (k : ℕ) → unsigned_abs (row_entry (take n row) k) ≤ most
taken_small n row most small k = by_place (cases_lt k n)
  where
    by_place : (k < n) ⊎ (n ≤ k) → unsigned_abs (row_entry (take n row) k) ≤ most
    by_place (inl below) = let is : row_entry (take n row) k ≡ row_entry row k = get_or-take n row k (pos 0) below in let within = small k below in subst (λ v. unsigned_abs v ≤ most) (sym is) within
    by_place (inr over) =
        let is : row_entry (take n row) k ≡ pos 0 = get_or_past (take n row) k (pos 0) (let ends = length-take n row in omega (arith, ends, over)) in
        subst (λ v. unsigned_abs v ≤ most) (sym is) (omega arith)

-- rows with room, of small entries, are rows for the program
pub rows_are : (lines : List LineId) (before beside : List ℤ) (ahead : List ℕ) (settled : List (LineId × LineId)) (m : ℕ) → length lines ≤ 16 → length before ≡ 256 → length beside ≡ 256
    → length lines ≤ length ahead → m ≤ 4000000 → AreSmall (length lines) m before beside → TellAhead settled lines ahead
    → AreRows (rows_told lines (take (length lines * length lines) before) (take (length lines * length lines) beside) ahead)
rows_are lines before beside ahead settled m few before_each beside_each ahead_each times small tell = record {
  few = few;
  before_each = let most = squares (length lines) few in let each = length-take (length lines * length lines) before in omega (arith, most, before_each, each);
  beside_each = let most = squares (length lines) few in let each = length-take (length lines * length lines) beside in omega (arith, most, beside_each, each);
  ahead_each = ahead_each;
  before_small = λ k. (let most = taken_small (length lines * length lines) before (m * 256000000) small.before_small k in omega (arith, most, times));
  beside_small = λ k. (let most = taken_small (length lines * length lines) beside (m * 256000000) small.beside_small k in omega (arith, most, times));
  ahead_known = λ k. tell.known k;
  apart = λ k. tell.apart k;
}
