-- What orders cost where one segment takes another order.
use Rattle.std.proofs.Common.{◌≡◌, ℕ, ◌+◌, ◌<◌, ◌≤◌, ◌==◌, Bool, true, false, cond, List, [], ◌∷◌, length, map, set, get_or, refl, sym, ◌∙◌, ap, arith, get_or-set_other, true≢false, eq-eqb, Option, Some, None}
use Rattle.std.specs.Prelude.{nat_lt, sum_by, unwrap_or}
use Rattle.std.specs.List.{All}
use Rattle.std.specs.Option.{option_map}
use Rattle.std.proofs.lemmas.Bool.Decides.{nat_tests}
use Rattle.std.proofs.lemmas.List.{set-get_or}
use Rattle.std.proofs.lemmas.List.Sums.{sum_by-cons}
use Rattle.std.proofs.lemmas.List.Sorted.{IsPermutation-refl, length_permutation}
use Rattle.map_base.specs.declared.ids.SegId.{SegId}
use Rattle.map_base.specs.declared.ids.LineId.{LineId}
use Rattle.graph_core.specs.Consistent.{AreRising}
use Rattle.order_model.specs.declared.term.Term.{Term}
use Rattle.order_model.specs.declared.problem.ProblemParts.{ProblemParts}
use Rattle.order_model.specs.Problems.{lines_on, IsTerm}
use Rattle.order_model.specs.Costs.{seg_of, other_of, cost_on, term_cost, cost_of}
use Rattle.order_model.specs.PartTerms.{plain_terms, no_term, terms_by_number}
use Rattle.order_model.proofs.Lines.{neither}
use Rattle.least_orders.specs.Arrangements.{all_orders}
use Rattle.least_orders.proofs.LeastValues.{some_least, least_of_first, first_among}
use Rattle.least_orders.proofs.Arranging.{permutation_is_order, order_is_permutation}
use Rattle.dual_bound.proofs.Segments.{rising_at}
use Rattle.dual_shares.specs.Groups.{is_on, numbers_on}
use Rattle.dual_ascent.specs.LocalSearch.{cost_with, least_beside, exchanged, cheaper, improved_on}
use Rattle.dual_ascent.proofs.OwnParts.{seg_number, plain_numbered}
use Rattle.dual_orders.specs.OwnTerms as own
use Rattle.dual_orders.proofs.OwnTables.{all_by_number}

-- The terms of all numbers are all terms.

twice : (terms : List Term) (numbers : List ℕ) → plain_terms (terms_by_number terms numbers) ≡ map (own.term_at terms) numbers
twice terms [] = refl
twice terms (n ∷ numbers) = ap (λ l. get_or terms n no_term ∷ l) (twice terms numbers)

pub terms_all : (p : ProblemParts) → All (IsTerm p.segs) p.terms → map (own.term_at p.terms) (own.all_numbers p) ≡ p.terms
terms_all p fit = sym (twice p.terms (own.all_numbers p)) ∙ (ap plain_terms (all_by_number p fit) ∙ plain_numbered 0 p.terms)

-- Sums over the terms on a segment, and over all others.

module _ (c : Term → ℕ) (terms : List Term) (s : SegId) where
  -- what the terms of these numbers that are not on it come to
  abbrev pub off_sum : List ℕ → ℕ
  off_sum [] = 0
  off_sum (n ∷ numbers) = cond (is_on s (get_or terms n no_term)) 0 (c (get_or terms n no_term)) + off_sum numbers

  pub parted : (numbers : List ℕ) → sum_by c (map (own.term_at terms) numbers) ≡ sum_by c (map (own.term_at terms) (numbers_on terms numbers s)) + off_sum numbers
  parted [] = refl
  parted (n ∷ numbers) = by_test (is_on s (get_or terms n no_term)) (parted numbers)
    where
      by_test : (b : Bool) → sum_by c (map (own.term_at terms) numbers) ≡ sum_by c (map (own.term_at terms) (numbers_on terms numbers s)) + off_sum numbers
          → sum_by c (map (own.term_at terms) (n ∷ numbers))
          ≡ sum_by c (map (own.term_at terms) (cond b (n ∷ numbers_on terms numbers s) (numbers_on terms numbers s))) + (cond b 0 (c (get_or terms n no_term)) + off_sum numbers)
      by_test true rest =
          let one = sum_by-cons c (get_or terms n no_term) (map (own.term_at terms) numbers) in
          let two = sum_by-cons c (get_or terms n no_term) (map (own.term_at terms) (numbers_on terms numbers s)) in
          omega (arith, one, two, rest)
      by_test false rest =
          let one = sum_by-cons c (get_or terms n no_term) (map (own.term_at terms) numbers) in
          omega (arith, one, rest)

-- Another order of one segment.

order_kept : (orders : List (List LineId)) (i : ℕ) (o : List LineId) (t : SegId) → (t.0 == i) ≡ false → lines_on (set orders i o) t ≡ lines_on orders t
order_kept orders i o t h = get_or-set_other orders i t.0 o [] (λ e. absurd (true≢false (sym (eq-eqb t.0 i e) ∙ h)))

off_kept : (orders : List (List LineId)) (i : ℕ) (o : List LineId) (t : Term) → is_on (seg_number i) t ≡ false → term_cost (set orders i o) t ≡ term_cost orders t
off_kept orders i o t h =
    ap (λ l. cost_on l (lines_on (set orders i o) (other_of t)) t) (order_kept orders i o (seg_of t) (neither ((seg_of t).0 == i) ((other_of t).0 == i) h).0)
    ∙ ap (λ l. cost_on (lines_on orders (seg_of t)) l t) (order_kept orders i o (other_of t) (neither ((seg_of t).0 == i) ((other_of t).0 == i) h).1)

off_same : (terms : List Term) (orders : List (List LineId)) (i : ℕ) (o : List LineId) (numbers : List ℕ) → off_sum (term_cost (set orders i o)) terms (seg_number i) numbers ≡ off_sum (term_cost orders) terms (seg_number i) numbers
off_same terms orders i o [] = refl
off_same terms orders i o (n ∷ numbers) =
    ap (λ v. v + off_sum (term_cost (set orders i o)) terms (seg_number i) numbers) (by_test (is_on (seg_number i) (get_or terms n no_term)) refl)
    ∙ ap (λ v. cond (is_on (seg_number i) (get_or terms n no_term)) 0 (term_cost orders (get_or terms n no_term)) + v) (off_same terms orders i o numbers)
  where
    by_test : (b : Bool) → is_on (seg_number i) (get_or terms n no_term) ≡ b → cond b 0 (term_cost (set orders i o) (get_or terms n no_term)) ≡ cond b 0 (term_cost orders (get_or terms n no_term))
    by_test true e = refl
    by_test false e = off_kept orders i o (get_or terms n no_term) e

pub cost_parted : (p : ProblemParts) (orders : List (List LineId)) (s : SegId) → All (IsTerm p.segs) p.terms
    → cost_of p.terms orders ≡ own.cost_on p s orders + off_sum (term_cost orders) p.terms s (own.all_numbers p)
cost_parted p orders s fit = ap (sum_by (term_cost orders)) (sym (terms_all p fit)) ∙ parted (term_cost orders) p.terms s (own.all_numbers p)

-- what all terms cost is less where what those on the segment cost is
module _ (p : ProblemParts) (fit : All (IsTerm p.segs) p.terms) (orders : List (List LineId)) (i : ℕ) (o : List LineId) where
  pub less_all : own.cost_on p (seg_number i) (set orders i o) < own.cost_on p (seg_number i) orders → cost_of p.terms (set orders i o) < cost_of p.terms orders
  less_all h =
      let one = cost_parted p (set orders i o) (seg_number i) fit in
      let two = cost_parted p orders (seg_number i) fit in
      let same = off_same p.terms orders i o (own.all_numbers p) in
      omega (arith, one, two, same, h)

  pub not_less_all : own.cost_on p (seg_number i) orders ≤ own.cost_on p (seg_number i) (set orders i o) → cost_of p.terms orders ≤ cost_of p.terms (set orders i o)
  not_less_all h =
      let one = cost_parted p (set orders i o) (seg_number i) fit in
      let two = cost_parted p orders (seg_number i) fit in
      let same = off_same p.terms orders i o (own.all_numbers p) in
      omega (arith, one, two, same, h)

pub cheaper_yes : (p : ProblemParts) (orders others : List (List LineId)) → cost_of p.terms others < cost_of p.terms orders → cheaper p orders others ≡ others
cheaper_yes p orders others h = ap (λ b. cond b others orders) (is_less (cost_of p.terms others) (cost_of p.terms orders) h)
  where
    is_less : (m n : ℕ) → m < n → nat_lt m n ≡ true
    is_less m n h = grind (arith, nat_tests)

pub cheaper_no : (p : ProblemParts) (orders others : List (List LineId)) → cost_of p.terms orders ≤ cost_of p.terms others → cheaper p orders others ≡ orders
cheaper_no p orders others h = ap (λ b. cond b others orders) (not_less (cost_of p.terms others) (cost_of p.terms orders) h)
  where
    not_less : (m n : ℕ) → n ≤ m → nat_lt m n ≡ false
    not_less m n h = grind (arith, nat_tests)

-- a segment takes another order where that costs less on it
module _ (p : ProblemParts) (fit : All (IsTerm p.segs) p.terms) (orders : List (List LineId)) (i : ℕ) (o : List LineId) (now other : ℕ)
    (now_is : now ≡ own.cost_on p (seg_number i) (set orders i (get_or orders i []))) (other_is : other ≡ own.cost_on p (seg_number i) (set orders i o)) where
  now_costs : now ≡ own.cost_on p (seg_number i) orders
  now_costs = now_is ∙ ap (own.cost_on p (seg_number i)) (set-get_or orders i [])

  pub taken : other < now → (cheaper p orders (set orders i o) ≡ set orders i o) × (cost_of p.terms (set orders i o) < cost_of p.terms orders)
  taken h =
      let same = now_costs in
      let less = less_all p fit orders i o (omega (arith, other_is, same, h)) in
      (cheaper_yes p orders (set orders i o) less, less)

  pub not_taken : now ≤ other → cheaper p orders (set orders i o) ≡ orders
  not_taken h = let same = now_costs in cheaper_no p orders (set orders i o) (not_less_all p fit orders i o (omega (arith, other_is, same, h)))

-- There is always a least order beside the others.

pub least_some : (p : ProblemParts) (orders : List (List LineId)) (s : SegId) → All AreRising p.segs → exchanged orders s (least_beside p orders s) ≡ set orders s.0 (unwrap_or (least_beside p orders s) (lines_on p.segs s))
least_some p orders s rising = by_option (least_beside p orders s) refl
  where
    by_option : (o : Option (List LineId)) → least_beside p orders s ≡ o → exchanged orders s o ≡ set orders s.0 (unwrap_or o (lines_on p.segs s))
    by_option (Some o) e = refl
    by_option None e =
        absurd (some_least (cost_with p orders s) (all_orders (lines_on p.segs s)) (lines_on p.segs s)
        (permutation_is_order (lines_on p.segs s) (lines_on p.segs s) (rising_at p.segs s.0 rising) (IsPermutation-refl (lines_on p.segs s)))
        (least_of_first (cost_with p orders s) (all_orders (lines_on p.segs s)) ∙ ap (option_map (cost_with p orders s)) e))

-- so the segment takes that one
pub improved_is : (p : ProblemParts) (orders : List (List LineId)) (i : ℕ) (o : List LineId) → All AreRising p.segs → o ≡ unwrap_or (least_beside p orders (seg_number i)) (lines_on p.segs (seg_number i))
    → cheaper p orders (set orders i o) ≡ improved_on p orders (seg_number i)
improved_is p orders i o rising is =
    ap (λ x. cheaper p orders (set orders i x)) is ∙ ap (cheaper p orders) (sym (least_some p orders (seg_number i) rising))

-- which has as many lines
pub least_lines : (p : ProblemParts) (orders : List (List LineId)) (s : SegId) → length (unwrap_or (least_beside p orders s) (lines_on p.segs s)) ≡ length (lines_on p.segs s)
least_lines p orders s = by_option (least_beside p orders s) refl
  where
    by_option : (o : Option (List LineId)) → least_beside p orders s ≡ o → length (unwrap_or o (lines_on p.segs s)) ≡ length (lines_on p.segs s)
    by_option None e = refl
    by_option (Some o) e =
        length_permutation (lines_on p.segs s) o
        (order_is_permutation (lines_on p.segs s) o
        (first_among (cost_with p orders s) (all_orders (lines_on p.segs s)) o e))
