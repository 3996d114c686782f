-- What orders cost is the sum of what they cost on the parts, as each term is of one part.
use Rattle.std.proofs.Common.{◌≡◌, ◌∙◌, ap, sym, refl, ℕ, zero, suc, ◌+◌, Bool, true, false, true≢false, cond, ◌&&◌, List, [], ◌∷◌, sum_by, arith}
use Rattle.std.specs.List.{All, AllByRecursion, Contains, filter}
use Rattle.std.proofs.lemmas.Bool.{and_from, false_from_ne_true}
use Rattle.std.proofs.lemmas.List.Sums.{sum_by-cons}
use Rattle.std.proofs.lemmas.List.Elements.{All-contains, All-from_recursion}
use Rattle.map_base.specs.declared.ids.SegId.{SegId}
use Rattle.map_base.specs.declared.ids.LineId.{LineId}
use Rattle.order_model.specs.declared.term.Term.{Term}
use Rattle.order_model.specs.Problems.{IsTerm, lines_on}
use Rattle.order_model.specs.Costs.{seg_of, other_of, term_cost, cost_of, cost_on}
use Rattle.order_model.specs.Parts.{AreParts}
use Rattle.order_model.specs.PartTerms.{is_in, is_of}
use Rattle.order_model.proofs.Lines.{both_true}
use Rattle.order_model.proofs.Shares.{ShareNone, AreApartParts, parts_apart, part_cost, in_contained}
use Rattle.order_model.proofs.TermParts.{end_known, end_wide, same_part}
use Rattle.order_bound.proofs.Sums.{sum_both, sum_same}

-- a term's weight in a part
abbrev share : Term → ℕ → List SegId → ℕ
share t c p = cond (is_of p t) c 0

-- none in a part that has not its first segment
share_out : (t : Term) (c : ℕ) (p : List SegId) → is_in p (seg_of t) ≡ false → share t c p ≡ 0
share_out t c p h = ap (λ (b : Bool). cond (b && is_in p (other_of t)) c 0) h

none_later : (t : Term) (c : ℕ) (p : List SegId) (later : List (List SegId)) → AllByRecursion (ShareNone p) later
    → is_in p (seg_of t) ≡ true → sum_by (share t c) later ≡ 0
none_later t c p [] apart here = refl
none_later t c p (q ∷ later) apart here =
    let rest = none_later t c p later apart.1 here in
    omega (arith, rest, share_out t c q (apart.0 (seg_of t) here), sum_by-cons (share t c) q later)

-- one part has the term
once : (t : Term) (c : ℕ) (p : List SegId) (parts : List (List SegId)) → AreApartParts parts → Contains parts p
    → is_of p t ≡ true → sum_by (share t c) parts ≡ c
once t c p [] apart (k, below, is) h = absurd (omega (arith, below))
once t c p (q ∷ parts) apart (zero, below, is) h =
    let own : is_of q t ≡ true = ap (λ (r : List SegId). is_of r t) is ∙ h in
    let here : share t c q ≡ c = ap (λ (b : Bool). cond b c 0) own in
    let later = none_later t c q parts apart.0 (both_true (is_in q (seg_of t)) (is_in q (other_of t)) own).0 in
    omega (arith, here, later, sum_by-cons (share t c) q parts)
once t c p (q ∷ parts) apart (suc k, below, is) h =
    let there : Contains parts p = (k, omega (arith, below), is) in
    let here : is_in p (seg_of t) ≡ true = (both_true (is_in p (seg_of t)) (is_in p (other_of t)) h).0 in
    let none : ShareNone q p = All-contains (ShareNone q) parts p (All-from_recursion (ShareNone q) parts apart.0) there in
    let first = share_out t c q
    (false_from_ne_true (is_in q (seg_of t)) (λ e. true≢false (sym here ∙ none (seg_of t) e))) in
    omega (arith, once t c p parts apart.1 there h, first, sum_by-cons (share t c) q parts)

one_more_term : (t : Term) (terms : List Term) (orders : List (List LineId)) (p : List SegId)
    → part_cost (t ∷ terms) orders p ≡ share t (term_cost orders t) p + part_cost terms orders p
one_more_term t terms orders p = by_test (is_of p t)
  where
    by_test : (b : Bool) → cost_of (cond b (t ∷ filter (is_of p) terms) (filter (is_of p) terms)) orders ≡ cond b (term_cost orders t) 0 + part_cost terms orders p
    by_test true = sum_by-cons (term_cost orders) t (filter (is_of p) terms)
    by_test false = omega arith

no_terms : (orders : List (List LineId)) (parts : List (List SegId)) → sum_by (part_cost [] orders) parts ≡ 0
no_terms orders [] = refl
no_terms orders (p ∷ parts) = omega (arith, no_terms orders parts, sum_by-cons (part_cost [] orders) p parts)

module _ (segs : List (List LineId)) (all : List Term) (parts : List (List SegId)) (ok : AreParts segs all parts) (fit : All (IsTerm segs) all) where
  -- the part of a term
  home_of : (t : Term) → Contains all t → (p : List SegId) × Contains parts p × (is_of p t ≡ true)
  home_of t in_all =
      let is_term : IsTerm segs t = All-contains (IsTerm segs) all t fit in_all in
      let own = ok.covered (seg_of t) (end_known segs t is_term) (end_wide segs t is_term) in
      let here : is_in own.0 (seg_of t) ≡ true = in_contained own.0 (seg_of t) own.2 in
      (own.0, own.1, and_from (is_in own.0 (seg_of t)) (is_in own.0 (other_of t)) here (sym (same_part segs all parts ok own.0 t own.1 in_all is_term) ∙ here))

  shares_are : (terms : List Term) (orders : List (List LineId)) → ((t : Term) → Contains terms t → Contains all t)
      → sum_by (part_cost terms orders) parts ≡ cost_of terms orders
  shares_are [] orders sub = no_terms orders parts
  shares_are (t ∷ terms) orders sub =
      let c : ℕ = term_cost orders t in
      let home = home_of t (sub t (0, omega arith, refl)) in
      let rest = shares_are terms orders (λ u h. sub u (suc h.0, omega (arith, h.1), h.2)) in
      let grown : sum_by (part_cost (t ∷ terms) orders) parts ≡ sum_by (λ p. share t c p + part_cost terms orders p) parts =
      sum_same (part_cost (t ∷ terms) orders) (λ p. share t c p + part_cost terms orders p) parts (one_more_term t terms orders) in
      omega (
        arith,
        rest,
        grown,
        once t c home.0 parts (parts_apart segs all parts ok) home.1 home.2,
        sum_both (share t c) (part_cost terms orders) parts,
        sum_by-cons (term_cost orders) t terms,
      )

  pub cost_shared : (orders : List (List LineId)) → sum_by (part_cost all orders) parts ≡ cost_of all orders
  cost_shared orders = shares_are all orders (λ t h. h)

-- Orders that are the same on a part cost the same on it.

pub same_cost : (part : List SegId) (terms : List Term) (orders others : List (List LineId)) → ((s : SegId) → is_in part s ≡ true → lines_on orders s ≡ lines_on others s)
    → part_cost terms orders part ≡ part_cost terms others part
same_cost part [] orders others same = refl
same_cost part (t ∷ terms) orders others same = by_test (is_of part t) refl (same_cost part terms orders others same)
  where
    by_test : (b : Bool) → is_of part t ≡ b → part_cost terms orders part ≡ part_cost terms others part
        → cost_of (cond b (t ∷ filter (is_of part) terms) (filter (is_of part) terms)) orders ≡ cost_of (cond b (t ∷ filter (is_of part) terms) (filter (is_of part) terms)) others
    by_test false e rest = rest
    by_test true e rest =
        let both = both_true (is_in part (seg_of t)) (is_in part (other_of t)) e in
        let here : term_cost orders t ≡ term_cost others t =
        ap (λ (o : List LineId). cost_on o (lines_on orders (other_of t)) t) (same (seg_of t) both.0)
        ∙ ap (λ (o : List LineId). cost_on (lines_on others (seg_of t)) o t) (same (other_of t) both.1) in
        omega (arith, here, rest, sum_by-cons (term_cost orders) t (filter (is_of part) terms), sum_by-cons (term_cost others) t (filter (is_of part) terms))
