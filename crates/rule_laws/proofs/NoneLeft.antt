-- Where no rule is left, none applies.
use Rattle.std.proofs.Common.{◌≡◌, ℕ, zero, suc, ◌+◌, ◌<◌, ◌≤◌, ◌==◌, Bool, true, false, not, cond, ◌||◌, ◌&&◌, List, [], ◌∷◌, length, map}
use Rattle.std.proofs.Common.{refl, sym, ◌∙◌, ap, subst, true≢false, eq-eqb, eqb-true, inl, inr, arith, Option, Some, None}
use Rattle.std.specs.List.{AllByRecursion, list_any, list_all, range_with_len}
use Rattle.std.proofs.lemmas.Bool.{and_parts, or_cases, or_left, false_from_ne_true, eqb-false}
use Rattle.std.proofs.lemmas.List.Elements.{recursion_from_All}
use Rattle.map_base.specs.declared.ids.SegId.{SegId}
use Rattle.map_base.specs.declared.ids.LineId.{LineId}
use Rattle.order_values.specs.declared.rule.Rule.{Rule}
use Rattle.order_values.specs.declared.rule.Rule.TheVariants.{Merge, Divide}
use Rattle.order_model.specs.declared.term.Term.{Term}
use Rattle.order_model.specs.declared.term.Term.TheVariants.{Side, Link, Apart}
use Rattle.order_model.specs.declared.problem.ProblemParts.{ProblemParts}
use Rattle.order_model.specs.Problems.{lines_on, IsTerm, IsProblem}
use Rattle.order_model.specs.Parts.{are_ends}
use Rattle.order_model.specs.Places.{has_line}
use Rattle.order_model.proofs.Lines.{same_line}
use Rattle.order_rules.specs.PairWeights.{all_pairs}
use Rattle.order_rules.specs.Merging.{same_lines, has_flip, is_link_between, have_flip, outweighs, merge_applies}
use Rattle.order_rules.specs.Dividing.{are_none, is_rising, others, most_apart, can_part, is_group, divide_applies, closure}
use Rattle.order_rules.specs.Untangling.{rule_applies, or_else, first_some, all_segments, merge_of, first_merge, divide_of, first_divide, next_rule}
use Rattle.order_rules.proofs.Grouped.{has_filter, has_filtered}
use Rattle.rule_laws.specs.Closed.{IsClosed}
use Rattle.rule_laws.proofs.Closing.{all_at, closure_least}

-- ---- choices of rules that are none

some_none : (r : Rule) → Some r ≡ None → ⊥
some_none r h = cc

neither : (o other : Option Rule) → or_else o other ≡ None → (o ≡ None) × (other ≡ None)
neither None other h = (refl, h)
neither (Some r) other h = absurd (some_none r h)

none_of : {A : Type 0} (f : A → Option Rule) (xs : List A) → first_some f xs ≡ None → AllByRecursion (λ x. f x ≡ None) xs
none_of f [] h = tt
none_of f (x ∷ xs) h = let both = neither (f x) (first_some f xs) h in (both.0, none_of f xs both.1)

no_merge : (p : ProblemParts) (e f : SegId) (flip : Bool) → merge_of p e f ≡ None → merge_applies p e f flip ≡ false
no_merge p e f flip h = by (merge_applies p e f false) (merge_applies p e f true) refl refl h flip
  where
    by : (c d : Bool) → merge_applies p e f false ≡ c → merge_applies p e f true ≡ d
        → cond c (Some (Merge e f false)) (cond d (Some (Merge e f true)) None) ≡ None → (b : Bool) → merge_applies p e f b ≡ false
    by true d k m h b = absurd (some_none (Merge e f false) h)
    by false true k m h b = absurd (some_none (Merge e f true) h)
    by false false k m h true = m
    by false false k m h false = k

no_divide : (p : ProblemParts) (e : SegId) (a : LineId) → divide_of p e a ≡ None → are_none (others (lines_on p.segs e) (closure p e a)) ≡ true
no_divide p e a h = by (are_none (others (lines_on p.segs e) (closure p e a))) refl h
  where
    by : (c : Bool) → are_none (others (lines_on p.segs e) (closure p e a)) ≡ c → cond c None (Some (Divide e (closure p e a))) ≡ None
        → are_none (others (lines_on p.segs e) (closure p e a)) ≡ true
    by true k h = k
    by false k h = absurd (some_none (Divide e (closure p e a)) h)

-- ---- segments and lines by themselves

segment_from : (P : SegId → Type 0) (k n e : ℕ) → AllByRecursion P (map (λ (i : ℕ). let s : SegId = record { 0 = i } in s) (range_with_len k n)) → k ≤ e → e < k + n
    → P (record { 0 = e })
segment_from P k zero e each low high = absurd (omega (arith, low, high))
segment_from P k (suc n) e each low high =
    by (k == e) refl (λ apart. segment_from P (k + 1) n e each.1 (omega (arith, low, eqb-false k e apart)) (omega (arith, high)))
  where
    by : (b : Bool) → (k == e) ≡ b → ((k == e) ≡ false → P (record { 0 = e })) → P (record { 0 = e })
    by true here later = subst (λ (i : ℕ). P (record { 0 = i })) (eqb-true k e here) each.0
    by false apart later = later apart

segment_at : (P : SegId → Type 0) (p : ProblemParts) (e : SegId) → AllByRecursion P (all_segments p) → e.0 < length p.segs → P e
segment_at P p e each known = segment_from P 0 (length p.segs) e.0 each (omega arith) (omega (arith, known))

line_at : (P : LineId → Type 0) (xs : List LineId) (a : LineId) → AllByRecursion P xs → has_line xs a ≡ true → P a
line_at P [] a each on = absurd (true≢false (sym on))
line_at P (x ∷ xs) a each on = elim (or_cases (x.0 == a.0) (has_line xs a) on) [
  | inl here ↦ subst P (same_line x a here) each.0
  | inr later ↦ line_at P xs a each.1 later
]

none_has : (xs : List LineId) (a : LineId) → are_none xs ≡ true → has_line xs a ≡ true → ⊥
none_has [] a h on = true≢false (sym on)
none_has (x ∷ xs) a h on = true≢false (sym h)

some_line : (xs : List LineId) → not (are_none xs) ≡ true → (a : LineId) × (has_line xs a ≡ true)
some_line [] h = absurd (true≢false (sym h))
some_line (x ∷ xs) h = (x, or_left (x.0 == x.0) (has_line xs x) (eq-eqb x.0 x.0 refl))

-- ---- merges

-- the two segments of a Link between them are known
ends_are : (n a b s t : ℕ) → a < n → b < n → are_ends a b s t ≡ true → (s < n) × (t < n)
ends_are n a b s t one other h = elim (or_cases (a == s && b == t) (a == t && b == s) h) [
  | inl here ↦ (let both = and_parts (a == s) (b == t) here in (omega (arith, one, eqb-true a s both.0), omega (arith, other, eqb-true b t both.1)))
  | inr turned ↦ (let both = and_parts (a == t) (b == s) turned in (omega (arith, other, eqb-true b s both.1), omega (arith, one, eqb-true a t both.0)))
]

link_ends : (segs : List (List LineId)) (e f : SegId) (t : Term) → IsTerm segs t → is_link_between e f t ≡ true → (e.0 < length segs) × (f.0 < length segs)
link_ends segs e f (Side seg first second w) is h = absurd (true≢false (sym h))
link_ends segs e f (Link seg other flip a b w) is h =
    ends_are (length segs) seg.0 other.0 e.0 f.0 (omega (arith, is.seg_below, is.other_known)) is.other_known h
link_ends segs e f (Apart seg other a b w) is h = absurd (true≢false (sym h))

links_ends : (segs : List (List LineId)) (e f : SegId) (ts : List Term) → AllByRecursion (IsTerm segs) ts → list_any (is_link_between e f) ts ≡ true
    → (e.0 < length segs) × (f.0 < length segs)
links_ends segs e f [] is h = absurd (true≢false (sym h))
links_ends segs e f (t ∷ ts) is h = elim (or_cases (is_link_between e f t) (list_any (is_link_between e f) ts) h) [
  | inl here ↦ link_ends segs e f t is.0 here
  | inr later ↦ links_ends segs e f ts is.1 later
]

merge_known : (p : ProblemParts) (e f : SegId) (flip : Bool) → IsProblem p → merge_applies p e f flip ≡ true → (e.0 < length p.segs) × (f.0 < length p.segs)
merge_known p e f flip ok h =
    let one = and_parts (not (e.0 == f.0) && same_lines (lines_on p.segs e) (lines_on p.segs f) && have_flip e f flip p.terms)
    (all_pairs (outweighs e f p.terms) (lines_on p.segs f)) h in
    let two = and_parts (not (e.0 == f.0) && same_lines (lines_on p.segs e) (lines_on p.segs f)) (have_flip e f flip p.terms) one.0 in
    let three = and_parts (list_any (is_link_between e f) p.terms) (list_all (λ t. not (is_link_between e f t) || has_flip flip t) p.terms) two.1 in
    links_ends p.segs e f p.terms (recursion_from_All (IsTerm p.segs) p.terms ok.terms) three.0

none_merges : (p : ProblemParts) (e f : SegId) (flip : Bool) → IsProblem p → first_merge p ≡ None → merge_applies p e f flip ≡ false
none_merges p e f flip ok none = false_from_ne_true (merge_applies p e f flip) (λ h.
    let known = merge_known p e f flip ok h in
    let row = segment_at (λ s. first_some (merge_of p s) (all_segments p) ≡ None) p e
    (none_of (λ s. first_some (merge_of p s) (all_segments p)) (all_segments p) none) known.0 in
    let cell = segment_at (λ s. merge_of p e s ≡ None) p f (none_of (merge_of p e) (all_segments p) row) known.1 in
    true≢false (sym h ∙ no_merge p e f flip cell))

-- ---- divisions

module _ (p : ProblemParts) (e : SegId) (group : List LineId) (applies : divide_applies p e group ≡ true) where
  abbrev lines : List LineId
  lines = lines_on p.segs e

  abbrev rest : List LineId
  rest = others (lines_on p.segs e) group

  abbrev parts : LineId → LineId → Bool
  parts a b = can_part (most_apart p.segs p.terms e) p.terms e a b

  both : (is_group lines group ≡ true) × (list_all (λ a. list_all (parts a) rest) group ≡ true)
  both = and_parts (is_group lines group) (list_all (λ a. list_all (parts a) rest) group) applies

  left : ((is_rising group && list_all (has_line lines) group && not (are_none group)) ≡ true) × (not (are_none rest) ≡ true)
  left = and_parts (is_rising group && list_all (has_line lines) group && not (are_none group)) (not (are_none rest)) both.0

  some : ((is_rising group && list_all (has_line lines) group) ≡ true) × (not (are_none group) ≡ true)
  some = and_parts (is_rising group && list_all (has_line lines) group) (not (are_none group)) left.0

  within : list_all (has_line lines) group ≡ true
  within = (and_parts (is_rising group) (list_all (has_line lines) group) some.0).1

  -- a line of the segment that is not of the group is of the rest
  in_rest : (b : LineId) → has_line lines b ≡ true → has_line group b ≡ false → has_line rest b ≡ true
  in_rest b on off = has_filtered (λ x. not (has_line group x)) lines b (ap not off) ∙ on

  closed : IsClosed p e group
  closed a b of on apart = by (has_line group b) refl
    where
      by : (c : Bool) → has_line group b ≡ c → has_line group b ≡ true
      by true h = h
      by false h =
          let can : parts a b ≡ true = all_at (parts a) rest b (all_at (λ x. list_all (parts x) rest) group a both.1 of) (in_rest b on h) in
          absurd (true≢false (sym can ∙ apart))

  -- the closure of a line of the group is not all lines
  closure_parts : (a : LineId) → has_line group a ≡ true → are_none (others lines (closure p e a)) ≡ true → ⊥
  closure_parts a of none =
      let last = some_line rest left.1 in
      let is = rest_is last.0 last.1 in
      none_has (others lines (closure p e a)) last.0 none
      (has_filtered (λ x. not (has_line (closure p e a) x)) lines last.0 (ap not (out last.0 is.1)) ∙ is.0)
    where
      rest_is : (b : LineId) → has_line rest b ≡ true → (has_line lines b ≡ true) × (has_line group b ≡ false)
      rest_is b on = by (has_line group b) refl
        where
          by : (c : Bool) → has_line group b ≡ c → (has_line lines b ≡ true) × (has_line group b ≡ false)
          by true h = absurd (true≢false (sym on ∙ has_filter (λ x. not (has_line group x)) lines b (ap not h)))
          by false h = (sym (has_filtered (λ x. not (has_line group x)) lines b (ap not h)) ∙ on, h)

      out : (b : LineId) → has_line group b ≡ false → has_line (closure p e a) b ≡ false
      out b off = false_from_ne_true (has_line (closure p e a) b) (λ h. true≢false (sym (closure_least p e a group of closed b h) ∙ off))

  first_is : (a : LineId) × (has_line group a ≡ true)
  first_is = some_line group some.1

known_segment : (p : ProblemParts) (e : SegId) (a : LineId) → has_line (lines_on p.segs e) a ≡ true → e.0 < length p.segs
known_segment p e a on = by p.segs e.0 on
  where
    by : (segs : List (List LineId)) (k : ℕ) → has_line (lines_on segs (record { 0 = k })) a ≡ true → k < length segs
    by [] k h = absurd (true≢false (sym h))
    by (ls ∷ segs) zero h = omega arith
    by (ls ∷ segs) (suc k) h = omega (arith, by segs k h)

none_divides : (p : ProblemParts) (e : SegId) (group : List LineId) → first_divide p ≡ None → divide_applies p e group ≡ false
none_divides p e group none = false_from_ne_true (divide_applies p e group) (λ h.
    let a = first_is p e group h in
    let on = all_at (has_line (lines_on p.segs e)) group a.0 (within p e group h) a.1 in
    let row = segment_at (λ s. first_some (divide_of p s) (lines_on p.segs s) ≡ None) p e
    (none_of (λ s. first_some (divide_of p s) (lines_on p.segs s)) (all_segments p) none) (known_segment p e a.0 on) in
    let cell = line_at (λ x. divide_of p e x ≡ None) (lines_on p.segs e) a.0 (none_of (divide_of p e) (lines_on p.segs e) row) on in
    closure_parts p e group h a.0 a.1 (no_divide p e a.0 cell))

pub none_applies : (p : ProblemParts) (r : Rule) → IsProblem p → next_rule p ≡ None → rule_applies p r ≡ false
none_applies p (Merge into from flip) ok none = none_merges p into from flip ok (neither (first_merge p) (first_divide p) none).0
none_applies p (Divide seg first) ok none = none_divides p seg first (neither (first_merge p) (first_divide p) none).1
