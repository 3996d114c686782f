-- What can be done at a segment is read from the terms on it alone.
use Rattle.std.proofs.Common.{◌≡◌, ℕ, ◌*◌, ◌==◌, nat_le, nat_lt, Bool, true, false, not, ◌||◌, ◌&&◌, Option, Some, None, List, [], ◌∷◌, length, refl, sym, ap, ◌∙◌, arith, inl, inr, true≢false, eqb-true, ◌⊎◌, subst}
use Rattle.std.specs.Prelude.{if◌then◌else◌}
use Rattle.std.specs.List.{All, AllByRecursion, list_any, list_all, sum_by}
use Rattle.std.specs.Option.{option_map}
use Rattle.std.proofs.lemmas.Bool.{le-leb, ltb-true, ltb-false}
use Rattle.std.proofs.lemmas.List.{get_or_past}
use Rattle.std.proofs.lemmas.List.Elements.{recursion_from_All, All-get_or}
use Rattle.std.proofs.lemmas.List.Sums.{sum_by-cons}
use Rattle.map_base.specs.declared.ids.SegId.{SegId}
use Rattle.map_base.specs.declared.ids.LineId.{LineId}
use Rattle.order_values.specs.declared.rule.Rule.TheVariants.{Merge}
use Rattle.order_model.specs.declared.term.Term.{Term}
use Rattle.order_model.specs.declared.term.Term.TheVariants.{Side, Link, Apart}
use Rattle.order_model.specs.declared.problem.ProblemParts.{ProblemParts}
use Rattle.graph_core.specs.Consistent.{AreRising}
use Rattle.order_model.specs.Problems.{IsProblem, IsTerm, lines_on}
use Rattle.order_model.specs.Costs.{seg_of, other_of, weight_of, are_these}
use Rattle.order_model.specs.Parts.{is_between}
use Rattle.order_model.proofs.Lines.{both_true, either_true}
use Rattle.order_rules.specs.PairWeights.{is_side, is_link, is_apart, is_on, is_of_lines, weight_where, all_pairs}
use Rattle.order_rules.specs.Merging.{same_lines, is_link_between, has_flip, is_joining, is_beside, link_weight, apart_weight, weight_beside, aparts_beside, outweighs, merge_applies}
use Rattle.order_rules.specs.Dividing.{is_group, others, most_apart, is_against, can_part, divide_applies}
use Rattle.order_rules.proofs.Unchanged.{all_alike, pairs_alike, most_alike, grown_alike}
use Rattle.order_rules.specs.Untangling.{merge_of}
use Rattle.order_untangle.specs.LeftTerms.{Listing, AreTermsOn}
use Rattle.order_sums.specs.PairSums.{is_light}
use Rattle.order_untangle.specs.Segments.{merges_by, flip_by, most_by_lines, divides_by, group_if, group_by, group_of, first_group}
use Rattle.order_untangle.specs.Waits.{has_merge, LinkWaits, LinksWait}
use Rattle.order_untangle.specs.Works.{parts_of}
use Rattle.order_untangle.proofs.TermChanges.{between_off}

-- Tests as sums.

bit : Bool → ℕ
bit true = 1
bit false = 0

none_counted : (test : Term → Bool) (terms : List Term) → sum_by (λ t. bit (test t)) terms ≡ 0 → list_any test terms ≡ false
unfolding bit
none_counted test [] h = refl
none_counted test (t ∷ terms) h = by_test (test t) refl (none_counted test terms)
  where
    by_test : (c : Bool) → test t ≡ c → (sum_by (λ u. bit (test u)) terms ≡ 0 → list_any test terms ≡ false) → (c || list_any test terms) ≡ false
    by_test true k rest =
        let one : bit (test t) ≡ 1 = ap bit k in
        absurd (omega (arith, h, one, sum_by-cons (λ u. bit (test u)) t terms))
    by_test false k rest = rest (omega (arith, h, sum_by-cons (λ u. bit (test u)) t terms))

any_counted : (test : Term → Bool) (terms : List Term) → list_any test terms ≡ false → sum_by (λ t. bit (test t)) terms ≡ 0
unfolding bit
any_counted test [] h = refl
any_counted test (t ∷ terms) h = by_test (test t) refl h (any_counted test terms)
  where
    by_test : (c : Bool) → test t ≡ c → (c || list_any test terms) ≡ false → (list_any test terms ≡ false → sum_by (λ u. bit (test u)) terms ≡ 0)
        → sum_by (λ u. bit (test u)) (t ∷ terms) ≡ 0
    by_test true k m rest = absurd (true≢false m)
    by_test false k m rest =
        let none : bit (test t) ≡ 0 = ap bit k in
        omega (arith, none, rest m, sum_by-cons (λ u. bit (test u)) t terms)

same_tests : (a b : Bool) → (a ≡ false → b ≡ false) → (b ≡ false → a ≡ false) → a ≡ b
same_tests true true h k = refl
same_tests true false h k = sym (sym (k refl))
same_tests false true h k = sym (h refl)
same_tests false false h k = refl

all_by_any : (test : Term → Bool) (terms : List Term) → list_all test terms ≡ not (list_any (λ t. not (test t)) terms)
all_by_any test [] = refl
all_by_any test (t ∷ terms) = by_test (test t) (all_by_any test terms)
  where
    by_test : (c : Bool) → list_all test terms ≡ not (list_any (λ u. not (test u)) terms) → (c && list_all test terms) ≡ not (not c || list_any (λ u. not (test u)) terms)
    by_test true rest = rest
    by_test false rest = refl

sum_alike : (f g : Term → ℕ) (xs : List Term) → ((x : Term) → f x ≡ g x) → sum_by f xs ≡ sum_by g xs
sum_alike f g [] h = refl
sum_alike f g (x ∷ xs) h = omega (arith, sum_by-cons f x xs, sum_by-cons g x xs, h x, sum_alike f g xs h)

module _ (s : SegId) (terms here : List Term) (are : AreTermsOn s terms here) where
  -- a sum that no other segment adds to
  own_sum : (g : Term → ℕ) → ((t : Term) → is_on s t ≡ false → g t ≡ 0) → sum_by g here ≡ sum_by g terms
  own_sum g off = are.sums g ∙ sum_alike (λ t. if is_on s t then g t else 0) g terms (λ t. by_test t (is_on s t) refl)
    where
      by_test : (t : Term) (c : Bool) → is_on s t ≡ c → (if c then g t else 0) ≡ g t
      by_test t true h = refl
      by_test t false h = sym (off t h)

  own_weight : (test : Term → Bool) → ((t : Term) → is_on s t ≡ false → test t ≡ false) → weight_where test here ≡ weight_where test terms
  own_weight test off = own_sum (λ t. if test t then weight_of t else 0) (λ t h. ap (λ (c : Bool). if c then weight_of t else 0) (off t h))

  own_any : (test : Term → Bool) → ((t : Term) → is_on s t ≡ false → test t ≡ false) → list_any test here ≡ list_any test terms
  unfolding bit
  own_any test off =
      let same : sum_by (λ t. bit (test t)) here ≡ sum_by (λ t. bit (test t)) terms = own_sum (λ t. bit (test t)) (λ t h. ap bit (off t h)) in
      same_tests (list_any test here) (list_any test terms)
      (λ h. none_counted test terms (sym same ∙ any_counted test here h))
      (λ h. none_counted test here (same ∙ any_counted test terms h))

  own_all : (test : Term → Bool) → ((t : Term) → is_on s t ≡ false → test t ≡ true) → list_all test here ≡ list_all test terms
  own_all test off =
      all_by_any test here ∙ (ap not (own_any (λ t. not (test t)) (λ t h. ap not (off t h))) ∙ sym (all_by_any test terms))

and_none : (a : Bool) → (a && false) ≡ false
and_none true = refl
and_none false = refl

-- A merge.

module _ (p : ProblemParts) (e f : SegId) (here : List Term) (are : AreTermsOn f p.terms here) where
  between_none : (x : Bool) (t : Term) → is_on f t ≡ false → (x && is_between t e.0 f.0) ≡ false
  between_none x t h = ap (λ (c : Bool). x && c) (between_off e f t h) ∙ and_none x

  joining_none : (x : Term → Bool) (a b : LineId) (t : Term) → is_on f t ≡ false → (x t && is_joining e f a b t) ≡ false
  joining_none x a b t h = ap (λ (c : Bool). x t && (c && is_of_lines a b t)) (between_off e f t h) ∙ and_none (x t)

  beside_none : (x : Term → Bool) (a b : LineId) (t : Term) → is_on f t ≡ false → (x t && is_beside e f a b t) ≡ false
  beside_none x a b t h = ap (λ (c : Bool). x t && ((c && not (is_between t e.0 f.0)) && is_of_lines a b t)) h ∙ and_none (x t)

  by_weights : (i j k l m n o q : ℕ) → i ≡ m → j ≡ n → k ≡ o → l ≡ q → (nat_le i j && nat_le k l) ≡ (nat_le m n && nat_le o q)
  by_weights i j k l m n o q h1 h2 h3 h4 = cc

  outweighs_own : (a b : LineId) → outweighs e f here a b ≡ outweighs e f p.terms a b
  outweighs_own a b =
      by_weights (weight_beside e f here a b) (link_weight e f here a b) (aparts_beside e f here a b) (apart_weight e f here a b)
      (weight_beside e f p.terms a b) (link_weight e f p.terms a b) (aparts_beside e f p.terms a b) (apart_weight e f p.terms a b)
      (own_weight f p.terms here are (λ t. not (is_apart t) && is_beside e f a b t) (beside_none (λ t. not (is_apart t)) a b))
      (own_weight f p.terms here are (λ t. is_link t && is_joining e f a b t) (joining_none is_link a b))
      (own_weight f p.terms here are (λ t. is_apart t && is_beside e f a b t) (beside_none is_apart a b))
      (own_weight f p.terms here are (λ t. is_apart t && is_joining e f a b t) (joining_none is_apart a b))

  link_none : (t : Term) → is_on f t ≡ false → is_link_between e f t ≡ false
  link_none t h = between_none (is_link t) t h

  pub merges_own : (flip : Bool) → merges_by here (lines_on p.segs e) (lines_on p.segs f) e f flip ≡ merge_applies p e f flip
  merges_own flip =
      by_parts (not (e.0 == f.0)) (same_lines (lines_on p.segs e) (lines_on p.segs f))
      (list_any (is_link_between e f) here) (list_all (λ t. not (is_link_between e f t) || has_flip flip t) here) (all_pairs (outweighs e f here) (lines_on p.segs f))
      (list_any (is_link_between e f) p.terms) (list_all (λ t. not (is_link_between e f t) || has_flip flip t) p.terms) (all_pairs (outweighs e f p.terms) (lines_on p.segs f))
      (own_any f p.terms here are (is_link_between e f) link_none)
      (own_all f p.terms here are (λ t. not (is_link_between e f t) || has_flip flip t) (λ t h. ap (λ (c : Bool). not c || has_flip flip t) (link_none t h)))
      (pairs_alike (outweighs e f here) (outweighs e f p.terms) (lines_on p.segs f) outweighs_own)
    where
      by_parts : (a b c d k c' d' k' : Bool) → c ≡ c' → d ≡ d' → k ≡ k' → (a && b && (c && d) && k) ≡ (a && b && (c' && d') && k')
      by_parts a b c d k c' d' k' h1 h2 h3 = cc

-- A division.

module _ (p : ProblemParts) (e : SegId) (here : List Term) (are : AreTermsOn e p.terms here) where
  on_none : (x : Term → Bool) (a b : LineId) (t : Term) → is_on e t ≡ false → (x t && is_on e t && is_of_lines a b t) ≡ false
  on_none x a b t h = ap (λ (c : Bool). x t && c && is_of_lines a b t) h ∙ ap (λ (c : Bool). c && is_of_lines a b t) (and_none (x t))

  against_none : (a b : LineId) (t : Term) → is_on e t ≡ false → is_against e a b t ≡ false
  against_none a b (Side seg first second w) h = by_test (seg.0 == e.0) h
    where
      by_test : (c : Bool) → (c || c) ≡ false → (c && first.0 == b.0 && second.0 == a.0) ≡ false
      by_test true k = absurd (true≢false k)
      by_test false k = refl
  against_none a b (Link seg other flip x y w) h = ap (λ (c : Bool). c && are_these x y a b) h
  against_none a b (Apart seg other x y w) h = ap (λ (c : Bool). c && are_these x y a b) h

  most_own : most_by_lines here e (lines_on p.segs e) ≡ most_apart p.segs p.terms e
  most_own =
      most_alike (λ a b. weight_where (λ t. is_apart t && is_on e t && is_of_lines a b t) here) (λ a b. weight_where (λ t. is_apart t && is_on e t && is_of_lines a b t) p.terms) (lines_on p.segs e)
      (λ a b. own_weight e p.terms here are (λ t. is_apart t && is_on e t && is_of_lines a b t) (on_none is_apart a b))

  part_own : (a b : LineId) → can_part (most_by_lines here e (lines_on p.segs e)) here e a b ≡ can_part (most_apart p.segs p.terms e) p.terms e a b
  part_own a b =
      by_parts (list_all (λ t. not (is_against e a b t)) here) (list_all (λ t. not (is_against e a b t)) p.terms)
      (most_by_lines here e (lines_on p.segs e)) (most_apart p.segs p.terms e)
      (weight_where (λ t. is_side t && is_on e t && is_of_lines a b t) here) (weight_where (λ t. is_side t && is_on e t && is_of_lines a b t) p.terms)
      (own_all e p.terms here are (λ t. not (is_against e a b t)) (λ t h. ap not (against_none a b t h)))
      most_own
      (own_weight e p.terms here are (λ t. is_side t && is_on e t && is_of_lines a b t) (on_none is_side a b))
    where
      by_parts : (x y : Bool) (m n i j : ℕ) → x ≡ y → m ≡ n → i ≡ j → (x && nat_le (2 * m) i) ≡ (y && nat_le (2 * n) j)
      by_parts x y m n i j h1 h2 h3 = cc

  pub divides_own : (group : List LineId) → divides_by here e (lines_on p.segs e) group ≡ divide_applies p e group
  divides_own group =
      ap (λ (c : Bool). is_group (lines_on p.segs e) group && c)
      (all_alike (λ a. list_all (can_part (most_by_lines here e (lines_on p.segs e)) here e a) (others (lines_on p.segs e) group))
      (λ a. list_all (can_part (most_apart p.segs p.terms e) p.terms e a) (others (lines_on p.segs e) group)) group
      (λ a. all_alike (can_part (most_by_lines here e (lines_on p.segs e)) here e a) (can_part (most_apart p.segs p.terms e) p.terms e a) (others (lines_on p.segs e) group) (part_own a)))

  closure_own : (a : LineId) → group_by here e (lines_on p.segs e) a ≡ group_of p e a
  closure_own a =
      ap (group_if (lines_on p.segs e))
      (grown_alike (most_by_lines here e (lines_on p.segs e)) (most_apart p.segs p.terms e) here p.terms e (lines_on p.segs e) part_own (length (lines_on p.segs e)) (a ∷ []))

  pub groups_own : (lines : List LineId) → first_group (group_by here e (lines_on p.segs e)) lines ≡ first_group (group_of p e) lines
  groups_own [] = refl
  groups_own (a ∷ lines) =
      ap (λ (o : Option (List LineId)). let r : Option (List LineId) = elim o as (λ _. Option (List LineId)) [ None ↦ first_group (group_by here e (lines_on p.segs e)) lines | Some group ↦ Some group ] in r) (closure_own a)
      ∙ ap (λ (o : Option (List LineId)). let r : Option (List LineId) = elim (group_of p e a) as (λ _. Option (List LineId)) [ None ↦ o | Some group ↦ Some group ] in r) (groups_own lines)

-- The same as it is read.

pub flip_own : (segs : List (List LineId)) (listing : Listing) (e f : SegId) (here given : List Term) (into_lines lines : List LineId) (flip : Option Bool) → AreTermsOn f listing.terms here
    → given ≡ here → into_lines ≡ lines_on segs e → lines ≡ lines_on segs f → flip ≡ flip_by given into_lines lines e f
    → option_map (λ (q : Bool). Merge e f q) flip ≡ merge_of (parts_of segs listing) e f
flip_own segs listing e f here given into_lines lines flip are is_given is_into is_lines is_flip =
    ap (option_map (λ (q : Bool). Merge e f q)) (is_flip ∙ (ap (λ (ts : List Term). flip_by ts into_lines lines e f) is_given
    ∙ (ap (λ (ls : List LineId). flip_by here ls lines e f) is_into ∙ ap (λ (ls : List LineId). flip_by here (lines_on segs e) ls e f) is_lines)))
    ∙ by_tests (merges_by here (lines_on segs e) (lines_on segs f) e f false) (merges_by here (lines_on segs e) (lines_on segs f) e f true)
    (merge_applies (parts_of segs listing) e f false) (merge_applies (parts_of segs listing) e f true)
    (merges_own (parts_of segs listing) e f here are false) (merges_own (parts_of segs listing) e f here are true)
  where
    by_tests : (a b c d : Bool) → a ≡ c → b ≡ d
        → option_map (λ (q : Bool). Merge e f q) (if a then Some false else if b then Some true else None) ≡ (if c then Some (Merge e f false) else if d then Some (Merge e f true) else None)
    by_tests a b c d h k =
        simple a b ∙ (ap (λ (x : Bool). if x then Some (Merge e f false) else if b then Some (Merge e f true) else None) h
        ∙ ap (λ (x : Bool). if c then Some (Merge e f false) else if x then Some (Merge e f true) else None) k)
      where
        simple : (a b : Bool) → option_map (λ (q : Bool). Merge e f q) (if a then Some false else if b then Some true else None) ≡ (if a then Some (Merge e f false) else if b then Some (Merge e f true) else None)
        simple true b = refl
        simple false true = refl
        simple false false = refl

pub merge_own : (segs : List (List LineId)) (listing : Listing) (e f : SegId) (flip : Bool) (here given : List Term) (into_lines lines : List LineId) (r : Bool) → AreTermsOn f listing.terms here
    → given ≡ here → into_lines ≡ lines_on segs e → lines ≡ lines_on segs f → r ≡ merges_by given into_lines lines e f flip → r ≡ merge_applies (parts_of segs listing) e f flip
merge_own segs listing e f flip here given into_lines lines r are is_given is_into is_lines is_r =
    is_r ∙ (ap (λ (ts : List Term). merges_by ts into_lines lines e f flip) is_given
    ∙ (ap (λ (ls : List LineId). merges_by here ls lines e f flip) is_into ∙ (ap (λ (ls : List LineId). merges_by here (lines_on segs e) ls e f flip) is_lines
    ∙ merges_own (parts_of segs listing) e f here are flip)))

pub divide_own : (segs : List (List LineId)) (listing : Listing) (e : SegId) (group : List LineId) (here given : List Term) (lines : List LineId) (r : Bool) → AreTermsOn e listing.terms here
    → given ≡ here → lines ≡ lines_on segs e → r ≡ divides_by given e lines group → r ≡ divide_applies (parts_of segs listing) e group
divide_own segs listing e group here given lines r are is_given is_lines is_r =
    is_r ∙ (ap (λ (ts : List Term). divides_by ts e lines group) is_given
    ∙ (ap (λ (ls : List LineId). divides_by here e ls group) is_lines ∙ divides_own (parts_of segs listing) e here are group))

pub group_own : (segs : List (List LineId)) (listing : Listing) (e : SegId) (here given : List Term) (lines : List LineId) (r : Option (List LineId)) → AreTermsOn e listing.terms here
    → given ≡ here → lines ≡ lines_on segs e → r ≡ first_group (group_by given e lines) lines → r ≡ first_group (group_of (parts_of segs listing) e) (lines_on segs e)
group_own segs listing e here given lines r are is_given is_lines is_r =
    is_r ∙ (ap (λ (ts : List Term). first_group (group_by ts e lines) lines) is_given
    ∙ (ap (λ (ls : List LineId). first_group (group_by here e ls) ls) is_lines ∙ groups_own (parts_of segs listing) e here are (lines_on segs e)))

-- A Link on the segment waits.

link_here : (merges : List (ℕ × ℕ)) (e f : SegId) (here : List Term) → AllByRecursion (LinkWaits merges) here → list_any (is_link_between e f) here ≡ true → has_merge merges e.0 f.0 ≡ true
link_here merges e f [] all h = absurd (true≢false (sym h))
link_here merges e f (t ∷ here) all h = elim (either_true (is_link_between e f t) (list_any (is_link_between e f) here) h) [
  | inl first ↦ one t all.0 first
  | inr later ↦ link_here merges e f here all.1 later
]
  where
    one : (u : Term) → LinkWaits merges u → is_link_between e f u ≡ true → has_merge merges e.0 f.0 ≡ true
    one (Side seg first second w) wait k = absurd (true≢false (sym k))
    one (Link seg other flip a b w) wait k = elim (either_true (seg.0 == e.0 && other.0 == f.0) (seg.0 == f.0 && other.0 == e.0) k) [
      | inl m ↦ (let parts = both_true (seg.0 == e.0) (other.0 == f.0) m in
          sym (ap (λ (n : ℕ). has_merge merges n other.0) (eqb-true seg.0 e.0 parts.0) ∙ ap (has_merge merges e.0) (eqb-true other.0 f.0 parts.1)) ∙ wait.0)
      | inr m ↦ (let parts = both_true (seg.0 == f.0) (other.0 == e.0) m in
          sym (ap (λ (n : ℕ). has_merge merges n seg.0) (eqb-true other.0 e.0 parts.1) ∙ ap (has_merge merges e.0) (eqb-true seg.0 f.0 parts.0)) ∙ wait.1)
    ]
    one (Apart seg other a b w) wait k = absurd (true≢false (sym k))

link_off : (e f s : SegId) → (e.0 ≡ s.0) ⊎ (f.0 ≡ s.0) → (t : Term) → is_on s t ≡ false → is_link_between e f t ≡ false
link_off e f s (inl same) t h =
    let off : is_on e t ≡ false = ap (λ (n : ℕ). (seg_of t).0 == n || (other_of t).0 == n) same ∙ h in
    ap (λ (c : Bool). is_link t && c) (between_turned t e f ∙ between_off f e t off) ∙ and_none (is_link t)
  where
    between_turned : (u : Term) (x y : SegId) → is_between u x.0 y.0 ≡ is_between u y.0 x.0
    between_turned (Side seg first second w) x y = refl
    between_turned (Link seg other flip a b w) x y = swapped (seg.0 == x.0 && other.0 == y.0) (seg.0 == y.0 && other.0 == x.0)
      where
        swapped : (a b : Bool) → (a || b) ≡ (b || a)
        swapped true true = refl
        swapped true false = refl
        swapped false true = refl
        swapped false false = refl
    between_turned (Apart seg other a b w) x y = swapped (seg.0 == x.0 && other.0 == y.0) (seg.0 == y.0 && other.0 == x.0)
      where
        swapped : (a b : Bool) → (a || b) ≡ (b || a)
        swapped true true = refl
        swapped true false = refl
        swapped false true = refl
        swapped false false = refl
link_off e f s (inr same) t h =
    let off : is_on f t ≡ false = ap (λ (n : ℕ). (seg_of t).0 == n || (other_of t).0 == n) same ∙ h in
    ap (λ (c : Bool). is_link t && c) (between_off e f t off) ∙ and_none (is_link t)

pub links_wait : (terms here given : List Term) (s : SegId) (merges : List (ℕ × ℕ)) → AreTermsOn s terms here → given ≡ here → All (LinkWaits merges) given → LinksWait terms s merges
links_wait terms here given s merges are is_given all e f ends h =
    let these : All (LinkWaits merges) here = subst (All (LinkWaits merges)) is_given all in
    link_here merges e f here (recursion_from_All (LinkWaits merges) here these)
    (own_any s terms here are (is_link_between e f) (link_off e f s ends) ∙ h)

-- Terms of a problem are light, and its lines rise.

light_term : (segs : List (List LineId)) (t : Term) → IsTerm segs t → is_light t ≡ true
light_term segs (Side seg first second w) fits = le-leb w 256000 fits.weight.1
light_term segs (Link seg other flip a b w) fits = le-leb w 256000 fits.weight.1
light_term segs (Apart seg other a b w) fits = le-leb w 256000 fits.weight.1

pub light_here : (p : ProblemParts) (s : SegId) (here : List Term) → IsProblem p → AreTermsOn s p.terms here → list_all is_light here ≡ true
unfolding bit
light_here p s here is are =
    all_by_any is_light here ∙ ap not (none_counted (λ t. not (is_light t)) here
    (are.sums (λ t. bit (not (is_light t))) ∙ none_heavy p.terms (recursion_from_All (IsTerm p.segs) p.terms is.terms)))
  where
    by_test : (t : Term) (c : Bool) → is_light t ≡ true → (if c then bit (not (is_light t)) else 0) ≡ 0
    by_test t true h = ap (λ (b : Bool). bit (not b)) h
    by_test t false h = refl

    none_heavy : (ts : List Term) → AllByRecursion (IsTerm p.segs) ts → sum_by (λ t. if is_on s t then bit (not (is_light t)) else 0) ts ≡ 0
    none_heavy [] all = refl
    none_heavy (t ∷ ts) all =
        omega (arith, sum_by-cons (λ u. if is_on s u then bit (not (is_light u)) else 0) t ts, by_test t (is_on s t) (light_term p.segs t all.0), none_heavy ts all.1)

pub light_given : (segs : List (List LineId)) (listing : Listing) (s : SegId) (here given : List Term) → IsProblem (parts_of segs listing) → AreTermsOn s listing.terms here → given ≡ here
    → list_all is_light given ≡ true
light_given segs listing s here given is are same = ap (list_all is_light) same ∙ light_here (parts_of segs listing) s here is are

pub rising_given : (segs : List (List LineId)) (listing : Listing) (s : SegId) (lines : List LineId) → IsProblem (parts_of segs listing) → lines ≡ lines_on segs s → AreRising lines
rising_given segs listing s lines is same = subst AreRising (sym same) (by_test (nat_lt s.0 (length segs)) refl)
  where
    by_test : (c : Bool) → nat_lt s.0 (length segs) ≡ c → AreRising (lines_on segs s)
    by_test true h = All-get_or AreRising segs s.0 [] (ltb-true s.0 (length segs) h) is.rising
    by_test false h = subst AreRising (sym (get_or_past segs s.0 [] (ltb-false s.0 (length segs) h))) tt
