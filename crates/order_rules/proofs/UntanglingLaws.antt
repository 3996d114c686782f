-- Untangling does rules that apply, and ends where none is left.
use Rattle.std.proofs.Common.{◌≡◌, ℕ, zero, suc, ◌≤◌, ◌==◌, Bool, true, false, cond, ◌||◌, List, [], ◌∷◌, length, Option, Some, None, refl, sym, subst, ◌∙◌, arith, eq-eqb, nat_lt}
use Rattle.std.specs.List.{AllByRecursion, sum_by}
use Rattle.std.proofs.lemmas.Bool.{or_left, ltb-true, ltb-false}
use Rattle.std.proofs.lemmas.List.{get_or_past}
use Rattle.std.proofs.lemmas.List.Elements.{All-get_or}
use Rattle.map_base.specs.declared.ids.SegId.{SegId}
use Rattle.map_base.specs.declared.ids.LineId.{LineId}
use Rattle.graph_core.specs.Consistent.{AreRising}
use Rattle.order_values.specs.declared.rule.Rule.{Rule}
use Rattle.order_values.specs.declared.rule.Rule.TheVariants.{Merge, Divide}
use Rattle.order_model.specs.declared.problem.ProblemParts.{ProblemParts}
use Rattle.order_model.specs.Problems.{lines_on, choices, IsProblem}
use Rattle.order_model.specs.Places.{has_line}
use Rattle.order_rules.specs.Merging.{merge_applies}
use Rattle.order_rules.specs.Dividing.{are_none, others, closure}
use Rattle.order_rules.specs.Untangling.{rule_applies, after_rule, after_rules, ApplyInTurn, or_else, first_some, all_segments, merge_of, first_merge, divide_of, first_divide, next_rule, untangled}
use Rattle.order_rules.proofs.RuleLaws.{keeps}
use Rattle.order_rules.proofs.Closures.{closure_applies}

some_same : (r s : Rule) → Some r ≡ Some s → r ≡ s
some_same r s h = cc

-- the first rule that one of these has is one that one of them has
first_of_some : {A : Type 0} (f : A → Option Rule) (Q : Rule → Type 0) (xs : List A) → AllByRecursion (λ x. (r : Rule) → f x ≡ Some r → Q r) xs → (r : Rule) → first_some f xs ≡ Some r → Q r
first_of_some f Q [] all r h = absurd cc
first_of_some f Q (x ∷ xs) all r h = by_first (f x) refl h (first_of_some f Q xs all.1 r)
  where
    by_first : (o : Option Rule) → f x ≡ o → or_else o (first_some f xs) ≡ Some r → (first_some f xs ≡ Some r → Q r) → Q r
    by_first None k m rest = rest m
    by_first (Some s) k m rest = all.0 r (k ∙ m)

every : {A : Type 0} (P : A → Type 0) (xs : List A) → ((x : A) → P x) → AllByRecursion P xs
every P [] h = tt
every P (x ∷ xs) h = (h x, every P xs h)

merge_of_applies : (p : ProblemParts) (e f : SegId) (r : Rule) → merge_of p e f ≡ Some r → rule_applies p r ≡ true
merge_of_applies p e f r h = by_tests (merge_applies p e f false) (merge_applies p e f true) refl refl h
  where
    by_tests : (c d : Bool) → merge_applies p e f false ≡ c → merge_applies p e f true ≡ d
        → cond c (Some (Merge e f false)) (cond d (Some (Merge e f true)) None) ≡ Some r → rule_applies p r ≡ true
    by_tests true d k m h = subst (λ (s : Rule). rule_applies p s ≡ true) (some_same (Merge e f false) r h) k
    by_tests false true k m h = subst (λ (s : Rule). rule_applies p s ≡ true) (some_same (Merge e f true) r h) m
    by_tests false false k m h = absurd cc

rising_at : (p : ProblemParts) (e : SegId) → IsProblem p → AreRising (lines_on p.segs e)
rising_at p e is = by_test (nat_lt e.0 (length p.segs)) refl
  where
    by_test : (c : Bool) → nat_lt e.0 (length p.segs) ≡ c → AreRising (lines_on p.segs e)
    by_test true h = All-get_or AreRising p.segs e.0 [] (ltb-true e.0 (length p.segs) h) is.rising
    by_test false h = subst AreRising (sym (get_or_past p.segs e.0 [] (ltb-false e.0 (length p.segs) h))) tt

divide_of_applies : (p : ProblemParts) (e : SegId) (a : LineId) → IsProblem p → has_line (lines_on p.segs e) a ≡ true → (r : Rule) → divide_of p e a ≡ Some r → rule_applies p r ≡ true
divide_of_applies p e a is on r h = by_test (are_none (others (lines_on p.segs e) (closure p e a))) refl h
  where
    by_test : (c : Bool) → are_none (others (lines_on p.segs e) (closure p e a)) ≡ c → cond c None (Some (Divide e (closure p e a))) ≡ Some r → rule_applies p r ≡ true
    by_test true k m = absurd cc
    by_test false k m = subst (λ (s : Rule). rule_applies p s ≡ true) (some_same (Divide e (closure p e a)) r m) (closure_applies p e a (rising_at p e is) on k)

-- each line of a list is one that the list has
lines_have : (Q : LineId → Type 0) (xs : List LineId) → ((a : LineId) → has_line xs a ≡ true → Q a) → AllByRecursion Q xs
lines_have Q [] h = tt
lines_have Q (x ∷ xs) h = (
  h x (or_left (x.0 == x.0) (has_line xs x) (eq-eqb x.0 x.0 refl)),
  lines_have Q xs (λ a k. h a (or_later (x.0 == a.0) (has_line xs a) k)),
)
  where
    or_later : (s t : Bool) → t ≡ true → (s || t) ≡ true
    or_later true t k = refl
    or_later false t k = k

pub next_applies : (p : ProblemParts) (r : Rule) → IsProblem p → next_rule p ≡ Some r → rule_applies p r ≡ true
next_applies p r is h = by_merge (first_merge p) refl h
  where
    merges : (s : Rule) → first_merge p ≡ Some s → rule_applies p s ≡ true
    merges s k = first_of_some (λ e. first_some (merge_of p e) (all_segments p)) (λ t. rule_applies p t ≡ true) (all_segments p)
        (every (λ e. (t : Rule) → first_some (merge_of p e) (all_segments p) ≡ Some t → rule_applies p t ≡ true) (all_segments p)
        (λ e. first_of_some (merge_of p e) (λ t. rule_applies p t ≡ true) (all_segments p)
        (every (λ f. (t : Rule) → merge_of p e f ≡ Some t → rule_applies p t ≡ true) (all_segments p) (λ f. merge_of_applies p e f)))) s k

    divides : (s : Rule) → first_divide p ≡ Some s → rule_applies p s ≡ true
    divides s k = first_of_some (λ e. first_some (divide_of p e) (lines_on p.segs e)) (λ t. rule_applies p t ≡ true) (all_segments p)
        (every (λ e. (t : Rule) → first_some (divide_of p e) (lines_on p.segs e) ≡ Some t → rule_applies p t ≡ true) (all_segments p)
        (λ e. first_of_some (divide_of p e) (λ t. rule_applies p t ≡ true) (lines_on p.segs e)
        (lines_have (λ a. (t : Rule) → divide_of p e a ≡ Some t → rule_applies p t ≡ true) (lines_on p.segs e) (λ a on. divide_of_applies p e a is on)))) s k

    by_merge : (o : Option Rule) → first_merge p ≡ o → or_else o (first_divide p) ≡ Some r → rule_applies p r ≡ true
    by_merge None k m = divides r m
    by_merge (Some s) k m = merges r (k ∙ m)

-- what untangling with enough rules gives
pub record Ends (p : ProblemParts) (u : List Rule × ProblemParts) : Type 0 where
  pub apply : ApplyInTurn p u.0
  pub last : u.1 ≡ after_rules p u.0
  pub ends : next_rule u.1 ≡ None

pub untangled_ends : (n : ℕ) (p : ProblemParts) → IsProblem p → sum_by choices p.segs ≤ n → Ends p (untangled n p)
untangled_ends zero p is few = record { apply = tt; last = refl; ends = by_next (next_rule p) refl }
  where
    by_next : (o : Option Rule) → next_rule p ≡ o → next_rule p ≡ None
    by_next None h = h
    by_next (Some r) h = absurd (omega (arith, few, (keeps p r is (next_applies p r is h)).fewer))
untangled_ends (suc n) p is few = by_next (next_rule p) refl (untangled_ends n)
  where
    by_next : (o : Option Rule) → next_rule p ≡ o → ((q : ProblemParts) → IsProblem q → sum_by choices q.segs ≤ n → Ends q (untangled n q))
        → Ends p (elim o as (λ _. List Rule × ProblemParts) [ None ↦ ([], p) | Some r ↦ let rest = untangled n (after_rule p r) in (r ∷ rest.0, rest.1) ])
    by_next None h later = record { apply = tt; last = refl; ends = h }
    by_next (Some r) h later =
        let applies = next_applies p r is h in
        let one = keeps p r is applies in
        let rest = later (after_rule p r) one.problem (omega (arith, few, one.fewer)) in
        record { apply = (applies, rest.apply); last = rest.last; ends = rest.ends }
