-- Rules that apply are in range, and the lines of segments stay in range.
use Rattle.std.proofs.Common.{◌≡◌, ℕ, suc, ◌≤◌, ◌==◌, true, not, List, [], ◌∷◌, refl, arith, eq-eqb}
use Rattle.std.specs.Prelude.{slice_set}
use Rattle.std.specs.List.{All, AllByRecursion}
use Rattle.std.proofs.lemmas.Bool.{or_left, or_right}
use Rattle.std.proofs.lemmas.List.Elements.{All-contains, All-filter, All-from_recursion, All-get_or, All-nil, All-push, All-set}
use Rattle.map_base.specs.declared.ids.LineId.{LineId}
use Rattle.graph_core.specs.Consistent.{AreRising}
use Rattle.order_values.specs.declared.rule.Rule.{Rule}
use Rattle.order_values.specs.declared.rule.Rule.TheVariants.{Merge, Divide}
use Rattle.order_model.specs.declared.problem.ProblemParts.{ProblemParts}
use Rattle.order_model.specs.Problems.{lines_on, IsProblem}
use Rattle.order_model.specs.Places.{has_line}
use Rattle.order_model.proofs.PrefixLemmas.{contains_placed}
use Rattle.order_proof.specs.Forms.{most_id}
use Rattle.order_proof.specs.Ranges.{AreRisingLines, IsRuleInRange}
use Rattle.order_rules.specs.Dividing.{others}
use Rattle.order_rules.specs.Untangling.{rule_applies, after_rule, after_rules, ApplyInTurn}
use Rattle.order_rules.proofs.DivideRule.{divides}
use Rattle.order_rules.proofs.MergeRule.{merges}
use Rattle.order_rules.proofs.RuleLaws.{keeps}
use Rattle.graph_maps.proofs.TreeRanges.{starts_at_0, StartsAt}

-- each line of a list is one that the list has
each_own : (Q : LineId → Type 0) (xs : List LineId) → ((a : LineId) → has_line xs a ≡ true → Q a) → AllByRecursion Q xs
each_own Q [] h = tt
each_own Q (x ∷ xs) h = (
  h x (or_left (x.0 == x.0) (has_line xs x) (eq-eqb x.0 x.0 refl)),
  each_own Q xs (λ a k. h a (or_right (x.0 == a.0) (has_line xs a) k)),
)

-- what all lines of segments are, all are after a rule
kept_lines : (Q : LineId → Type 0) (p : ProblemParts) (r : Rule) → IsProblem p → rule_applies p r ≡ true → All (All Q) p.segs → All (All Q) (after_rule p r).segs
kept_lines Q p (Merge into from flip) is h all = All-set (All Q) p.segs from.0 [] (All-nil Q) all
kept_lines Q p (Divide seg first) is h all =
    let ok = divides p seg first is h in
    let lines : List LineId = lines_on p.segs seg in
    let own : All Q lines = All-get_or (All Q) p.segs seg.0 [] ok.known all in
    let group : All Q first = All-from_recursion Q first (each_own Q first (λ a k. All-contains Q lines a own (contains_placed lines a (ok.within a k)))) in
    let rest : All Q (others lines first) = All-filter (λ (b : LineId). not (has_line first b)) Q lines own in
    All-push (All Q) (slice_set p.segs seg.0 first) (others lines first) (All-set (All Q) p.segs seg.0 first group all) rest

pub lines_kept : (Q : LineId → Type 0) (p : ProblemParts) (rules : List Rule) → IsProblem p → ApplyInTurn p rules → All (All Q) p.segs → All (All Q) (after_rules p rules).segs
lines_kept Q p [] is apply all = all
lines_kept Q p (r ∷ rules) is apply all = lines_kept Q (after_rule p r) rules (keeps p r is apply.0).problem apply.1 (kept_lines Q p r is apply.0 all)

rising_lines : (least : ℕ) (lines : List LineId) → AreRising lines → AllByRecursion (λ (a : LineId). a.0 ≤ most_id) lines
    → StartsAt (λ (a : LineId). a.0) least lines → AreRisingLines least lines
rising_lines least [] rising range from = tt
rising_lines least (a ∷ []) rising range from = (from, range.0, tt)
rising_lines least (a ∷ b ∷ rest) rising range from = (from, range.0, rising_lines (suc a.0) (b ∷ rest) rising.1 range.1 (omega (arith, rising.0)))

-- a line's number is in range
abbrev pub IsLineInRange : LineId → Type 0
IsLineInRange a = a.0 ≤ most_id

rule_range : (p : ProblemParts) (r : Rule) → IsProblem p → rule_applies p r ≡ true → All (All IsLineInRange) p.segs → IsRuleInRange r
rule_range p (Merge into from flip) is h all =
    let known = (merges p into from flip is h).known in
    (omega (arith, known.e_known, is.few_choices), omega (arith, known.f_known, is.few_choices))
rule_range p (Divide seg first) is h all =
    let ok = divides p seg first is h in
    let lines : List LineId = lines_on p.segs seg in
    let own : All IsLineInRange lines = All-get_or (All IsLineInRange) p.segs seg.0 [] ok.known all in
    let group = each_own IsLineInRange first (λ a k. All-contains IsLineInRange lines a own (contains_placed lines a (ok.within a k))) in
    (omega (arith, ok.known, is.few_choices), rising_lines 0 first ok.group_rising group (starts_at_0 (λ (a : LineId). a.0) first))

pub rules_range : (p : ProblemParts) (rules : List Rule) → IsProblem p → ApplyInTurn p rules → All (All IsLineInRange) p.segs → AllByRecursion IsRuleInRange rules
rules_range p [] is apply all = tt
rules_range p (r ∷ rules) is apply all =
    (rule_range p r is apply.0 all, rules_range (after_rule p r) rules (keeps p r is apply.0).problem apply.1 (kept_lines IsLineInRange p r is apply.0 all))
