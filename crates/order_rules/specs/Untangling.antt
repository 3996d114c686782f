-- Rules that make a problem smaller, and the list of them that untangling does.
use Rattle.std.specs.Prelude.{ℕ, zero, suc, ◌+◌, Bool, true, false, List, [], ◌∷◌, length, map, sum_by, IsTrue, Option, Some, None, if◌then◌else◌}
use Rattle.std.specs.List.{range_with_len}
use Rattle.map_base.specs.declared.ids.SegId.{SegId}
use Rattle.map_base.specs.declared.ids.LineId.{LineId}
use Rattle.order_values.specs.declared.rule.Rule.{Rule}
use Rattle.order_values.specs.declared.rule.Rule.TheVariants.{Merge, Divide}
use Rattle.order_model.specs.declared.problem.ProblemParts.{ProblemParts}
use Rattle.order_model.specs.Problems.{lines_on, choices}
use Rattle.order_rules.specs.Merging.{merge_applies, merged}
use Rattle.order_rules.specs.Dividing.{are_none, others, divide_applies, divided, closure}

-- the rule applies to the problem
abbrev pub rule_applies : ProblemParts → Rule → Bool
rule_applies p (Merge into from flip) = merge_applies p into from flip
rule_applies p (Divide seg first) = divide_applies p seg first

-- the problem after the rule
abbrev pub after_rule : ProblemParts → Rule → ProblemParts
after_rule p (Merge into from flip) = merged p into from flip
after_rule p (Divide seg first) = divided p seg first

-- the problem after these rules, one by one
abbrev pub after_rules : ProblemParts → List Rule → ProblemParts
after_rules p [] = p
after_rules p (r ∷ rules) = after_rules (after_rule p r) rules

-- each of these rules applies to the problem that those before it make
abbrev pub ApplyInTurn : ProblemParts → List Rule → Type 0
ApplyInTurn p [] = Unit {0}
ApplyInTurn p (r ∷ rules) = IsTrue (rule_applies p r) × ApplyInTurn (after_rule p r) rules

-- the number of the first of these rules that does not apply in its turn, counted from k
abbrev pub first_refused : ℕ → ProblemParts → List Rule → Option ℕ
first_refused k p [] = None
first_refused k p (r ∷ rules) = if rule_applies p r then first_refused (k + 1) (after_rule p r) rules else Some k

-- the one, or else the other
abbrev pub or_else : Option Rule → Option Rule → Option Rule
or_else None other = other
or_else (Some r) other = Some r

-- the first rule that one of these has
abbrev pub first_some : {A : Type 0} → (A → Option Rule) → List A → Option Rule
first_some f [] = None
first_some f (x ∷ xs) = or_else (f x) (first_some f xs)

-- the numbers of all segments
abbrev pub all_segments : ProblemParts → List SegId
all_segments p = map (λ (i : ℕ). record { 0 = i }) (range_with_len 0 (length p.segs))

-- the merge of two segments that applies
abbrev pub merge_of : ProblemParts → SegId → SegId → Option Rule
merge_of p e f = if merge_applies p e f false then Some (Merge e f false) else if merge_applies p e f true then Some (Merge e f true) else None

-- of the merges that apply the one whose two segments are the least
abbrev pub first_merge : ProblemParts → Option Rule
first_merge p = first_some (λ e. first_some (merge_of p e) (all_segments p)) (all_segments p)

-- the division of a segment by the least group of a line, where that is not all its lines
abbrev pub divide_of : ProblemParts → SegId → LineId → Option Rule
divide_of p e a = if are_none (others (lines_on p.segs e) (closure p e a)) then None else Some (Divide e (closure p e a))

-- of these divisions the one of the least segment and line
abbrev pub first_divide : ProblemParts → Option Rule
first_divide p = first_some (λ e. first_some (divide_of p e) (lines_on p.segs e)) (all_segments p)

-- what untangling does next: the least merge, or the least division where no merge applies
abbrev pub next_rule : ProblemParts → Option Rule
next_rule p = or_else (first_merge p) (first_divide p)

-- at most so many rules, each the next one, and the problem that they make
abbrev pub untangled : ℕ → ProblemParts → List Rule × ProblemParts
untangled zero p = ([], p)
untangled (suc n) p = elim (next_rule p) as (λ _. List Rule × ProblemParts) [
  | None ↦ ([], p)
  | Some r ↦ let rest = untangled n (after_rule p r) in (r ∷ rest.0, rest.1)
]

-- the untangling of a problem. Each rule takes away at least one choice, so there are no more rules than choices
abbrev pub untangling : ProblemParts → List Rule × ProblemParts
untangling p = untangled (sum_by choices p.segs) p
