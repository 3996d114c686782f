-- Trees of which the first line is read, and cases one after the other.
use Rattle.std.specs.Prelude.{◌≡◌, ℕ, List}
use Rattle.map_base.specs.declared.ids.LineId.{LineId}
use Rattle.order_values.specs.DualTrees.{PlainDual, fork, stop, plain_dual, fork_depth}
use Rattle.order_proof.specs.declared.node_line.NodeLine.{NodeLine}
use Rattle.order_proof.specs.declared.dual_line.DualLine.{DualLine}
use Rattle.order_proof.specs.declared.dual_line.DualStart.{DualStart}
use Rattle.order_proof.specs.Plain.{PlainTree, split, close, Cases, no_case, case_of}
use Rattle.order_proof.specs.Readers.{AreCasesOf}

-- the cases of a tree: none of a closed one
abbrev pub cases_in : PlainTree → Cases
cases_in (split seg cases) = cases
cases_in (close prices) = no_case

-- a tree with these cases in place of its own
abbrev pub with_cases : PlainTree → Cases → PlainTree
with_cases (split seg old) cases = split seg cases
with_cases (close prices) cases = close prices

-- cases with one more behind them
abbrev pub with_case : Cases → LineId → PlainTree → Cases
with_case no_case line tree = case_of line tree no_case
with_case (case_of a first rest) line tree = case_of a first (with_case rest line tree)

-- the first line of a tree with so many cases
abbrev pub begins_with : ℕ → PlainTree → NodeLine
begins_with count (split seg cases) = NodeLine.Split seg count
begins_with count (close prices) = NodeLine.Close prices

-- only the first line is read of a tree with so many cases
abbrev pub IsBegun : ℕ → PlainTree → Type 0
IsBegun count (split seg cases) = cases ≡ no_case
IsBegun count (close prices) = count ≡ 0

-- in place of its own the tree has so many cases that stand at the front of a text
abbrev pub HasCasesOf : ℕ → ℕ → PlainTree → PlainTree → List ℕ → List ℕ → Type 0
HasCasesOf room count old new text rest = (cases : Cases) × (new ≡ with_cases old cases) × AreCasesOf room count cases text rest

-- the first line of a dual tree
abbrev pub first_line : PlainDual → DualLine
first_line (fork seg a b first second) = DualLine.Fork seg a b
first_line (stop prices) = DualLine.Stop prices

abbrev pub dual_begins_with : DualStart → DualLine
dual_begins_with (DualStart.Fork seg a b) = DualLine.Fork seg a b
dual_begins_with (DualStart.Whole tree) = first_line (plain_dual tree.value)

-- a tree that is whole by its first line has no fork
abbrev pub IsDualBegun : DualStart → Type 0
IsDualBegun (DualStart.Fork seg a b) = Unit {0}
IsDualBegun (DualStart.Whole tree) = fork_depth (plain_dual tree.value) ≡ 0
