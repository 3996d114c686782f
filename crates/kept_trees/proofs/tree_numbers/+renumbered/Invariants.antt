use Rattle.std.proofs.Common.{◌≡◌, map, take}
use Rattle.order_proof.specs.Plain.{plain}
use Rattle.kept_trees.specs.Renumbered.{renumbered_case}
use Rattle.kept_trees.proofs.tree_numbers.+renumbered.Given as goal

-- the cases so far have their numbers
abbrev pub invariant-renumbered_cases-loop-child : goal.invariant-renumbered_cases-loop-child
invariant-renumbered_cases-loop-child l = map (λ c. (c.0, plain c.1)) l.cases.items ≡ map (renumbered_case l.part l.numbers) (take l.child-index l.children)
