use Rattle.std.proofs.Common.{◌+◌, ◌-◌, ◌*◌}
use Rattle.order_proof.specs.Plain.{plain}
use Rattle.order_proof.proofs.ReadTrees.{HasCasesSoFar}
use Rattle.order_proof.proofs.reading.+tree_reading.Given as goal

abbrev pub decreases-read_cases : goal.decreases-read_cases
decreases-read_cases l = 2 * l.room

abbrev pub decreases-read_tree : goal.decreases-read_tree
decreases-read_tree l = 2 * l.room + 1

abbrev pub invariant-read_cases-loop : goal.invariant-read_cases-loop
invariant-read_cases-loop l = HasCasesSoFar (l.room - 1) l.count l.counter (plain l.fn.tree) (plain l.tree) l.text l.rest
