-- Trees that a search by dual prices finds may stand in a proof.
use Rattle.std.proofs.Common.{ℕ}
use Rattle.order_values.specs.DualTrees.{PlainDual, fork, stop, plain_dual}
use Rattle.order_model.specs.declared.problem.ProblemParts.{ProblemParts}
use Rattle.order_proof.specs.Trees.{IsDualTree, IsProofDual}
use Rattle.dual_ascent.specs.Shown.{IsListed, IsShown}
use Rattle.kept_trees.specs.declared.dual_found.DualFound.{DualFound}
use Rattle.kept_trees.specs.Finding.{result_found}

is_dual : (t : PlainDual) → IsListed t → IsDualTree t
is_dual (fork seg a b first second) h = (is_dual first h.0, is_dual second h.1)
is_dual (stop prices) h = h

pub proof_dual : (p : ProblemParts) (budget : ℕ) (f : DualFound) → IsShown p budget (result_found f) → IsProofDual (plain_dual f.tree)
proof_dual p budget f h = record { is_tree = is_dual (plain_dual f.tree) h.listed; depth = h.shallow }
