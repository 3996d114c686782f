use Rattle.std.proofs.lemmas.Result.{IfOk-weaker}
use Rattle.order_values.specs.DualTrees.{plain_dual}
use Rattle.order_proof.specs.Trees.{IsProofDual}
use Rattle.dual_ascent.specs.Shown.{IsShown}
use Rattle.kept_trees.specs.Finding.{result_found}
use Rattle.order_tests.proofs.DualTrees.{proof_dual}
use Rattle.order_tests.proofs.dual_tests.searched_by.Goals as goal

pub returns : goal.returns
returns t c =
    IfOk-weaker c.search.result (λ f. IsShown c.args.problem.now c.from.result (result_found f)) (λ f. IsProofDual (plain_dual f.tree))
    (λ f h. proof_dual c.args.problem.now c.from.result f h) c.search.ensures.shown
