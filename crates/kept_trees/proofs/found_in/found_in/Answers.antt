use Rattle.std.proofs.Common.{◌∙◌, List}
use Rattle.map_base.specs.declared.ids.LineId.{LineId}
use Rattle.order_proof.specs.Plain.{PlainPartTree}
use Rattle.kept_trees.specs.Results.{PartResult}
use Rattle.kept_trees.proofs.found_in.found_in.Goals as goal

pub returns : goal.returns
returns c =
    let own = c.args.own.now in
    let made : PlainPartTree → List (List LineId) → PartResult = λ tree lists. record {
      complete = own.complete;
      target = own.target;
      tree = tree;
      lists = lists;
      branches = own.branches;
    } in
    let lists = c.of.ensures ∙ c.in_ok-lists.ensures ∙ c.as_slice.ensures in
    λ i. made (c.in_ok-tree.ensures i) (lists i)
