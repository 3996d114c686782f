use Rattle.std.proofs.Common.{◌≡◌, ap, ◌∙◌}
use Rattle.order_proof.specs.Plain.{plain, split, plain_children}
use Rattle.order_proof.proofs.Views.{plain-Split}
use Rattle.order_proof.proofs.Written.{split_then_cases}
use Rattle.order_proof.proofs.writing.+put_tree.Goals as goal

pub loop-line-init : goal.loop-line-init
loop-line-init t c =
    let is : plain c.args.tree.now ≡ split c.in-Split.seg (plain_children c.in-Split.children.items) = ap plain c.in-Split.is ∙ plain-Split c.in-Split.seg c.in-Split.children in
    split_then_cases c.args.out.now.items c.put_split.new.out.items (plain c.args.tree.now) c.in-Split.seg c.len.result c.in-Split.children.items c.deref-line-items.result.now is (cc) c.deref-line-items.ensures.value (c.in_ok-put_split-in-Split.ensures {u = tt})
