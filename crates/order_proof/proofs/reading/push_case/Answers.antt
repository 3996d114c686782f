use Rattle.std.proofs.Common.{rules}
use Rattle.order_proof.specs.declared.tree.Tree.{the_lemmas}
use Rattle.order_proof.specs.Plain.{plain}
use Rattle.order_proof.specs.Begun.{cases_in, with_case}
use Rattle.order_proof.proofs.Children.{pushed_closed, pushed_split}
use Rattle.order_proof.proofs.reading.push_case.Goals as goal

pub returns-in-Close : goal.returns-in-Close
returns-in-Close c =
    pushed_closed c.args.tree.now c.in-Close.prices (with_case (cases_in (plain c.args.tree.now)) c.args.line (plain c.args.child.value)) c.in-Close.is

pub returns-in_ok-push-in-Split : goal.returns-in_ok-push-in-Split
returns-in_ok-push-in-Split c =
    pushed_split c.args.tree.now _ c.in-Split.seg c.in-Split.children c.push.new.self c.args.line c.args.child.value c.into_inner.result _ c.in-Split.is
    c.in_ok-push-in-Split.ensures.items c.into_inner.ensures (search (rules, the_lemmas)) (search (rules, the_lemmas))
