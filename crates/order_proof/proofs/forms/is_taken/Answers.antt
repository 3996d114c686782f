use Rattle.std.proofs.Common.{List, ap, sym, ◌∙◌}
use Rattle.map_base.specs.declared.ids.LineId.{LineId}
use Rattle.order_proof.specs.declared.tree.Tree.{Tree}
use Rattle.order_proof.specs.Plain.{PlainTree, plain, plain_children}
use Rattle.order_proof.specs.Trees.{lines_of, is_among}
use Rattle.order_proof.specs.Begun.{cases_in}
use Rattle.order_proof.proofs.Views.{plain-Split, plain-Close}
use Rattle.order_proof.proofs.forms.is_taken.Goals as goal

pub returns-in-Close : goal.returns-in-Close
returns-in-Close c = ap (λ (t : PlainTree). is_among (lines_of (cases_in t)) c.args.line) (sym (ap plain c.in-Close.is ∙ plain-Close c.in-Close.prices))

pub returns-in-Split : goal.returns-in-Split
returns-in-Split c =
    c.is_among.ensures ∙ ap (λ (cs : List (LineId × Tree)). is_among (lines_of (plain_children cs)) c.args.line) c.as_slice.ensures.value
    ∙ ap (λ (t : PlainTree). is_among (lines_of (cases_in t)) c.args.line) (sym (ap plain c.in-Split.is ∙ plain-Split c.in-Split.seg c.in-Split.children))
