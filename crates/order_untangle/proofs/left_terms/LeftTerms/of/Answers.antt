use Rattle.order_untangle.proofs.LeftLemmas.{listing_is, first_left}
use Rattle.order_untangle.proofs.left_terms.LeftTerms.of.Goals as goal
use Rattle.std.proofs.Common.{length, ◌∙◌, ap, map, Some, List}
use Rattle.order_model.specs.declared.term.Term.{Term}
use Rattle.order_untangle.specs.LeftTerms.{left}

pub returns : goal.returns
returns c =
    listing_is (length c.in_ok-on.on.items) c.args.count (left c.in_ok-cells.cells.items) c.args.terms.items c.in_ok-on.ensures.count
    (first_left c.in_ok-cells.cells.items c.args.terms.items (c.in_ok-cells.ensures ∙ ap (λ (ts : List Term). map Some ts) c.as_slice-2.ensures.value))
