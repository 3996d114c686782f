use Rattle.std.proofs.Common.{List}
use Rattle.map_base.specs.declared.ids.LineId.{LineId}
use Rattle.order_model.specs.declared.term.Term.{Term}
use Rattle.order_model.specs.Gathering.{part_lists}
use Rattle.order_model.specs.PartTerms.{no_term}
use Rattle.order_model.proofs.Grouping.{AreGroupable, groupable, no_groups_yet, group_known, grouped_more}
use Rattle.order_model.proofs.part_terms.terms_by_part.Goals as goal

pub loop-n-init : goal.loop-n-init
loop-n-init c = no_groups_yet c.args.parts.now c.in_ok-groups.groups.items c.in_ok-groups.ensures

pub add_term-requires-clause-known : goal.add_term-requires-clause-known
add_term-requires-clause-known c =
    let segs : List (List LineId) = c.args.problem.now.segs in
    let terms : List Term = c.terms-terms.result.now in
    let ok : AreGroupable segs (part_lists c.args.parts.now) c.args.numbers.now terms = groupable segs (part_lists c.args.parts.now) c.args.numbers.now c.args.problem.now.terms terms
    c.terms-terms.ensures.list c.terms-terms.ensures.fits.terms c.requires.parts c.requires.numbers in
    group_known segs c.args.parts.now c.args.numbers.now terms ok c.loop-n.n no_term c.loop-n-test.true c.loop-n.groups.items c.loop-n.invariant

pub loop-n-preserved : goal.loop-n-preserved
loop-n-preserved c =
    let segs : List (List LineId) = c.args.problem.now.segs in
    let terms : List Term = c.terms-terms.result.now in
    let ok : AreGroupable segs (part_lists c.args.parts.now) c.args.numbers.now terms = groupable segs (part_lists c.args.parts.now) c.args.numbers.now c.args.problem.now.terms terms
    c.terms-terms.ensures.list c.terms-terms.ensures.fits.terms c.requires.parts c.requires.numbers in
    grouped_more segs c.args.parts.now c.args.numbers.now terms ok c.loop-n.n no_term c.loop-n-test.true c.loop-n.groups.items c.loop-n.invariant
    c.add_term.new.groups.items c.in_ok-add_term.ensures
