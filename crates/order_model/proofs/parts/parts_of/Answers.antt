use Rattle.std.proofs.Common.{◌≡◌, ◌∙◌, ℕ, List, sym, subst, length, Vec, Global}
use Rattle.std.proofs.lemmas.Result.{IfOk-weaker}
use Rattle.map_base.specs.declared.ids.SegId.{SegId}
use Rattle.map_base.specs.declared.ids.LineId.{LineId}
use Rattle.order_model.specs.declared.term.Term.{Term}
use Rattle.order_model.specs.Parts.{AreLabels, AreParts}
use Rattle.order_model.specs.Gathering.{part_lists, gathered, problem_parts}
use Rattle.order_model.proofs.PartLemmas.{labels_gatherable, gathered_are_parts}
use Rattle.order_model.proofs.OneParts.{parts_once, problem_parts_are}
use Rattle.order_model.proofs.parts.parts_of.Goals as goal

pub gathered-requires-clause-labels : goal.gathered-requires-clause-labels
gathered-requires-clause-labels c =
    rw (c.segs-segs.ensures.lists, c.as_slice.ensures.value)
    (labels_gatherable c.args.problem.now.segs c.args.problem.now.terms c.in_ok-labels.labels.items c.segs-segs.ensures.fits.terms
    (rw (c.terms.ensures.list, c.segs-segs.ensures.lists) at c.in_ok-labels.ensures))

pub returns-clause-list : goal.returns-clause-list
returns-clause-list c =
    let segs : List (List LineId) = c.args.problem.now.segs in
    let terms : List Term = c.args.problem.now.terms in
    let labels : List ℕ = c.in_ok-labels.labels.items in
    let tell : AreLabels terms (length segs) labels = rw (c.terms.ensures.list, c.segs-segs.ensures.lists) at c.in_ok-labels.ensures in
    let same : gathered segs labels (length segs) ≡ problem_parts segs terms =
    parts_once segs terms (gathered segs labels (length segs)) (problem_parts segs terms)
    (gathered_are_parts segs terms labels c.segs-segs.ensures.fits.terms tell) (problem_parts_are segs terms c.segs-segs.ensures.fits.terms) in
    let made = rw (c.segs-segs.ensures.lists, c.as_slice.ensures.value) at c.gathered.ensures in
    IfOk-weaker c.gathered.result
    (λ (ps : Vec (Vec SegId Global) Global). part_lists ps.items ≡ gathered segs labels (length segs))
    (λ (ps : Vec (Vec SegId Global) Global). part_lists ps.items ≡ problem_parts segs terms)
    (λ ps e. e ∙ same) made

pub returns-clause-classes : goal.returns-clause-classes
returns-clause-classes c =
    let segs = c.args.problem.now.segs in
    let tell : AreLabels c.args.problem.now.terms (length c.args.problem.now.segs) c.in_ok-labels.labels.items =
    rw (c.terms.ensures.list, c.segs-segs.ensures.lists) at c.in_ok-labels.ensures in
    let parts : AreParts c.args.problem.now.segs c.args.problem.now.terms (gathered c.args.problem.now.segs c.in_ok-labels.labels.items (length c.args.problem.now.segs)) =
    gathered_are_parts c.args.problem.now.segs c.args.problem.now.terms c.in_ok-labels.labels.items c.segs-segs.ensures.fits.terms tell in
    let made = rw (c.segs-segs.ensures.lists, c.as_slice.ensures.value) at c.gathered.ensures in
    IfOk-weaker c.gathered.result
    (λ (ps : Vec (Vec SegId Global) Global). part_lists ps.items ≡ gathered c.args.problem.now.segs c.in_ok-labels.labels.items (length c.args.problem.now.segs))
    (λ (ps : Vec (Vec SegId Global) Global). AreParts c.args.problem.now.segs c.args.problem.now.terms (part_lists ps.items))
    (λ ps e. subst (AreParts c.args.problem.now.segs c.args.problem.now.terms) (sym e) parts) made
