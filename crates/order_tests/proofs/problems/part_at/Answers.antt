use Rattle.std.proofs.Common.{◌<◌, ◌∙◌, List, [], length, sym, subst, arith}
use Rattle.std.specs.List.{All}
use Rattle.map_base.specs.declared.ids.SegId.{SegId}
use Rattle.order_model.specs.Parts.{IsRisingPart}
use Rattle.order_model.proofs.Placing.{length-part_lists}
use Rattle.order_model.proofs.PartLists.{part_at, part_known_at}
use Rattle.order_tests.proofs.problems.part_at.Goals as goal

pub returns-clause-rising : goal.returns-clause-rising
returns-clause-rising c =
    subst IsRisingPart (part_at c.args.parts.now c.args.k c.index-parts-k.result c.requires.known c.index-parts-k.is ∙ sym c.as_slice.ensures.value)
    (c.requires.classes.rising c.args.k [] (omega (arith, length-part_lists c.args.parts.now, c.requires.known)))

pub returns-clause-known : goal.returns-clause-known
returns-clause-known c =
    subst (λ (p : List SegId). All (λ (s : SegId). s.0 < length c.args.problem.now.segs) p) (sym c.as_slice.ensures.value)
    (part_known_at c.args.problem.now.segs c.args.problem.now.terms c.args.parts.now c.args.k c.index-parts-k.result c.requires.classes c.requires.known c.index-parts-k.is)
