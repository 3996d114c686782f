use Rattle.std.proofs.Common.{ap, sym, ℕ}
use Rattle.map_base.specs.declared.ids.SegId.{SegId}
use Rattle.kept_trees.proofs.OwnPlaces.{found_at, met}
use Rattle.kept_trees.proofs.own_terms.seg_in.Goals as goal

pub returns : goal.returns
returns c =
    let made : ℕ → SegId = λ n. record { 0 = n } in
    ap made (sym (found_at c.args.part.now c.args.seg c.in-Ok.place c.requires.rising c.in-Ok.ensures.bound c.in-Ok.ensures.ok))

pub unreachable-requires : goal.unreachable-requires
unreachable-requires c = met c.args.part.now c.args.seg c.in-Err.field-0 c.requires.rising c.requires.among c.in-Err.ensures.position
