use Rattle.std.proofs.Common.{◌+◌, ◌++◌, ◌∷◌, [], ℕ, List, drop, ap, ◌∙◌}
use Rattle.start_positions.specs.declared.placing.Offset.{Offset}
use Rattle.start_positions.specs.Spreads.{offset_along, offsets_along}
use Rattle.start_positions.proofs.SpreadLemmas.{map_more}
use Rattle.start_positions.proofs.spreading.offsets_along.Goals as goal

abbrev no_offset : Offset
no_offset = record { east = 0; north = 0 }

pub loop-offset-preserved : goal.loop-offset-preserved
loop-offset-preserved c =
    let offsets = c.args.offsets.now in
    let i = c.loop-offset.offset-index in
    let done = c.loop-offset.ats.items in
    ap (λ (xs : List ℕ). xs ++ offsets_along c.args.east (drop (i + 1) offsets)) (c.in_ok-push.ensures.items ∙ ap (λ (a : ℕ). done ++ a ∷ []) c.offset_along.ensures)
    ∙ map_more (offset_along c.args.east) offsets i no_offset done c.loop-offset-test.true
    ∙ c.loop-offset.invariant
