use Rattle.std.proofs.Common.{map, sym, ap, ◌∙◌, arith}
use Rattle.std.proofs.lemmas.List.{drop_all}
use Rattle.map_edits.specs.Effects.{line_id, lines_after}
use Rattle.map_edits.proofs.EffectLemmas.{lines_more, line_ids_by}
use Rattle.map_edits.proofs.changed_lines.change_lines_by.Goals as goal

pub loop-edit-preserved : goal.loop-edit-preserved
loop-edit-preserved c =
    let edit = c.edit-item.result in
    let done = c.change_lines.ensures in
    record {
      same_ids = c.loop-edit.invariant.same_ids ∙ sym (line_ids_by edit c.loop-edit.lines.items) ∙ ap (map line_id) (sym done);
      done = lines_more c.args.edits.now c.loop-edit.edit-index edit c.loop-edit.lines.items c.change_lines.new.lines.items _ (omega arith) c.edit-item.is done c.loop-edit.invariant.done;
    }

pub returns : goal.returns
returns c =
    sym (ap (λ es. lines_after es c.loop-edit.lines.items) (drop_all c.loop-edit.edit-index c.args.edits.now (omega arith))) ∙ c.loop-edit.invariant.done
