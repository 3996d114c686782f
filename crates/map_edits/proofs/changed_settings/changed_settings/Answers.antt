use Rattle.std.proofs.Common.{◌≡◌, ap, sym, subst, ◌∙◌, arith}
use Rattle.std.proofs.lemmas.List.{drop_all}
use Rattle.map_base.specs.Settings.{Choices, AreInRange}
use Rattle.map_edits.specs.Effects.{choices_by, choices_after, IsInRange}
use Rattle.map_edits.proofs.RangeLemmas.{choices_more, in_range_by}
use Rattle.map_edits.proofs.changed_settings.changed_settings.Goals as goal

pub loop-edit-preserved : goal.loop-edit-preserved
loop-edit-preserved c =
    let edit = c.edit-item.result in
    let made : Choices = record c.loop-edit.changed { importance = c.loop-edit.importance.items } in
    let new : Choices = record c.change_settings.new.settings { importance = c.change_settings.new.importance.items } in
    let done : new ≡ choices_by edit made = c.in_ok-change_settings.ensures in
    let range : IsInRange edit = subst IsInRange (sym c.edit-item.is) (c.requires c.loop-edit.edit-index edit (omega arith)) in
    record {
      in_range = subst AreInRange (sym done) (in_range_by edit made range c.loop-edit.invariant.in_range);
      done = choices_more c.args.edits.now c.loop-edit.edit-index edit made new _ (omega arith) c.edit-item.is done c.loop-edit.invariant.done;
    }

pub returns : goal.returns
returns c =
    let made : Choices = record c.loop-edit.changed { importance = c.loop-edit.importance.items } in
    c.with_importance.ensures ∙ sym (ap (λ es. choices_after es made) (drop_all c.loop-edit.edit-index c.args.edits.now (omega arith))) ∙ c.loop-edit.invariant.done
