use Rattle.std.proofs.Common.{◌≡◌, drop}
use Rattle.map_base.specs.Settings.{Choices, AreInRange}
use Rattle.map_edits.specs.Effects.{choices_after}
use Rattle.map_edits.proofs.changed_settings.changed_settings.Given as goal

-- the settings with the pairs beside them are in their ranges, and the edits that are left make of them what all make
abbrev pub invariant-loop-edit : goal.invariant-loop-edit
invariant-loop-edit l =
    let made : Choices = record l.changed { importance = l.importance.items } in
    record {
      in_range : AreInRange made;
      done : choices_after (drop l.edit-index l.edits) made ≡ choices_after l.edits l.settings;
    }
