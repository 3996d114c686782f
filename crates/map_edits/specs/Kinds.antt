-- Edits that stand, and the one that takes an edit off.
use Rattle.std.specs.Prelude.{Bool, true, false}
use Rattle.map_edits.specs.declared.edit.Edit.{Edit}
use Rattle.map_edits.specs.declared.edit.Edit.TheVariants.{Undo}

-- whether the last edit that stands is taken off
abbrev pub is_undo : Edit → Bool
is_undo Undo = true
is_undo edit = false
