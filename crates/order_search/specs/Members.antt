-- Which segments are of a part.
use Rattle.std.specs.Prelude.{◌≡◌, ℕ, ◌<◌, Bool, false, List, length, slice_index_or}
use Rattle.map_base.specs.declared.ids.SegId.{SegId}
use Rattle.order_model.specs.PartTerms.{is_in}

-- of so many segments exactly those of the part have a mark
pub record AreMarks (part : List SegId) (count : ℕ) (marks : List Bool) : Type 0 where
  pub each : length marks ≡ count
  pub told : (s : SegId) → s.0 < count → slice_index_or marks s.0 false ≡ is_in part s
