-- The target that a place on the disk stands for.
use Rattle.std.specs.Prelude.{Option, None, Some}
use Rattle.files_door.specs.declared.target.Target.{Target}
use Rattle.files_door.specs.declared.target.Target.TheVariants as target
use Rattle.disk_files.specs.declared.disk_sinks.Place.{Place}
use Rattle.disk_files.specs.declared.disk_sinks.Place.TheVariants as place

abbrev pub target_of : {F : Type 0} → Place F → Option Target
target_of place.Nowhere = None
target_of place.Said = Some target.Said
target_of (place.Draft path draft) = Some (target.Path path)
target_of (place.Straight path file) = Some (target.Path path)
