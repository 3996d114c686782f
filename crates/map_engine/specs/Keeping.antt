-- What is kept from map to map of a feed.
use Rattle.std.specs.Prelude.{ℕ, List}
use Rattle.map_base.specs.Settings.{Choices}
use Rattle.map_method.specs.Methods.{MethodChoices}
use Rattle.transit_feed.specs.Feeds.{Feed}
use Rattle.kept_trees.specs.OwnTrees.{HeldPart}
use Rattle.graph_maps.specs.Making.{plan_of}
use Rattle.graph_maps.specs.Keeping.{finished_in, missing_branches}
use Rattle.map_engine.specs.Making.{drawn_outcome}

-- the parts that a map finishes: those of the untangled problem before the first that is not solved, or all; none where
-- there is no problem
abbrev pub finished_parts : Feed → Choices → MethodChoices → List HeldPart
finished_parts feed choices method = finished_in (plan_of choices method) (drawn_outcome feed choices method)

-- how many branch nodes the searches of those parts of a feed's untangled problem meet that are not held
abbrev pub branches_left : List HeldPart → Feed → Choices → MethodChoices → ℕ
branches_left held feed choices method = missing_branches held (plan_of choices method)
    (drawn_outcome feed choices method)
