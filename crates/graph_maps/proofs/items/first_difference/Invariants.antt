use Rattle.std.proofs.Common.{◌≡◌, ◌+◌, drop}
use Rattle.std.specs.Option.{option_map}
use Rattle.graph_maps.specs.Checking.{first_difference}
use Rattle.graph_maps.proofs.items.first_difference.Given as goal

-- what is left differs where all do, so many bytes later
abbrev pub invariant-loop-i : goal.invariant-loop-i
invariant-loop-i l = first_difference l.picture l.svg ≡ option_map (λ at. l.i + at) (first_difference (drop l.i l.picture) (drop l.i l.svg))
