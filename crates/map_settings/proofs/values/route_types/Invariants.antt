use Rattle.std.proofs.Common.{◌≡◌, ◌≤◌, ◌^◌, ◌-◌, length, map, drop}
use Rattle.toml.specs.View.{view}
use Rattle.map_settings.specs.Values.{whole_number, of_each}
use Rattle.map_settings.proofs.EachLemmas.{with_rest}
use Rattle.map_settings.proofs.values.route_types.Given as goal

-- the types so far, in front of those of the numbers that are left, are those of all
abbrev pub invariant-loop-number : goal.invariant-loop-number
invariant-loop-number l =
    (length l.types.items ≤ l.number-index)
    × (with_rest l.types.items (of_each (whole_number 0 (2 ^ 32 - 1)) (map view (drop l.number-index l.numbers))) ≡ of_each (whole_number 0 (2 ^ 32 - 1)) (map view l.numbers))
