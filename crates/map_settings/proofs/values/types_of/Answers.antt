use Rattle.std.proofs.Common.{◌≡◌, map, ap, subst, ◌∙◌}
use Rattle.toml.specs.Data.{as_array}
use Rattle.toml.specs.View.{view}
use Rattle.map_settings.specs.Faults.{Gives}
use Rattle.map_settings.specs.Values.{types_of, route_types}
use Rattle.map_settings.proofs.TableLemmas.{array_value}
use Rattle.map_settings.proofs.values.types_of.Goals as goal

pub returns-in-Some-clause-value : goal.returns-in-Some-clause-value
returns-in-Some-clause-value c =
    let same : route_types (map view c.as_slice.result.now) ≡ types_of (view c.args.value.now) =
    ap (λ values. route_types (map view values)) c.as_slice.ensures.value
    ∙ array_value route_types (as_array (view c.args.value.now)) c.in-Some.numbers.now c.in-Some.ensures in
    subst (λ o. Gives c.route_types.result o) same c.route_types.ensures.value
