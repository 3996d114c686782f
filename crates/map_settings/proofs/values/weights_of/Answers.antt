use Rattle.std.proofs.Common.{map, ap, ◌∙◌}
use Rattle.toml.specs.Data.{as_array}
use Rattle.toml.specs.View.{view}
use Rattle.map_settings.specs.Values.{three_weights}
use Rattle.map_settings.proofs.TableLemmas.{array_value}
use Rattle.map_settings.proofs.values.weights_of.Goals as goal

pub returns-in-Some-clause-value : goal.returns-in-Some-clause-value
returns-in-Some-clause-value c =
    c.three_weights.ensures.value
    ∙ ap (λ values. three_weights (map view values)) c.as_slice.ensures.value
    ∙ array_value three_weights (as_array (view c.args.value.now)) c.in-Some.numbers.now c.in-Some.ensures
