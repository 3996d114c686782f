use Rattle.std.proofs.Common.{map, sym, arith}
use Rattle.std.proofs.lemmas.List.{length-map}
use Rattle.toml.specs.View.{view}
use Rattle.map_settings.specs.Values.{whole_number}
use Rattle.map_settings.proofs.EachLemmas.{not_three}
use Rattle.map_settings.proofs.values.three_weights.Goals as goal

pub returns-in_default-clause-value : goal.returns-in_default-clause-value
returns-in_default-clause-value c =
    sym (not_three (whole_number 0 1000) (map view c.args.numbers.now) (λ three. omega (arith, three, length-map c.args.numbers.now view, c.in_default.len_below)))

pub returns-in_default-2-clause-value : goal.returns-in_default-2-clause-value
returns-in_default-2-clause-value c =
    sym (not_three (whole_number 0 1000) (map view c.args.numbers.now) (λ three. omega (arith, three, length-map c.args.numbers.now view, c.in_default.len_at_least)))
