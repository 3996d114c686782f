use Rattle.std.proofs.Common.{◌∙◌, length, refl}
use Rattle.order_model.proofs.TableLemmas.{none_table}
use Rattle.order_model.proofs.places.places_in.Goals as goal

pub put_places-requires-clause-none : goal.put_places-requires-clause-none
put_places-requires-clause-none c =
    c.as_mut_slice.ensures.value ∙ c.in_ok-places.ensures.items_if_clones_equal (λ y e. e) ∙ none_table c.args.lines.now (length c.args.lines.now) refl
