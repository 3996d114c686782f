use Rattle.std.proofs.Common.{◌≡◌, ap, ◌∙◌, subst, length, List, arith}
use Rattle.std.specs.Result.{IfOk}
use Rattle.std.proofs.lemmas.List.{length-map}
use Rattle.start_positions.specs.declared.spreading.Place.{Place}
use Rattle.start_positions.specs.Cells.{offset_of, offsets_of}
use Rattle.start_positions.proofs.SpreadLemmas.{places_are}
use Rattle.start_positions.proofs.spreading.places_of.Goals as goal

pub places_among-requires : goal.places_among-requires
places_among-requires c =
    let ps = c.args.graph.now.places in
    let fit = c.extents_of-extents.ensures.graph in
    let offsets : c.deref.result.now ≡ offsets_of ps = c.deref.ensures.value ∙ c.in_ok-offsets.ensures in
    omega (arith, ap length offsets, length-map ps (offset_of ps), fit.place_each, fit.few_nodes)

pub returns-clause-places : goal.returns-clause-places
returns-clause-places c =
    let ps = c.args.graph.now.places in
    let offsets : c.deref.result.now ≡ offsets_of ps = c.deref.ensures.value ∙ c.in_ok-offsets.ensures in
    subst (λ (places : List Place). IfOk c.places_among.result (λ v. v.items ≡ places))
    (places_are ps c.extents_of-extents.result c.deref.result.now c.extents_of-extents.ensures.extents offsets) c.places_among.ensures
