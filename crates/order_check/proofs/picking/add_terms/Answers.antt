use Rattle.std.proofs.Common.{◌≡◌, ◌<◌, ◌∙◌, ◌++◌, ℕ, [], List, length, ap, sym, subst, arith, Option}
use Rattle.std.specs.Prelude.{IfSome}
use Rattle.std.specs.List.{All}
use Rattle.std.proofs.lemmas.List.{get_or-map, length-map}
use Rattle.map_base.specs.declared.ids.LineId.{LineId}
use Rattle.order_model.specs.Problems.{lines_on}
use Rattle.order_check.specs.declared.slot.PartTerm.{PartTerm}
use Rattle.order_check.specs.declared.spot.SpotTerm.{SpotTerm}
use Rattle.order_check.specs.declared.asked.Asked.{Asked}
use Rattle.order_check.specs.Spots.{terms_at}
use Rattle.order_check.specs.Placings.{picked_of}
use Rattle.order_check.proofs.SpotLists.{at_within}
use Rattle.order_check.proofs.Tallies.{spot_list, picked_at_spot, picked_nowhere}
use Rattle.order_check.proofs.picking.add_terms.Goals as goal

pub returns-in-None : goal.returns-in-None
returns-in-None c =
    picked_nowhere c.args.asked.now c.args.pick (lines_on c.args.asked.now.problem.now.segs c.args.pick.spot.seg) (lines_on c.args.prefix.now.placed c.args.pick.spot.seg) c.args.list.now.items
    c.requires.asked (sym c.place_of.ensures.place ∙ c.in-None.is)

pub add_picked-requires-clause-within : goal.add_picked-requires-clause-within
add_picked-requires-clause-within c =
    let asked : Asked = c.args.asked.now in
    let within : c.in-Some.k < length asked.table.now.spots.spots.keys =
    subst (λ (o : Option ℕ). IfSome o (λ n. n < length asked.table.now.spots.spots.keys)) c.in-Some.is c.place_of.ensures.within in
    let below : c.in-Some.k < length asked.table.now.spots.lists.items = omega (arith, within, c.requires.asked.spots.each, length-map asked.table.now.spots.lists.items (λ v. v.items)) in
    let list : c.as_slice-some.result.now ≡ terms_at c.args.pick.spot 0 asked.table.now.terms.items =
    spot_list asked c.requires.asked c.args.pick.spot c.in-Some.k c.as_slice-some.result.now (sym c.place_of.ensures.place ∙ c.in-Some.is)
    (c.as_slice-some.ensures.value ∙ ap (λ v. v.items) c.index.ensures ∙ sym (get_or-map (λ v. v.items) asked.table.now.spots.lists.items c.in-Some.k c.index.result.now [] below)) in
    subst (λ (ts : List PartTerm). All (λ (t : SpotTerm). t.place < length ts) c.as_slice-some.result.now) (sym c.as_slice-terms.ensures.value)
    (subst (All (λ (t : SpotTerm). t.place < length asked.table.now.terms.items)) (sym list) (at_within c.args.pick.spot 0 (length asked.table.now.terms.items) asked.table.now.terms.items (omega arith)))

pub returns-in_ok-add_picked-in-Some : goal.returns-in_ok-add_picked-in-Some
returns-in_ok-add_picked-in-Some c =
    let asked : Asked = c.args.asked.now in
    let lines : List LineId = lines_on asked.problem.now.segs c.args.pick.spot.seg in
    let placed : List LineId = lines_on c.args.prefix.now.placed c.args.pick.spot.seg in
    let within : c.in-Some.k < length asked.table.now.spots.spots.keys =
    subst (λ (o : Option ℕ). IfSome o (λ n. n < length asked.table.now.spots.spots.keys)) c.in-Some.is c.place_of.ensures.within in
    let below : c.in-Some.k < length asked.table.now.spots.lists.items = omega (arith, within, c.requires.asked.spots.each, length-map asked.table.now.spots.lists.items (λ v. v.items)) in
    let list : c.as_slice-some.result.now ≡ terms_at c.args.pick.spot 0 asked.table.now.terms.items =
    spot_list asked c.requires.asked c.args.pick.spot c.in-Some.k c.as_slice-some.result.now (sym c.place_of.ensures.place ∙ c.in-Some.is)
    (c.as_slice-some.ensures.value ∙ ap (λ v. v.items) c.index.ensures ∙ sym (get_or-map (λ v. v.items) asked.table.now.spots.lists.items c.in-Some.k c.index.result.now [] below)) in
    picked_at_spot asked c.args.pick lines placed c.args.list.now.items c.add_picked.new.list.items c.as_slice-some.result.now list
    (c.in_ok-add_picked-in-Some.ensures ∙ ap (λ ts. c.args.list.now.items ++ picked_of c.args.pick lines placed ts c.as_slice-some.result.now) c.as_slice-terms.ensures.value)
