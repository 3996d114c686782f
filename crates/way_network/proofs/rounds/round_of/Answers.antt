use Rattle.std.proofs.Common.{sym, ◌∙◌, ap, ◌++◌, ◌∷◌, [], ℕ, List, map, take}
use Rattle.std.proofs.lemmas.List.{map_more}
use Rattle.map_base.specs.declared.ids.SegId.{SegId}
use Rattle.way_network.specs.Numbers.{number_to}
use Rattle.way_network.proofs.rounds.round_of.Goals as goal

pub loop-neighbour-preserved : goal.loop-neighbour-preserved
loop-neighbour-preserved c =
    let f = number_to c.args.segments.now c.args.node in
    let order : List ℕ = c.as_slice-neighbour-items.result.now in
    let i : ℕ = c.loop-neighbour.neighbour-index in
    c.in_ok-push.ensures.items ∙ ap (λ (round : List SegId). round ++ c.leaving.result ∷ []) c.loop-neighbour.invariant
    ∙ ap (λ (seg : SegId). map f (take i order) ++ seg ∷ []) c.leaving.ensures ∙ sym (map_more f order i 0 c.loop-neighbour-test.true)
