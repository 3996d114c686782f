use Rattle.std.proofs.Common.{◌≡◌, ◌+◌, ◌∙◌, ap, sym, arith, ℕ, Some, length}
use Rattle.std.specs.Option.{option_map}
use Rattle.graph_maps.proofs.ItemLemmas.{ends_apart, min_is}
use Rattle.graph_maps.proofs.items.first_difference.Goals as goal

pub returns : goal.returns
returns c =
    let i : ℕ = c.loop-i.i in
    let at : i ≡ c.min-most.result = omega (arith, c.loop-i-test.false, c.loop-i.auto.i-end) in
    let apart = ends_apart c.args.picture.now c.args.svg.now i (min_is i (length c.args.picture.now) (length c.args.svg.now) (omega (arith, at))) (omega (arith, at), omega (arith, at)) c.if-picture-svg.false in
    sym (c.loop-i.invariant ∙ ap (option_map (λ (k : ℕ). i + k)) apart ∙ ap (λ (k : ℕ). Some k) (let e : i + 0 ≡ c.min-most.result = omega (arith, at) in e))
