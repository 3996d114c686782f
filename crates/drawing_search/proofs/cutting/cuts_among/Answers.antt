use Rattle.std.proofs.Common.{◌≡◌, ℕ, ◌+◌, ◌-◌, ◌*◌, ◌/◌, List, [], ◌∷◌, ◌++◌, length, map, get_or, sym, ap, ◌∙◌, arith}
use Rattle.drawing_search.proofs.Common.{map-append, range_with_len}
use Rattle.drawing_search.proofs.Ranges.{range_more}
use Rattle.drawing_search.proofs.cutting.cuts_among.Goals as goal

pub loop-i-preserved : goal.loop-i-preserved
loop-i-preserved c =
    let places = c.args.places.now in
    let place = (λ (i : ℕ). get_or places (i * (length places - 1) / c.args.pieces) 0) in
    let i = c.loop-i.i in
    let same : i ≡ 0 + i = omega (arith) in
    c.in_ok-push.ensures.items
    ∙ ap (λ (v : List ℕ). v ++ place i ∷ []) c.loop-i.invariant
    ∙ sym (map-append place (range_with_len 0 i) (i ∷ []))
    ∙ ap (λ (n : ℕ). map place (range_with_len 0 i ++ n ∷ [])) same
    ∙ ap (map place) (sym (range_more 0 i))

pub returns : goal.returns
returns c =
    let places = c.args.places.now in
    let at_end : c.loop-i.i ≡ c.args.pieces + 1 = omega (arith, c.loop-i-test.false, c.loop-i.auto.i-end) in
    c.loop-i.invariant ∙ ap (λ n. map (λ i. get_or places (i * (length places - 1) / c.args.pieces) 0) (range_with_len 0 n)) at_end
