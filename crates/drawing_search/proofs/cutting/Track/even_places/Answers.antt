use Rattle.std.proofs.Common.{◌≡◌, ℕ, ◌++◌, ◌∷◌, [], List, cond, filter, length, sym, ap, ap₂, ◌∙◌, arith}
use Rattle.drawing_search.proofs.Common.{get_or_read, is_even, nowhere, point_at, range_with_len, GridPoint}
use Rattle.drawing_search.proofs.Ranges.{filter_more}
use Rattle.drawing_search.proofs.cutting.Track.even_places.Goals as goal

pub loop-i-preserved : goal.loop-i-preserved
loop-i-preserved c =
    let ps = c.args.self.now.points.items in
    let test = (λ (i : ℕ). is_even (point_at ps i)) in
    c.in_ok-push_if_even.ensures
    ∙ ap₂ (λ (p : GridPoint) (v : List ℕ). cond (is_even p) (v ++ c.loop-i.i ∷ []) v) (get_or_read ps c.loop-i.i c.index.result.now (omega (arith, c.loop-i-test.true)) c.index.ensures nowhere) c.loop-i.invariant
    ∙ sym (filter_more test c.loop-i.i)

pub returns : goal.returns
returns c =
    let ps = c.args.self.now.points.items in
    let at_end : c.loop-i.i ≡ length ps = omega (arith, c.loop-i-test.false, c.loop-i.auto.i-end) in
    c.loop-i.invariant ∙ ap (λ n. filter (λ i. is_even (point_at ps i)) (range_with_len 0 n)) at_end
