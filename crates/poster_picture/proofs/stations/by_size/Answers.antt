use Rattle.std.proofs.Common.{ℕ, List, [], fold, get_or, ap, sym, ◌∙◌, arith}
use Rattle.std.specs.List.{insert, position_or_len}
use Rattle.std.proofs.lemmas.List.{take_all}
use Rattle.std.proofs.lemmas.List.Sums.{fold_more}
use Rattle.map_base.specs.declared.ids.SegId.{SegId}
use Rattle.poster_rules.specs.Posters.{goes_before, put_in}
use Rattle.poster_picture.proofs.Sorting.{no_segment}
use Rattle.poster_picture.proofs.stations.by_size.Goals as goal

pub loop-s-preserved : goal.loop-s-preserved
loop-s-preserved c =
    let lines = c.args.graph.now.lines in
    let round = c.round_of-round.result.now in
    let before = c.loop-s.sorted.items in
    let s = get_or round c.loop-s.s-index no_segment in
    c.in_ok-insert.ensures.items
    ∙ ap (λ (p : ℕ). insert before p s) (c.place_for-place.ensures.value ∙ ap (position_or_len (goes_before lines s)) c.as_slice.ensures.value)
    ∙ ap (put_in lines s) c.loop-s.invariant
    ∙ sym (fold_more (λ (sorted : List SegId) (a : SegId). put_in lines a sorted) [] round c.loop-s.s-index no_segment c.loop-s-test.true)

pub returns : goal.returns
returns c =
    let lines = c.args.graph.now.lines in
    c.loop-s.invariant
    ∙ ap (fold (λ (sorted : List SegId) (a : SegId). put_in lines a sorted) []) (take_all c.loop-s.s-index c.round_of-round.result.now (omega arith) ∙ c.round_of-round.ensures)
