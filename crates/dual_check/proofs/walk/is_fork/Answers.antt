use Rattle.std.proofs.Common.{◌≡◌, ◌<◌, ◌∙◌, not, true, List, ap, sym, length, arith, rules}
use Rattle.std.proofs.lemmas.List.Sorted.{answers_always}
use Rattle.map_base.specs.declared.ids.SegId.{SegId}
use Rattle.map_base.specs.declared.ids.LineId.{LineId}
use Rattle.order_model.specs.Problems.{lines_on}
use Rattle.order_model.specs.Places.{has_line}
use Rattle.order_model.specs.PartTerms.{is_in}
use Rattle.dual_shares.proofs.Terms.{lines_read}
use Rattle.dual_check.specs.Asking.{question_of}
use Rattle.dual_check.proofs.Walks.{all_in}
use Rattle.dual_check.proofs.PartSearch.{part_searched, no_segment, all_hold}
use Rattle.dual_check.proofs.walk.is_fork.Goals as goal

pub returns-then-is_err : goal.returns-then-is_err
returns-then-is_err c =
    let searched =
    part_searched c.args.asked.now.part.now c.args.seg c.binary_search_by_key.result c.requires.rising c.binary_search_by_key.ensures.bound
    (c.binary_search_by_key.ensures.position (λ (t : SegId). t.0) (answers_always _ _ _ (λ f a r g called. search rules))) in
    no_segment (question_of c.args.asked.now) c.args.seg c.args.a c.args.b (searched ∙ (c.is_err.ensures.negation ∙ ap not c.if-is_err.true))

pub bounds-segs-seg : goal.bounds-segs-seg
bounds-segs-seg c =
    let searched =
    part_searched c.args.asked.now.part.now c.args.seg c.binary_search_by_key.result c.requires.rising c.binary_search_by_key.ensures.bound
    (c.binary_search_by_key.ensures.position (λ (t : SegId). t.0) (answers_always _ _ _ (λ f a r g called. search rules))) in
    let below : c.args.seg.0 < length c.args.asked.now.problem.now.segs =
    all_in (λ (u : SegId). u.0 < length c.args.asked.now.problem.now.segs) c.args.asked.now.part.now c.args.seg c.requires.known (searched ∙ (c.is_err.ensures.negation ∙ ap not c.if-is_err.false)) in
    omega (arith, below, ap length c.segs.ensures.lists)

pub returns : goal.returns
returns c =
    let searched =
    part_searched c.args.asked.now.part.now c.args.seg c.binary_search_by_key.result c.requires.rising c.binary_search_by_key.ensures.bound
    (c.binary_search_by_key.ensures.position (λ (t : SegId). t.0) (answers_always _ _ _ (λ f a r g called. search rules))) in
    let here : is_in c.args.asked.now.part.now c.args.seg ≡ true = searched ∙ (c.is_err.ensures.negation ∙ ap not c.if-is_err.false) in
    let below : c.args.seg.0 < length c.args.asked.now.problem.now.segs =
    all_in (λ (u : SegId). u.0 < length c.args.asked.now.problem.now.segs) c.args.asked.now.part.now c.args.seg c.requires.known here in
    let lines : c.as_slice-lines.result.now ≡ lines_on c.args.asked.now.problem.now.segs c.args.seg =
    lines_read c.args.asked.now.problem.now.segs c.segs.result.now c.args.seg c.index-segs-seg.result c.as_slice-lines.result.now below c.segs.ensures.lists c.index-segs-seg.is c.as_slice-lines.ensures in
    all_hold (question_of c.args.asked.now) c.args.seg c.args.a c.args.b c.contains-2.result here (sym c.if-eq.ensures)
    (ap (λ (l : List LineId). has_line l c.args.a) (sym lines) ∙ (sym c.contains.ensures.value ∙ c.if-not-contains.false))
    (c.contains-2.ensures.value ∙ ap (λ (l : List LineId). has_line l c.args.b) lines)
