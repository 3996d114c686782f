use Rattle.std.proofs.Common.{◌≡◌, ◌<◌, List, ℕ, length, map, All, ◌∙◌, ap, sym, subst}
use Rattle.map_base.specs.declared.ids.SegId.{SegId}
use Rattle.order_model.specs.declared.problem.ProblemParts.{ProblemParts}
use Rattle.order_model.specs.Parts.{IsRisingPart}
use Rattle.dual_shares.specs.Groups.{numbers_on}
use Rattle.dual_ascent.specs.OwnNumbers.{all_segments}
use Rattle.dual_ascent.proofs.OwnParts.{segments_rise}
use Rattle.dual_orders.specs.OwnTerms.{all_numbers}
use Rattle.dual_orders.proofs.OwnTables.{numbers_known}
use Rattle.dual_orders.proofs.part.Part.of.Goals as goal

pub terms_by_segment-requires-clause-rising : goal.terms_by_segment-requires-clause-rising
terms_by_segment-requires-clause-rising c =
    let p : ProblemParts = c.args.problem.now in
    let segments : c.as_slice.result.now ≡ all_segments p = c.as_slice.ensures.value ∙ c.in_ok-segments.ensures.items in
    subst IsRisingPart (sym segments) (segments_rise 0 p.segs c.requires.some)

pub terms_by_segment-requires-clause-known : goal.terms_by_segment-requires-clause-known
terms_by_segment-requires-clause-known c =
    let p : ProblemParts = c.args.problem.now in
    let numbers : c.as_slice-2.result.now ≡ all_numbers p = c.as_slice-2.ensures.value ∙ c.in_ok-numbers.ensures in
    subst (All (λ n. n < length p.terms)) (sym numbers) (numbers_known p c.in_ok-segments.ensures.fits.terms)

pub returns-clause-part : goal.returns-clause-part
returns-clause-part c =
    let p : ProblemParts = c.args.problem.now in
    let segments : c.as_slice.result.now ≡ all_segments p = c.as_slice.ensures.value ∙ c.in_ok-segments.ensures.items in
    let numbers : c.as_slice-2.result.now ≡ all_numbers p = c.as_slice-2.ensures.value ∙ c.in_ok-numbers.ensures in
    record {
      fits = c.in_ok-segments.ensures.fits;
      some = c.requires.some;
      reach = c.requires.reach;
      tables = c.in_ok-on.ensures
          ∙ (ap (λ (ns : List ℕ). map (numbers_on p.terms ns) c.as_slice.result.now) numbers ∙ ap
          (λ (ss : List SegId). map (numbers_on p.terms (all_numbers p)) ss) segments);
      load = c.load_of-load.ensures;
    }
