use Rattle.std.proofs.Common.{ap, ◌∙◌, length}
use Rattle.order_untangle.specs.LeftTerms.{Listing}
use Rattle.order_untangle.proofs.WorkLemmas.{begun_fit, begun_parts, begun_work}
use Rattle.order_untangle.proofs.work.begun.Goals as goal

pub of-requires-clause-fit : goal.of-requires-clause-fit
of-requires-clause-fit c =
    begun_fit c.args.problem c.into_parts-parts.result c.len.result c.into_vec.result.items c.into_parts-parts.ensures.parts c.into_parts-parts.ensures.fits
    (c.len.ensures ∙ (c.into_vec-segs.result.ok.0 ∙ ap length c.into_vec-segs.ensures)) c.into_vec.ensures

pub returns-clause-work : goal.returns-clause-work
returns-clause-work c =
    begun_work c.args.problem c.into_vec-segs.result.items c.in_ok-terms.terms c.len-2.result c.look_at_all.new.waiting.merges.keys c.look_at_all.new.waiting.divides.keys
    (begun_parts c.args.problem c.into_parts-parts.result c.into_vec-segs.result.items c.in_ok-terms.terms c.len.result c.into_vec.result.items
    c.into_parts-parts.ensures.parts c.into_vec-segs.ensures c.into_vec.ensures c.in_ok-terms.ensures)
    c.into_parts-parts.ensures.fits
    (ap (λ (l : Listing). l.count) c.in_ok-terms.ensures ∙ (c.len.ensures ∙ c.into_vec-segs.result.ok.0))
    (c.len-2.ensures ∙ c.into_vec-segs.result.ok.0) c.in_ok-look_at_all.ensures
