use Rattle.std.proofs.Common.{◌∙◌, ◌<◌, ap, subst, length, arith}
use Rattle.order_model.specs.Places.{no_place, places_in}
use Rattle.order_model.specs.Prefixes.{SegmentPlacement}
use Rattle.order_model.proofs.PrefixLemmas.{few_apart}
use Rattle.order_model.proofs.segment_prefix.SegmentPrefix.places.Goals as goal

pub returns-clause-places : goal.returns-clause-places
returns-clause-places c = c.as_slice.ensures.value ∙ (c.self.invariant.places ∙ ap (λ (p : SegmentPlacement). places_in p.lines p.placed) c.self.view_is)

pub returns-clause-short : goal.returns-clause-short
returns-clause-short c = subst (λ (p : SegmentPlacement). length p.placed < no_place) c.self.view_is
    (omega (arith, few_apart c.self.inside.placed.items c.self.inside.lines.items c.self.invariant.fits.apart c.self.invariant.fits.known, c.self.invariant.short))
