use Rattle.std.proofs.Common.{◌∙◌, ◌<◌, ap, sym, subst, length, arith}
use Rattle.std.specs.List.{Contains}
use Rattle.order_model.specs.Places.{no_place, place_in, place_of}
use Rattle.order_model.specs.Prefixes.{SegmentPlacement}
use Rattle.order_model.proofs.PrefixLemmas.{few_apart}
use Rattle.order_model.proofs.LookLemmas.{place_read}
use Rattle.order_model.proofs.segment_prefix.SegmentPrefix.place_of.Goals as goal

pub returns-clause-place : goal.returns-clause-place
returns-clause-place c =
    let on : Contains c.self.inside.lines.items c.args.line = subst (λ (p : SegmentPlacement). Contains p.lines c.args.line) (sym c.self.view_is) c.requires in
    place_read c.self.inside.lines.items c.self.inside.placed.items c.self.inside.places.items c.args.line c.rank.result c.index.result.now on c.self.invariant.places
    (c.rank.ensures.place (rw c.as_slice.ensures.value on) ∙ ap (λ ls. place_of ls c.args.line) c.as_slice.ensures.value) c.index.ensures
    ∙ ap (λ (p : SegmentPlacement). place_in p.placed c.args.line) c.self.view_is

pub returns-clause-short : goal.returns-clause-short
returns-clause-short c = subst (λ (p : SegmentPlacement). length p.placed < no_place) c.self.view_is
    (omega (arith, few_apart c.self.inside.placed.items c.self.inside.lines.items c.self.invariant.fits.apart c.self.invariant.fits.known, c.self.invariant.short))
