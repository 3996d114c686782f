use Rattle.std.proofs.Common.{◌≡◌, ◌<◌, ◌∙◌, ap, length, arith}
use Rattle.order_model.specs.Places.{no_place, is_left_by}
use Rattle.order_model.specs.Prefixes.{SegmentPlacement, is_left}
use Rattle.order_model.proofs.PrefixLemmas.{few_apart}
use Rattle.order_model.proofs.TableLemmas.{left_is}
use Rattle.order_model.proofs.LookLemmas.{none_left}
use Rattle.order_model.proofs.segment_prefix.SegmentPrefix.is_left.Goals as goal

pub returns-then-len : goal.returns-then-len
returns-then-len c =
    let whole : length c.self.inside.placed.items ≡ length c.self.inside.lines.items = omega (arith, c.if-len.true, c.len.ensures, c.len-2.ensures, c.self.inside.placed.ok.0, c.self.inside.lines.ok.0) in
    none_left c.self.inside.lines.items c.self.inside.placed.items c.args.line c.self.invariant.fits whole ∙ ap (λ (p : SegmentPlacement). is_left p.lines p.placed c.args.line) c.self.view_is

pub returns : goal.returns
returns c =
    let few : length c.self.inside.placed.items < no_place =
    omega (arith, few_apart c.self.inside.placed.items c.self.inside.lines.items c.self.invariant.fits.apart c.self.invariant.fits.known, c.self.invariant.short) in
    c.is_left_on.ensures ∙ ap (λ ls. is_left_by ls c.as_slice-2.result.now c.args.line) c.as_slice.ensures.value
    ∙ ap (λ ps. is_left_by c.self.inside.lines.items ps c.args.line) (c.as_slice-2.ensures.value ∙ c.self.invariant.places)
    ∙ left_is c.self.inside.lines.items c.self.inside.placed.items c.args.line few
    ∙ ap (λ (p : SegmentPlacement). is_left p.lines p.placed c.args.line) c.self.view_is
