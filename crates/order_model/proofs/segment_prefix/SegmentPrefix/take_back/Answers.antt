use Rattle.std.proofs.Common.{◌≡◌, ◌<◌, ◌∙◌, ap, sym, subst, length, arith}
use Rattle.order_model.specs.Places.{places_in}
use Rattle.order_model.specs.Prefixes.{SegmentPlacement, first_placed, without_last, ArePlacedLines}
use Rattle.order_model.proofs.PrefixLemmas.{placed_without_last}
use Rattle.order_model.proofs.segment_prefix.SegmentPrefix.take_back.Goals as goal

pub invariant_of-self : goal.invariant_of-self
invariant_of-self c =
    let chosen : length (first_placed c.self.inside.lines.items) < length c.self.inside.placed.items =
    subst (λ (p : SegmentPlacement). length (first_placed p.lines) < length p.placed) (sym c.self.view_is) c.requires.some in
    let items : c.take_last.new.placed.items ≡ without_last c.self.inside.lines.items c.self.inside.placed.items =
    c.take_last.ensures.items ∙ ap (λ ls. without_last ls c.self.inside.placed.items) c.as_slice.ensures.value in record {
      rising = c.self.invariant.rising;
      short = c.self.invariant.short;
      fits = subst (ArePlacedLines c.self.inside.lines.items) (sym items)
          (placed_without_last c.self.inside.lines.items c.self.inside.placed.items c.self.invariant.rising c.self.invariant.fits chosen);
      room = omega (arith, c.self.invariant.room, c.take_last.ensures.room);
      places = c.take_last.ensures.places ∙ ap (λ ls. places_in ls c.take_last.new.placed.items) c.as_slice.ensures.value;
    }

pub returns-clause-fits : goal.returns-clause-fits
returns-clause-fits c =
    let chosen : length (first_placed c.self.inside.lines.items) < length c.self.inside.placed.items =
    subst (λ (p : SegmentPlacement). length (first_placed p.lines) < length p.placed) (sym c.self.view_is) c.requires.some in
    let items : c.take_last.new.placed.items ≡ without_last c.self.inside.lines.items c.self.inside.placed.items =
    c.take_last.ensures.items ∙ ap (λ ls. without_last ls c.self.inside.placed.items) c.as_slice.ensures.value in
    subst (ArePlacedLines c.self.inside.lines.items) (sym items)
    (placed_without_last c.self.inside.lines.items c.self.inside.placed.items c.self.invariant.rising c.self.invariant.fits chosen)
