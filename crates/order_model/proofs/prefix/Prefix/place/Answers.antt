use Rattle.order_model.specs.Prefixes.{with_line}
use Rattle.order_model.proofs.PrefixMemory.{IsAt, at_segment, placed_after, fits_after}
use Rattle.order_model.proofs.prefix.Prefix.place.Goals as goal

pub returns-clause-placed : goal.returns-clause-placed
returns-clause-placed c =
    let at : IsAt c.args.problem.now.segs c.args.self.now c.self.inside.parts.items c.args.seg.0 c.index_mut-part.result.now =
    at_segment c.args.problem.now.segs c.args.self.now c.self.inside.parts.items c.args.seg.0 c.index_mut-part.result.now c.self.view_is c.requires.fits c.requires.known c.index_mut-part.ensures.value in
    placed_after c.args.problem.now.segs c.args.self.now c.self.inside.parts.items c.args.seg.0 c.index_mut-part.result.now c.place.new.self (λ ls ps. with_line ls ps c.args.line)
    c.self.view_is at c.place.ensures.placed

pub returns-clause-fits : goal.returns-clause-fits
returns-clause-fits c =
    let at : IsAt c.args.problem.now.segs c.args.self.now c.self.inside.parts.items c.args.seg.0 c.index_mut-part.result.now =
    at_segment c.args.problem.now.segs c.args.self.now c.self.inside.parts.items c.args.seg.0 c.index_mut-part.result.now c.self.view_is c.requires.fits c.requires.known c.index_mut-part.ensures.value in
    fits_after c.args.problem.now.segs c.args.self.now c.self.inside.parts.items c.args.seg.0 c.index_mut-part.result.now c.place.new.self
    (with_line c.index_mut-part.result.now.lines c.index_mut-part.result.now.placed c.args.line) at c.place.ensures.placed c.place.ensures.fits
