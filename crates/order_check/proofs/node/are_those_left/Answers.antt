use Rattle.std.proofs.Common.{◌∙◌, length, ap, arith}
use Rattle.order_check.proofs.Nodes.{lines_read, as_many_left, not_as_many}
use Rattle.order_check.proofs.node.are_those_left.Goals as goal

pub returns-then-children-placed : goal.returns-then-children-placed
returns-then-children-placed c =
    let segs = c.args.problem.now.segs in
    let s = c.args.s in
    let lines = lines_read segs c.segs-segs.result.now s c.index-segs-s.result c.as_slice-lines.result.now c.requires.known c.segs-segs.ensures.lists c.index-segs-s.is c.as_slice-lines.ensures in
    not_as_many segs c.args.prefix.now.placed s c.args.children.now c.segs-segs.ensures.fits.rising c.requires.known (c.requires.fits.lines s.0 c.requires.known) c.requires.distinct
    (λ h. omega (arith, h, c.if-children-placed.true, ap length lines, ap length c.placed.ensures))

pub returns : goal.returns
returns c =
    let segs = c.args.problem.now.segs in
    let s = c.args.s in
    let lines = lines_read segs c.segs-segs.result.now s c.index-segs-s.result c.as_slice-lines.result.now c.requires.known c.segs-segs.ensures.lists c.index-segs-s.is c.as_slice-lines.ensures in
    c.are_all_left.ensures
    ∙ as_many_left segs c.args.prefix.now.placed s c.args.children.now c.segs-segs.ensures.fits.rising c.requires.known (c.requires.fits.lines s.0 c.requires.known) c.requires.distinct
    (omega (arith, c.if-children-placed.false, ap length lines, ap length c.placed.ensures))
