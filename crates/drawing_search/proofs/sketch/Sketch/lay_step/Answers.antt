use Rattle.std.proofs.Common.{◌∙◌, sym, ap, subst, ◌<◌, length, arith}
use Rattle.drawing_search.proofs.Common.{all_place, contains, get_or_read, is_even, is_standing, nowhere, piece_along}
use Rattle.drawing_search.proofs.Common.{point_at, Sketch, StandsAfter}
use Rattle.drawing_search.proofs.Laid.{piece_kept, piece_stood}
use Rattle.drawing_search.proofs.Steps.{long, piece_end}
use Rattle.drawing_search.proofs.sketch.Sketch.lay_step.Goals as goal

pub index-requires : goal.index-requires
index-requires c = omega (arith, long c.args.track.now.points.items c.args.track.now.steps.items c.requires.track, c.requires.within, c.args.track.now.points.ok.0)

pub stand-requires : goal.stand-requires
stand-requires c =
    let ps = c.args.track.now.points.items in
    let ds = c.args.track.now.steps.items in
    let below : c.args.end < length ps = omega (arith, long ps ds c.requires.track, c.requires.within) in
    record {
      node = omega (arith, ap (λ (k : Sketch). length k.points) c.in_ok-lay_piece.ensures, c.requires.legal.points_each, c.requires.node);
      flag = omega (arith, ap (λ (k : Sketch). length k.stand) c.in_ok-lay_piece.ensures, c.requires.legal.stand_each, c.requires.node);
      lifted = ap (λ (k : Sketch). is_standing k c.args.step.to.0) c.in_ok-lay_piece.ensures ∙ subst (λ b. StandsAfter b c.args.self.now c.args.step.to.0 (point_at ps c.args.end)) c.if-not-is_inner.false c.requires.to;
      inside =
          ap (λ (k : Sketch). contains k.bounds c.index.result.now) c.in_ok-lay_piece.ensures
          ∙ ap (contains c.args.self.now.bounds) (get_or_read ps c.args.end c.index.result.now below c.index.ensures nowhere)
          ∙ all_place (contains c.args.self.now.bounds) ps c.args.end nowhere c.requires.inside below;
      even = ap is_even (get_or_read ps c.args.end c.index.result.now (omega (arith, long ps ds c.requires.track, c.requires.within)) c.index.ensures nowhere) ∙ c.requires.even;
    }

pub returns-then-not-is_inner : goal.returns-then-not-is_inner
returns-then-not-is_inner c =
    let ps = c.args.track.now.points.items in
    let ds = c.args.track.now.steps.items in
    let piece = piece_along ps ds c.args.start c.args.end in
    let there = subst (λ b. StandsAfter b c.args.self.now c.args.step.to.0 (point_at ps c.args.end)) c.if-not-is_inner.true c.requires.to in
    piece_kept c.args.graph.now c.args.from c.args.step piece c.args.self.now c.lay_piece.new.self c.in_ok-lay_piece.ensures there.0
    (there.1 ∙ sym (piece_end ps ds c.requires.track c.args.start c.args.end (omega (arith, c.requires.order)) c.requires.within))

pub returns : goal.returns
returns c =
    let ps = c.args.track.now.points.items in
    let ds = c.args.track.now.steps.items in
    let piece = piece_along ps ds c.args.start c.args.end in
    piece_stood c.args.graph.now c.args.from c.args.step piece c.args.self.now c.lay_piece.new.self c.stand.new.self c.index.result.now c.in_ok-lay_piece.ensures
    (get_or_read ps c.args.end c.index.result.now (omega (arith, long ps ds c.requires.track, c.requires.within)) c.index.ensures nowhere ∙ sym (piece_end ps ds c.requires.track c.args.start c.args.end (omega (arith, c.requires.order)) c.requires.within))
    c.stand.ensures
