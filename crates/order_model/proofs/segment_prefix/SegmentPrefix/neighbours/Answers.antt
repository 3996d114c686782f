use Rattle.std.proofs.Common.{◌≡◌, ◌∙◌, ap, length, arith}
use Rattle.order_model.specs.Prefixes.{SegmentPlacement}
use Rattle.order_model.proofs.LookLemmas.{neighbours_by_place}
use Rattle.order_model.proofs.segment_prefix.SegmentPrefix.neighbours.Goals as goal

pub returns : goal.returns
returns c =
    let placed : c.len.result ≡ length c.args.self.now.placed =
    omega (arith, c.len.ensures, c.self.inside.placed.ok.0, ap (λ (p : SegmentPlacement). length p.placed) c.self.view_is) in
    let lines : c.len-2.result ≡ length c.args.self.now.lines =
    omega (arith, c.len-2.ensures, c.self.inside.lines.ok.0, ap (λ (p : SegmentPlacement). length p.lines) c.self.view_is) in
    c.neighbours_at.ensures ∙ rw (c.place_of-i.ensures.place, c.place_of-j.ensures.place, placed, lines)
    (neighbours_by_place c.args.self.now.lines c.args.self.now.placed c.args.a c.args.b c.place_of-i.ensures.short c.place_of-i.ensures.apart c.requires.differ)
