use Rattle.std.proofs.Common.{◌≡◌, sym, ◌∙◌, ap, arith}
use Rattle.shape_track.specs.Samples.{part_point}
use Rattle.shape_track.proofs.Closeness.{part_point-first}
use Rattle.shape_track.proofs.piece.part.Goals as goal

pub returns-then-index-eq0 : goal.returns-then-index-eq0
returns-then-index-eq0 c =
    let first : c.args.index ≡ 0 = omega arith in
    record { value = sym (ap (part_point c.args.a c.args.b c.args.count) first ∙ part_point-first c.args.a c.args.b c.args.count) }
