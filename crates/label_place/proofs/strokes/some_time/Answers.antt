use Rattle.std.proofs.Common.{pos, ◌∙◌, arith}
use Rattle.std.specs.Int.{int_min, int_max}
use Rattle.std.proofs.lemmas.Int.{ints, clamps}
use Rattle.label_place.proofs.Numbers.{kept, overlap_same}
use Rattle.label_place.proofs.strokes.some_time.Goals as goal

pub returns : goal.returns
returns c =
    let a = c.args.a in
    let b = c.args.b in
    c.overlap.ensures
    ∙ overlap_same (kept c.greatest-first.result) (pos 0) (kept c.least-last.result) (pos 100) (int_max a.first b.first) (pos 0) (int_min a.last b.last) (pos 100)
    (omega (arith, ints, clamps, c.greatest-first.ensures.value, c.greatest-first.ensures.small)) (omega (arith, ints))
    (omega (arith, ints, clamps, c.least-last.ensures.value, c.least-last.ensures.small)) (omega (arith, ints))
