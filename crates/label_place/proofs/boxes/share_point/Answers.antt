use Rattle.std.proofs.Common.{◌≡◌, ◌∙◌, arith}
use Rattle.std.specs.Prelude.{int_le}
use Rattle.std.specs.Int.{int_min, int_max}
use Rattle.std.proofs.lemmas.Int.{ints}
use Rattle.label_place.proofs.Numbers.{both_unless, both_when, kept, overlap_same}
use Rattle.label_place.proofs.boxes.share_point.Goals as goal

pub returns-then-overlap : goal.returns-then-overlap
returns-then-overlap c =
    let a = c.args.a in
    let b = c.args.b in
    let across : c.overlap.result ≡ int_le (int_max a.left b.left) (int_min a.right b.right) =
    c.overlap.ensures ∙ overlap_same (kept a.left) (kept b.left) (kept a.right) (kept b.right) a.left b.left a.right b.right (omega (arith, ints)) (omega (arith, ints)) (omega (arith, ints)) (omega (arith, ints)) in
    let down : c.overlap-then-overlap.result ≡ int_le (int_max a.top b.top) (int_min a.bottom b.bottom) =
    c.overlap-then-overlap.ensures ∙ overlap_same (kept a.top) (kept b.top) (kept a.bottom) (kept b.bottom) a.top b.top a.bottom b.bottom (omega (arith, ints)) (omega (arith, ints)) (omega (arith, ints)) (omega (arith, ints)) in
    both_when c.overlap.result c.overlap-then-overlap.result _ _ across c.if-overlap.true down

pub returns-else-overlap : goal.returns-else-overlap
returns-else-overlap c =
    let a = c.args.a in
    let b = c.args.b in
    let across : c.overlap.result ≡ int_le (int_max a.left b.left) (int_min a.right b.right) =
    c.overlap.ensures ∙ overlap_same (kept a.left) (kept b.left) (kept a.right) (kept b.right) a.left b.left a.right b.right (omega (arith, ints)) (omega (arith, ints)) (omega (arith, ints)) (omega (arith, ints)) in
    both_unless c.overlap.result _ _ across c.if-overlap.false
