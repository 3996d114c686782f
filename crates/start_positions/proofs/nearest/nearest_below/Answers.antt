use Rattle.std.proofs.Common.{rules, ◌≡◌, ℤ, pos, ◌+ℤ◌, ◌-ℤ◌, w32, to_z, of_z, SFits, ap, subst, arith}
use Rattle.std.proofs.lemmas.Int.{ints, to_z-of_z}
use Rattle.std.proofs.lemmas.Bool.{OnTrue_at}
use Rattle.grid_board.specs.declared.bounds.Bounds.{Bounds}
use Rattle.grid_board.specs.Boards.{parts_of}
use Rattle.start_positions.specs.Nearest.{IsEvenLine, IsFromRow, IsNearest}
use Rattle.start_positions.proofs.Distances.{even_last}
use Rattle.start_positions.proofs.Columns.{below_all, below_begins, below_far, below_step, is_between_from}
use Rattle.start_positions.proofs.nearest.nearest_below.Goals as goal

pub loop-y-init : goal.loop-y-init
loop-y-init c =
    let s = c.args.spot in
    let fits : SFits w32 s.row = search rules in
    let row : to_z w32 (of_z w32 s.row) ≡ s.row = to_z-of_z w32 s.row fits in
    let same : s.row -ℤ pos 2 ≡ to_z w32 (of_z w32 (to_z w32 (of_z w32 s.row) -ℤ pos 2)) = omega (arith, ints, row, fits.sfits, c.requires.row.least) in
    record {
      even = subst IsEvenLine same (even_last s.row c.requires.row.even);
      past = omega (arith, ints);
      nearest = below_begins (parts_of c.args.board.now) s c.args.above (to_z w32 (of_z w32 (to_z w32 (of_z w32 s.row) -ℤ pos 2)) +ℤ pos 2) (omega (arith, ints));
    }

pub returns-then-is_too_far : goal.returns-then-is_too_far
returns-then-is_too_far c =
    let y = to_z w32 c.loop-y.y-bits in
    below_far (parts_of c.args.board.now) c.args.spot y c.args.above c.loop-y.found c.requires c.loop-y.invariant.even c.loop-y.invariant.past c.loop-y.invariant.nearest (OnTrue_at c.if-is_too_far.true c.is_too_far.ensures)

pub nearest_in_row-found-requires-clause-inside : goal.nearest_in_row-found-requires-clause-inside
nearest_in_row-found-requires-clause-inside c =
    let bounds = (parts_of c.args.board.now).bounds in
    is_between_from bounds.bottom (to_z w32 c.loop-y.y-bits) bounds.top (omega (arith, ints, ap (λ (b : Bounds). b.bottom) c.bounds-bottom.ensures.value, c.loop-y-test.true))
    (omega (arith, ints, c.loop-y.invariant.past, c.requires.top))

pub nearest_in_row-found-requires-clause-even : goal.nearest_in_row-found-requires-clause-even
nearest_in_row-found-requires-clause-even c = c.loop-y.invariant.even

pub overflow_sub-y-in-loop-y : goal.overflow_sub-y-in-loop-y
overflow_sub-y-in-loop-y c = omega (arith, ints, c.bounds-bottom.ensures.in_range.bottom.low, c.loop-y-test.true)

pub loop-y-smaller : goal.loop-y-smaller
loop-y-smaller c = omega (arith, ints, c.bounds-bottom.ensures.in_range.bottom.low, c.loop-y-test.true)

pub loop-y-preserved : goal.loop-y-preserved
loop-y-preserved c =
    let y = to_z w32 c.loop-y.y-bits in
    let board = parts_of c.args.board.now in
    let s = c.args.spot in
    let next : y -ℤ pos 2 ≡ to_z w32 (of_z w32 (y -ℤ pos 2)) = omega (arith, ints, c.bounds-bottom.ensures.in_range.bottom.low, c.loop-y-test.true) in
    let here : y ≡ to_z w32 (of_z w32 (y -ℤ pos 2)) +ℤ pos 2 = omega (arith, ints) in
    record {
      even = subst IsEvenLine next (even_last y c.loop-y.invariant.even);
      past = omega (arith, ints, c.loop-y.invariant.past);
      nearest =
          subst (λ (z : ℤ). IsNearest s (IsFromRow board z s.row) c.args.above c.nearest_in_row-found.result) here
          (below_step board s y c.args.above c.loop-y.found c.nearest_in_row-found.result c.loop-y.invariant.even c.loop-y.invariant.past c.loop-y.invariant.nearest c.nearest_in_row-found.ensures);
    }

pub returns : goal.returns
returns c =
    below_all (parts_of c.args.board.now) c.args.spot (to_z w32 c.loop-y.y-bits) c.args.above c.loop-y.found c.loop-y.invariant.even c.loop-y.invariant.past
    (omega (arith, ints, ap (λ (b : Bounds). b.bottom) c.bounds-bottom.ensures.value, c.loop-y-test.false)) c.loop-y.invariant.nearest
