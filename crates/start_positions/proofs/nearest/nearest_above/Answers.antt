use Rattle.std.proofs.Common.{rules, ◌≡◌, ℤ, pos, ◌+ℤ◌, w32, to_z, of_z, SFits, None, sym, ap, subst, arith}
use Rattle.std.proofs.lemmas.Int.{ints, to_z-of_z}
use Rattle.std.proofs.lemmas.Bool.{OnTrue_at}
use Rattle.grid_board.specs.declared.bounds.Bounds.{Bounds}
use Rattle.grid_board.specs.Boards.{parts_of}
use Rattle.start_positions.specs.Nearest.{IsEvenLine, IsFromRow, IsNearest}
use Rattle.start_positions.proofs.Distances.{even_next}
use Rattle.start_positions.proofs.Columns.{above_all, above_begins, above_far, above_step}
use Rattle.start_positions.proofs.nearest.nearest_above.Goals as goal

pub loop-y-init : goal.loop-y-init
loop-y-init c =
    let s = c.args.spot in
    let fits : SFits w32 s.row = search rules in
    let same : s.row ≡ to_z w32 (of_z w32 s.row) = sym (to_z-of_z w32 s.row fits) in
    record {
      even = subst IsEvenLine same c.requires.row.even;
      past = omega (arith, ints);
      nearest = subst (λ (z : ℤ). IsNearest s (IsFromRow (parts_of c.args.board.now) s.row z) None None) same (above_begins (parts_of c.args.board.now) s);
    }

pub returns-then-is_too_far : goal.returns-then-is_too_far
returns-then-is_too_far c =
    let y = to_z w32 c.loop-y.y-bits in
    above_far (parts_of c.args.board.now) c.args.spot y c.loop-y.found c.requires c.loop-y.invariant.past c.loop-y.invariant.nearest (OnTrue_at c.if-is_too_far.true c.is_too_far.ensures)

pub loop-y-smaller : goal.loop-y-smaller
loop-y-smaller c = omega (arith, ints, c.bounds-top.ensures.in_range.top.high, c.loop-y-test.true, c.loop-y.invariant.past, c.requires.row.least)

pub loop-y-preserved : goal.loop-y-preserved
loop-y-preserved c =
    let y = to_z w32 c.loop-y.y-bits in
    let board = parts_of c.args.board.now in
    let s = c.args.spot in
    let next : y +ℤ pos 2 ≡ to_z w32 (of_z w32 (y +ℤ pos 2)) = omega (arith, ints, c.bounds-top.ensures.in_range.top.high, c.loop-y-test.true, c.loop-y.invariant.past, c.requires.row.least) in
    record {
      even = subst IsEvenLine next (even_next y c.loop-y.invariant.even);
      past = omega (arith, ints, c.loop-y.invariant.past);
      nearest =
          subst (λ (z : ℤ). IsNearest s (IsFromRow board s.row z) None c.nearest_in_row-found.result) next
          (above_step board s y c.loop-y.found c.nearest_in_row-found.result c.loop-y.invariant.even c.loop-y.invariant.past c.loop-y.invariant.nearest c.nearest_in_row-found.ensures);
    }

pub returns : goal.returns
returns c =
    above_all (parts_of c.args.board.now) c.args.spot (to_z w32 c.loop-y.y-bits) c.loop-y.found c.loop-y.invariant.past
    (omega (arith, ints, ap (λ (b : Bounds). b.top) c.bounds-top.ensures.value, c.loop-y-test.false)) c.loop-y.invariant.nearest
