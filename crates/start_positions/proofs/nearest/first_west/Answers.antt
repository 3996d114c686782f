use Rattle.std.proofs.Common.{◌≡◌, ◌≤ℤ◌, ◌-ℤ◌, true, false, Some, None, w32, ℤ, pos, to_z, of_z, sym, ap, ◌∙◌, subst, arith}
use Rattle.std.proofs.lemmas.Int.{ints, to_z-of_z}
use Rattle.grid_board.specs.declared.bounds.Bounds.{Bounds}
use Rattle.grid_board.specs.Boards.{is_between, parts_of}
use Rattle.start_positions.specs.Nearest.{IsEvenLine, IsFirstWest}
use Rattle.start_positions.proofs.Distances.{even_last}
use Rattle.start_positions.proofs.Sides.{along_both, west_found, west_none, west_step, point_at, point_inside}
use Rattle.start_positions.proofs.nearest.first_west.Goals as goal

pub is_node-requires : goal.is_node-requires
is_node-requires c =
    let board = parts_of c.args.board.now in
    let x = to_z w32 c.loop-x.x-bits in
    let y : ℤ = to_z w32 (of_z w32 c.args.y) in
    let same_y : y ≡ c.args.y = to_z-of_z w32 c.args.y c.ranges.y in
    point_inside board.bounds x y (omega (arith, ints, ap (λ (b : Bounds). b.left) c.bounds-left.ensures.value)) (omega (arith, ints, c.requires.right, c.loop-x.invariant.past)) (subst (λ (v : ℤ). is_between board.bounds.bottom v board.bounds.top ≡ true) (sym same_y) c.requires.inside)

pub returns-then-not-is_node : goal.returns-then-not-is_node
returns-then-not-is_node c =
    let board = parts_of c.args.board.now in
    let x = to_z w32 c.loop-x.x-bits in
    let y : ℤ = to_z w32 (of_z w32 c.args.y) in
    let from : ℤ = to_z w32 (of_z w32 c.args.from) in
    let same_y : y ≡ c.args.y = to_z-of_z w32 c.args.y c.ranges.y in
    let same_from : from ≡ c.args.from = to_z-of_z w32 c.args.from c.ranges.from in
    let inside = point_inside board.bounds x y (omega (arith, ints, ap (λ (b : Bounds). b.left) c.bounds-left.ensures.value)) (omega (arith, ints, c.requires.right, c.loop-x.invariant.past)) (subst (λ (v : ℤ). is_between board.bounds.bottom v board.bounds.top ≡ true) (sym same_y) c.requires.inside) in
    let free : board.is_node (point_at x y) ≡ false = sym c.is_node.ensures ∙ c.if-not-is_node.true in
    along_both (λ v f. IsFirstWest board v f (Some (point_at x y))) y c.args.y from c.args.from same_y same_from
    (west_found board y from x inside free c.loop-x.invariant.even (subst IsEvenLine (sym same_y) c.requires.row) c.loop-x.invariant.past c.loop-x.invariant.rest)

pub loop-x-preserved : goal.loop-x-preserved
loop-x-preserved c =
    let board = parts_of c.args.board.now in
    let x = to_z w32 c.loop-x.x-bits in
    let y : ℤ = to_z w32 (of_z w32 c.args.y) in
    let from : ℤ = to_z w32 (of_z w32 c.args.from) in
    let next : x -ℤ pos 2 ≡ to_z w32 (of_z w32 (x -ℤ pos 2)) = omega (arith, ints) in
    let taken : board.is_node (point_at x y) ≡ true = sym c.is_node.ensures ∙ c.if-not-is_node.false in
    record {
      even = subst IsEvenLine next (even_last x c.loop-x.invariant.even);
      past = omega (arith, ints, c.loop-x.invariant.past);
      rest = λ q such. subst (λ (v : ℤ). q.x ≤ℤ v) next (west_step board y from x taken c.loop-x.invariant.even c.loop-x.invariant.rest q such);
    }

pub returns : goal.returns
returns c =
    let board = parts_of c.args.board.now in
    let x = to_z w32 c.loop-x.x-bits in
    let y : ℤ = to_z w32 (of_z w32 c.args.y) in
    let from : ℤ = to_z w32 (of_z w32 c.args.from) in
    along_both (λ v f. IsFirstWest board v f None) y c.args.y from c.args.from (to_z-of_z w32 c.args.y c.ranges.y) (to_z-of_z w32 c.args.from c.ranges.from)
    (west_none board y from x (omega (arith, ints, ap (λ (b : Bounds). b.left) c.bounds-left.ensures.value)) c.loop-x.invariant.rest)
