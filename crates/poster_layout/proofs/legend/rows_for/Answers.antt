use Rattle.std.proofs.Common.{◌≡◌, ◌*◌, ◌<◌, ◌+◌, ℕ, ap, sym, ◌∙◌, arith}
use Rattle.std.specs.List.{find, range_with_len}
use Rattle.poster_layout.proofs.Squares.{enough, le_from, left_from, lt_from, rows_here, rows_more, rows_small}
use Rattle.poster_layout.proofs.legend.rows_for.Goals as goal

pub loop-rows-init : goal.loop-rows-init
loop-rows-init c =
    let all : left_from c.args.lines 12 ≡ 2 * c.args.lines + 1 = omega arith in
    record {
      left = ap (λ (n : ℕ). find (enough c.args.lines) (range_with_len 12 n)) all;
      least = omega arith;
      most = omega arith;
      some = omega arith;
    }

pub loop-rows-preserved : goal.loop-rows-preserved
loop-rows-preserved c =
    let rows = c.loop-rows.rows in
    let few : rows * rows < 4 * c.args.lines = lt_from (4 * c.args.lines) (rows * rows) (sym c.are_enough.ensures ∙ c.if-are_enough.false) in
    record {
      left = rows_more c.args.lines rows (omega arith) c.loop-rows.invariant.some few ∙ c.loop-rows.invariant.left;
      least = omega arith;
      most = omega arith;
      some = rows_small c.args.lines rows c.loop-rows.invariant.least few;
    }

pub returns-then-are_enough-clause-value : goal.returns-then-are_enough-clause-value
returns-then-are_enough-clause-value c =
    let rows = c.loop-rows.rows in
    rows_here c.args.lines rows c.loop-rows.invariant.some (le_from (4 * c.args.lines) (rows * rows) (sym c.are_enough.ensures ∙ c.if-are_enough.true)) c.loop-rows.invariant.left

pub returns-clause-value : goal.returns-clause-value
returns-clause-value c =
    let rows = c.loop-rows.rows in
    let last : rows ≡ 64 = omega arith in
    let squared : rows * rows ≡ 4096 = ap (λ (n : ℕ). n * n) last in
    sym last ∙ rows_here c.args.lines rows c.loop-rows.invariant.some (omega (arith, squared)) c.loop-rows.invariant.left
