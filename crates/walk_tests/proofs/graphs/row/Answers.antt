use Rattle.std.proofs.Common.{refl}
use Rattle.walk_tests.proofs.graphs.row.Goals as goal

pub returns : goal.returns
returns c =
    rw (
      c.of.ensures,
      c.in_ok-kinds.ensures.items,
      c.of-2.ensures,
      c.in_ok-places.ensures.items,
      c.of-3.ensures,
      c.in_ok-ends.ensures.items,
      c.of-4.ensures,
      c.in_ok-lines.ensures.items,
      c.in_ok-first_line.ensures,
      c.in_ok-second_line.ensures,
      c.of-5.ensures,
      c.in_ok-rounds.ensures.items,
      c.in_ok-left.ensures,
      c.of-middle.ensures,
      c.in_ok-vec.ensures.items,
      c.in_ok-right.ensures,
      c.of-6.ensures,
      c.in_ok-joins.ensures.items,
      c.no_joins-none.ensures,
      c.of-through.ensures,
      c.in_ok-vec-2.ensures.items,
      c.no_joins-none_too.ensures,
    ) refl
