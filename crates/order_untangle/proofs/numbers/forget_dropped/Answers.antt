use Rattle.std.proofs.Common.{ℕ, List}
use Rattle.std.specs.Prelude.{filter}
use Rattle.order_untangle.specs.LeftTerms.{cell_at, holds_on}
use Rattle.order_untangle.proofs.NumberLists.{table_changed}
use Rattle.order_untangle.proofs.numbers.forget_dropped.Goals as goal

pub returns : goal.returns
returns c =
    table_changed c.args.on.now.items c.args.seg.0 c.index_mut-numbers.result.now c.keep_on.new.numbers
    (λ (l : List ℕ). filter (λ n. holds_on c.args.seg (cell_at c.args.cells.now n)) l) c.requires
    c.index_mut-numbers.ensures.value
    c.keep_on.ensures
