use Rattle.std.proofs.Common.{ℕ, List, ◌++◌}
use Rattle.order_untangle.proofs.NumberLists.{table_changed}
use Rattle.order_untangle.proofs.numbers.append_at.Goals as goal

pub returns : goal.returns
returns c =
    table_changed c.args.on.now.items c.args.seg.0 c.index_mut-numbers.result.now c.extend_from_slice.new.self (λ (l : List ℕ). l ++ c.args.more.now) c.requires
    c.index_mut-numbers.ensures.value
    c.in_ok-extend_from_slice.ensures.items
