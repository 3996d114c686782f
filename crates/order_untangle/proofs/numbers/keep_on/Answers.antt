use Rattle.std.proofs.Common.{rules}
use Rattle.std.proofs.lemmas.Fn.{filter_same}
use Rattle.order_untangle.specs.LeftTerms.{cell_at, holds_on}
use Rattle.order_untangle.proofs.numbers.keep_on.Goals as goal

pub returns : goal.returns
returns c = filter_same _ (λ n. holds_on c.args.seg (cell_at c.args.cells.now n)) _ (λ x b q h. (search rules, search rules)) _ _ c.retain.ensures.filtered
