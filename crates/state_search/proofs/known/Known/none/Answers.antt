use Rattle.std.proofs.Common.{rules}
use Rattle.state_search.proofs.RowTables.{costs_in-none}
use Rattle.state_search.proofs.known.Known.none.Goals as goal

pub returns : goal.returns
returns c = costs_in-none c.new.result c.args.count (λ s. search rules)
