use Rattle.std.proofs.Common.{rules}
use Rattle.net_paths.proofs.CostTables.{costs_below-none}
use Rattle.net_paths.proofs.known.Known.none.Goals as goal

pub returns : goal.returns
returns c = costs_below-none c.in_ok-costs.costs c.args.count (λ s. search rules)
