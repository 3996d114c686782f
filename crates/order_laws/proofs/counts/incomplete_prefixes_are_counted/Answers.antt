use Rattle.order_laws.proofs.Prefixes.{incomplete_counted}
use Rattle.order_laws.proofs.counts.incomplete_prefixes_are_counted.Goals as goal

pub returns : goal.returns
returns c = incomplete_counted
