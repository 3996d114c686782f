use Rattle.graph_json.specs.Columns.{AreColumns}
use Rattle.graph_json.proofs.columns.columns_of.Given as goal

abbrev pub invariant-loop-feature : goal.invariant-loop-feature
invariant-loop-feature l = AreColumns l.columns l.yielded
