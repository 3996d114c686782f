use Rattle.rule_laws.proofs.NoneLeft.{none_applies}
use Rattle.rule_laws.proofs.laws.nothing_applies_where_no_rule_is_left.Goals as goal

pub returns : goal.returns
returns c = none_applies
