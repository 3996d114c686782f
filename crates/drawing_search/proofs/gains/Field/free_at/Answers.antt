use Rattle.drawing_search.proofs.FieldFacts.{pairs_held}
use Rattle.drawing_search.proofs.gains.Field.free_at.Goals as goal

pub at-requires : goal.at-requires
at-requires c = pairs_held c.args.self c.requires.field c.args.n.0 c.requires.node
