use Rattle.std.proofs.Common.{map}
use Rattle.serde_json.specs.View.{view}
use Rattle.graph_json.specs.Forms.{line_of, feature_of}
use Rattle.graph_json.specs.Outcome.{IsImportant, LiesNear}
use Rattle.graph_json.proofs.FormFacts.{important, near, each_read}
use Rattle.graph_json.proofs.reading.graph_of_value.Goals as goal

pub graph_with-requires-clause-lines : goal.graph_with-requires-clause-lines
graph_with-requires-clause-lines c =
    each_read IsImportant line_of important (map view c.in-Some.lines.now) c.in_ok-lines.field-0 c.in-Ok.lines c.in_ok-lines.ensures c.in-Ok.is

pub graph_with-requires-clause-features : goal.graph_with-requires-clause-features
graph_with-requires-clause-features c =
    each_read LiesNear feature_of near (map view c.in-Some-and_then.features.now) c.in_ok-features.field-0 c.in-Ok-2.features c.in_ok-features.ensures c.in-Ok-2.is
