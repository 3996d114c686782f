use Rattle.std.proofs.Common.{string_bytes}
use Rattle.poster_rules.specs.Posters.{node_joins}
use Rattle.poster_picture.specs.Sheets.{plain}
use Rattle.poster_picture.proofs.Writing.{numbered_more}
use Rattle.poster_picture.proofs.lines.push_all_joins.Goals as goal

pub loop-n-preserved : goal.loop-n-preserved
loop-n-preserved c = numbered_more (node_joins (plain c.args.sheet)) c.loop-n.n (string_bytes c.args.text.now) (string_bytes c.loop-n.text) (string_bytes c.push_node_joins.new.text) c.loop-n.invariant c.in_ok-push_node_joins.ensures
