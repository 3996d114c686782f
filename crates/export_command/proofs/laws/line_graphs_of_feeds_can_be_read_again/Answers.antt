use Rattle.export_command.proofs.FeedAgain.{can_be_read}
use Rattle.export_command.proofs.laws.line_graphs_of_feeds_can_be_read_again.Goals as goal

pub returns : goal.returns
returns c = λ feed choices graph fits coloured range of_feed. can_be_read feed choices graph range of_feed fits coloured
