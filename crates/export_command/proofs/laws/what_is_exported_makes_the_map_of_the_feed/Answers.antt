use Rattle.export_command.proofs.FeedAgain.{feed_made_again}
use Rattle.export_command.proofs.laws.what_is_exported_makes_the_map_of_the_feed.Goals as goal

pub returns : goal.returns
returns c = λ feed choices other method graph fit range of_feed alike.
    feed_made_again feed choices graph range of_feed other method fit alike
