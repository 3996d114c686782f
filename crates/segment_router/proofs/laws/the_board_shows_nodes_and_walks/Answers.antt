use Rattle.segment_router.proofs.ShownLemmas.{nodes_shown, walks_shown}
use Rattle.segment_router.proofs.laws.the_board_shows_nodes_and_walks.Goals as goal

pub returns-clause-nodes : goal.returns-clause-nodes
returns-clause-nodes c = nodes_shown

pub returns-clause-walks : goal.returns-clause-walks
returns-clause-walks c = walks_shown
