use Rattle.std.proofs.Common.{◌∙◌}
use Rattle.grid_board.specs.Boards.{parts_of}
use Rattle.walk_search.proofs.Limits.{within_upto}
use Rattle.walk_search.proofs.least.least_walk_within.Goals as goal

pub returns : goal.returns
returns c =
    c.within.ensures
    ∙ within_upto (parts_of c.args.board.now) c.args.from c.args.to c.args.from_ports c.args.to_ports c.args.most c.in_ok-found.found c.in_ok-found.ensures.found
