use Rattle.grid_board.specs.Boards.{parts_of}
use Rattle.start_positions.proofs.Columns.{all_rows}
use Rattle.start_positions.proofs.nearest.nearest_open.Goals as goal

pub returns : goal.returns
returns c = all_rows (parts_of c.args.board.now) c.args.spot c.nearest_above-above.result c.nearest_below.result c.nearest_above-above.ensures c.nearest_below.ensures
