-- What is asked of a search, as it is kept.
use Rattle.walk_search.specs.declared.asked.Asked.{Asked}
use Rattle.grid_board.specs.Boards.{parts_of}
use Rattle.walk_search.specs.Moves.{Question}

-- the question that is kept
abbrev pub question : Asked → Question
question a = record { board = parts_of a.board.now; from = a.from; to = a.to }
