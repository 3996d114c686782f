use Rattle.std.proofs.Common.{ap, ◌∙◌}
use Rattle.poster_table.specs.Tables.{hits_by_cells}
use Rattle.poster_table.proofs.Searching.{search_is}
use Rattle.poster_table.proofs.table.Table.clashes.Goals as goal

pub returns : goal.returns
returns c =
    let table = c.args.self.now in
    c.clashes_by_cells.ensures ∙ ap (hits_by_cells table c.args.thing) c.cells_of-cells.ensures.value ∙ search_is table c.args.thing c.requires.table
