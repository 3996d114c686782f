use Rattle.std.proofs.Common.{ℕ, length, refl, subst}
use Rattle.poster_table.specs.declared.cells.Cells.{Cells}
use Rattle.poster_table.specs.Cells.{buckets_of}
use Rattle.poster_table.specs.Tables.{PutsIn}
use Rattle.poster_table.proofs.Tabling.{cells_put}
use Rattle.poster_table.proofs.table.Table.put_in.Goals as goal

pub returns-clause-table : goal.returns-clause-table
returns-clause-table c =
    let old = c.args.self.now.buckets.items in
    let new = c.put_cells.new.buckets.items in
    cells_put c.args.self.now _ c.args.thing c.requires.table c.requires.thing c.in_ok-push.ensures.items refl
    (subst (λ (cells : Cells). PutsIn old new (buckets_of (length old) cells) (length c.args.self.now.things.items)) c.requires.cells
    (subst (λ (n : ℕ). PutsIn old new (buckets_of (length old) c.args.cells) n) c.requires.number c.in_ok-put_cells.ensures))
