use Rattle.std.proofs.Common.{◌≡◌, false, take}
use Rattle.poster_table.specs.Tables.{hits_some}
use Rattle.poster_table.proofs.table.Table.clashes_in.Given as goal

-- it clashes with none so far
abbrev pub invariant-loop-number : goal.invariant-loop-number
invariant-loop-number l = hits_some l.self.things.items l.thing (take l.number-index l.numbers) ≡ false
