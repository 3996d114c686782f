use Rattle.std.proofs.Common.{take}
use Rattle.order_model.specs.PartTerms.{terms_by_number}
use Rattle.order_check.specs.Spots.{term_lists, IsSpotTable}
use Rattle.order_check.specs.PartTables.{IsPartTable}
use Rattle.order_check.proofs.part_table.part_table.Given as goal

abbrev pub invariant-loop-n : goal.invariant-loop-n
invariant-loop-n l = record {
  table : IsPartTable (terms_by_number l.terms (take l.n-index l.numbers)) l.entries.items l.slots.keys;
  spots : IsSpotTable l.entries.items l.spots.spots.keys (term_lists l.spots.lists.items);
}
