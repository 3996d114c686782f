use Rattle.std.proofs.Common.{◌≡◌, ℕ, ◌+◌, ◌-◌, false, true, ◌||◌, Bool, length, ap, sym, ◌∙◌, subst, arith}
use Rattle.std.specs.List.{flat_map, list_any, range_with_len}
use Rattle.std.proofs.lemmas.Bool.{or_from, or_right}
use Rattle.std.proofs.lemmas.List.Folds.{list_any-append}
use Rattle.poster_table.specs.Cells.{buckets_of, row_buckets}
use Rattle.poster_table.specs.Tables.{hits_in, hits_some, AreBelow}
use Rattle.poster_table.proofs.Rows.{in_rows, no_rows, one_row_more}
use Rattle.poster_table.proofs.table.Table.clashes_by_cells.Goals as goal

pub clashes_in-requires : goal.clashes_in-requires
clashes_in-requires c = subst (AreBelow (length c.args.self.now.things.items)) (sym c.as_slice.ensures.value) c.requires.table.wide

pub returns-then-clashes_in : goal.returns-then-clashes_in
returns-then-clashes_in c =
    let things = c.args.self.now.things.items in
    let met : hits_some things c.args.thing c.args.self.now.wide.items ≡ true =
    ap (hits_some things c.args.thing) (sym c.as_slice.ensures.value) ∙ sym c.clashes_in.ensures ∙ c.if-clashes_in.true in
    sym (ap (λ (b : Bool). b || list_any (hits_in c.args.self.now c.args.thing) (buckets_of (length c.args.self.now.buckets.items) c.args.cells)) met)

pub loop-row-init : goal.loop-row-init
loop-row-init c =
    record { far = omega arith; missed = ap (list_any (hits_in c.args.self.now c.args.thing)) (no_rows (row_buckets (length c.args.self.now.buckets.items) c.args.cells) c.args.cells.top) }

pub loop-row-preserved : goal.loop-row-preserved
loop-row-preserved c =
    let test = hits_in c.args.self.now c.args.thing in
    let cells = c.args.cells in
    let along = row_buckets (length c.args.self.now.buckets.items) cells in
    let row = c.loop-row.row in
    record {
      far = omega arith;
      missed = ap (list_any test) (one_row_more along cells.top row (omega arith))
          ∙ list_any-append test (flat_map along (range_with_len cells.top (row - cells.top))) (along row)
          ∙ or_from _ _ c.loop-row.invariant.missed (sym c.clashes_in_row.ensures ∙ c.if-clashes_in_row.false);
    }

pub returns-then-clashes_in_row : goal.returns-then-clashes_in_row
returns-then-clashes_in_row c =
    sym (or_right _ _ (in_rows (length c.args.self.now.buckets.items) c.args.cells c.loop-row.row (hits_in c.args.self.now c.args.thing) (omega arith) (omega arith) (sym c.clashes_in_row.ensures ∙ c.if-clashes_in_row.true)))

pub returns : goal.returns
returns c =
    let things = c.args.self.now.things.items in
    let cells = c.args.cells in
    let along = row_buckets (length c.args.self.now.buckets.items) cells in
    let count : c.loop-row.row - cells.top ≡ cells.bottom + 1 - cells.top = omega arith in
    let missed : hits_some things c.args.thing c.args.self.now.wide.items ≡ false =
    ap (hits_some things c.args.thing) (sym c.as_slice.ensures.value) ∙ sym c.clashes_in.ensures ∙ c.if-clashes_in.false in
    sym (or_from _ _ missed (subst (λ (k : ℕ). list_any (hits_in c.args.self.now c.args.thing) (flat_map along (range_with_len cells.top k)) ≡ false) count c.loop-row.invariant.missed))
