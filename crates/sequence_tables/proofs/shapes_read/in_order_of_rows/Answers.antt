use Rattle.std.proofs.Common.{◌≡◌, ◌∙◌, ◌&&◌, not, cond, bytes_eq, is_some, ap, sym, arith}
use Rattle.table_rows.specs.Ids.{noted}
use Rattle.table_rows.specs.Cells.{row_at, field_in}
use Rattle.sequence_tables.specs.ShapeReads.{shape_place, is_known, sighted_before}
use Rattle.sequence_tables.proofs.ShapeLemmas.{sight_is, sight_holds, sight_few, sighted_more}
use Rattle.sequence_tables.proofs.shapes_read.in_order_of_rows.Goals as goal

pub loop-row-preserved : goal.loop-row-preserved
loop-row-preserved c =
    let named = c.args.named.now in
    let columns = c.args.columns.now in
    let rows = c.args.rows.now in
    let row = c.loop-row.row in
    let id = c.next-next.result.id.now in
    let order = c.loop-row.order in
    let place : c.next-next.result.place ≡ shape_place named id = c.next-next.ensures.place ∙ ap (shape_place named) (sym c.next-next.ensures.id) in
    let wanted = c.may_be_first-wanted.ensures ∙ ap (λ p. not (bytes_eq c.loop-row.last.id.now id) && is_some p) place in
    let sighted_now = sight_is named order c.sight.new.order c.loop-row.last.id.now id c.may_be_first-wanted.result
    (λ known. c.loop-row.invariant.noted (ap is_some c.loop-row.invariant.last ∙ known)) wanted c.in_ok-sight.ensures.order in
    let field : id ≡ field_in (row_at rows row) columns.id = c.next-next.ensures.id ∙ c.field_in.ensures in
    record {
      last = place;
      same = c.in_ok-sight.ensures.seen;
      order = sighted_now
          ∙ ap (λ ids. cond (is_known named id) (noted ids id) ids) c.loop-row.invariant.order
          ∙ ap (λ x. cond (is_known named x) (noted (sighted_before named columns row rows) x) (sighted_before named columns row rows)) field
          ∙ sym (sighted_more named columns row rows c.loop-row.auto.row (omega arith));
      few = sight_few order c.sight.new.order id c.may_be_first-wanted.result row c.in_ok-sight.ensures.order c.loop-row.invariant.few;
      noted = sight_holds named order c.sight.new.order id c.next-next.result.place place sighted_now;
    }
