use Rattle.std.proofs.Common.{ℕ, List, ◌++◌, ap, ◌∙◌}
use Rattle.csv.specs.Records.{fields_of}
use Rattle.gtfs_fields.proofs.RecordFields.{take_all_fields, pushed_field}
use Rattle.gtfs_fields.proofs.rows.push_fields.Goals as goal

pub loop-field-preserved : goal.loop-field-preserved
loop-field-preserved c =
    let (same, so_far) = c.loop-field.invariant in
    let (stays, gives, moves) = c.in-Some.ensures.steps in (
      ap (λ r. r.now) stays ∙ same,
      c.in_ok-push.ensures.ok ∙ rw moves (pushed_field c.args.fields.now c.loop-field.fields (fields_of c.args.row.now) c.loop-field.field-iterator.at c.in-Some.field.now so_far (rw same at gives)),
    )

pub returns : goal.returns
returns c =
    let (same, so_far) = c.loop-field.invariant in
    let (stays, gives, moves) = c.in-None.ensures.steps in
    so_far ∙ ap (λ (fields : List (List ℕ)). c.args.fields.now ++ fields) (take_all_fields (fields_of c.args.row.now) c.loop-field.field-iterator.at (rw same at gives))
