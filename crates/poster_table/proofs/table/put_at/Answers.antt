use Rattle.std.proofs.Common.{◌≡◌, ℕ, [], ◌∷◌, length, ap, subst, ◌∙◌, arith}
use Rattle.poster_table.specs.Cells.{bucket_of}
use Rattle.poster_table.specs.Tables.{PutsIn}
use Rattle.poster_table.proofs.table.put_at.Goals as goal

pub returns : goal.returns
returns c =
    let count : c.len.result ≡ length c.args.buckets.now.items = omega (arith, c.len.ensures, c.args.buckets.now.ok.0) in
    subst (λ (b : ℕ). PutsIn c.args.buckets.now.items c.put_number.new.buckets.items (b ∷ []) c.args.number) (c.bucket_of-bucket.ensures.value ∙ ap (bucket_of c.args.column c.args.row) count)
    c.in_ok-put_number.ensures
