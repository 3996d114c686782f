use Rattle.std.proofs.Common.{◌≡◌, length, ℕ, subst, sym, ap, ◌∙◌, arith}
use Rattle.poster_table.specs.Tables.{bucket_at, hits_some, AreBelow}
use Rattle.poster_table.specs.Cells.{bucket_of}
use Rattle.poster_table.proofs.table.Table.clashes_at.Goals as goal

pub clashes_in-requires : goal.clashes_in-requires
clashes_in-requires c = subst (AreBelow (length c.args.self.now.things.items)) (sym c.numbers_in.ensures) (c.requires.table.known c.bucket_of-bucket.result)

pub returns : goal.returns
returns c =
    let table = c.args.self.now in
    let count : c.len.result ≡ length table.buckets.items = omega (arith, c.len.ensures, table.buckets.ok.0) in
    c.clashes_in.ensures
    ∙ ap (hits_some table.things.items c.args.thing) c.numbers_in.ensures
    ∙ ap (λ (b : ℕ). hits_some table.things.items c.args.thing (bucket_at table.buckets.items b)) (c.bucket_of-bucket.ensures.value ∙ ap (bucket_of c.args.column c.args.row) count)
