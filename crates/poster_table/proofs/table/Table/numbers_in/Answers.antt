use Rattle.std.proofs.Common.{Vec, ℕ, ap, sym, ◌∙◌}
use Rattle.std.specs.Global.{Global}
use Rattle.poster_table.proofs.Putting.{bucket_is}
use Rattle.poster_table.proofs.table.Table.numbers_in.Goals as goal

pub returns : goal.returns
returns c =
    c.as_slice.ensures.value
    ∙ ap (λ (v : Vec ℕ Global). v.items) c.index.ensures
    ∙ sym (bucket_is c.args.self.now.buckets.items c.args.bucket c.index.result.now c.requires)
