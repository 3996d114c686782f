use Rattle.std.proofs.Common.{◌++◌, ◌∷◌, [], refl, ap, ◌∙◌}
use Rattle.poster_table.proofs.Tabling.{wide_put}
use Rattle.poster_table.proofs.table.Table.put_wide.Goals as goal

pub returns-clause-table : goal.returns-clause-table
returns-clause-table c =
    wide_put c.args.self.now _ c.args.thing c.requires.table c.requires.thing c.in_ok-push-2.ensures.items refl
    (c.in_ok-push.ensures.items ∙ ap (λ n. c.args.self.now.wide.items ++ n ∷ []) c.requires.number)
