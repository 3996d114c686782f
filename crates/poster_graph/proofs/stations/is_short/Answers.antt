use Rattle.std.proofs.Common.{ℕ, ◌&&◌, ap, ◌∙◌}
use Rattle.std.specs.Prelude.{nat_le}
use Rattle.std.proofs.lemmas.Iterator.{YieldsList-from_chars}
use Rattle.std.proofs.lemmas.Iterator.Consumers.{count_from_yields_List}
use Rattle.poster_graph.proofs.stations.is_short.Goals as goal

pub returns : goal.returns
returns c =
    c.is_few.ensures
    ∙ ap (λ (n : ℕ). nat_le 1 n && nat_le n 5) (count_from_yields_List c.chars.result _ c.count-count.ensures.ran (YieldsList-from_chars c.args.name.now c.utf8.name cc))
