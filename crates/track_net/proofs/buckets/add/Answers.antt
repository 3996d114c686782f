use Rattle.std.proofs.Common.{ℕ, ◌∙◌, ap, ◌++◌, ◌∷◌, [], List, rules}
use Rattle.track_net.specs.Cells.{items_or_none}
use Rattle.track_net.proofs.CellLemmas.{listed_first, listed_more}
use Rattle.track_net.proofs.buckets.add.Goals as goal

pub returns-in-Some : goal.returns-in-Some
returns-in-Some c =
    listed_more c.args.cells.now (c.get_mut.follows.lender c.push.new.self) c.args.cell c.args.number c.push.new.self
    (c.in_ok-push.ensures.items ∙ ap (λ (xs : List ℕ). xs ++ c.args.number ∷ []) (ap items_or_none c.in-Some.ensures.value))
    ((c.get_mut.follows.holds c.push.new.self).3 (search rules)).0

pub returns : goal.returns
returns c =
    listed_first c.args.cells.now c.get_mut.follows.lender-at-none c.insert.new.self c.args.cell c.args.number c.new-numbers.result c.push-2.new.self c.get_mut.follows.holds-at-none
    (ap items_or_none c.in_default.ensures.value) c.new-numbers.ensures.items c.in_ok-push-2.ensures.items c.in_ok-insert.ensures.updates.0
