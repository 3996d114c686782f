use Rattle.std.proofs.Common.{◌≡◌, ap, sym, ◌∙◌, subst, List, map}
use Rattle.std.specs.List.{AllByRecursion}
use Rattle.std.specs.Result.{IfOk}
use Rattle.start_positions.specs.declared.placing.Offset.{Offset}
use Rattle.start_positions.specs.Cells.{IsOffset}
use Rattle.start_positions.specs.Homes.{placing_at}
use Rattle.start_positions.specs.Spreads.{spread_place}
use Rattle.start_positions.proofs.SpreadLemmas.{spread_within}
use Rattle.start_positions.proofs.placing.place_spread.Goals as goal

pub place_at-requires-clause-offsets : goal.place_at-requires-clause-offsets
place_at-requires-clause-offsets c =
    let ps = c.args.graph.now.places in
    subst (AllByRecursion (IsOffset ps)) (sym (c.deref.ensures.value ∙ c.in_ok-offsets.ensures ∙ ap (map (spread_place c.args.percent)) c.requires.places))
    (spread_within ps c.args.percent c.requires.percent)

pub returns : goal.returns
returns c =
    subst (λ (os : List Offset). IfOk c.place_at.result (λ p. p ≡ placing_at c.args.graph.now c.args.cell c.args.fineness os))
    (c.deref.ensures.value ∙ c.in_ok-offsets.ensures ∙ ap (map (spread_place c.args.percent)) c.requires.places) c.place_at.ensures
