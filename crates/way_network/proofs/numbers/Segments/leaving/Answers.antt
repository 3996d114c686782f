use Rattle.std.proofs.Common.{◌∙◌, ap, ℕ, List, Some, None}
use Rattle.way_network.specs.Numbers.{number_to}
use Rattle.way_network.proofs.Numbering.{numbered_at}
use Rattle.way_network.proofs.numbers.Segments.leaving.Goals as goal

pub returns-in-None : goal.returns-in-None
returns-in-None c =
    numbered_at c.self.inside.chains.items c.self.inside.numbers c.args.node c.args.neighbour None c.self.invariant.numbered c.in-None.ensures.value
    ∙ ap (λ (chains : List (List ℕ)). number_to chains c.args.node c.args.neighbour) c.self.view_is

pub returns-in-Some : goal.returns-in-Some
returns-in-Some c =
    numbered_at c.self.inside.chains.items c.self.inside.numbers c.args.node c.args.neighbour (Some c.in-Some.number.now) c.self.invariant.numbered c.in-Some.ensures.value
    ∙ ap (λ (chains : List (List ℕ)). number_to chains c.args.node c.args.neighbour) c.self.view_is
