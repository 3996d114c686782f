use Rattle.std.proofs.Common.{◌≡◌, ◌≢◌, subst, arith}
use Rattle.std.proofs.lemmas.Result.{IfOk-weaker}
use Rattle.net_paths.specs.Corridors.{CorridorParts}
use Rattle.net_paths.specs.Stretches.{IsStretchPath}
use Rattle.net_paths.specs.Walking.{IsWalked}
use Rattle.net_paths.specs.Choices as choices
use Rattle.net_paths.proofs.Choosing.{path_chosen}
use Rattle.net_paths.proofs.Walked.{joined_in_range}
use Rattle.net_paths.proofs.stretch.stretch_path.Goals as goal

pub note_costs_to-requires-clause-from_in_range : goal.note_costs_to-requires-clause-from_in_range
note_costs_to-requires-clause-from_in_range c =
    let apart : c.args.from ≢ c.args.to = omega arith in (joined_in_range c.args.net.now c.len.ensures.kept c.args.from c.args.to apart c.requires.joined).0

pub note_costs_to-requires-clause-to_in_range : goal.note_costs_to-requires-clause-to_in_range
note_costs_to-requires-clause-to_in_range c =
    let apart : c.args.from ≢ c.args.to = omega arith in (joined_in_range c.args.net.now c.len.ensures.kept c.args.from c.args.to apart c.requires.joined).1

pub returns-clause-path : goal.returns-clause-path
returns-clause-path c =
    let net = c.args.net.now in
    let corridor = c.in_ok-corridor.corridor in
    let known = c.note_costs_to.new.known in
    IfOk-weaker c.walk.result (λ path. IsWalked corridor net known c.args.from path.items) (λ path. IsStretchPath c.args.near c.args.corridor.now net c.args.from c.args.to path.items)
    (λ path walked.
    subst (λ (k : CorridorParts). IsStretchPath k.near k.samples net c.args.from c.args.to path.items) c.in_ok-corridor.ensures (walked c.args.to c.in_ok-note_costs_to.ensures))
    c.walk.ensures

pub returns-clause-chosen : goal.returns-clause-chosen
returns-clause-chosen c =
    let net = c.args.net.now in
    let apart : c.args.from ≢ c.args.to = omega arith in
    let inside = joined_in_range net c.len.ensures.kept c.args.from c.args.to apart c.requires.joined in
    IfOk-weaker c.walk.result (λ path. IsStretchPath c.args.near c.args.corridor.now net c.args.from c.args.to path.items) (λ path. path.items ≡ choices.stretch_path_of c.args.near c.args.corridor.now net c.args.from c.args.to)
    (λ path is. path_chosen c.args.near c.args.corridor.now net c.len.ensures.kept c.args.from c.args.to inside.0 path.items is)
    (returns-clause-path c)
