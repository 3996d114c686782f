use Rattle.std.proofs.Common.{ap, sym, ◌∙◌, rules}
use Rattle.files_door.specs.declared.target.Target.{Target}
use Rattle.files_door.specs.Acts.{kept_by}
use Rattle.files_door.specs.SinksInMemory.{written_in}
use Rattle.files_door.proofs.Kept.{change_at, place_within}
use Rattle.files_door.proofs.Targets.{change_same}
use Rattle.files_door.proofs.steady_sinks.restart.Goals as goal

pub index_mut-requires : goal.index_mut-requires
index_mut-requires c =
    let h = place_within c.args.to.now c.args.targets.now.items c.args.place c.requires in
    search (rules, h)

pub returns-in-Path : goal.returns-in-Path
returns-in-Path c =
    let emptied = ap (λ (t : Target). kept_by t c.index_mut.result.now.1.items) c.in-Path.is in
    change_at c.args.to.now (kept_by c.args.to.now) c.args.targets.now.items c.args.place c.index_mut.result.now c.clear.new.self c.requires c.index_mut.ensures.value (c.clear.ensures.items ∙ sym emptied)

pub returns-in-Said : goal.returns-in-Said
returns-in-Said c =
    sym (change_same c.args.to.now (kept_by c.args.to.now) (λ held. ap (λ (t : Target). kept_by t held) c.in-Said.is) (written_in c.args.targets.now.items))
