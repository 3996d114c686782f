use Rattle.std.proofs.Common.{◌++◌, ◌∙◌, refl, rules}
use Rattle.std.proofs.lemmas.Result.{err_from_is_err_and}
use Rattle.files_door.specs.SinksInMemory.{written_in, target_at}
use Rattle.files_door.proofs.Kept.{change_at, place_within}
use Rattle.files_door.proofs.Targets.{change_same}
use Rattle.files_door.proofs.steady_sinks.append_at.Goals as goal

pub index_mut-requires : goal.index_mut-requires
index_mut-requires c =
    let h = place_within (target_at (written_in c.args.targets.now.items) c.args.place) c.args.targets.now.items c.args.place c.requires in
    search (rules, h)

pub returns-in_err-extend_from_slice-clause-err : goal.returns-in_err-extend_from_slice-clause-err
returns-in_err-extend_from_slice-clause-err c =
    let p = err_from_is_err_and c.from_residual.result c.from_residual.ensures.1 in
    let target = target_at (written_in c.args.targets.now.items) c.args.place in
    rw (p.1, p.2) (
      refl,
      change_at target (λ held. held) c.args.targets.now.items c.args.place c.index_mut.result.now c.extend_from_slice.new.self c.requires c.index_mut.ensures.value c.in_err-extend_from_slice.ensures.items
          ∙ change_same target (λ held. held) (λ held. refl) (written_in c.args.targets.now.items),
    )

pub returns-clause-ok : goal.returns-clause-ok
returns-clause-ok c =
    change_at (target_at (written_in c.args.targets.now.items) c.args.place) (λ held. held ++ c.args.piece.now) c.args.targets.now.items c.args.place c.index_mut.result.now c.extend_from_slice.new.self c.requires c.index_mut.ensures.value c.in_ok-extend_from_slice.ensures.items
