use Rattle.std.proofs.Common.{◌∙◌, sym, ap, Some, None}
use Rattle.files_door.specs.SinksInMemory.{written_in}
use Rattle.files_door.proofs.Kept.{held_none, held_read, place_found}
use Rattle.files_door.proofs.steady_sinks.SteadySinks.written.Goals as goal

pub returns-in_err-place : goal.returns-in_err-place
returns-in_err-place c =
    let none = sym (place_found c.args.to.now c.self.inside.targets.items c.deref.result.now None c.in_err-place.ensures c.deref.ensures.value) in
    rw (c.from_residual.ensures, ← c.self.view_is) (sym (held_none c.args.to.now (written_in c.self.inside.targets.items) none))

pub returns : goal.returns
returns c =
    let there = sym (place_found c.args.to.now c.self.inside.targets.items c.deref.result.now (Some c.in_ok-place.place) c.in_ok-place.ensures c.deref.ensures.value) in
    rw (← c.self.view_is) (ap Some c.deref-2.ensures.value ∙ sym (held_read c.args.to.now c.self.inside.targets.items c.in_ok-place.place c.index.result.now there c.index.ensures))
