use Rattle.std.proofs.Common.{◌≡◌, ◌∙◌, sym, ap, Some, None, [], length, arith}
use Rattle.std.proofs.lemmas.List.{length-map}
use Rattle.files_door.specs.Acts.{kept_by}
use Rattle.files_door.specs.SinksInMemory.{held_in, place_of, written_in}
use Rattle.files_door.proofs.Kept.{begin_new, begin_there, place_found, place_of-change, place_of-push, written_in-push}
use Rattle.files_door.proofs.steady_sinks.begin_in.Goals as goal

pub restart-requires : goal.restart-requires
restart-requires c =
    sym (place_found c.args.to.now c.args.targets.now.items c.deref.result.now (Some c.in-Some.place) c.in-Some.ensures c.deref.ensures.value)

pub returns-in-Some-clause-begun : goal.returns-in-Some-clause-begun
returns-in-Some-clause-begun c =
    let there = sym (place_found c.args.to.now c.args.targets.now.items c.deref.result.now (Some c.in-Some.place) c.in-Some.ensures c.deref.ensures.value) in
    c.restart.ensures ∙ sym (begin_there c.args.to.now (written_in c.args.targets.now.items) c.in-Some.place there)

pub returns-in-Some-clause-place : goal.returns-in-Some-clause-place
returns-in-Some-clause-place c =
    let there = sym (place_found c.args.to.now c.args.targets.now.items c.deref.result.now (Some c.in-Some.place) c.in-Some.ensures c.deref.ensures.value) in
    ap (place_of c.args.to.now) c.restart.ensures ∙ place_of-change c.args.to.now c.args.to.now (kept_by c.args.to.now) (written_in c.args.targets.now.items) ∙ there

pub returns-clause-begun : goal.returns-clause-begun
returns-clause-begun c =
    let none = sym (place_found c.args.to.now c.args.targets.now.items c.deref.result.now None c.in_default.ensures c.deref.ensures.value) in
    written_in-push c.args.to.now c.in_ok-copy_of.field-0 c.args.targets.now.items c.push.new.self.items c.new.result c.in_ok-push.ensures.items c.in_ok-copy_of.ensures c.new.ensures.items
    ∙ sym (begin_new c.args.to.now (written_in c.args.targets.now.items) none)

pub returns-clause-place : goal.returns-clause-place
returns-clause-place c =
    let none = sym (place_found c.args.to.now c.args.targets.now.items c.deref.result.now None c.in_default.ensures c.deref.ensures.value) in
    let len : length (written_in c.args.targets.now.items) ≡ c.len-place.result = length-map c.args.targets.now.items held_in ∙ omega (arith, c.args.targets.now.ok, c.len-place.ensures) in
    ap (place_of c.args.to.now) (written_in-push c.args.to.now c.in_ok-copy_of.field-0 c.args.targets.now.items c.push.new.self.items c.new.result c.in_ok-push.ensures.items c.in_ok-copy_of.ensures c.new.ensures.items)
    ∙ place_of-push c.args.to.now (written_in c.args.targets.now.items) [] none ∙ ap Some len
