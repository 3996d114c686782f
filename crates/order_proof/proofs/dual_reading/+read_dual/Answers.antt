use Rattle.std.proofs.Common.{[], ◌∷◌, ◌-◌, Option, Some, ap, subst, sym, ◌∙◌, arith}
use Rattle.std.proofs.lemmas.Result.{err_from_is_err_and}
use Rattle.order_values.specs.DualTrees.{PlainDual, plain_dual}
use Rattle.order_proof.specs.declared.dual_line.DualStart.{DualStart}
use Rattle.order_proof.specs.declared.dual_line.DualLine.TheVariants as duals
use Rattle.order_proof.specs.FrontLine.{front}
use Rattle.order_proof.specs.Forms.{dual_in}
use Rattle.order_proof.specs.Reading.{ADual, reading}
use Rattle.order_proof.specs.Readers.{IsDualOf}
use Rattle.order_proof.specs.Begun.{dual_begins_with, IsDualBegun}
use Rattle.decimal_text.proofs.Stops.{line_stops, part_stops, rest_stops}
use Rattle.order_proof.proofs.ReadDuals.{dual_stops, dual_within, fork_then, fork_goes_on, fork_tree, whole_dual}
use Rattle.order_proof.proofs.dual_reading.+read_dual.Goals as goal

abbrev some : {A : Type 0} → A → Option A
some x = Some x

pub returns-in_err-start-clause-follows : goal.returns-in_err-start-clause-follows
returns-in_err-start-clause-follows t c =
    let p = err_from_is_err_and c.from_residual.result c.from_residual.ensures.1 in
    rw (p.1, p.2)
    (line_stops c.in_err-start.field-0.0 c.args.text.now (front (dual_in c.args.room) c.args.text.now) (reading (ADual c.args.room ∷ []) c.args.text.now) c.in_err-start.ensures.line
    (dual_stops c.args.room c.args.text.now))

pub overflow_sub-room : goal.overflow_sub-room
overflow_sub-room t c =
    let within = dual_within c.args.room c.args.text.now (duals.Fork c.in-Fork.seg c.in-Fork.a c.in-Fork.b) c.in_ok-start.rest.now
    (c.in_ok-start.ensures.line ∙ ap (λ (s : DualStart). some (dual_begins_with s, c.in_ok-start.rest.now)) c.in-Fork.is) in
    omega (arith, within.0)

pub read_dual-requires : goal.read_dual-requires
read_dual-requires t c =
    let within = dual_within c.args.room c.args.text.now (duals.Fork c.in-Fork.seg c.in-Fork.a c.in-Fork.b) c.in_ok-start.rest.now
    (c.in_ok-start.ensures.line ∙ ap (λ (s : DualStart). some (dual_begins_with s, c.in_ok-start.rest.now)) c.in-Fork.is) in
    (omega (arith, within.0), tt)

pub returns-in_err-first-in-Fork-clause-follows : goal.returns-in_err-first-in-Fork-clause-follows
returns-in_err-first-in-Fork-clause-follows t c =
    let there = c.in_ok-start.ensures.line ∙ ap (λ (s : DualStart). some (dual_begins_with s, c.in_ok-start.rest.now)) c.in-Fork.is in
    let p = err_from_is_err_and c.from_residual-in_err-first-in-Fork.result c.from_residual-in_err-first-in-Fork.ensures.1 in
    rw (p.1, p.2)
    (part_stops c.in_err-first-in-Fork.field-0.0 (reading (ADual (c.args.room - 1) ∷ []) c.in_ok-start.rest.now) (reading (ADual c.args.room ∷ []) c.args.text.now)
    (reading (ADual (c.args.room - 1) ∷ [])) c.in_err-first-in-Fork.ensures.follows
    (fork_then c.args.room c.args.text.now c.in-Fork.seg c.in-Fork.a c.in-Fork.b c.in_ok-start.rest.now there))

pub overflow_sub-room-in-Fork : goal.overflow_sub-room-in-Fork
overflow_sub-room-in-Fork t c =
    let within = dual_within c.args.room c.args.text.now (duals.Fork c.in-Fork.seg c.in-Fork.a c.in-Fork.b) c.in_ok-start.rest.now
    (c.in_ok-start.ensures.line ∙ ap (λ (s : DualStart). some (dual_begins_with s, c.in_ok-start.rest.now)) c.in-Fork.is) in
    omega (arith, within.0)

pub read_dual-requires-in-Fork : goal.read_dual-requires-in-Fork
read_dual-requires-in-Fork t c =
    let within = dual_within c.args.room c.args.text.now (duals.Fork c.in-Fork.seg c.in-Fork.a c.in-Fork.b) c.in_ok-start.rest.now
    (c.in_ok-start.ensures.line ∙ ap (λ (s : DualStart). some (dual_begins_with s, c.in_ok-start.rest.now)) c.in-Fork.is) in
    (omega (arith, within.0), tt)

pub returns-in_err-second-in-Fork-clause-follows : goal.returns-in_err-second-in-Fork-clause-follows
returns-in_err-second-in-Fork-clause-follows t c =
    let there = c.in_ok-start.ensures.line ∙ ap (λ (s : DualStart). some (dual_begins_with s, c.in_ok-start.rest.now)) c.in-Fork.is in
    let p = err_from_is_err_and c.from_residual-in_err-second-in-Fork.result c.from_residual-in_err-second-in-Fork.ensures.1 in
    rw (p.1, p.2)
    (rest_stops c.in_err-second-in-Fork.field-0.0 (reading (ADual (c.args.room - 1) ∷ []) c.in_ok-first-in-Fork.rest.now) (reading (ADual c.args.room ∷ []) c.args.text.now)
    c.in_err-second-in-Fork.ensures.follows
    (fork_goes_on c.args.room c.args.text.now c.in-Fork.seg c.in-Fork.a c.in-Fork.b c.in_ok-start.rest.now c.in_ok-first-in-Fork.rest.now there c.in_ok-first-in-Fork.ensures.follows))

pub returns-in-Whole-clause-follows : goal.returns-in-Whole-clause-follows
returns-in-Whole-clause-follows t c =
    (whole_dual c.args.room (plain_dual c.in-Whole.tree.value) c.args.text.now c.in_ok-start.rest.now (subst IsDualBegun c.in-Whole.is c.in_ok-start.ensures.begun)
    (c.in_ok-start.ensures.line ∙ ap (λ (s : DualStart). some (dual_begins_with s, c.in_ok-start.rest.now)) c.in-Whole.is)).0

pub returns-in-Whole-clause-tree : goal.returns-in-Whole-clause-tree
returns-in-Whole-clause-tree t c =
    (whole_dual c.args.room (plain_dual c.in-Whole.tree.value) c.args.text.now c.in_ok-start.rest.now (subst IsDualBegun c.in-Whole.is c.in_ok-start.ensures.begun)
    (c.in_ok-start.ensures.line ∙ ap (λ (s : DualStart). some (dual_begins_with s, c.in_ok-start.rest.now)) c.in-Whole.is)).1

pub returns-in_ok-tree-in-Fork-clause-follows : goal.returns-in_ok-tree-in-Fork-clause-follows
returns-in_ok-tree-in-Fork-clause-follows t c =
    let there = c.in_ok-start.ensures.line ∙ ap (λ (s : DualStart). some (dual_begins_with s, c.in_ok-start.rest.now)) c.in-Fork.is in
    fork_goes_on c.args.room c.args.text.now c.in-Fork.seg c.in-Fork.a c.in-Fork.b c.in_ok-start.rest.now c.in_ok-first-in-Fork.rest.now there c.in_ok-first-in-Fork.ensures.follows
    ∙ c.in_ok-second-in-Fork.ensures.follows

pub returns-in_ok-tree-in-Fork-clause-tree : goal.returns-in_ok-tree-in-Fork-clause-tree
returns-in_ok-tree-in-Fork-clause-tree t c =
    let there = c.in_ok-start.ensures.line ∙ ap (λ (s : DualStart). some (dual_begins_with s, c.in_ok-start.rest.now)) c.in-Fork.is in
    subst (λ (u : PlainDual). IsDualOf c.args.room u c.args.text.now c.in_ok-second-in-Fork.rest.now) (sym c.in_ok-tree-in-Fork.ensures)
    (fork_tree c.args.room c.args.text.now c.in-Fork.seg c.in-Fork.a c.in-Fork.b c.in_ok-start.rest.now (plain_dual c.in_ok-first-in-Fork.first.value) (plain_dual c.in_ok-second-in-Fork.second.value)
    c.in_ok-first-in-Fork.rest.now c.in_ok-second-in-Fork.rest.now there c.in_ok-first-in-Fork.ensures.tree c.in_ok-second-in-Fork.ensures.tree)
