use Rattle.std.proofs.Common.{Err, ap, subst, sym, ◌∙◌, arith}
use Rattle.std.specs.Prelude.{Vec}
use Rattle.std.specs.declared.alloc.Global.{Global}
use Rattle.map_edits.specs.declared.edit.Edit.{Edit}
use Rattle.map_edits.specs.Grammar.{edit_in}
use Rattle.map_edits.specs.Standing.{Named, named_in, after_line, edits_from, AddsLine}
use Rattle.map_edits.proofs.ScriptLemmas.{said_more, said_stop, range_more}
use Rattle.map_edits.proofs.script.read_edits.Goals as goal

pub loop-line-preserved : goal.loop-line-preserved
loop-line-preserved c =
    let named = named_in c.args.tables.now in
    let standing = c.loop-line.standing.items in
    let here = ap (λ n. after_line n standing (edit_in c.in-Some.line.now)) (sym c.in_ok-known.ensures) ∙ c.in-Ok.ensures in
    record {
      said = said_more named c.loop-line.done standing c.add_line.new.standing.items c.loop-line.rest.now c.in-Some.line.now c.in-Some.left.now _ c.in-Some.ensures.lines here c.loop-line.invariant.said;
      counted = omega (arith, c.in-Some.ensures.shorter, c.loop-line.invariant.counted);
      in_range = range_more named standing c.add_line.new.standing.items c.in-Some.line.now here c.loop-line.invariant.in_range;
    }

pub returns-in-Err-clause-edits : goal.returns-in-Err-clause-edits
returns-in-Err-clause-edits c =
    let standing = c.loop-line.standing.items in
    let next = c.add_line.new.standing.items in
    let stop = c.in-Err.stop in
    let here = subst (λ (n : Named). AddsLine (Err stop) next (after_line n standing (edit_in c.in-Some.line.now))) c.in_ok-known.ensures c.in-Err.ensures in
    said_stop {X = Vec Edit Global} (λ edits. edits.items) (named_in c.args.tables.now) c.loop-line.done standing next c.loop-line.rest.now c.in-Some.line.now c.in-Some.left.now _ stop c.fault_at.result c.fault_at.ensures
    c.in-Some.ensures.lines here c.loop-line.invariant.said

pub returns-clause-edits : goal.returns-clause-edits
returns-clause-edits c =
    sym c.loop-line.invariant.said ∙ ap (edits_from (named_in c.args.tables.now) c.loop-line.done c.loop-line.standing.items) c.in_default.ensures.lines
