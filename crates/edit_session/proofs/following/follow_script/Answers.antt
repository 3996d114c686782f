use Rattle.std.proofs.Common.{Option, Err, refl, subst, ◌∙◌, arith}
use Rattle.std.proofs.lemmas.Result.{err_from_is_err_and}
use Rattle.files_door.specs.declared.target.Target.{Target}
use Rattle.files_door.specs.Acts.{puts, Does}
use Rattle.command_run.specs.Pieces.{DoesUpTo}
use Rattle.map_edits.specs.Grammar.{script_line_in}
use Rattle.edit_session.specs.declared.following.LineEnd.{LineEnd}
use Rattle.edit_session.specs.Stages.{EndsLine, line_text, stage_of}
use Rattle.edit_session.proofs.EditLemmas.{count_more}
use Rattle.edit_session.proofs.LineLemmas.{refused_due, written_begun, written_more, written_whole, written_left, written_to_bad, steps_left}
use Rattle.edit_session.proofs.following.follow_script.Goals as goal

pub loop-line-init : goal.loop-line-init
loop-line-init g c =
    let session = c.args.session.now in
    record {
      way =
          written_begun session.feed session.choices session.method c.args.script.now c.args.steps.now (g.S.Sinks.current c.args.sinks.now) (g.S.Sinks.written c.args.sinks.now)
          (stage_of session 0) c.requires.begun refl;
      current = refl;
      later = omega arith;
      counted = omega arith;
      drawn = omega arith;
    }

pub returns-in_err-follow_line-clause-written : goal.returns-in_err-follow_line-clause-written
returns-in_err-follow_line-clause-written g c =
    let session = c.args.session.now in
    let here = stage_of c.loop-line.session c.loop-line.count in
    let stop = c.in_err-follow_line.field-0.0 in
    let mid = g.S.Sinks.written c.loop-line.sinks in
    let now = g.S.Sinks.written c.follow_line.new.sinks in
    let due = subst (λ (t : Option Target). DoesUpTo {T = LineEnd} (puts t (line_text here (script_line_in c.in-Some.line.now))) mid now (Err stop)) c.loop-line.invariant.current c.in_err-follow_line.ensures.written in
    refused_due _ (g.S.Sinks.written c.args.sinks.now) now stop c.from_residual.result (err_from_is_err_and c.from_residual.result c.from_residual.ensures.1)
    (written_left session.feed session.choices session.method c.args.script.now c.args.steps.now (g.S.Sinks.current c.args.sinks.now) (g.S.Sinks.written c.args.sinks.now)
    here c.loop-line.done c.loop-line.rest.now c.in-Some.line.now c.in-Some.left.now c.loop-line.steps mid now stop c.in-Some.ensures.lines c.loop-line.invariant.way due)

pub returns-in_err-follow_line-clause-steps : goal.returns-in_err-follow_line-clause-steps
returns-in_err-follow_line-clause-steps g c =
    let session = c.args.session.now in
    steps_left session.feed session.choices session.method c.args.script.now c.args.steps.now (g.S.Sinks.current c.args.sinks.now) (g.S.Sinks.written c.args.sinks.now)
    (stage_of c.loop-line.session c.loop-line.count) c.loop-line.done c.loop-line.rest.now c.in-Some.line.now c.in-Some.left.now c.loop-line.steps c.follow_line.new.steps (g.S.Sinks.written c.loop-line.sinks)
    c.in-Some.ensures.lines c.in_err-follow_line.ensures.steps c.loop-line.invariant.way

pub returns-in-Bad-clause-written : goal.returns-in-Bad-clause-written
returns-in-Bad-clause-written g c =
    let session = c.args.session.now in
    let here = stage_of c.loop-line.session c.loop-line.count in
    let mid = g.S.Sinks.written c.loop-line.sinks in
    let now = g.S.Sinks.written c.follow_line.new.sinks in
    let ends = subst (λ (e : LineEnd). EndsLine here (script_line_in c.in-Some.line.now) (stage_of c.follow_line.new.session c.follow_line.new.count) e) c.in-Bad.is c.in_ok-follow_line.ensures.ended in
    let does = subst (λ (t : Option Target). Does (puts t (line_text here (script_line_in c.in-Some.line.now))) mid now) c.loop-line.invariant.current c.in_ok-follow_line.ensures.written in
    (written_to_bad session.feed session.choices session.method c.args.script.now c.args.steps.now (g.S.Sinks.current c.args.sinks.now) (g.S.Sinks.written c.args.sinks.now)
    here c.loop-line.done c.loop-line.rest.now c.in-Some.line.now c.in-Some.left.now c.loop-line.steps c.follow_line.new.steps mid now c.in-Some.ensures.lines ends.0
    c.in_ok-follow_line.ensures.steps c.loop-line.invariant.way does).does

pub returns-in-Bad-clause-kept : goal.returns-in-Bad-clause-kept
returns-in-Bad-clause-kept g c =
    let session = c.args.session.now in
    let here = stage_of c.loop-line.session c.loop-line.count in
    let mid = g.S.Sinks.written c.loop-line.sinks in
    let now = g.S.Sinks.written c.follow_line.new.sinks in
    let ends = subst (λ (e : LineEnd). EndsLine here (script_line_in c.in-Some.line.now) (stage_of c.follow_line.new.session c.follow_line.new.count) e) c.in-Bad.is c.in_ok-follow_line.ensures.ended in
    let does = subst (λ (t : Option Target). Does (puts t (line_text here (script_line_in c.in-Some.line.now))) mid now) c.loop-line.invariant.current c.in_ok-follow_line.ensures.written in
    (written_to_bad session.feed session.choices session.method c.args.script.now c.args.steps.now (g.S.Sinks.current c.args.sinks.now) (g.S.Sinks.written c.args.sinks.now)
    here c.loop-line.done c.loop-line.rest.now c.in-Some.line.now c.in-Some.left.now c.loop-line.steps c.follow_line.new.steps mid now c.in-Some.ensures.lines ends.0
    c.in_ok-follow_line.ensures.steps c.loop-line.invariant.way does).kept

pub returns-clause-kept : goal.returns-clause-kept
returns-clause-kept g c =
    let session = c.args.session.now in
    (written_whole session.feed session.choices session.method c.args.script.now c.args.steps.now (g.S.Sinks.current c.args.sinks.now) (g.S.Sinks.written c.args.sinks.now)
    (stage_of c.loop-line.session c.loop-line.count) c.loop-line.done c.loop-line.rest.now c.loop-line.steps (g.S.Sinks.written c.loop-line.sinks)
    c.in_default.ensures.lines c.loop-line.invariant.way).kept

pub loop-line-preserved : goal.loop-line-preserved
loop-line-preserved g c =
    let session = c.args.session.now in
    let old = stage_of c.loop-line.session c.loop-line.count in
    let new = stage_of c.follow_line.new.session c.follow_line.new.count in
    let mid = g.S.Sinks.written c.loop-line.sinks in
    let now = g.S.Sinks.written c.follow_line.new.sinks in
    let followed = subst (λ (e : LineEnd). EndsLine old (script_line_in c.in-Some.line.now) new e) c.in-Followed.is c.in_ok-follow_line.ensures.ended in
    let does = subst (λ (t : Option Target). Does (puts t (line_text old (script_line_in c.in-Some.line.now))) mid now) c.loop-line.invariant.current c.in_ok-follow_line.ensures.written in
    record {
      way =
          written_more session.feed session.choices session.method c.args.script.now c.args.steps.now (g.S.Sinks.current c.args.sinks.now) (g.S.Sinks.written c.args.sinks.now)
          old new c.loop-line.done c.loop-line.rest.now c.in-Some.line.now c.in-Some.left.now c.loop-line.steps c.follow_line.new.steps mid now
          c.in-Some.ensures.lines followed c.in_ok-follow_line.ensures.steps c.loop-line.invariant.way does;
      current = c.in_ok-follow_line.ensures.current ∙ c.loop-line.invariant.current;
      later = omega (arith, c.loop-line.invariant.later, c.in_ok-follow_line.ensures.cause.later);
      counted = omega (arith, c.in-Some.ensures.shorter, c.loop-line.invariant.counted);
      drawn = omega (arith, count_more old new (script_line_in c.in-Some.line.now) followed, c.loop-line.invariant.drawn);
    }
