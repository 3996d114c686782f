use Rattle.std.proofs.Common.{◌≡◌, ℕ, All, Option, IfOk, OnOk, subst}
use Rattle.std.proofs.lemmas.Result.{err_from_is_err_and}
use Rattle.files_door.specs.Acts.{puts}
use Rattle.command_run.specs.Pieces.{DoesUpTo}
use Rattle.edit_session.specs.Scripts.{draws_in, followed_in}
use Rattle.edit_session.specs.Sessions.{SessionState}
use Rattle.edit_session.specs.DrawTexts.{draws_text}
use Rattle.edit_session.specs.SessionWorks.{session_text}
use Rattle.edit_session.specs.Promises.{KeepsPromise}
use Rattle.edit_session.proofs.PlayLemmas.{begun_due, unbegun}
use Rattle.edit_session.proofs.session_command.play.Goals as goal

pub returns-in_err-begin-clause-written : goal.returns-in_err-begin-clause-written
returns-in_err-begin-clause-written g c =
    unbegun c.args.out.now (session_text c.args.loaded c.args.script.now) (g.S.Sinks.written c.args.sinks.now) (g.S.Sinks.written c.begin.new.self) c.in_err-begin.field-0.0 c.from_residual-in_err-begin.result
    (err_from_is_err_and c.from_residual-in_err-begin.result c.from_residual-in_err-begin.ensures.1) c.in_err-begin.ensures.refused

pub returns-clause-written : goal.returns-clause-written
returns-clause-written g c =
    let mid = g.S.Sinks.written c.begin.new.self in
    let now = g.S.Sinks.written c.follow_script.new.sinks in
    let due = subst (λ (s : SessionState). DoesUpTo {T = Option ℕ} (puts (g.S.Sinks.current c.begin.new.self) (draws_text 1 (draws_in s.feed s.choices s.method c.args.script.now))) mid now c.follow_script.result)
    c.begin-session.ensures c.follow_script.ensures.written in
    begun_due c.args.out.now c.in_ok-of.field-0 (session_text c.args.loaded c.args.script.now) (g.S.Sinks.current c.begin.new.self)
    (g.S.Sinks.written c.args.sinks.now) mid now c.follow_script.result
    c.in_ok-of.ensures c.in_ok-begin.ensures.begun c.in_ok-begin.ensures.current due

pub returns-clause-bad : goal.returns-clause-bad
returns-clause-bad g c =
    subst (λ (s : SessionState). IfOk c.follow_script.result (λ bad. bad ≡ (followed_in s.feed c.args.script.now).bad)) c.begin-session.ensures c.follow_script.ensures.bad

pub returns-clause-kept : goal.returns-clause-kept
returns-clause-kept g c =
    subst (λ (s : SessionState). OnOk c.follow_script.result (All (KeepsPromise s.feed s.choices s.method) (followed_in s.feed c.args.script.now).draws)) c.begin-session.ensures c.follow_script.ensures.kept
