use Rattle.command_words.specs.Words.{asked_in}
use Rattle.map_run.proofs.EndingLemmas.{caused, unread_usage}
use Rattle.map_run.proofs.HeadlineLemmas.{done_means}
use Rattle.map_run.proofs.running.run.Goals as goal

pub returns-clause-cause : goal.returns-clause-cause
returns-clause-cause g c =
    caused (asked_in c.args.words.now) (g.F.Files.told c.args.files.now) _ _
    (g.S.Sinks.written c.args.sinks.now) (g.S.Sinks.written c.ended_run.new.sinks) c.ended_run.result c.ended_run.ensures.ends

pub returns-clause-usage : goal.returns-clause-usage
returns-clause-usage g c = λ none.
    unread_usage (asked_in c.args.words.now) (g.F.Files.told c.args.files.now) _ _
    (g.S.Sinks.written c.args.sinks.now) (g.S.Sinks.written c.ended_run.new.sinks) c.ended_run.result none c.ended_run.ensures.ends

pub returns-clause-map : goal.returns-clause-map
returns-clause-map g c = λ done.
    done_means (g.F.Files.told c.args.files.now) c.args.words.now _ _
    (g.S.Sinks.written c.args.sinks.now) (g.S.Sinks.written c.ended_run.new.sinks) c.ended_run.result c.ended_run.ensures.ends done
