use Rattle.std.proofs.Common.{Ok, Err, subst}
use Rattle.command_paths.specs.Sets.{sets_of}
use Rattle.map_settings.specs.Faults.{Reads}
use Rattle.map_settings.specs.Outcome.{set_outcome, sets_outcome}
use Rattle.command_inputs.proofs.SetLemmas.{next_refused}
use Rattle.command_inputs.proofs.settings.with_sets.Goals as goal

pub returns-in-Err : goal.returns-in-Err
returns-in-Err c =
    next_refused (sets_of c.sets.rest.now) (sets_of c.in-Some.behind.now) c.in-Some.set.now c.sets.settings c.in-Err.why
    (sets_outcome (sets_of c.args.words.now) (Ok c.args.base)) c.in-Some.ensures.first
    (subst (λ text. Reads (Err c.in-Err.why) (set_outcome c.sets.settings text)) c.as_bytes.ensures.value c.in-Err.ensures) c.sets.invariant
