use Rattle.clap.specs.Simple.{subcommand_rows_of}
use Rattle.command_paths.specs.Sets.{sets_of}
use Rattle.command_words.specs.Words.{asked_in, named_in}
use Rattle.command_words.proofs.Reading.{reads_as, unread_as}
use Rattle.command_words.proofs.words.command_of.Goals as goal

pub returns-in-Ok : goal.returns-in-Ok
returns-in-Ok c = reads_as (asked_in c.args.words.now) (named_in (sets_of c.args.words.now) (subcommand_rows_of c.in-Ok.matches)) c.command_by.result c.in-Ok.ensures c.command_by.ensures

pub returns-in-Err : goal.returns-in-Err
returns-in-Err c = unread_as (sets_of c.args.words.now) (asked_in c.args.words.now) c.in-Err.fault c.in-Err.ensures
