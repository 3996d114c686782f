use Rattle.std.proofs.Common.{◌∙◌, ap, option_map, sym}
use Rattle.clap.specs.Simple.{subcommand_rows_of}
use Rattle.command_paths.specs.Sets.{sets_of}
use Rattle.command_words.specs.Asked.{asked_by}
use Rattle.command_words.specs.Words.{named_in}
use Rattle.command_words.proofs.Reading.{unread}
use Rattle.command_words.proofs.words.command_by.Goals as goal

pub returns-in-Some : goal.returns-in-Some
returns-in-Some c = sym c.command_in.ensures ∙ ap (option_map asked_by) c.in-Some.is

pub returns-in-None : goal.returns-in-None
returns-in-None c =
    unread (named_in (sets_of c.args.words.now) (subcommand_rows_of c.args.matches.now)) c.shown.result (sym c.command_in.ensures ∙ ap (option_map asked_by) c.in-None.is)
