use Rattle.std.proofs.Common.{map, string_bytes}
use Rattle.clap.specs.Simple.{app_of}
use Rattle.command_words.proofs.Reading.{matched, refused_parse}
use Rattle.command_words.proofs.words.matches_by.Goals as goal

pub returns-in-Ok : goal.returns-in-Ok
returns-in-Ok c =
    matched (app_of c.args.program) c.requires (map string_bytes c.args.words.now) c.in-Ok.matches c.in-Ok.ensures.matches c.in-Ok.ensures.kinds

pub returns-in-Err : goal.returns-in-Err
returns-in-Err c =
    refused_parse (app_of c.args.program) c.requires (map string_bytes c.args.words.now) c.in-Err.error c.refused.result c.in-Err.ensures.kinds c.refused.ensures
