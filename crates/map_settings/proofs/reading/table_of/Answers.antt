use Rattle.std.proofs.Common.{refl}
use Rattle.std.proofs.lemmas.Str.{is_utf8-from_IsUtf8}
use Rattle.map_settings.proofs.TextLemmas.{is_utf8-refuses}
use Rattle.map_settings.proofs.reading.table_of.Goals as goal

pub returns-in-Err : goal.returns-in-Err
returns-in-Err c = rw (is_utf8-refuses c.args.bytes.now c.in-Err.ensures.cases.0) (refl, refl)

pub returns-in-Ok-table_from_str : goal.returns-in-Ok-table_from_str
returns-in-Ok-table_from_str c =
    let (same, text) = c.in-Ok.ensures.cases in
    rw (is_utf8-from_IsUtf8 c.args.bytes.now text, ← same) c.in-Ok-table_from_str.ensures.ok
