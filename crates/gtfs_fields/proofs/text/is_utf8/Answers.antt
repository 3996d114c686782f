use Rattle.std.proofs.Common.{◌≡◌, ◌∙◌}
use Rattle.std.specs.Str.{IsValidUpTo, valid_up_to}
use Rattle.gtfs_fields.proofs.TextRows.{is_utf8-is_ok}
use Rattle.gtfs_fields.proofs.text.is_utf8.Goals as goal

pub returns : goal.returns
returns c =
    c.is_ok.ensures.value
    ∙ is_utf8-is_ok (λ s. s.now ≡ c.args.bytes.now) (λ e. IsValidUpTo c.args.bytes.now (valid_up_to e)) c.args.bytes.now c.from_utf8.result c.from_utf8.ensures.cases
