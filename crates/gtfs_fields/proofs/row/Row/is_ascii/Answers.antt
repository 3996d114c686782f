use Rattle.std.proofs.Common.{◌≡◌, true, List, ℕ, ap, subst}
use Rattle.std.specs.Str.{IsAscii, IsNotAscii}
use Rattle.std.proofs.lemmas.Bool.{MatchBool-at_true}
use Rattle.gtfs_fields.specs.Records.{is_text}
use Rattle.gtfs_fields.proofs.RowLemmas.{ascii_fields}
use Rattle.gtfs_fields.proofs.row.Row.is_ascii.Goals as goal

pub returns : goal.returns
returns c good =
    let row = c.self.inside.fields.now in
    subst (λ (fields : List (List ℕ)). is_text fields ≡ true) c.self.view_is
    (ascii_fields 0 row.ends row.bytes
    (subst IsAscii c.as_slice.ensures (MatchBool-at_true (IsAscii c.as_slice.result.now) (IsNotAscii c.as_slice.result.now) good c.is_ascii.ensures.cases)))
