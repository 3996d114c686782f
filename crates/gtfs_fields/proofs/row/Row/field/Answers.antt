use Rattle.std.proofs.Common.{◌≡◌, ◌<◌, ◌∙◌, List, ℕ, [], length, get_or, ap, sym, subst}
use Rattle.csv.specs.Records.{fields_of}
use Rattle.gtfs_fields.proofs.RowLemmas.{field_there, no_field}
use Rattle.gtfs_fields.proofs.row.Row.field.Goals as goal

pub unreachable-requires : goal.unreachable-requires
unreachable-requires c =
    let fields : List (List ℕ) = fields_of c.self.inside.fields.now in
    no_field fields c.args.column (subst (λ (fs : List (List ℕ)). c.args.column < length fs) (sym c.self.view_is) c.requires) c.in_default.ensures.value

pub returns : goal.returns
returns c =
    field_there (fields_of c.self.inside.fields.now) c.args.column c.in-Some.field.now c.in-Some.ensures.value
    ∙ ap (λ (fields : List (List ℕ)). get_or fields c.args.column []) c.self.view_is
