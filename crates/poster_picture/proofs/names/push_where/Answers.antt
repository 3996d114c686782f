use Rattle.std.proofs.Common.{◌≡◌, ◌++◌, Option, OnOk, string_bytes, subst, sym}
use Rattle.poster_plan.specs.declared.layout.Printed.{Printed}
use Rattle.poster_rules.specs.Elements.{texts}
use Rattle.poster_rules.specs.Posters.{name_where}
use Rattle.poster_picture.specs.Sheets.{plain}
use Rattle.poster_picture.proofs.names.push_where.Goals as goal

pub returns-in-Some : goal.returns-in-Some
returns-in-Some c =
    subst (λ (o : Option Printed). OnOk c.push_printed.result (string_bytes c.push_printed.new.text ≡ string_bytes c.args.text.now ++ texts (name_where (plain c.args.sheet) c.args.mark o))) (sym c.in-Some.is) c.push_printed.ensures
