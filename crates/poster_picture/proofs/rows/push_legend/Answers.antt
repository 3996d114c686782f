use Rattle.std.proofs.Common.{◌≡◌, ◌++◌, Option, OnOk, string_bytes, subst, sym, ap, ◌∙◌, append-nil}
use Rattle.poster_plan.specs.declared.layout.Legend.{Legend}
use Rattle.poster_rules.specs.Elements.{texts}
use Rattle.poster_rules.specs.Posters.{legend_elements}
use Rattle.poster_picture.proofs.rows.push_legend.Goals as goal

pub returns-in-None : goal.returns-in-None
returns-in-None c =
    let old = string_bytes c.args.text.now in
    sym (append-nil old) ∙ sym (ap (λ (o : Option Legend). old ++ texts (legend_elements c.args.names.now o c.args.lines.now)) c.in-None.is)

pub returns-in-Some : goal.returns-in-Some
returns-in-Some c =
    subst (λ (o : Option Legend). OnOk c.push_rows.result (string_bytes c.push_rows.new.text ≡ string_bytes c.args.text.now ++ texts (legend_elements c.args.names.now o c.args.lines.now)))
    (sym c.in-Some.is) c.push_rows.ensures
