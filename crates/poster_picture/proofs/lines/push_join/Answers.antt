use Rattle.std.proofs.Common.{◌≡◌, ℕ, List, ◌++◌, OnOk, string_bytes, sym, subst, ◌∙◌}
use Rattle.poster_picture.specs.Sheets.{plain}
use Rattle.poster_picture.proofs.Joining.{ends_differ, ends_meet}
use Rattle.poster_picture.proofs.lines.push_join.Goals as goal

pub returns-then-are_one : goal.returns-then-are_one
returns-then-are_one c =
    ends_meet (plain c.args.sheet) c.args.n.0 c.args.join c.in_ok-start.start c.in_ok-end.end (string_bytes c.args.text.now) c.in_ok-start.ensures c.in_ok-end.ensures (sym c.are_one.ensures ∙ c.if-are_one.true)

pub returns : goal.returns
returns c =
    subst (λ (bytes : List ℕ). OnOk c.push_between.result (string_bytes c.push_between.new.text ≡ string_bytes c.args.text.now ++ bytes))
    (ends_differ (plain c.args.sheet) c.args.n.0 c.args.join c.in_ok-start.start c.in_ok-end.end c.colour_of-colour.result.now c.in_ok-start.ensures c.in_ok-end.ensures (sym c.are_one.ensures ∙ c.if-are_one.false) c.colour_of-colour.ensures)
    c.push_between.ensures
