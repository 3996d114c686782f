use Rattle.std.proofs.Common.{◌≡◌, ℕ, Option, None, get_or, ◌++◌, string_bytes, ap, ◌∙◌, arith}
use Rattle.std.proofs.lemmas.List.{get_or_default}
use Rattle.poster_plan.specs.declared.layout.Printed.{Printed}
use Rattle.poster_plan.specs.declared.plan.Mark.{Mark}
use Rattle.poster_plan.specs.Placing.{mark_numbered}
use Rattle.poster_rules.specs.Elements.{texts}
use Rattle.poster_rules.specs.Posters.{name_where, printed_of}
use Rattle.poster_picture.specs.Sheets.{plain}
use Rattle.poster_picture.proofs.Writing.{numbered_more}
use Rattle.poster_picture.proofs.names.push_all_names.Goals as goal

pub loop-i-preserved : goal.loop-i-preserved
loop-i-preserved c =
    let sheet = plain c.args.sheet in
    let marks = c.args.plan.now.marks in
    let printed = c.args.printed.now in
    let i = c.loop-i.i in
    let before = string_bytes c.loop-i.text in
    let places = c.in_ok-places.places.items in
    let read : c.index.result.now ≡ get_or places i None = c.index.ensures ∙ get_or_default places i c.index.result.now None (omega (arith, c.in_ok-places.ensures.each)) in
    numbered_more (λ (k : ℕ). name_where sheet (mark_numbered marks k) (printed_of printed k)) i (string_bytes c.args.text.now) before (string_bytes c.push_where.new.text) c.loop-i.invariant
    (c.in_ok-push_where.ensures
    ∙ ap (λ (m : Mark). before ++ texts (name_where sheet m c.index.result.now)) c.mark_numbered-mark.ensures
    ∙ ap (λ (o : Option Printed). before ++ texts (name_where sheet (mark_numbered marks i) o)) (read ∙ c.in_ok-places.ensures.places i c.loop-i-test.true))
