use Rattle.std.proofs.Common.{ℤ, List, Option, Some, None, option_map, ap, ◌∙◌}
use Rattle.decimal_text.proofs.LineLemmas.{paired}
use Rattle.order_proof.specs.declared.line_word.LineWord.{LineWord}
use Rattle.order_proof.specs.Lines.{Line}
use Rattle.order_proof.proofs.Fronts.{front_line_known}
use Rattle.order_proof.proofs.front_line.front_line.Goals as goal

abbrev read : List ℤ → LineWord → Line
read numbers word = record { word = word; numbers = numbers }

pub returns-in_default : goal.returns-in_default
returns-in_default c = let h = rw c.in_default.is at c.in_ok-word.ensures in front_line_known c.args.text.now None h

pub returns-in-Some-word_of : goal.returns-in-Some-word_of
returns-in-Some-word_of c =
    let h = rw c.in-Some.is at c.in_ok-word.ensures in
    let numbers = c.front_line.new.numbers.items in
    ap (λ (o : Option LineWord). option_map (paired c.in-Some.rest.now) (option_map (read numbers) o)) c.in-Some-word_of.ensures
    ∙ front_line_known c.args.text.now (Some (record { word = c.in-Some.word.now; numbers = numbers }, c.in-Some.rest.now)) h

pub returns-in-None : goal.returns-in-None
returns-in-None c =
    let h = rw c.in-Some.is at c.in_ok-word.ensures in
    let numbers = c.front_line.new.numbers.items in
    ap (λ (o : Option LineWord). option_map (paired c.in-Some.rest.now) (option_map (read numbers) o)) c.in-None.ensures
    ∙ front_line_known c.args.text.now (Some (record { word = c.in-Some.word.now; numbers = numbers }, c.in-Some.rest.now)) h
