use Rattle.std.proofs.Common.{ℕ, ◌+◌, length, take, sum_by, ap, sym, ◌∙◌, arith}
use Rattle.std.specs.Str.{chars}
use Rattle.std.proofs.lemmas.Iterator.{YieldsList-from_chars}
use Rattle.std.proofs.lemmas.Iterator.Consumers.{YieldsList-turn, YieldsList-end}
use Rattle.std.proofs.lemmas.List.{length_push, take_all}
use Rattle.std.proofs.lemmas.List.Sums.{sum_by-take-le}
use Rattle.name_widths.specs.Widths.{char_width}
use Rattle.name_widths.proofs.Summing.{sum_more}
use Rattle.name_widths.proofs.widths.text_width.Goals as goal

pub returns-then-width-gt1152921504606846976-clause-room : goal.returns-then-width-gt1152921504606846976-clause-room
returns-then-width-gt1152921504606846976-clause-room c =
    omega (arith, sum_by-take-le char_width (chars c.args.text.now) (length c.loop-c.yielded), c.loop-c.invariant.value, c.if-width-gt1152921504606846976.true)

pub loop-c-preserved : goal.loop-c-preserved
loop-c-preserved c =
    let t = YieldsList-turn (YieldsList-from_chars c.args.text.now c.utf8.text cc) c.loop-c.yielded _ c.loop-c.yielded_by _ _ c.in-Some.c c.in-Some.is c.next.ensures.steps in
    record {
      value =
          sum_more char_width (chars c.args.text.now) (length c.loop-c.yielded) c.in-Some.c c.in-Some.c c.loop-c.width (c.loop-c.width + c.char_width-width.result) t.0 t.1 (ap (λ (n : ℕ). c.loop-c.width + n) c.char_width-width.ensures.value) c.loop-c.invariant.value
          ∙ ap (λ (n : ℕ). sum_by char_width (take n (chars c.args.text.now))) (sym (length_push c.loop-c.yielded c.in-Some.c));
      small = omega (arith, c.char_width-width.ensures.small);
    }

pub returns-clause-value : goal.returns-clause-value
returns-clause-value c =
    let t = YieldsList-end (YieldsList-from_chars c.args.text.now c.utf8.text cc) c.loop-c.yielded _ c.loop-c.yielded_by _ _ c.in-None.is c.next.ensures.steps in
    c.loop-c.invariant.value ∙ ap (sum_by char_width) (take_all (length c.loop-c.yielded) (chars c.args.text.now) (omega (arith, t.1)))
