use Rattle.std.proofs.Common.{◌≡◌, ◌++◌, drop}
use Rattle.decimal_text.specs.Lines.{numbers_text}
use Rattle.order_proof.specs.Lines.{price_numbers}
use Rattle.order_proof.proofs.writing.put_prices.Given as goal

-- what is written and what is left are the whole
abbrev pub invariant-loop-term : goal.invariant-loop-term
invariant-loop-term l = l.out.items ++ numbers_text (price_numbers (drop l.term-index l.prices)) ≡ l.fn.out.items ++ numbers_text (price_numbers l.prices)
