use Rattle.std.proofs.Common.{◌≡◌, ◌++◌, drop}
use Rattle.decimal_text.specs.Lines.{numbers_text}
use Rattle.order_proof.specs.Lines.{segment_numbers}
use Rattle.order_proof.proofs.writing.put_segments.Given as goal

-- what is written and what is left are the whole
abbrev pub invariant-loop-seg : goal.invariant-loop-seg
invariant-loop-seg l = l.out.items ++ numbers_text (segment_numbers (drop l.seg-index l.segs)) ≡ l.fn.out.items ++ numbers_text (segment_numbers l.segs)
