use Rattle.std.proofs.Common.{◌==◌, length, sym, arith}
use Rattle.std.proofs.lemmas.Bool.{eq-eqb}
use Rattle.std.proofs.lemmas.List.Sums.{position_or_len_is}
use Rattle.map_base.specs.declared.ids.LineId.{LineId}
use Rattle.svg_writer.specs.Picture.{no_line}
use Rattle.svg_writer.proofs.lines.place_in.Goals as goal

pub returns-then-other-line-clause-place : goal.returns-then-other-line-clause-place
returns-then-other-line-clause-place c =
    sym (position_or_len_is (λ (l : LineId). l.0 == c.args.line.0) c.args.order.now c.loop-place.place no_line (omega arith) c.loop-place.invariant (λ _. eq-eqb _ _ c.if-other-line.true))

pub returns-clause-place : goal.returns-clause-place
returns-clause-place c =
    sym (position_or_len_is (λ (l : LineId). l.0 == c.args.line.0) c.args.order.now (length c.args.order.now) no_line (omega arith) (λ k low. c.loop-place.invariant k (omega arith)) (λ low. absurd (omega arith)))
