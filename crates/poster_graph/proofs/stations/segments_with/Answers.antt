use Rattle.std.proofs.Common.{◌≡◌, ◌+◌, Bool, cond, filter, get_or, length, List, ap, sym, ◌∙◌, arith}
use Rattle.std.proofs.lemmas.List.{take_all}
use Rattle.map_base.specs.declared.ids.SegId.{SegId}
use Rattle.svg_writer.specs.Picture.{lines_at}
use Rattle.poster_rules.specs.Stations.{has_line}
use Rattle.poster_graph.proofs.Steps.{count_more, count_small}
use Rattle.poster_graph.proofs.stations.segments_with.Goals as goal
use Rattle.poster_graph.proofs.stations.segments_with.Goals.{then-has_line, else-has_line}

abbrev none : SegId
none = record { 0 = 0 }

pub loop-s-preserved : goal.loop-s-preserved
loop-s-preserved c =
    let round = c.round_of-round.result.now in
    let i = c.loop-s.s-index in
    let count = c.loop-s.count in
    let test : SegId → Bool = λ s. has_line c.args.line (lines_at c.args.graph.now.lines s.0) in
    let is : c.has_line.result ≡ test (get_or round i none) = c.has_line.ensures ∙ ap (has_line c.args.line) c.lines_of.ensures in
    let next : c.if-has_line.count ≡ cond c.has_line.result (count + 1) count =
    elim c.if-has_line.branch [
      | then-has_line w ↦ w.count-is ∙ sym (ap (λ (b : Bool). cond b (count + 1) count) w.if-has_line.true)
      | else-has_line w ↦ w.count-is ∙ sym (ap (λ (b : Bool). cond b (count + 1) count) w.if-has_line.false)
    ] in
    record {
      value = count_more test round i none count c.if-has_line.count c.has_line.result c.loop-s-test.true is c.loop-s.invariant.value next;
      small = count_small count c.if-has_line.count i c.has_line.result next c.loop-s.invariant.small;
    }

pub returns : goal.returns
returns c =
    let test : SegId → Bool = λ s. has_line c.args.line (lines_at c.args.graph.now.lines s.0) in
    c.loop-s.invariant.value
    ∙ ap (λ (ss : List SegId). length (filter test ss)) (take_all c.loop-s.s-index c.round_of-round.result.now (omega arith) ∙ c.round_of-round.ensures)
