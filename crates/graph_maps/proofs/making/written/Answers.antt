use Rattle.std.proofs.Common.{◌≡◌, ◌<◌, ◌^◌, ◌∙◌, length, ap, arith, rules}
use Rattle.graph_maps.specs.Certificates.{drawn_lines}
use Rattle.graph_maps.proofs.DrawnLemmas.{drawn_within, drawn_few}
use Rattle.graph_maps.proofs.making.written.Goals as goal

pub weighty_lines-requires : goal.weighty_lines-requires
weighty_lines-requires c =
    drawn_within c.args.graph.now c.line_total.result (length c.args.importance.now) c.as_slice.result.now
    (c.as_slice.ensures.value ∙ c.in_ok-lines.ensures) c.line_total.ensures

pub overflow_cast-certificate : goal.overflow_cast-certificate
overflow_cast-certificate c =
    let lines : c.in_ok-lines.lines.items ≡ drawn_lines c.line_total.result c.args.graph.now = c.in_ok-lines.ensures in
    let below : c.len.result < 2 ^ 32 = omega (
      arith,
      c.len.ensures,
      c.in_ok-lines.lines.ok.0,
      ap length lines,
      drawn_few c.line_total.result c.args.graph.now,
      c.line_total.ensures,
      c.requires.few,
    ) in
    search rules
