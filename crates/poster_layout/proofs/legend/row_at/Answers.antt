use Rattle.std.proofs.Common.{ℕ, ◌*◌, ◌/◌, ap, ◌∙◌, arith}
use Rattle.poster_layout.specs.Extents.{beyond}
use Rattle.poster_layout.proofs.legend.row_at.Goals as goal

pub beyond-requires-clause-across : goal.beyond-requires-clause-across
beyond-requires-clause-across c = omega (arith, c.times-right.ensures.small, c.column_of.ensures.small, c.requires.row)

pub returns-clause-value : goal.returns-clause-value
returns-clause-value c =
    let l = c.args.legend in
    c.beyond.ensures.value
    ∙ ap (λ (n : ℕ). beyond l.start n c.low_of-low.result) (c.times-right.ensures.value ∙ ap (λ (k : ℕ). l.column * k) c.column_of.ensures.value)
    ∙ ap (beyond l.start (l.column * (c.args.i / l.rows))) c.low_of-low.ensures.value

pub returns-clause-near : goal.returns-clause-near
returns-clause-near c = record {
  across = omega (arith, c.beyond.ensures.x, c.requires.legend.start.across, c.times-right.ensures.small, c.column_of.ensures.small, c.requires.row);
  down = omega (arith, c.beyond.ensures.y, c.requires.legend.start.down, c.low_of-low.ensures.small);
}
