use Rattle.std.proofs.Common.{Option, ap, sym, subst, ◌∙◌}
use Rattle.std.specs.Prelude.{IfSome}
use Rattle.poster_plan.specs.declared.layout.Legend.{Legend}
use Rattle.poster_plan.specs.Legends.{frame_beside}
use Rattle.poster_layout.specs.Extents.{IsLegend}
use Rattle.poster_layout.proofs.Corners.{drawn_near}
use Rattle.poster_layout.proofs.legend.frame_beside.Goals as goal

pub returns-in-None-clause-value : goal.returns-in-None-clause-value
returns-in-None-clause-value c = sym (ap (frame_beside c.args.f c.args.lines c.args.widest) c.in-None.is)

pub returns-in-None-clause-drawn : goal.returns-in-None-clause-drawn
returns-in-None-clause-drawn c = drawn_near c.args.f c.requires.frame

pub frame_around-requires-clause-legend : goal.frame_around-requires-clause-legend
frame_around-requires-clause-legend c = subst (λ (o : Option Legend). IfSome o IsLegend) c.in-Some.is c.requires.legend

pub returns-in-Some-clause-value : goal.returns-in-Some-clause-value
returns-in-Some-clause-value c = c.frame_around.ensures.value ∙ sym (ap (frame_beside c.args.f c.args.lines c.args.widest) c.in-Some.is)
