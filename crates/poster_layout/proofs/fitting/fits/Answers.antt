use Rattle.std.proofs.Common.{List, ap, ◌∙◌}
use Rattle.poster_plan.specs.declared.layout.Printed.{Printed}
use Rattle.poster_plan.specs.Pitches.{frame_with, is_small}
use Rattle.poster_layout.proofs.fitting.fits.Goals as goal

pub returns : goal.returns
returns c =
    let laid = c.args.laid.now in
    c.is_small.ensures ∙ ap is_small c.frame_with.ensures.value
    ∙ ap (λ (ps : List Printed). is_small (frame_with laid.pitch c.args.plan.now ps)) (c.as_slice.ensures.value ∙ c.requires.printed)
