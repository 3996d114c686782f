use Rattle.std.proofs.Common.{◌∙◌, ◌++◌, sym, ap, subst, List}
use Rattle.drawing_search.proofs.Common.{points_of, Dir, GridPoint, IsTrack}
use Rattle.drawing_search.proofs.Laid.{track_of}
use Rattle.drawing_search.proofs.cutting.Track.of.Goals as goal

pub returns-clause-track : goal.returns-clause-track
returns-clause-track c =
    let w = c.args.walk.now in
    let points = c.in_ok-push_points.ensures ∙ ap (λ (ps : List GridPoint). ps ++ points_of w) c.new-points.ensures.items in
    subst (λ (ps : List GridPoint). IsTrack ps c.in_ok-steps.steps.items) (sym points) (subst (λ (ds : List Dir). IsTrack (points_of w) ds) (sym c.in_ok-steps.ensures) (track_of w c.runs-runs.ensures.walk))
