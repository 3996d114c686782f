use Rattle.drawing_laws.proofs.NoRoute.{fits}
use Rattle.drawing_laws.proofs.routing.homes_are_on_the_grid.Goals as goal

pub returns : goal.returns
returns c = fits
