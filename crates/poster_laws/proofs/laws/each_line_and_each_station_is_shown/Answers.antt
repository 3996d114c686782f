use Rattle.poster_laws.proofs.Showing.{shown_are}
use Rattle.poster_laws.proofs.laws.each_line_and_each_station_is_shown.Goals as goal

pub returns : goal.returns
returns c = shown_are
