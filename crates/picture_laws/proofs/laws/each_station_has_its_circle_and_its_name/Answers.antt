use Rattle.std.proofs.Common.{[]}
use Rattle.picture_laws.proofs.Shows.{circles_are, labels_are, labels_of, names_are, placed_are}
use Rattle.picture_laws.proofs.laws.each_station_has_its_circle_and_its_name.Goals as goal

pub returns : goal.returns
returns c = record {
  circles = circles_are;
  named = names_are;
  beside = λ style names g courses. labels_of style names g courses [];
  all = λ style names g courses. labels_are style names g courses [];
  placed = placed_are;
}
