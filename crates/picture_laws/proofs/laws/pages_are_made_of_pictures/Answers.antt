use Rattle.std.proofs.Common.{refl}
use Rattle.map_page.specs.Pages.{is_picture}
use Rattle.picture_laws.proofs.laws.pages_are_made_of_pictures.Goals as goal

pub returns : goal.returns
unfolding is_picture
returns c style names g courses orders frame labels = refl
