use Rattle.std.proofs.Common.{[], ◌∷◌, ◌++◌, ap, ◌∙◌, arith}
use Rattle.line_offsets.specs.declared.corner.Corner.{Corner}
use Rattle.poster_picture.proofs.Gathering.{closed_already, closed_once}
use Rattle.poster_picture.proofs.stations.close_path.Goals as goal

pub returns-then-len-ne1 : goal.returns-then-len-ne1
returns-then-len-ne1 c = closed_already c.args.path.now.items (λ one. absurd (omega arith))

pub returns : goal.returns
returns c =
    let path = c.args.path.now.items in
    closed_once path c.push.new.self.items c.index-only.result.now (omega arith) (c.in_ok-push.ensures.items ∙ ap (λ (x : Corner). path ++ x ∷ []) c.index-only.ensures)
