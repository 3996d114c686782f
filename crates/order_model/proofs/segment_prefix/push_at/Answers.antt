use Rattle.std.proofs.Common.{◌≡◌, ◌++◌, ◌∷◌, [], rules}
use Rattle.order_model.proofs.TableLemmas.{pushed}
use Rattle.order_model.proofs.segment_prefix.push_at.Goals as goal

pub returns-clause-places : goal.returns-clause-places
returns-clause-places c =
    let pushing : c.push.new.self.items ≡ c.args.placed.now.items ++ c.args.line ∷ [] = search rules in
    pushed c.args.lines.now c.args.placed.now.items c.push.new.self.items c.args.places.now.items c.args.i c.len.result c.args.line
    c.requires.rising c.requires.within c.requires.line c.requires.unplaced c.requires.places (search rules) pushing
