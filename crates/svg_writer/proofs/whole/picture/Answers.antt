use Rattle.svg_writer.proofs.whole.picture.Goals as goal

pub picture_of-requires-clause-reach : goal.picture_of-requires-clause-reach
picture_of-requires-clause-reach c = λ s i h. tt
