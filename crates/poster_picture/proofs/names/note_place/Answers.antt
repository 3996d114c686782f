use Rattle.std.proofs.Common.{get_or, None, arith}
use Rattle.poster_picture.proofs.Noting.{noted_at, noted_elsewhere}
use Rattle.poster_picture.proofs.names.note_place.Goals as goal

pub returns-then-i-places-clause-places : goal.returns-then-i-places-clause-places
returns-then-i-places-clause-places c = λ k low. noted_elsewhere c.args.name k (get_or c.args.places.now k None) (omega arith)

pub returns-clause-places : goal.returns-clause-places
returns-clause-places c = λ k low. noted_at c.args.places.now c.args.name k c.first_of.result (omega arith) c.first_of.ensures
