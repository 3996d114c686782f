use Rattle.std.proofs.Common.{ℕ, ◌==◌}
use Rattle.std.proofs.lemmas.Bool.{eq-eqb}
use Rattle.map_edits.proofs.WordLemmas.{place_found, place_none}
use Rattle.map_edits.proofs.words.place_of.Goals as goal

pub returns-then-b-byte-clause-place : goal.returns-then-b-byte-clause-place
returns-then-b-byte-clause-place c = place_found (λ (b : ℕ). b == c.args.byte) c.args.text.now c.loop-place.place c.loop-place-test.true c.loop-place.invariant (eq-eqb _ _ c.if-b-byte.true)

pub returns-clause-place : goal.returns-clause-place
returns-clause-place c = place_none (λ (b : ℕ). b == c.args.byte) c.args.text.now c.loop-place.place c.loop-place-test.false c.loop-place.invariant
