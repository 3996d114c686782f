use Rattle.std.specs.Char.{is_ascii_digit}
use Rattle.decimal_text.proofs.Words.{place_found, place_none}
use Rattle.cert_file.proofs.run_words.name_end.Goals as goal

pub returns-then-is_ascii_digit-clause-place : goal.returns-then-is_ascii_digit-clause-place
returns-then-is_ascii_digit-clause-place c = place_found is_ascii_digit c.args.word.now c.loop-place.place c.loop-place-test.true c.loop-place.invariant (cc)

pub returns-clause-place : goal.returns-clause-place
returns-clause-place c = place_none is_ascii_digit c.args.word.now c.loop-place.place c.loop-place-test.false c.loop-place.invariant
