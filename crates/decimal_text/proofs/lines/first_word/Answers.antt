use Rattle.decimal_text.proofs.Words.{first_word_by}
use Rattle.decimal_text.proofs.lines.first_word.Goals as goal

pub returns-clause-words : goal.returns-clause-words
returns-clause-words c = first_word_by c.args.line.now c.split_at.result.0.now c.split_at.result.1.now c.place_of.result (cc) (cc) (cc)
