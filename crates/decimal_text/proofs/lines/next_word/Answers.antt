use Rattle.std.proofs.Common.{◌∙◌, arith}
use Rattle.decimal_text.proofs.Words.{words_from_space}
use Rattle.decimal_text.proofs.lines.next_word.Goals as goal

pub returns-clause-words : goal.returns-clause-words
returns-clause-words c = words_from_space c.args.words.now c.split_at.result.1.now (omega arith) (cc) ∙ c.first_word.ensures.words
