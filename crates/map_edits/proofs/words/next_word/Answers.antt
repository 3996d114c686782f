use Rattle.std.proofs.Common.{◌∙◌, arith}
use Rattle.map_edits.proofs.WordLemmas.{words_from_tab}
use Rattle.map_edits.proofs.words.next_word.Goals as goal

pub returns : goal.returns
returns c = words_from_tab c.args.words.now c.split_at.result.1.now (omega arith) (cc) ∙ c.first_word.ensures
