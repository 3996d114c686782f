use Rattle.map_edits.proofs.WordLemmas.{first_word_by}
use Rattle.map_edits.proofs.words.first_word.Goals as goal

pub returns : goal.returns
returns c = first_word_by c.args.line.now c.split_at.result.0.now c.split_at.result.1.now c.place_of.result (cc) (cc) (cc)
