use Rattle.std.proofs.Common.{sym, ap, ◌∙◌, arith}
use Rattle.std.specs.Prelude.{bytes_eq}
use Rattle.std.specs.List.{list_any}
use Rattle.std.proofs.lemmas.List.{take_all}
use Rattle.message_texts.specs.declared.edit_word.EditWord.{EditWord}
use Rattle.message_texts.specs.declared.edit_word.EditWord.TheVariants.{Hide}
use Rattle.message_texts.specs.Keys.{word_name}
use Rattle.message_texts.proofs.KeyLemmas.{all_words, no_word, none_more}
use Rattle.message_texts.proofs.edit_word.EditWord.named.Goals as goal

pub loop-word-preserved : goal.loop-word-preserved
loop-word-preserved c =
    none_more word_name c.args.text.now all_words c.loop-word.word-index Hide c.name.result.now c.eq.result c.loop-word-test.true c.loop-word.invariant c.name.ensures c.eq.ensures c.if-eq.false

pub returns-clause-none : goal.returns-clause-none
returns-clause-none c =
    no_word c.args.text.now
    (sym (ap (list_any (λ (w : EditWord). bytes_eq (word_name w) c.args.text.now)) (take_all c.loop-word.word-index all_words (omega arith))) ∙ c.loop-word.invariant)
