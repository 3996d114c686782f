use Rattle.std.proofs.Common.{◌≡◌, false, take}
use Rattle.std.specs.Prelude.{bytes_eq}
use Rattle.std.specs.List.{list_any}
use Rattle.message_texts.specs.declared.edit_word.EditWord.{EditWord}
use Rattle.message_texts.specs.Keys.{word_name}
use Rattle.message_texts.proofs.KeyLemmas.{all_words}
use Rattle.message_texts.proofs.edit_word.EditWord.named.Given as goal

-- none so far is written so
abbrev pub invariant-loop-word : goal.invariant-loop-word
invariant-loop-word l = list_any (λ (w : EditWord). bytes_eq (word_name w) l.text) (take l.word-index all_words) ≡ false
