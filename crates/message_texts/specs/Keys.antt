-- The keys of a file of settings, and the words that begin edits.
use Rattle.std.specs.Prelude.{ℕ, List, codes}
use Rattle.message_texts.specs.declared.edit_word.EditWord.{EditWord}
use Rattle.message_texts.specs.declared.edit_word.EditWord.TheVariants as edit
use Rattle.message_texts.specs.declared.setting_key.SettingKey.{SettingKey}
use Rattle.message_texts.specs.declared.setting_key.SettingKey.TheVariants as key

-- a key as it is written
abbrev pub key_name : SettingKey → List ℕ
key_name key.Types = codes "types"
key_name key.Near = codes "near"
key_name key.Junction = codes "junction"
key_name key.Station = codes "station"
key_name key.Importance = codes "importance"
key_name key.Cell = codes "cell"
key_name key.Spread = codes "spread"
key_name key.Coarsest = codes "coarsest"
key_name key.Finest = codes "finest"
key_name key.Straight = codes "straight"
key_name key.Moves = codes "moves"
key_name key.Search = codes "search"
key_name key.Proof = codes "proof"
key_name key.Budget = codes "budget"
key_name key.Method = codes "method"

-- a word as it is written
abbrev pub word_name : EditWord → List ℕ
word_name edit.Hide = codes "hide"
word_name edit.Show = codes "show"
word_name edit.Rename = codes "rename"
word_name edit.Move = codes "move"
word_name edit.Colour = codes "colour"
word_name edit.Importance = codes "importance"
word_name edit.Weight = codes "weight"
word_name edit.Near = codes "near"
word_name edit.Cell = codes "cell"
word_name edit.Budget = codes "budget"
word_name edit.Undo = codes "undo"
