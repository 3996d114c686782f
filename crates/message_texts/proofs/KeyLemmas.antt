-- Where none of all keys, or of all words, is written so, there is none that is.
use Rattle.std.proofs.Common.{◌≡◌, ◌≢◌, ℕ, ◌+◌, ◌<◌, Bool, false, true≢false, ◌||◌, List, [], ◌∷◌, get_or, length, take, ap, sym, ◌∙◌, arith}
use Rattle.std.specs.Prelude.{bytes_eq}
use Rattle.std.specs.List.{list_any}
use Rattle.std.proofs.lemmas.List.Folds.{list_any_at, list_any_more}
use Rattle.std.proofs.lemmas.Slice.Eq.{bytes_eq-Decides}
use Rattle.message_texts.specs.declared.edit_word.EditWord.{EditWord}
use Rattle.message_texts.specs.declared.edit_word.EditWord.TheVariants as edit
use Rattle.message_texts.specs.declared.setting_key.SettingKey.{SettingKey}
use Rattle.message_texts.specs.declared.setting_key.SettingKey.TheVariants as key
use Rattle.message_texts.specs.Keys.{key_name, word_name}

-- the keys as they are listed
abbrev pub all_keys : List SettingKey
all_keys =
    key.Types ∷ key.Near ∷ key.Junction ∷ key.Station ∷ key.Importance ∷ key.Cell ∷ key.Spread
    ∷ key.Coarsest ∷ key.Finest ∷ key.Straight ∷ key.Moves ∷ key.Search ∷ key.Proof ∷ key.Budget ∷ key.Method ∷ []

-- the words as they are listed
abbrev pub all_words : List EditWord
all_words =
    edit.Hide ∷ edit.Show ∷ edit.Rename ∷ edit.Move ∷ edit.Colour ∷ edit.Importance ∷ edit.Weight
    ∷ edit.Near ∷ edit.Cell ∷ edit.Budget ∷ edit.Undo ∷ []

-- none is written so, so the one at a place is not
not_at : {X : Type 0} (name : X → List ℕ) (text : List ℕ) (all : List X) (place : ℕ) (d : X) → list_any (λ (x : X). bytes_eq (name x) text) all ≡ false
    → place < length all → name (get_or all place d) ≢ text
not_at name text all place d none low same =
    true≢false (sym (list_any_at (λ x. bytes_eq (name x) text) all place d low ((bytes_eq-Decides _ _).1 same)) ∙ none)

-- one more that is not written so
pub none_more : {X : Type 0} (name : X → List ℕ) (text : List ℕ) (all : List X) (place : ℕ) (d : X) (written : List ℕ) (test : Bool) → place < length all
    → list_any (λ (x : X). bytes_eq (name x) text) (take place all) ≡ false → written ≡ name (get_or all place d) → test ≡ bytes_eq written text → test ≡ false
    → list_any (λ (x : X). bytes_eq (name x) text) (take (place + 1) all) ≡ false
none_more name text all place d written test low none is tests differs =
    list_any_more (λ x. bytes_eq (name x) text) all place d low
    ∙ ap (λ (b : Bool). b || bytes_eq (name (get_or all place d)) text) none
    ∙ (sym (tests ∙ ap (λ (w : List ℕ). bytes_eq w text) is) ∙ differs)

pub no_key : (text : List ℕ) → list_any (λ (k : SettingKey). bytes_eq (key_name k) text) all_keys ≡ false → (k : SettingKey) → key_name k ≢ text
no_key text none k = of_key k
  where
    at : (place : ℕ) → place < 15 → key_name (get_or all_keys place key.Types) ≢ text
    at place low = not_at key_name text all_keys place key.Types none low

    of_key : (k : SettingKey) → key_name k ≢ text
    of_key key.Types = at 0 (omega arith)
    of_key key.Near = at 1 (omega arith)
    of_key key.Junction = at 2 (omega arith)
    of_key key.Station = at 3 (omega arith)
    of_key key.Importance = at 4 (omega arith)
    of_key key.Cell = at 5 (omega arith)
    of_key key.Spread = at 6 (omega arith)
    of_key key.Coarsest = at 7 (omega arith)
    of_key key.Finest = at 8 (omega arith)
    of_key key.Straight = at 9 (omega arith)
    of_key key.Moves = at 10 (omega arith)
    of_key key.Search = at 11 (omega arith)
    of_key key.Proof = at 12 (omega arith)
    of_key key.Budget = at 13 (omega arith)
    of_key key.Method = at 14 (omega arith)

pub no_word : (text : List ℕ) → list_any (λ (w : EditWord). bytes_eq (word_name w) text) all_words ≡ false → (w : EditWord) → word_name w ≢ text
no_word text none w = of_word w
  where
    at : (place : ℕ) → place < 11 → word_name (get_or all_words place edit.Hide) ≢ text
    at place low = not_at word_name text all_words place edit.Hide none low

    of_word : (w : EditWord) → word_name w ≢ text
    of_word edit.Hide = at 0 (omega arith)
    of_word edit.Show = at 1 (omega arith)
    of_word edit.Rename = at 2 (omega arith)
    of_word edit.Move = at 3 (omega arith)
    of_word edit.Colour = at 4 (omega arith)
    of_word edit.Importance = at 5 (omega arith)
    of_word edit.Weight = at 6 (omega arith)
    of_word edit.Near = at 7 (omega arith)
    of_word edit.Cell = at 8 (omega arith)
    of_word edit.Budget = at 9 (omega arith)
    of_word edit.Undo = at 10 (omega arith)
