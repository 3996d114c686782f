-- The parts of a text, taken one at a time.
use Rattle.std.proofs.Common.{◌≡◌, ◌≢◌, ℕ, suc, ◌+◌, ◌<◌, ◌≤◌, Bool, true, false, cond, not, Some, None, List, [], ◌∷◌, length, get_or, take, drop, refl, ap, sym, ◌∙◌, arith}
use Rattle.std.specs.List.{onto_first, slice_split, position_or_len}
use Rattle.std.proofs.lemmas.List.Sums.{position_or_len_is}
use Rattle.map_edits.specs.Words.{is_tab, words, words_behind, parts_behind, only_word}
use Rattle.map_edits.specs.Grammar.{undo_edit}

-- the place of a byte that passes is the first, where none before it does
pub place_found : (p : ℕ → Bool) (text : List ℕ) (place : ℕ) → place < length text → ((k : ℕ) → k < place → p (get_or text k 0) ≡ false) → p (get_or text place 0) ≡ true
    → place ≡ position_or_len p text
place_found p text place within before here = sym (position_or_len_is p text place 0 (omega arith) before (λ _. here))

pub place_none : (p : ℕ → Bool) (text : List ℕ) (place : ℕ) → length text ≤ place → ((k : ℕ) → k < place → p (get_or text k 0) ≡ false) → length text ≡ position_or_len p text
place_none p text place past before = sym (position_or_len_is p text (length text) 0 (omega arith) (λ k low. before k (omega arith)) (λ low. absurd (omega arith)))

-- the first part, and what stands behind it
pub front_part : (p : ℕ → Bool) (text : List ℕ) → slice_split p text ≡ take (position_or_len p text) text ∷ parts_behind p (drop (position_or_len p text) text)
front_part p [] = refl
front_part p (x ∷ xs) = by (p x) (front_part p xs)
  where
    by : (b : Bool) → slice_split p xs ≡ take (position_or_len p xs) xs ∷ parts_behind p (drop (position_or_len p xs) xs)
        → cond b ([] ∷ slice_split p xs) (onto_first x (slice_split p xs))
        ≡ take (cond (not b) (1 + position_or_len p xs) 0) (x ∷ xs) ∷ parts_behind p (drop (cond (not b) (1 + position_or_len p xs) 0) (x ∷ xs))
    by true rest = refl
    by false rest =
        let next : suc (position_or_len p xs) ≡ 1 + position_or_len p xs = omega arith in
        ap (onto_first x) rest ∙ ap (λ (k : ℕ). take k (x ∷ xs) ∷ parts_behind p (drop k (x ∷ xs))) next

-- the first word, where it is known how far it goes
pub first_word_by : (line word behind : List ℕ) (k : ℕ) → k ≡ position_or_len is_tab line → word ≡ take k line → behind ≡ drop k line → words line ≡ word ∷ words_behind behind
first_word_by line word behind k is_end is_word is_behind =
    let word_is : take (position_or_len is_tab line) line ≡ word = cc in
    let behind_is : drop (position_or_len is_tab line) line ≡ behind = cc in
    front_part is_tab line ∙ ap (λ (w : List ℕ). w ∷ words_behind (drop (position_or_len is_tab line) line)) word_is ∙ ap (λ (b : List ℕ). word ∷ words_behind b) behind_is

-- words behind a word are those behind its TAB
pub words_from_tab : (text behind : List ℕ) → 0 < length text → behind ≡ drop 1 text → words_behind text ≡ words behind
words_from_tab [] behind some is = absurd (omega arith)
words_from_tab (b ∷ rest) behind some is = ap words (sym is)

-- a word behind which nothing stands is the only one
pub only_taken : (all word rest : List ℕ) → words_behind all ≡ word ∷ words_behind rest → length rest ≡ 0 → only_word (words_behind all) ≡ Some word
only_taken all word [] is none = ap only_word is
only_taken all word (b ∷ rest) is none = absurd (omega arith)

-- a word behind which words stand
pub only_refused : (all word rest : List ℕ) → words_behind all ≡ word ∷ words_behind rest → length rest ≢ 0 → only_word (words_behind all) ≡ None
only_refused all word [] is some = absurd (some refl)
only_refused all word (b ∷ rest) is some = ap only_word is ∙ ap (λ (ws : List (List ℕ)). only_word (word ∷ ws)) (front_part is_tab rest)

-- no word
pub only_none : (all : List ℕ) → words_behind all ≡ [] → only_word (words_behind all) ≡ None
only_none all is = ap only_word is

-- words are left behind `undo`
pub undo_refused : (all : List ℕ) → length all ≢ 0 → undo_edit (words_behind all) ≡ None
undo_refused [] some = absurd (some refl)
undo_refused (b ∷ rest) some = ap undo_edit (front_part is_tab rest)
