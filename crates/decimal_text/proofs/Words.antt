-- The words of a line, taken one at a time.
use Rattle.std.proofs.Common.{◌≡◌, ℕ, suc, ◌+◌, ◌<◌, ◌≤◌, ℤ, Bool, true, false, cond, not, List, [], ◌∷◌, ◌++◌, length, get_or, take, drop, Option, Some, None, option_map, refl, ap, sym, ◌∙◌, append_assoc, drop-drop, lt-ltb, le-ltb, arith}
use Rattle.std.specs.List.{onto_first, slice_split, position_or_len}
use Rattle.std.proofs.lemmas.List.Sums.{position_or_len_is}
use Rattle.decimal_text.specs.Numbers.{number_of, numbers_of, in_front}
use Rattle.decimal_text.specs.Lines.{is_space, is_line_end, words, words_behind, numbers_behind, first_line}

-- the place of a byte that passes is the first, where none before it does
pub place_found : (p : ℕ → Bool) (text : List ℕ) (place : ℕ) → place < length text → ((k : ℕ) → k < place → p (get_or text k 0) ≡ false) → p (get_or text place 0) ≡ true
    → place ≡ position_or_len p text
place_found p text place within before here = sym (position_or_len_is p text place 0 (omega arith) before (λ _. here))

pub place_none : (p : ℕ → Bool) (text : List ℕ) (place : ℕ) → length text ≤ place → ((k : ℕ) → k < place → p (get_or text k 0) ≡ false) → length text ≡ position_or_len p text
place_none p text place past before = sym (position_or_len_is p text (length text) 0 (omega arith) (λ k low. before k (omega arith)) (λ low. absurd (omega arith)))

abbrev pub word_end : List ℕ → ℕ
word_end text = position_or_len is_space text

-- the first word, and what stands behind it
pub front_word : (text : List ℕ) → words text ≡ take (word_end text) text ∷ words_behind (drop (word_end text) text)
front_word [] = refl
front_word (x ∷ xs) = by (is_space x) (front_word xs)
  where
    by : (b : Bool) → slice_split is_space xs ≡ take (word_end xs) xs ∷ words_behind (drop (word_end xs) xs)
        → cond b ([] ∷ slice_split is_space xs) (onto_first x (slice_split is_space xs)) ≡ take (cond (not b) (1 + word_end xs) 0) (x ∷ xs) ∷ words_behind (drop (cond (not b) (1 + word_end xs) 0) (x ∷ xs))
    by true rest = refl
    by false rest =
        let next : suc (word_end xs) ≡ 1 + word_end xs = omega arith in
        ap (onto_first x) rest ∙ ap (λ (k : ℕ). take k (x ∷ xs) ∷ words_behind (drop k (x ∷ xs))) next

-- the first word, where it is known how far it goes
pub first_word_by : (line word behind : List ℕ) (k : ℕ) → k ≡ word_end line → word ≡ take k line → behind ≡ drop k line → words line ≡ word ∷ words_behind behind
first_word_by line word behind k is_end is_word is_behind =
    let word_is : take (word_end line) line ≡ word = cc in
    let behind_is : drop (word_end line) line ≡ behind = cc in
    front_word line ∙ ap (λ (w : List ℕ). w ∷ words_behind (drop (word_end line) line)) word_is ∙ ap (λ (b : List ℕ). word ∷ words_behind b) behind_is

-- words behind a word are those behind its space
pub words_from_space : (text behind : List ℕ) → 0 < length text → behind ≡ drop 1 text → words_behind text ≡ words behind
words_from_space [] behind some is = absurd (omega arith)
words_from_space (b ∷ rest) behind some is = ap words (sym is)

joined : (done : List ℤ) (z : ℤ) (more : Option (List ℤ)) → option_map (λ rest. done ++ rest) (in_front (Some z) more) ≡ option_map (λ rest. (done ++ z ∷ []) ++ rest) more
joined done z None = refl
joined done z (Some rest) = ap (λ (zs : List ℤ). Some zs) (sym (append_assoc done (z ∷ []) rest))

-- a word is taken that writes a number
pub word_taken : (done new : List ℤ) (z : ℤ) (rest word left : List ℕ) (total : Option (List ℤ)) → words_behind rest ≡ word ∷ words_behind left → Some z ≡ number_of word → new ≡ done ++ z ∷ []
    → numbers_behind done (words_behind rest) ≡ total → numbers_behind new (words_behind left) ≡ total
word_taken done new z rest word left total cut is pushed whole =
    ap (λ (zs : List ℤ). numbers_behind zs (words_behind left)) pushed
    ∙ sym (joined done z (numbers_of (words_behind left)))
    ∙ ap (λ (o : Option ℤ). option_map (λ rest. done ++ rest) (in_front o (numbers_of (words_behind left)))) is
    ∙ sym (ap (numbers_behind done) cut) ∙ whole

-- a word that writes no number
pub word_refused : (done : List ℤ) (rest word left : List ℕ) (total : Option (List ℤ)) → words_behind rest ≡ word ∷ words_behind left → None ≡ number_of word
    → numbers_behind done (words_behind rest) ≡ total → total ≡ None
word_refused done rest word left total cut is whole =
    sym whole ∙ ap (numbers_behind done) cut ∙ ap (λ (o : Option ℤ). option_map (λ rest. done ++ rest) (in_front o (numbers_of (words_behind left)))) (sym is)

-- no word is left
pub words_end : (done : List ℤ) (rest : List ℕ) (total : Option (List ℤ)) → words_behind rest ≡ [] → numbers_behind done (words_behind rest) ≡ total → numbers_behind done [] ≡ total
words_end done rest total none whole = sym (ap (numbers_behind done) none) ∙ whole

-- no line is at the front of a text without a line end
pub no_first_line : (text : List ℕ) → position_or_len is_line_end text ≡ length text → first_line text ≡ None
unfolding first_line
no_first_line text past = rw (le-ltb (position_or_len is_line_end text) (length text) (omega arith)) refl

-- the line at the front, by the text up to its end
pub first_line_by : (text line behind rest : List ℕ) (k : ℕ) → k ≡ position_or_len is_line_end text → k < length text → line ≡ take k text → behind ≡ drop k text → rest ≡ drop 1 behind
    → first_line text ≡ Some (line, rest)
unfolding first_line
first_line_by text line behind rest k is_end within is_line is_behind is_rest =
    let inside : position_or_len is_line_end text < length text = omega arith in
    let rest_is : drop (position_or_len is_line_end text + 1) text ≡ rest = ap (λ (n : ℕ). drop (n + 1) text) (sym is_end) ∙ sym (drop-drop 1 k text) ∙ sym (is_rest ∙ ap (drop 1) is_behind) in
    let line_is : take (position_or_len is_line_end text) text ≡ line = ap (λ (n : ℕ). take n text) (sym is_end) ∙ sym is_line in
    rw (lt-ltb (position_or_len is_line_end text) (length text) inside) (ap (λ (r : List ℕ). Some (take (position_or_len is_line_end text) text, r)) rest_is ∙ ap (λ (b : List ℕ). Some (b, rest)) line_is)
