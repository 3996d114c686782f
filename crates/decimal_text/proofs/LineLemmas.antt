-- A line that is read is the line that was written, and what was written is read again.
use Rattle.std.proofs.Common.{◌≡◌, ℕ, suc, ◌+◌, ◌<◌, ℤ, pos, negsuc, Bool, true, false, cond, not, ◌&&◌, ◌==◌, true≢false, List, [], ◌∷◌, ◌++◌, length, get_or, take, drop, Option, Some, None, option_map, ltb, refl, ap, sym, ◌∙◌, append_assoc, length-append, arith}
use Rattle.std.specs.Char.{is_ascii_digit}
use Rattle.std.specs.Str.{all_ascii_digits}
use Rattle.std.specs.Fmt.{decimal, signed_decimal}
use Rattle.std.specs.Option.{option_and_then}
use Rattle.std.specs.List.{AllByRecursion, position_or_len, before_first, after_first, join_with_byte}
use Rattle.std.proofs.lemmas.Bool.{eqb-true, ltb-true}
use Rattle.std.proofs.lemmas.List.{append-nil, take_at, drop_at, length-drop}
use Rattle.std.proofs.lemmas.List.Elements.{All-from_recursion}
use Rattle.std.proofs.lemmas.List.Splits.{slice_split_at, slice_split_none, join_with_byte-slice_split}
use Rattle.std.proofs.lemmas.List.Sums.{split_at_first, passes_at_first}
use Rattle.decimal_text.specs.Numbers.{number_of, numbers_of, in_front}
use Rattle.decimal_text.specs.Lines.{is_space, is_line_end, words, words_behind, first_line, Line, numbered, front, words_text, numbers_text}
use Rattle.decimal_text.proofs.Words.{word_end, front_word, first_line_by}
use Rattle.decimal_text.proofs.NumberLemmas.{IsNumber, number_is, number_again, digits_written}

abbrev some : {A : Type 0} → A → Option A
some x = Some x

abbrev pub AreNumbers : List ℤ → Type 0
AreNumbers zs = AllByRecursion IsNumber zs

-- no byte passes
abbrev pub Lacks : (ℕ → Bool) → List ℕ → Type 0
Lacks p bytes = AllByRecursion (λ b. p b ≡ false) bytes

-- neither a space nor a line end
pub record IsWord (bytes : List ℕ) : Type 0 where
  pub no_space : Lacks is_space bytes
  pub no_end : Lacks is_line_end bytes

abbrev pub AreWords : List (List ℕ) → Type 0
AreWords ws = AllByRecursion IsWord ws

pub lacks-append : (p : ℕ → Bool) (a b : List ℕ) → Lacks p a → Lacks p b → Lacks p (a ++ b)
lacks-append p [] b x y = y
lacks-append p (c ∷ a) b x y = (x.0, lacks-append p a b x.1 y)

-- ---- words

-- words, a space before each
abbrev pub spaced : List (List ℕ) → List ℕ
spaced [] = []
spaced (w ∷ rest) = 32 ∷ (w ++ spaced rest)

spaced_end : (ws : List (List ℕ)) → words_text ws ≡ spaced ws ++ 10 ∷ []
spaced_end [] = refl
spaced_end (w ∷ rest) = ap (λ (bytes : List ℕ). 32 ∷ (w ++ bytes)) (spaced_end rest) ∙ ap (λ (bytes : List ℕ). 32 ∷ bytes) (sym (append_assoc w (spaced rest) (10 ∷ [])))

spaced_lacks_end : (ws : List (List ℕ)) → AreWords ws → Lacks is_line_end (spaced ws)
spaced_lacks_end [] are = tt
spaced_lacks_end (w ∷ rest) are = (refl, lacks-append is_line_end w (spaced rest) are.0.no_end (spaced_lacks_end rest are.1))

-- a word is cut off before others
word_cut : (w : List ℕ) (ws : List (List ℕ)) → Lacks is_space w → words (w ++ spaced ws) ≡ w ∷ words_behind (spaced ws)
word_cut w [] lacks = ap words (append-nil w) ∙ slice_split_none is_space w (All-from_recursion (λ b. is_space b ≡ false) w lacks)
word_cut w (x ∷ rest) lacks = slice_split_at is_space w 32 (x ++ spaced rest) (All-from_recursion (λ b. is_space b ≡ false) w lacks) refl

spaced_again : (ws : List (List ℕ)) → AreWords ws → words_behind (spaced ws) ≡ ws
spaced_again [] are = refl
spaced_again (w ∷ rest) are = word_cut w rest are.0.no_space ∙ ap (λ (more : List (List ℕ)). w ∷ more) (spaced_again rest are.1)

words_again : (w : List ℕ) (ws : List (List ℕ)) → IsWord w → AreWords ws → words (w ++ spaced ws) ≡ w ∷ ws
words_again w ws is are = word_cut w ws is.no_space ∙ ap (λ (more : List (List ℕ)). w ∷ more) (spaced_again ws are)

joined : (w : List ℕ) (ws : List (List ℕ)) → join_with_byte 32 (w ∷ ws) ≡ w ++ spaced ws
joined w [] = sym (append-nil w)
joined w (x ∷ rest) = ap (λ (bytes : List ℕ). w ++ 32 ∷ bytes) (joined x rest)

-- words are those of a line with a space between them
words_are : (line w : List ℕ) (ws : List (List ℕ)) → words line ≡ w ∷ ws → line ≡ w ++ spaced ws
words_are line w ws e = sym (join_with_byte-slice_split 32 line) ∙ ap (join_with_byte 32) e ∙ joined w ws

-- ---- the line at the front

-- the first byte that passes stands behind those that do not
place_behind : (p : ℕ → Bool) (a : List ℕ) (b : ℕ) (c : List ℕ) → Lacks p a → p b ≡ true → position_or_len p (a ++ b ∷ c) ≡ length a
place_behind p [] b c lacks passes = ap (λ (t : Bool). cond (not t) (1 + position_or_len p c) 0) passes
place_behind p (x ∷ a) b c lacks passes = ap (λ (t : Bool). cond (not t) (1 + position_or_len p (a ++ b ∷ c)) 0) lacks.0 ∙ omega (arith, place_behind p a b c lacks.1 passes)

first_line_again : (line rest : List ℕ) → Lacks is_line_end line → first_line (line ++ 10 ∷ rest) ≡ Some (line, rest)
first_line_again line rest lacks =
    let end : position_or_len is_line_end (line ++ 10 ∷ rest) ≡ length line = place_behind is_line_end line 10 rest lacks refl in
    let taken : take (length line) (line ++ 10 ∷ rest) ≡ line = take_at line (10 ∷ rest) (length line) refl in
    let dropped : drop (length line) (line ++ 10 ∷ rest) ≡ 10 ∷ rest = drop_at line (10 ∷ rest) (length line) refl in
    first_line_by (line ++ 10 ∷ rest) line (10 ∷ rest) rest (length line) (sym end) (omega (arith, length-append line (10 ∷ rest))) (sym taken) (sym dropped) refl

-- the line at the front, and how it was found
record IsFirst (text line rest : List ℕ) : Type 0 where
  within : position_or_len is_line_end text < length text
  line_is : line ≡ before_first is_line_end text
  rest_is : rest ≡ after_first is_line_end text

some_is : {A : Type 0} (x y : A) → some x ≡ some y → x ≡ y
some_is x y e = cc

abbrev Front : Type 0
Front = List ℕ × List ℕ

first_line_is : (text line rest : List ℕ) → first_line text ≡ Some (line, rest) → IsFirst text line rest
unfolding first_line
first_line_is text line rest e = by (ltb (position_or_len is_line_end text) (length text)) refl e
  where
    by : (b : Bool) → ltb (position_or_len is_line_end text) (length text) ≡ b
        → cond b (some {A = Front} (before_first is_line_end text, after_first is_line_end text)) None ≡ some {A = Front} (line, rest) → IsFirst text line rest
    by true within e =
        let same : (before_first is_line_end text, after_first is_line_end text) ≡ (line, rest) = some_is {A = Front} (before_first is_line_end text, after_first is_line_end text) (line, rest) e in
        record {
          within = ltb-true (position_or_len is_line_end text) (length text) within;
          line_is = sym (ap (λ (p : Front). p.0) same);
          rest_is = sym (ap (λ (p : Front). p.1) same);
        }
    by false within e = absurd cc

pub first_line_shorter : (text line rest : List ℕ) → first_line text ≡ Some (line, rest) → length rest < length text
first_line_shorter text line rest e =
    let is = first_line_is text line rest e in
    omega (arith, is.within, ap length is.rest_is, length-drop (position_or_len is_line_end text + 1) text)

-- the line at the front, its end and the rest are the text
first_line_text : (text line rest : List ℕ) → first_line text ≡ Some (line, rest) → text ≡ line ++ 10 ∷ rest
first_line_text text line rest e =
    let is = first_line_is text line rest e in
    let end : get_or text (position_or_len is_line_end text) 0 ≡ 10 = eqb-true (get_or text (position_or_len is_line_end text) 0) 10 (passes_at_first is_line_end text 0 is.within) in
    split_at_first is_line_end text 0 is.within
    ∙ ap (λ (c : ℕ). before_first is_line_end text ++ (c ∷ after_first is_line_end text)) end
    ∙ ap (λ (bytes : List ℕ). bytes ++ 10 ∷ after_first is_line_end text) (sym is.line_is)
    ∙ ap (λ (bytes : List ℕ). line ++ 10 ∷ bytes) (sym is.rest_is)

-- ---- what the line at the front says

-- a value with what stands behind its text
abbrev pub paired : {A : Type 0} → List ℕ → A → A × List ℕ
paired rest a = (a, rest)

-- what a line says, with what stands behind it
abbrev pub said : {A : Type 0} → (List (List ℕ) → Option A) → List ℕ × List ℕ → Option (A × List ℕ)
said reading x = option_map (paired x.1) (reading (words x.0))

-- a value changed, with what stands behind it
abbrev pub changed : {A B : Type 0} → (A → B) → A × List ℕ → B × List ℕ
changed f x = (f x.0, x.1)

-- the words of the line at the front, and what is read of them
pub record IsSaid {A : Type 0} (reading : List (List ℕ) → Option A) (text : List ℕ) (a : A) (rest : List ℕ) : Type 0 where
  pub line : List ℕ
  pub at_front : first_line text ≡ Some (line, rest)
  pub says : reading (words line) ≡ Some a

map_some : {A B : Type 0} (f : A → B) (o : Option A) (b : B) → option_map f o ≡ Some b → (a : A) × (o ≡ Some a) × (f a ≡ b)
map_some f None b e = absurd cc
map_some f (Some a) b e = (a, refl, cc)

front_is : {A : Type 0} (reading : List (List ℕ) → Option A) (text : List ℕ) (a : A) (rest : List ℕ) → front reading text ≡ Some (a, rest) → IsSaid reading text a rest
unfolding front
front_is {A} reading text a rest e = by (first_line text) refl e
  where
    by : (o : Option (List ℕ × List ℕ)) → first_line text ≡ o → option_and_then (said reading) o ≡ some (a, rest) → IsSaid reading text a rest
    by None at e = absurd cc
    by (Some x) at e =
        let m = map_some (paired x.1) (reading (words x.0)) (a, rest) e in
        record {
          line = x.0;
          at_front = at ∙ ap (λ (p : A × List ℕ). some (x.0, p.1)) m.2;
          says = m.1 ∙ ap (λ (p : A × List ℕ). some p.0) m.2;
        }

pub front_shorter : {A : Type 0} (reading : List (List ℕ) → Option A) (text : List ℕ) (a : A) (rest : List ℕ) → front reading text ≡ Some (a, rest) → length rest < length text
front_shorter reading text a rest e = let is = front_is reading text a rest e in first_line_shorter text is.line rest is.at_front

-- nothing stands at the front of an empty text
pub front_empty : {A : Type 0} (reading : List (List ℕ) → Option A) (text : List ℕ) → length text ≡ 0 → front reading text ≡ None
front_empty {A} reading text empty = by (front reading text) refl
  where
    by : (o : Option (A × List ℕ)) → front reading text ≡ o → o ≡ None
    by None e = refl
    by (Some x) e = absurd (omega (arith, front_shorter reading text x.0 x.1 e))

-- what a reading says, changed
pub front_map : {A B : Type 0} (f : A → B) (reading : List (List ℕ) → Option A) (text : List ℕ) → front (λ ws. option_map f (reading ws)) text ≡ option_map (changed f) (front reading text)
unfolding front
front_map {A} {B} f reading text = by (first_line text)
  where
    inner : (rest : List ℕ) (o : Option A) → option_map (paired rest) (option_map f o) ≡ option_map (changed f) (option_map (paired rest) o)
    inner rest None = refl
    inner rest (Some a) = refl

    by : (o : Option (List ℕ × List ℕ)) → option_and_then (said (λ ws. option_map f (reading ws))) o ≡ option_map (changed f) (option_and_then (said reading) o)
    by None = refl
    by (Some x) = inner x.1 (reading (words x.0))

-- a line at the front is written so, and the rest stands behind it
pub record IsWritten {A : Type 0} (reading : List (List ℕ) → Option A) (text : List ℕ) (a : A) (rest : List ℕ) : Type 0 where
  pub first : List ℕ
  pub others : List (List ℕ)
  pub says : reading (first ∷ others) ≡ Some a
  pub text_is : text ≡ (first ++ words_text others) ++ rest

pub front_text : {A : Type 0} (reading : List (List ℕ) → Option A) (text : List ℕ) (a : A) (rest : List ℕ) → front reading text ≡ Some (a, rest) → IsWritten reading text a rest
front_text reading text a rest e =
    let is = front_is reading text a rest e in
    let first = take (word_end is.line) is.line in
    let others = words_behind (drop (word_end is.line) is.line) in
    let whole : is.line ++ 10 ∷ rest ≡ (first ++ words_text others) ++ rest =
    sym (append_assoc is.line (10 ∷ []) rest)
    ∙ ap (λ (bytes : List ℕ). (bytes ++ 10 ∷ []) ++ rest) (words_are is.line first others (front_word is.line))
    ∙ ap (λ (bytes : List ℕ). bytes ++ rest) (append_assoc first (spaced others) (10 ∷ []))
    ∙ ap (λ (bytes : List ℕ). (first ++ bytes) ++ rest) (sym (spaced_end others)) in
    record {
      first = first;
      others = others;
      says = ap reading (sym (front_word is.line)) ∙ is.says;
      text_is = first_line_text text is.line rest is.at_front ∙ whole;
    }

-- words that say something are read again, whatever stands behind their line
pub front_again : {A : Type 0} (reading : List (List ℕ) → Option A) (first : List ℕ) (others : List (List ℕ)) (a : A) (rest : List ℕ) → reading (first ∷ others) ≡ Some a → IsWord first → AreWords others
    → front reading ((first ++ words_text others) ++ rest) ≡ Some (a, rest)
unfolding front
front_again reading first others a rest says is are =
    let line = first ++ spaced others in
    let whole : (first ++ words_text others) ++ rest ≡ line ++ 10 ∷ rest =
    ap (λ (bytes : List ℕ). (first ++ bytes) ++ rest) (spaced_end others)
    ∙ ap (λ (bytes : List ℕ). bytes ++ rest) (sym (append_assoc first (spaced others) (10 ∷ [])))
    ∙ append_assoc line (10 ∷ []) rest in
    ap (λ (bytes : List ℕ). option_and_then (said reading) (first_line bytes)) whole
    ∙ ap (option_and_then (said reading)) (first_line_again line rest (lacks-append is_line_end first (spaced others) is.no_end (spaced_lacks_end others are)))
    ∙ ap (λ (ws : List (List ℕ)). option_map (paired rest) (reading ws)) (words_again first others is are)
    ∙ ap (option_map (paired rest)) says

-- ---- numbers

digits_lack : (mark : ℕ) → is_ascii_digit mark ≡ false → (bytes : List ℕ) → all_ascii_digits bytes ≡ true → Lacks (λ b. b == mark) bytes
digits_lack mark none [] digits = tt
digits_lack mark none (c ∷ rest) digits = by (is_ascii_digit c) refl digits (λ later. digits_lack mark none rest later)
  where
    other : is_ascii_digit c ≡ true → (t : Bool) → (c == mark) ≡ t → t ≡ false
    other digit true same = absurd (true≢false (sym digit ∙ ap is_ascii_digit (eqb-true c mark same) ∙ none))
    other digit false same = refl

    by : (b : Bool) → is_ascii_digit c ≡ b → (b && all_ascii_digits rest) ≡ true → (all_ascii_digits rest ≡ true → Lacks (λ b. b == mark) rest) → Lacks (λ b. b == mark) (c ∷ rest)
    by true digit rests later = (other digit (c == mark) refl, later rests)
    by false digit rests later = absurd cc

number_lacks : (mark : ℕ) → is_ascii_digit mark ≡ false → (45 == mark) ≡ false → (z : ℤ) → IsNumber z → Lacks (λ b. b == mark) (signed_decimal z)
number_lacks mark none minus (pos n) few = digits_lack mark none (decimal n) (digits_written n few)
number_lacks mark none minus (negsuc n) few = (minus, digits_lack mark none (decimal (suc n)) (digits_written (suc n) few))

-- a number is one word
pub number_is_word : (z : ℤ) → IsNumber z → IsWord (signed_decimal z)
number_is_word z few = record { no_space = number_lacks 32 refl refl z few; no_end = number_lacks 10 refl refl z few }

-- the words of numbers
abbrev pub numerals : List ℤ → List (List ℕ)
numerals [] = []
numerals (z ∷ rest) = signed_decimal z ∷ numerals rest

pub numerals_text : (zs : List ℤ) → words_text (numerals zs) ≡ numbers_text zs
numerals_text [] = refl
numerals_text (z ∷ rest) = ap (λ (bytes : List ℕ). 32 ∷ (signed_decimal z ++ bytes)) (numerals_text rest)

pub numerals_are_words : (zs : List ℤ) → AreNumbers zs → AreWords (numerals zs)
numerals_are_words [] few = tt
numerals_are_words (z ∷ rest) few = (number_is_word z few.0, numerals_are_words rest few.1)

pub numbers_again : (zs : List ℤ) → AreNumbers zs → numbers_of (numerals zs) ≡ Some zs
numbers_again [] few = refl
numbers_again (z ∷ rest) few =
    ap (λ (o : Option ℤ). in_front o (numbers_of (numerals rest))) (number_again z few.0) ∙ ap (in_front (Some z)) (numbers_again rest few.1)

in_front_is : (o : Option ℤ) (more : Option (List ℤ)) (zs : List ℤ) → in_front o more ≡ Some zs → (z : ℤ) × (rest : List ℤ) × (o ≡ Some z) × (more ≡ Some rest) × (z ∷ rest ≡ zs)
in_front_is None more zs e = absurd cc
in_front_is (Some z) None zs e = absurd cc
in_front_is (Some z) (Some rest) zs e = (z, rest, refl, refl, cc)

-- words that write numbers are their numerals
pub numbers_are : (ws : List (List ℕ)) (zs : List ℤ) → numbers_of ws ≡ Some zs → (ws ≡ numerals zs) × AreNumbers zs
numbers_are [] [] e = (refl, tt)
numbers_are [] (z ∷ zs) e = absurd cc
numbers_are (w ∷ ws) zs e = by (numbers_are ws) zs (in_front_is (number_of w) (numbers_of ws) zs e)
  where
    by : ((more : List ℤ) → numbers_of ws ≡ Some more → (ws ≡ numerals more) × AreNumbers more) → (zs : List ℤ) → (z : ℤ) × (rest : List ℤ) × (number_of w ≡ Some z) × (numbers_of ws ≡ Some rest) × (z ∷ rest ≡ zs) → (w ∷ ws ≡ numerals zs) × AreNumbers zs
    by again [] parts = absurd cc
    by again (y ∷ ys) parts =
        let z : some parts.0 ≡ some y = cc in
        let rest : some parts.1 ≡ some ys = cc in
        let first = number_is w y (parts.2 ∙ z) in
        let later = again ys (parts.3 ∙ rest) in
        (ap (λ (x : List ℕ). x ∷ ws) first.0 ∙ ap (λ (xs : List (List ℕ)). signed_decimal y ∷ xs) later.0, (first.1, later.1))

-- a line of a word and numbers is at the front of its text, whatever stands behind it
pub numbered_again : (word : List ℕ) (zs : List ℤ) (rest : List ℕ) → IsWord word → AreNumbers zs → front numbered ((word ++ numbers_text zs) ++ rest) ≡ Some (record { word = word; numbers = zs }, rest)
numbered_again word zs rest is few =
    ap (λ (bytes : List ℕ). front numbered ((word ++ bytes) ++ rest)) (sym (numerals_text zs))
    ∙ front_again numbered word (numerals zs) (record { word = word; numbers = zs }) rest (ap (option_map (λ (numbers : List ℤ). record { word = word; numbers = numbers })) (numbers_again zs few)) is (numerals_are_words zs few)

-- words that make a line of a word and numbers are that word and the numerals
pub numbered_is : (first : List ℕ) (others : List (List ℕ)) (line : Line) → numbered (first ∷ others) ≡ Some line → (first ≡ line.word) × (others ≡ numerals line.numbers) × AreNumbers line.numbers
numbered_is first others line e =
    let m = map_some (λ (numbers : List ℤ). record { word = first; numbers = numbers }) (numbers_of others) line e in
    let word : first ≡ line.word = ap (λ (l : Line). l.word) m.2 in
    let numbers : m.0 ≡ line.numbers = ap (λ (l : Line). l.numbers) m.2 in
    let are = numbers_are others line.numbers (m.1 ∙ ap some numbers) in
    (word, are.0, are.1)

-- a line of a word and numbers at the front of a text is written so
pub numbered_text : (text : List ℕ) (line : Line) (rest : List ℕ) → front numbered text ≡ Some (line, rest) → (text ≡ (line.word ++ numbers_text line.numbers) ++ rest) × AreNumbers line.numbers
numbered_text text line rest e =
    let w = front_text numbered text line rest e in
    let is = numbered_is w.first w.others line w.says in (
      w.text_is
          ∙ ap (λ (bytes : List ℕ). (bytes ++ words_text w.others) ++ rest) is.0
          ∙ ap (λ (ws : List (List ℕ)). (line.word ++ words_text ws) ++ rest) is.1
          ∙ ap (λ (bytes : List ℕ). (line.word ++ bytes) ++ rest) (numerals_text line.numbers),
      is.2,
    )

-- what is read of what a first reading of the line at the front says
pub front_then : {A B : Type 0} (f : A → Option B) (reading : List (List ℕ) → Option A) (text : List ℕ)
    → front (λ ws. option_and_then f (reading ws)) text ≡ option_and_then (λ x. option_map (paired x.1) (f x.0)) (front reading text)
unfolding front
front_then {A} {B} f reading text = by (first_line text)
  where
    inner : (rest : List ℕ) (o : Option A) → option_map (paired rest) (option_and_then f o) ≡ option_and_then (λ (x : A × List ℕ). option_map (paired x.1) (f x.0)) (option_map (paired rest) o)
    inner rest None = refl
    inner rest (Some a) = refl

    by : (o : Option (List ℕ × List ℕ)) → option_and_then (said (λ ws. option_and_then f (reading ws))) o ≡ option_and_then (λ (x : A × List ℕ). option_map (paired x.1) (f x.0)) (option_and_then (said reading) o)
    by None = refl
    by (Some x) = inner x.1 (reading (words x.0))
