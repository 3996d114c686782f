-- A line that is read is the line that was written, and what was written is read again.
use Rattle.std.proofs.Common.{◌≡◌, ℕ, ℤ, Bool, true, false, cond, List, ◌∷◌, ◌++◌, Option, Some, None, option_map, refl, ap, subst, sym, ◌∙◌, append_assoc}
use Rattle.std.specs.Str.{bytes_eq}
use Rattle.std.specs.Option.{option_and_then}
use Rattle.std.proofs.lemmas.Slice.Eq.{bytes_eq-Decides}
use Rattle.decimal_text.specs.Lines as texts
use Rattle.decimal_text.specs.Lines.{words_text, numbers_text}
use Rattle.decimal_text.proofs.LineLemmas.{AreNumbers, IsWord, numerals, numerals_text, numerals_are_words, numbers_again, numbered_is, front_text, front_again}
use Rattle.order_proof.specs.declared.line_word.LineWord.{LineWord}
use Rattle.order_proof.specs.declared.line_word.LineWord.TheVariants.{Rules, Merge, Divide, Parts, Part, Split, Take, Close, Fork, Stop}
use Rattle.order_proof.specs.Lines.{Line, word_text, is_dual_word, line_text}
use Rattle.order_proof.specs.FrontLine.{word_of, known, line_in, front_line, begins_dual}

abbrev some : {A : Type 0} → A → Option A
some x = Some x

this_word : (text : List ℕ) (this : LineWord) (others : Option LineWord) (w : LineWord) → (others ≡ Some w → text ≡ word_text w) → cond (bytes_eq text (word_text this)) (Some this) others ≡ Some w → text ≡ word_text w
this_word text this others w later e = by (bytes_eq text (word_text this)) refl e
  where
    by : (b : Bool) → bytes_eq text (word_text this) ≡ b → cond b (Some this) others ≡ some w → text ≡ word_text w
    by true same e = (bytes_eq-Decides text (word_text this)).0 same ∙ ap word_text (is_this e)
      where
        is_this : some this ≡ some w → this ≡ w
        is_this e = cc
    by false same e = later e

word_is : (text : List ℕ) (w : LineWord) → word_of text ≡ Some w → text ≡ word_text w
word_is text w = this_word text Rules _ w (this_word text Merge _ w (this_word text Divide _ w (this_word text Parts _ w (this_word text Part _ w (this_word text Split _ w (this_word text Take _ w (this_word text Close _ w (this_word text Fork _ w (this_word text Stop None w (λ (e : none ≡ some w). absurd cc))))))))))
  where
    none : Option LineWord
    none = None

-- a line of one of the words, from the words that make it
known_is : (o : Option texts.Line) (l : Line) → option_and_then known o ≡ Some l → (t : texts.Line) × (o ≡ Some t) × (t.word ≡ word_text l.word) × (t.numbers ≡ l.numbers)
known_is None l e = absurd cc
known_is (Some t) l e = by (word_of t.word) refl e
  where
    by : (o : Option LineWord) → word_of t.word ≡ o → option_map (λ (w : LineWord). let line : Line = record { word = w; numbers = t.numbers } in line) o ≡ some l
        → (u : texts.Line) × (some t ≡ Some u) × (u.word ≡ word_text l.word) × (u.numbers ≡ l.numbers)
    by None word e = absurd cc
    by (Some w) word e =
        let is : record { word = w; numbers = t.numbers } ≡ l = line_is w e in
        (t, refl, word_is t.word w word ∙ ap (λ (x : Line). word_text x.word) is, ap (λ (x : Line). x.numbers) is)
      where
        line_is : (w : LineWord) → some (record { word = w; numbers = t.numbers }) ≡ some l → record { word = w; numbers = t.numbers } ≡ l
        line_is w e = cc

-- the line at the front of a text, and the rest behind it, are the text
pub front_line_text : (text : List ℕ) (l : Line) (rest : List ℕ) → front_line text ≡ Some (l, rest) → (text ≡ line_text l ++ rest) × AreNumbers l.numbers
unfolding front_line
front_line_text text l rest e =
    let w = front_text line_in text l rest e in
    let t = known_is (texts.numbered (w.first ∷ w.others)) l w.says in
    let is = numbered_is w.first w.others t.0 t.1 in
    let few : AreNumbers l.numbers = subst AreNumbers t.3 is.2 in (
      w.text_is
          ∙ ap (λ (bytes : List ℕ). (bytes ++ words_text w.others) ++ rest) (is.0 ∙ t.2)
          ∙ ap (λ (ws : List (List ℕ)). (word_text l.word ++ words_text ws) ++ rest) (is.1 ∙ ap numerals t.3)
          ∙ ap (λ (bytes : List ℕ). (word_text l.word ++ bytes) ++ rest) (numerals_text l.numbers),
      few,
    )

-- ---- what was written is read again

word_again : (w : LineWord) → word_of (word_text w) ≡ Some w
word_again Rules = refl
word_again Merge = refl
word_again Divide = refl
word_again Parts = refl
word_again Part = refl
word_again Split = refl
word_again Take = refl
word_again Close = refl
word_again Fork = refl
word_again Stop = refl

is_word : (w : LineWord) → IsWord (word_text w)
is_word Rules = record { no_space = (refl, (refl, (refl, (refl, (refl, tt))))); no_end = (refl, (refl, (refl, (refl, (refl, tt))))) }
is_word Merge = record { no_space = (refl, (refl, (refl, (refl, (refl, tt))))); no_end = (refl, (refl, (refl, (refl, (refl, tt))))) }
is_word Divide = record { no_space = (refl, (refl, (refl, (refl, (refl, (refl, tt)))))); no_end = (refl, (refl, (refl, (refl, (refl, (refl, tt)))))) }
is_word Parts = record { no_space = (refl, (refl, (refl, (refl, (refl, tt))))); no_end = (refl, (refl, (refl, (refl, (refl, tt))))) }
is_word Part = record { no_space = (refl, (refl, (refl, (refl, tt)))); no_end = (refl, (refl, (refl, (refl, tt)))) }
is_word Split = record { no_space = (refl, (refl, (refl, (refl, (refl, tt))))); no_end = (refl, (refl, (refl, (refl, (refl, tt))))) }
is_word Take = record { no_space = (refl, (refl, (refl, (refl, tt)))); no_end = (refl, (refl, (refl, (refl, tt)))) }
is_word Close = record { no_space = (refl, (refl, (refl, (refl, (refl, tt))))); no_end = (refl, (refl, (refl, (refl, (refl, tt))))) }
is_word Fork = record { no_space = (refl, (refl, (refl, (refl, tt)))); no_end = (refl, (refl, (refl, (refl, tt)))) }
is_word Stop = record { no_space = (refl, (refl, (refl, (refl, tt)))); no_end = (refl, (refl, (refl, (refl, tt)))) }

-- the line is at the front of its text, whatever stands behind it
pub front_line_again : (l : Line) (rest : List ℕ) → AreNumbers l.numbers → front_line (line_text l ++ rest) ≡ Some (l, rest)
unfolding front_line
front_line_again l rest few =
    let made : line_in (word_text l.word ∷ numerals l.numbers) ≡ Some l =
    ap (λ (o : Option (List ℤ)). option_and_then known (option_map (λ (zs : List ℤ). let t : texts.Line = record { word = word_text l.word; numbers = zs } in t) o)) (numbers_again l.numbers few)
    ∙ ap (option_map (λ (w : LineWord). let t : Line = record { word = w; numbers = l.numbers } in t)) (word_again l.word) in
    ap (λ (bytes : List ℕ). texts.front line_in ((word_text l.word ++ bytes) ++ rest)) (sym (numerals_text l.numbers))
    ∙ front_again line_in (word_text l.word) (numerals l.numbers) l rest made (is_word l.word) (numerals_are_words l.numbers few)

-- ---- which lines begin as those of dual trees do

begins_by_word : (w : LineWord) (behind : List ℕ) → begins_dual (word_text w ++ behind) ≡ is_dual_word w
begins_by_word Rules behind = refl
begins_by_word Merge behind = refl
begins_by_word Divide behind = refl
begins_by_word Parts behind = refl
begins_by_word Part behind = refl
begins_by_word Split behind = refl
begins_by_word Take behind = refl
begins_by_word Close behind = refl
begins_by_word Fork behind = refl
begins_by_word Stop behind = refl

-- a text begins so where the line at its front does
pub begins_by_line : (text : List ℕ) (l : Line) (rest : List ℕ) → front_line text ≡ Some (l, rest) → begins_dual text ≡ is_dual_word l.word
begins_by_line text l rest there =
    let is = (front_line_text text l rest there).0 in
    let behind = numbers_text l.numbers in
    ap begins_dual (is ∙ append_assoc (word_text l.word) behind rest) ∙ begins_by_word l.word (behind ++ rest)
