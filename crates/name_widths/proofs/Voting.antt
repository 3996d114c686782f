-- A vote over names, one name after another.
use Rattle.std.proofs.Common.{◌≡◌, ℕ, ◌+◌, ◌-◌, ◌*◌, ◌/◌, ◌<◌, ◌≤◌, Bool, true, false, cond, List, [], ◌∷◌, ◌++◌, length, Some, None, refl, ap, subst, ◌∙◌, arith, length-append, filter, get_or, take}
use Rattle.std.specs.Prelude.{bytes_eq, nat_lt}
use Rattle.std.proofs.lemmas.List.Elements.{filter-append}
use Rattle.std.proofs.lemmas.Slice.Eq.{bytes_eq-Decides}
use Rattle.name_widths.specs.Words.{begins_with, count_with, has_word, is_common, parts}
use Rattle.std.specs.Borrow.{Bor}
use Rattle.std.proofs.lemmas.Bool.Decides.{nat_tests}
use Rattle.std.proofs.lemmas.List.{length-map, map-append, take_more}
use Rattle.name_widths.specs.Votes.{texts_of, IsVote}

-- one name more
pub count_more : (names : List (List ℕ)) (name word : List ℕ) → count_with (names ++ name ∷ []) word ≡ count_with names word + cond (begins_with word name) 1 0
count_more names name word =
    ap length (filter-append (begins_with word) names (name ∷ []))
    ∙ length-append (filter (begins_with word) names) (filter (begins_with word) (name ∷ []))
    ∙ ap (λ (n : ℕ). count_with names word + n) (by_test (begins_with word name))
  where
    by_test : (b : Bool) → length (cond b (name ∷ []) []) ≡ cond b 1 0
    by_test true = refl
    by_test false = refl

-- a word is itself
pub is_itself : (word : List ℕ) → bytes_eq word word ≡ true
is_itself word = (bytes_eq-Decides word word).1 refl

-- a name without a first word begins with none
pub begins_not : (name word : List ℕ) → parts name ≡ None → begins_with word name ≡ false
begins_not name word e = ap (has_word word) e

-- one with a first word begins with that
pub begins_by : (name word : List ℕ) (p : List ℕ × List ℕ) → parts name ≡ Some p → begins_with word name ≡ bytes_eq p.0 word
begins_by name word p e = ap (has_word word) e

-- where no word leads, none is that of more than half
pub none_leads : (names : List (List ℕ)) (word other : List ℕ) → IsVote names word 0 → 2 * count_with names other ≤ length names
none_leads names word other vote = by_test (bytes_eq word other) refl
  where
    by_test : (b : Bool) → bytes_eq word other ≡ b → 2 * count_with names other ≤ length names
    by_test true e =
        let same : word ≡ other = (bytes_eq-Decides word other).0 e in
        subst (λ (w : List ℕ). 2 * count_with names w ≤ length names) same (omega (arith, vote.ahead))
    by_test false e = omega (arith, vote.behind other e)

one_more : (names : List (List ℕ)) (name : List ℕ) → length (names ++ name ∷ []) ≡ length names + 1
one_more names name = length-append names (name ∷ [])

-- a name without a first word
pub vote_of_none : (names : List (List ℕ)) (name word : List ℕ) (lead : ℕ) → parts name ≡ None → IsVote names word lead → IsVote (names ++ name ∷ []) word (lead - 1)
vote_of_none names name word lead e vote = record {
  ahead = omega (arith, vote.ahead, same word, one_more names name);
  behind = λ other differs. omega (arith, vote.behind other differs, same other, one_more names name);
}
  where
    same : (w : List ℕ) → count_with (names ++ name ∷ []) w ≡ count_with names w + 0
    same w = count_more names name w ∙ ap (λ (b : Bool). count_with names w + cond b 1 0) (begins_not name w e)

-- a name with the word that leads
pub vote_for_it : (names : List (List ℕ)) (name word : List ℕ) (lead : ℕ) (p : List ℕ × List ℕ) → parts name ≡ Some p → p.0 ≡ word → IsVote names word lead → IsVote (names ++ name ∷ []) word (lead + 1)
vote_for_it names name word lead p e is vote = record {
  ahead = omega (arith, vote.ahead, here, one_more names name);
  behind = λ other differs. omega (arith, vote.behind other differs, there other differs, one_more names name);
}
  where
    counted : (w : List ℕ) → count_with (names ++ name ∷ []) w ≡ count_with names w + cond (bytes_eq word w) 1 0
    counted w = count_more names name w ∙ ap (λ (b : Bool). count_with names w + cond b 1 0) (begins_by name w p e ∙ ap (λ (v : List ℕ). bytes_eq v w) is)

    here : count_with (names ++ name ∷ []) word ≡ count_with names word + 1
    here = counted word ∙ ap (λ (b : Bool). count_with names word + cond b 1 0) (is_itself word)

    there : (w : List ℕ) → bytes_eq word w ≡ false → count_with (names ++ name ∷ []) w ≡ count_with names w + 0
    there w differs = counted w ∙ ap (λ (b : Bool). count_with names w + cond b 1 0) differs

-- a name with another word, where none leads
pub vote_for_new : (names : List (List ℕ)) (name word : List ℕ) (p : List ℕ × List ℕ) → parts name ≡ Some p → IsVote names word 0 → IsVote (names ++ name ∷ []) p.0 1
vote_for_new names name word p e vote = record {
  ahead = omega (arith, none_leads names word p.0 vote, here, one_more names name);
  behind = λ other differs. omega (arith, none_leads names word other vote, there other differs, one_more names name);
}
  where
    counted : (w : List ℕ) → count_with (names ++ name ∷ []) w ≡ count_with names w + cond (bytes_eq p.0 w) 1 0
    counted w = count_more names name w ∙ ap (λ (b : Bool). count_with names w + cond b 1 0) (begins_by name w p e)

    here : count_with (names ++ name ∷ []) p.0 ≡ count_with names p.0 + 1
    here = counted p.0 ∙ ap (λ (b : Bool). count_with names p.0 + cond b 1 0) (is_itself p.0)

    there : (w : List ℕ) → bytes_eq p.0 w ≡ false → count_with (names ++ name ∷ []) w ≡ count_with names w + 0
    there w differs = counted w ∙ ap (λ (b : Bool). count_with names w + cond b 1 0) differs

-- a name with another word, where one leads
pub vote_against : (names : List (List ℕ)) (name word : List ℕ) (lead : ℕ) (p : List ℕ × List ℕ) → parts name ≡ Some p → bytes_eq p.0 word ≡ false → 0 < lead → IsVote names word lead → IsVote (names ++ name ∷ []) word (lead - 1)
vote_against names name word lead p e differs some vote = record {
  ahead = omega (arith, vote.ahead, here, one_more names name);
  behind = λ other other_word. by_test other other_word (bytes_eq p.0 other) (counted other);
}
  where
    counted : (w : List ℕ) → count_with (names ++ name ∷ []) w ≡ count_with names w + cond (bytes_eq p.0 w) 1 0
    counted w = count_more names name w ∙ ap (λ (b : Bool). count_with names w + cond b 1 0) (begins_by name w p e)

    here : count_with (names ++ name ∷ []) word ≡ count_with names word + 0
    here = counted word ∙ ap (λ (b : Bool). count_with names word + cond b 1 0) differs

    by_test : (other : List ℕ) → bytes_eq word other ≡ false → (b : Bool) → count_with (names ++ name ∷ []) other ≡ count_with names other + cond b 1 0 → 2 * count_with (names ++ name ∷ []) other + (lead - 1) ≤ length (names ++ name ∷ [])
    by_test other differ true f = omega (arith, vote.behind other differ, f, one_more names name)
    by_test other differ false f = omega (arith, vote.behind other differ, f, one_more names name)

-- the texts of one lent name more
pub texts_more : (names : List (Bor (List ℕ))) (i : ℕ) (d name : Bor (List ℕ)) → i < length names → get_or names i d ≡ name → texts_of (take (i + 1) names) ≡ texts_of (take i names) ++ name.now ∷ []
texts_more names i d name low is =
    ap texts_of (take_more names i d low) ∙ map-append (λ (n : Bor (List ℕ)). n.now) (take i names) (get_or names i d ∷ []) ∙ ap (λ (n : Bor (List ℕ)). texts_of (take i names) ++ n.now ∷ []) is

-- no name
pub no_vote : (word : List ℕ) → IsVote [] word 0
no_vote word = record { ahead = omega arith; behind = λ other differs. omega arith }

-- ---- what a vote decides

lt_true : (m n : ℕ) → m < n → nat_lt m n ≡ true
lt_true m n h = grind (arith, nat_tests)

lt_false : (m n : ℕ) → n ≤ m → nat_lt m n ≡ false
lt_false m n h = grind (arith, nat_tests)

-- no other word is that of more than half
abbrev pub Leads : List (Bor (List ℕ)) → List ℕ → Type 0
Leads names word = (other : List ℕ) → bytes_eq word other ≡ false → 2 * count_with (texts_of names) other ≤ length names

texts_count : (names : List (Bor (List ℕ))) → length (texts_of names) ≡ length names
texts_count names = length-map names (λ (n : Bor (List ℕ)). n.now)

pub common_is : (names : List (Bor (List ℕ))) (word other : List ℕ) → Leads names word → length names / 2 < count_with (texts_of names) word → is_common (texts_of names) other ≡ bytes_eq word other
common_is names word other leads many = by_test (bytes_eq word other) refl
  where
    by_test : (b : Bool) → bytes_eq word other ≡ b → is_common (texts_of names) other ≡ b
    by_test true e =
        let same : word ≡ other = (bytes_eq-Decides word other).0 e in
        let count : count_with (texts_of names) word ≡ count_with (texts_of names) other = ap (count_with (texts_of names)) same in
        lt_true (length (texts_of names)) (2 * count_with (texts_of names) other) (omega (arith, texts_count names))
    by_test false e = lt_false (length (texts_of names)) (2 * count_with (texts_of names) other) (omega (arith, texts_count names, leads other e))

pub none_is_common : (names : List (Bor (List ℕ))) (word other : List ℕ) → Leads names word → count_with (texts_of names) word ≤ length names / 2 → is_common (texts_of names) other ≡ false
none_is_common names word other leads few = by_test (bytes_eq word other) refl
  where
    by_test : (b : Bool) → bytes_eq word other ≡ b → is_common (texts_of names) other ≡ false
    by_test true e =
        let same : word ≡ other = (bytes_eq-Decides word other).0 e in
        let count : count_with (texts_of names) word ≡ count_with (texts_of names) other = ap (count_with (texts_of names)) same in
        lt_false (length (texts_of names)) (2 * count_with (texts_of names) other) (omega (arith, texts_count names))
    by_test false e = lt_false (length (texts_of names)) (2 * count_with (texts_of names) other) (omega (arith, texts_count names, leads other e))
