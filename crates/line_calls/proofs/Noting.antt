-- Lines that are noted at stations.
use Rattle.std.proofs.Common.{◌≡◌, ℕ, zero, suc, ◌+◌, ◌-◌, ◌<◌, ◌≤◌, Bool, true, false, cond, ◌||◌, ◌==◌, List, [], ◌∷◌, ◌++◌, length, filter, get_or, set, refl, ap, sym, ◌∙◌, arith, append-nil, length-set}
use Rattle.std.specs.Prelude.{Vec}
use Rattle.std.specs.Global.{Global}
use Rattle.std.specs.List.{range_with_len}
use Rattle.std.proofs.lemmas.Bool.{eq-eqb, eqb-true, eqb-false, ne_eqb}
use Rattle.std.proofs.lemmas.List.{get_or-set_other}
use Rattle.std.proofs.lemmas.Grind.{get_or-set_at}
use Rattle.transit_feed.specs.declared.pattern.Pattern.{Pattern}
use Rattle.line_calls.specs.Tables.{callers_in, is_caller, is_last, lists_in, noted, AreEmpty, IsTable, Notes}
use Rattle.line_calls.proofs.ListLemmas.{filter_more, lists_count}

-- ---- the last of numbers

pub last_at : (n d : ℕ) (xs : List ℕ) → 0 < length xs → is_last n xs ≡ (get_or xs (length xs - 1) d == n)
last_at n d [] some = absurd (omega arith)
last_at n d (a ∷ []) some = refl
last_at n d (a ∷ b ∷ rest) some =
    let at : suc (length (b ∷ rest) - 1) ≡ length (a ∷ b ∷ rest) - 1 = omega arith in
    last_at n d (b ∷ rest) (omega arith) ∙ ap (λ (k : ℕ). get_or (a ∷ b ∷ rest) k d == n) at

pub last_none : (n : ℕ) (xs : List ℕ) → length xs ≡ 0 → is_last n xs ≡ false
last_none n [] e = refl
last_none n (a ∷ xs) e = absurd (omega (arith, e))

last_push : (n : ℕ) (xs : List ℕ) → is_last n (xs ++ n ∷ []) ≡ true
last_push n [] = eq-eqb n n refl
last_push n (a ∷ []) = eq-eqb n n refl
last_push n (a ∷ b ∷ rest) = last_push n (b ∷ rest)

last_cons : (n a : ℕ) (xs : List ℕ) → (a == n) ≡ false → is_last n xs ≡ false → is_last n (a ∷ xs) ≡ false
last_cons n a [] e h = e
last_cons n a (b ∷ xs) e h = h

-- no number above all is the last
not_last : (n : ℕ) (f : ℕ → Bool) (a m : ℕ) → a + m ≤ n → is_last n (filter f (range_with_len a m)) ≡ false
not_last n f a zero low = refl
not_last n f a (suc m) low = by_test (f a) (not_last n f (a + 1) m (omega (arith, low)))
  where
    below : (a == n) ≡ false
    below = ne_eqb a n (λ e. omega (arith, e, low))

    by_test : (b : Bool) → is_last n (filter f (range_with_len (a + 1) m)) ≡ false → is_last n (cond b (a ∷ filter f (range_with_len (a + 1) m)) (filter f (range_with_len (a + 1) m))) ≡ false
    by_test true h = last_cons n a (filter f (range_with_len (a + 1) m)) below h
    by_test false h = h

-- ---- numbers that are noted

noted_twice : (n : ℕ) (xs : List ℕ) → noted n (noted n xs) ≡ noted n xs
noted_twice n xs = by_test (is_last n xs) refl
  where
    by_test : (b : Bool) → is_last n xs ≡ b → noted n (noted n xs) ≡ noted n xs
    by_test true e =
        let once : noted n xs ≡ xs = ap (λ (b : Bool). cond b xs (xs ++ n ∷ [])) e in
        ap (noted n) once
    by_test false e =
        let once : noted n xs ≡ xs ++ n ∷ [] = ap (λ (b : Bool). cond b xs (xs ++ n ∷ [])) e in
        ap (noted n) once ∙ ap (λ (b : Bool). cond b (xs ++ n ∷ []) ((xs ++ n ∷ []) ++ n ∷ [])) (last_push n xs) ∙ sym once

then_noted : (a b : Bool) (n : ℕ) (xs : List ℕ) → cond b (noted n (cond a (noted n xs) xs)) (cond a (noted n xs) xs) ≡ cond (a || b) (noted n xs) xs
then_noted true true n xs = noted_twice n xs
then_noted true false n xs = refl
then_noted false true n xs = refl
then_noted false false n xs = refl

-- ---- lists in which a number is noted

pub notes_none : (n : ℕ) (called : ℕ → Bool) (lists : List (List ℕ)) → ((s : ℕ) → called s ≡ false) → Notes n called lists lists
notes_none n called lists none = record {
  each = refl;
  at = λ s low. sym (ap (λ (b : Bool). cond b (noted n (get_or lists s [])) (get_or lists s [])) (none s));
}

pub notes_then : (n : ℕ) (p q all : ℕ → Bool) (a b c : List (List ℕ)) → ((s : ℕ) → all s ≡ (p s || q s)) → Notes n p a b → Notes n q b c → Notes n all a c
notes_then n p q all a b c both h k = record {
  each = k.each ∙ h.each;
  at = λ s low.
      k.at s (omega (arith, low, h.each))
      ∙ ap (λ (xs : List ℕ). cond (q s) (noted n xs) xs) (h.at s low)
      ∙ then_noted (p s) (q s) n (get_or a s [])
      ∙ sym (ap (λ (t : Bool). cond t (noted n (get_or a s [])) (get_or a s [])) (both s));
}

-- one list more has the number behind
pub notes_here : (n k : ℕ) (old new : List (List ℕ)) → k < length old → is_last n (get_or old k []) ≡ false → new ≡ set old k (get_or old k [] ++ n ∷ []) → Notes n (λ (s : ℕ). k == s) old new
notes_here n k old new within not_yet e = record { each = ap length e ∙ length-set old k (get_or old k [] ++ n ∷ []); at = λ s low. by_test s (k == s) refl }
  where
    by_test : (s : ℕ) (b : Bool) → (k == s) ≡ b → get_or new s [] ≡ cond b (noted n (get_or old s [])) (get_or old s [])
    by_test s true same =
        let one : k ≡ s = eqb-true k s same in
        ap (λ (lists : List (List ℕ)). get_or lists s []) e
        ∙ get_or-set_at old k s (get_or old k [] ++ n ∷ []) [] (sym one) within
        ∙ sym (ap (λ (b : Bool). cond b (get_or old k []) (get_or old k [] ++ n ∷ [])) not_yet)
        ∙ ap (λ (j : ℕ). noted n (get_or old j [])) one
    by_test s false same = ap (λ (lists : List (List ℕ)). get_or lists s []) e ∙ get_or-set_other old k s (get_or old k [] ++ n ∷ []) [] (λ is. eqb-false k s same (sym is))

-- it is there already
pub notes_already : (n k : ℕ) (lists : List (List ℕ)) → is_last n (get_or lists k []) ≡ true → Notes n (λ (s : ℕ). k == s) lists lists
notes_already n k lists there = record { each = refl; at = λ s low. by_test s (k == s) refl }
  where
    by_test : (s : ℕ) (b : Bool) → (k == s) ≡ b → get_or lists s [] ≡ cond b (noted n (get_or lists s [])) (get_or lists s [])
    by_test s true same =
        let one : k ≡ s = eqb-true k s same in
        sym (ap (λ (b : Bool). cond b (get_or lists s []) (get_or lists s [] ++ n ∷ [])) (ap (λ (j : ℕ). is_last n (get_or lists j [])) (sym one) ∙ there))
    by_test s false same = refl

pub same_count : (a b : List (Vec ℕ Global)) → length (lists_in b) ≡ length (lists_in a) → length b ≡ length a
same_count a b e = sym (lists_count b) ∙ e ∙ lists_count a

-- ---- line after line

pub table_none : (patterns : List Pattern) (lists : List (List ℕ)) (stations : ℕ) (table : List (List ℕ)) → AreEmpty stations table → IsTable stations (callers_in patterns lists 0) table
table_none patterns lists stations table h = record { each = h.each; at = λ s low. h.none s }

pub table_more : (patterns : List Pattern) (lists : List (List ℕ)) (stations line : ℕ) (called : ℕ → Bool) (old new : List (List ℕ))
    → ((s : ℕ) → called s ≡ is_caller patterns lists s line) → IsTable stations (callers_in patterns lists line) old → Notes line called old new → IsTable stations (callers_in patterns lists (line + 1)) new
table_more patterns lists stations line called old new is h k = record {
  each = k.each ∙ h.each;
  at = λ s low. k.at s (omega (arith, low, h.each)) ∙ ap (λ (xs : List ℕ). cond (called s) (noted line xs) xs) (h.at s low) ∙ by_test s (called s) (sym (is s));
}
  where
    by_test : (s : ℕ) (b : Bool) → is_caller patterns lists s line ≡ b → cond b (noted line (callers_in patterns lists line s)) (callers_in patterns lists line s) ≡ callers_in patterns lists (line + 1) s
    by_test s true e =
        ap (λ (b : Bool). cond b (callers_in patterns lists line s) (callers_in patterns lists line s ++ line ∷ [])) (not_last line (is_caller patterns lists s) 0 line (omega arith))
        ∙ sym (filter_more (is_caller patterns lists s) line true e)
    by_test s false e = sym (filter_more (is_caller patterns lists s) line false e ∙ append-nil (callers_in patterns lists line s))
