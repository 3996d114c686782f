-- What a line of each form says, and that it is the line which is written of it.
use Rattle.std.proofs.Common.{◌≡◌, ℕ, suc, ◌<◌, ◌≤◌, ℤ, pos, negsuc, Bool, true, false, cond, List, [], ◌∷◌, ◌++◌, length, Option, Some, None, option_map, refl, ap, subst, sym, ◌∙◌, arith}
use Rattle.std.specs.Option.{option_and_then}
use Rattle.std.specs.List.{AllByRecursion}
use Rattle.std.specs.Str.{bytes_eq}
use Rattle.std.proofs.lemmas.Bool.{eqb-true}
use Rattle.std.proofs.lemmas.Slice.Eq.{bytes_eq-Decides}
use Rattle.map_base.specs.declared.ids.LineId.{LineId}
use Rattle.decimal_text.specs.Numbers.{natural_within, from_to}
use Rattle.decimal_text.specs.Lines.{Line, numbered, front, words_text, numbers_text}
use Rattle.decimal_text.proofs.RangeLemmas.{within_is, from_to_is}
use Rattle.decimal_text.proofs.LineLemmas.{numerals_text, numbered_is, front_text, front_then}
use Rattle.cert_file.specs.declared.counts.Counts.{Counts}
use Rattle.cert_file.specs.Forms.{most_id, most_nodes, most_segs, most_lines, most_importance, most_cost, line_id, spoken, with_word, spoken_front, version_of, counts_with, counts_of, pair_with, pair_of, pairs_from, importance_of, is_number, are_distinct, lines_in, distinct, order_in, order_of, cost_of}
use Rattle.cert_file.specs.Text as texts
use Rattle.cert_file.specs.Text.{pair_numbers, line_numbers}
use Rattle.cert_file.specs.Ranges.{ArePairs, IsOrder}

abbrev pub some : {A : Type 0} → A → Option A
some x = Some x

pub some_is : {A : Type 0} (x y : A) → some x ≡ some y → x ≡ y
some_is x y e = cc

pub and_then_is : {A B : Type 0} (f : A → Option B) (o : Option A) (b : B) → option_and_then f o ≡ Some b → (a : A) × (o ≡ Some a) × (f a ≡ Some b)
and_then_is f None b e = absurd cc
and_then_is f (Some a) b e = (a, refl, e)

map_is : {A B : Type 0} (f : A → B) (o : Option A) (b : B) → option_map f o ≡ Some b → (a : A) × (o ≡ Some a) × (f a ≡ b)
map_is f None b e = absurd cc
map_is f (Some a) b e = (a, refl, some_is (f a) b e)

-- a form of a word and numbers, as it is read
pub spoken_is : {A : Type 0} (word : List ℕ) (form : List ℤ → Option A) (text : List ℕ) → front (with_word word form) text ≡ spoken_front word form text
unfolding spoken_front
spoken_is word form text = front_then (spoken word form) numbered text

-- the word and the numbers of a line of such a form
pub record IsSpoken {A : Type 0} (word : List ℕ) (form : List ℤ → Option A) (text : List ℕ) (a : A) (rest : List ℕ) : Type 0 where
  pub numbers : List ℤ
  pub says : form numbers ≡ Some a
  pub text_is : text ≡ (word ++ numbers_text numbers) ++ rest

spoken_line : {A : Type 0} (word : List ℕ) (form : List ℤ → Option A) (line : Line) (a : A) → spoken word form line ≡ Some a → (line.word ≡ word) × (form line.numbers ≡ Some a)
spoken_line {A} word form line a e = by (bytes_eq line.word word) refl e
  where
    by : (b : Bool) → bytes_eq line.word word ≡ b → cond b (form line.numbers) None ≡ some a → (line.word ≡ word) × (form line.numbers ≡ Some a)
    by true same e = ((bytes_eq-Decides line.word word).0 same, e)
    by false same e = absurd cc

pub spoken_text : {A : Type 0} (word : List ℕ) (form : List ℤ → Option A) (text : List ℕ) (a : A) (rest : List ℕ) → spoken_front word form text ≡ Some (a, rest) → IsSpoken word form text a rest
spoken_text word form text a rest e =
    let w = front_text (with_word word form) text a rest (spoken_is word form text ∙ e) in
    let l = and_then_is (spoken word form) (numbered (w.first ∷ w.others)) a w.says in
    let line = spoken_line word form l.0 a l.2 in
    let is = numbered_is w.first w.others l.0 l.1 in
    record {
      numbers = l.0.numbers;
      says = line.1;
      text_is = w.text_is ∙ ap (λ (bytes : List ℕ). (bytes ++ words_text w.others) ++ rest) (is.0 ∙ line.0)
          ∙ ap (λ (ws : List (List ℕ)). (word ++ words_text ws) ++ rest) is.1
          ∙ ap (λ (bytes : List ℕ). (word ++ bytes) ++ rest) (numerals_text l.0.numbers);
    }

-- ---- each form

pub version_is : (zs : List ℤ) (v : ℕ) → version_of zs ≡ Some v → (zs ≡ pos v ∷ []) × (1 ≤ v) × (v ≤ 2)
version_is (z ∷ []) v e = let is = from_to_is 1 2 z v e in (ap (λ (y : ℤ). y ∷ []) is.0, is.1, is.2)
version_is zs v e = absurd cc

counts_parts : (a b c : Option ℕ) (n : Counts) → counts_with a b c ≡ Some n → (a ≡ Some n.nodes) × (b ≡ Some n.segs) × (c ≡ Some n.lines)
counts_parts (Some x) (Some y) (Some z) n e =
    let is : record { nodes = x; segs = y; lines = z } ≡ n = some_is (record { nodes = x; segs = y; lines = z }) n e in
    (ap (λ (m : Counts). some m.nodes) is, ap (λ (m : Counts). some m.segs) is, ap (λ (m : Counts). some m.lines) is)
counts_parts a b c n e = absurd cc

pub counts_are : (zs : List ℤ) (n : Counts) → counts_of zs ≡ Some n → (zs ≡ pos n.nodes ∷ pos n.segs ∷ pos n.lines ∷ []) × (n.nodes ≤ most_nodes) × (n.segs ≤ most_segs) × (n.lines ≤ most_lines)
counts_are (x ∷ y ∷ z ∷ []) n e =
    let p = counts_parts (natural_within most_nodes x) (natural_within most_segs y) (natural_within most_lines z) n e in
    let a = within_is most_nodes x n.nodes p.0 in
    let b = within_is most_segs y n.segs p.1 in
    let c = within_is most_lines z n.lines p.2 in
    (ap (λ (u : ℤ). u ∷ y ∷ z ∷ []) a.0 ∙ ap (λ (u : ℤ). pos n.nodes ∷ u ∷ z ∷ []) b.0 ∙ ap (λ (u : ℤ). pos n.nodes ∷ pos n.segs ∷ u ∷ []) c.0, a.1, b.1, c.1)
counts_are zs n e = absurd cc

pair_parts : (a b : Option ℕ) (p : LineId × ℕ) → pair_with a b ≡ Some p → (a ≡ Some p.0.0) × (b ≡ Some p.1)
pair_parts (Some x) (Some y) p e =
    let is : (line_id x, y) ≡ p = some_is (line_id x, y) p e in
    (ap (λ (q : LineId × ℕ). some q.0.0) is, ap (λ (q : LineId × ℕ). some q.1) is)
pair_parts a b p e = absurd cc

pairs_are : (least : ℕ) (zs : List ℤ) (ps : List (LineId × ℕ)) → pairs_from least zs ≡ Some ps → (zs ≡ pair_numbers ps) × ArePairs least ps
pairs_are least [] ps e = subst (λ (qs : List (LineId × ℕ)). ([] ≡ pair_numbers qs) × ArePairs least qs) (some_is [] ps e) (refl, tt)
pairs_are least (x ∷ []) ps e = absurd cc
pairs_are least (x ∷ y ∷ rest) ps e =
    let a = and_then_is (λ (p : LineId × ℕ). option_map (λ more. p ∷ more) (pairs_from (suc p.0.0) rest)) (pair_of least x y) ps e in
    let m = map_is (λ more. a.0 ∷ more) (pairs_from (suc a.0.0.0) rest) ps a.2 in
    let both = pair_parts (from_to least most_id x) (from_to 2 most_importance y) a.0 a.1 in
    let line = from_to_is least most_id x a.0.0.0 both.0 in
    let weight = from_to_is 2 most_importance y a.0.1 both.1 in
    let later = pairs_are (suc a.0.0.0) rest m.0 m.1 in
    subst (λ (qs : List (LineId × ℕ)). (x ∷ y ∷ rest ≡ pair_numbers qs) × ArePairs least qs) m.2
    (ap (λ (u : ℤ). u ∷ y ∷ rest) line.0 ∙ ap (λ (u : ℤ). pos a.0.0.0 ∷ u ∷ rest) weight.0 ∙ ap (λ (us : List ℤ). pos a.0.0.0 ∷ pos a.0.1 ∷ us) later.0, (line.1, line.2, weight.1, weight.2, later.1))

-- at least one line has an importance
pub importance_is : (zs : List ℤ) (ps : List (LineId × ℕ)) → importance_of zs ≡ Some ps → (zs ≡ pair_numbers ps) × ArePairs 0 ps × (texts.version_of ps ≡ 2)
importance_is [] ps e = absurd cc
importance_is (z ∷ zs) [] e = let are = pairs_are 0 (z ∷ zs) [] e in absurd (no_cons z zs are.0)
  where
    no_cons : (z : ℤ) (zs : List ℤ) → z ∷ zs ≡ [] → ⊥
    no_cons z zs e = cc
importance_is (z ∷ zs) (p ∷ ps) e = let are = pairs_are 0 (z ∷ zs) (p ∷ ps) e in (are.0, are.1, refl)

pub number_is_this : (n : ℕ) (z : ℤ) → is_number n z ≡ true → z ≡ pos n
number_is_this n (pos m) e = ap pos (sym (eqb-true n m e))
number_is_this n (negsuc m) e = absurd cc

lines_are : (zs : List ℤ) (ls : List LineId) → lines_in zs ≡ Some ls → (zs ≡ line_numbers ls) × AllByRecursion (λ (l : LineId). l.0 ≤ most_id) ls
lines_are [] ls e = subst (λ (ms : List LineId). ([] ≡ line_numbers ms) × AllByRecursion (λ (l : LineId). l.0 ≤ most_id) ms) (some_is [] ls e) (refl, tt)
lines_are (z ∷ rest) ls e =
    let a = and_then_is (λ (n : ℕ). option_map (λ more. line_id n ∷ more) (lines_in rest)) (natural_within most_id z) ls e in
    let m = map_is (λ more. line_id a.0 ∷ more) (lines_in rest) ls a.2 in
    let first = within_is most_id z a.0 a.1 in
    let later = lines_are rest m.0 m.1 in
    subst (λ (ms : List LineId). (z ∷ rest ≡ line_numbers ms) × AllByRecursion (λ (l : LineId). l.0 ≤ most_id) ms) m.2
    (ap (λ (y : ℤ). y ∷ rest) first.0 ∙ ap (λ (ys : List ℤ). pos a.0 ∷ ys) later.0, (first.1, later.1))

distinct_is : (ms ls : List LineId) → distinct ms ≡ Some ls → (ms ≡ ls) × (are_distinct ls ≡ true)
distinct_is ms ls e = by (are_distinct ms) refl e
  where
    by : (b : Bool) → are_distinct ms ≡ b → cond b (some ms) None ≡ some ls → (ms ≡ ls) × (are_distinct ls ≡ true)
    by true apart e = let is = some_is ms ls e in (is, ap are_distinct (sym is) ∙ apart)
    by false apart e = absurd cc

order_is : (zs : List ℤ) (ls : List LineId) → order_in zs ≡ Some ls → (zs ≡ line_numbers ls) × IsOrder ls
order_is [] ls e = absurd cc
order_is (z ∷ zs) ls e =
    let a = and_then_is distinct (lines_in (z ∷ zs)) ls e in
    let d = distinct_is a.0 ls a.2 in
    let are = lines_are (z ∷ zs) ls (a.1 ∙ ap some d.0) in
    (are.0, record { some = some_line z zs ls are.0; range = are.1; distinct = d.1 })
  where
    some_line : (z : ℤ) (zs : List ℤ) (ls : List LineId) → z ∷ zs ≡ line_numbers ls → 0 < length ls
    some_line z zs [] e = absurd cc
    some_line z zs (l ∷ ls) e = omega arith

pub order_of_is : (s : ℕ) (zs : List ℤ) (ls : List LineId) → order_of s zs ≡ Some ls → (zs ≡ pos s ∷ line_numbers ls) × IsOrder ls
order_of_is s [] ls e = absurd cc
order_of_is s (n ∷ zs) ls e = by (is_number s n) refl e
  where
    by : (b : Bool) → is_number s n ≡ b → cond b (order_in zs) None ≡ some ls → (n ∷ zs ≡ pos s ∷ line_numbers ls) × IsOrder ls
    by true this e =
        let is = order_is zs ls e in
        (ap (λ (y : ℤ). y ∷ zs) (number_is_this s n this) ∙ ap (λ (ys : List ℤ). pos s ∷ ys) is.0, is.1)
    by false this e = absurd cc

pub cost_is : (zs : List ℤ) (k : ℕ) → cost_of zs ≡ Some k → (zs ≡ pos k ∷ []) × (k ≤ most_cost)
cost_is (z ∷ []) k e = let is = within_is most_cost z k e in (ap (λ (y : ℤ). y ∷ []) is.0, is.1)
cost_is zs k e = absurd cc
