-- A walk over a tree, node by node and case by case.
use Rattle.std.proofs.Common.{◌≡◌, ℕ, ℤ, zero, suc, ◌+◌, ◌-◌, ◌<◌, ◌≤◌, ◌==◌, ◌&&◌, ◌||◌, Bool, true, false, cond, List, [], ◌∷◌, ◌++◌, length, drop, take, set, get_or, Vec, Global, refl, sym, ◌∙◌, ap, subst, arith, inl, inr, true≢false, length-append, Some, None, Option, rules, append_assoc}
use Rattle.std.specs.Prelude.{nat_lt}
use Rattle.std.specs.List.{Contains, list_all, find}
use Rattle.std.specs.Option.{option_to_list}
use Rattle.std.proofs.Math.Seq.{take-append_seam}
use Rattle.std.proofs.lemmas.List.{append-nil, get_or-set_same, set-get_or, at_drop_more, drop_all}
use Rattle.map_base.specs.declared.ids.SegId.{SegId}
use Rattle.map_base.specs.declared.ids.LineId.{LineId}
use Rattle.graph_core.specs.Consistent.{AreRising}
use Rattle.order_model.specs.Problems.{lines_on}
use Rattle.order_model.specs.Prefixes.{is_placed, is_unplaced, is_left, with_last, first_placed, with_line, without_last, ArePlacedLines}
use Rattle.order_model.proofs.PrefixLemmas.{undone, room_left, with_last_not}
use Rattle.order_proof.specs.declared.tree.Tree.{Tree, Split, Close, the_lemmas}
use Rattle.order_proof.specs.Plain.{split, close, plain, plain_children}
use Rattle.order_proof.specs.Trees.{is_among, lines_of, AreDistinct, IsTree, AreTrees}
use Rattle.order_model.specs.PartTerms.{is_in}
use Rattle.order_model.specs.Completions.{placed_more}
use Rattle.order_bound.specs.Accepting.{is_closed, are_those_left, is_split, after_line, first_of, failing, failing_case}
use Rattle.order_model.specs.Questions.{Question}
use Rattle.order_model.proofs.Lines.{both_true, either_true, not_true, same_line}
use Rattle.order_check.specs.Children.{child_lines}
use Rattle.order_check.specs.Walking.{IsWalked, split_test}

-- Trees as plain ones.

pub plain-Close : (prices : List (ℕ × ℤ)) → plain (Close prices) ≡ close prices
plain-Close prices = search (rules, the_lemmas)

pub plain-Split : (seg : SegId) (children : Vec (LineId × Tree) Global) → plain (Split seg children) ≡ split seg (plain_children children.items)
plain-Split seg children = search (rules, the_lemmas)

pub lines_of_children : (children : List (LineId × Tree)) → lines_of (plain_children children) ≡ child_lines children
lines_of_children [] = refl
lines_of_children (c ∷ rest) = ap (λ l. c.0 ∷ l) (lines_of_children rest)

-- The lines of a split's children differ, and each child is a tree.

pub distinct_children : (seg : SegId) (children : List (LineId × Tree)) → IsTree (split seg (plain_children children)) → AreDistinct (child_lines children)
distinct_children seg children h = subst AreDistinct (lines_of_children children) h.1

child_at : (children : List (LineId × Tree)) (i : ℕ) (d : LineId × Tree) → AreTrees (plain_children children) → i < length children → IsTree (plain (get_or children i d).1)
child_at [] i d h below = absurd (omega (arith, below))
child_at (c ∷ children) zero d h below = h.0
child_at (c ∷ children) (suc i) d h below = child_at children i d h.1 (omega (arith, below))

pub child_is_tree : (seg : SegId) (children : List (LineId × Tree)) (i : ℕ) (child : LineId × Tree) → IsTree (split seg (plain_children children)) → i < length children
    → child ≡ get_or children i child → IsTree (plain child.1)
child_is_tree seg children i child h below is = subst (λ (c : LineId × Tree). IsTree (plain c.1)) (sym is) (child_at children i child h.2 below)

-- A node.

pub closed_walked : (b : Bool) (way : List LineId) → IsWalked (cond b None (Some [])) way way b
closed_walked true way = (refl, refl)
closed_walked false way = ([], refl, sym (append-nil way))

pub close_walked : (q : Question) (placed : List (List LineId)) (tree : Tree) (prices : List (ℕ × ℤ)) (b : Bool) (way : List LineId)
    → tree ≡ Close prices → b ≡ is_closed q placed prices → IsWalked (failing q placed (plain tree)) way way b
close_walked q placed tree prices b way is e =
    rw (is, plain-Close prices, e) (closed_walked (is_closed q placed prices) way)

pub split_walked : (q : Question) (placed : List (List LineId)) (tree : Tree) (seg : SegId) (children : Vec (LineId × Tree) Global) (before after : List LineId) (b : Bool)
    → tree ≡ Split seg children → IsWalked (failing q placed (split seg (plain_children children.items))) before after b
    → IsWalked (failing q placed (plain tree)) before after b
split_walked q placed tree seg children before after b is h =
    rw (is, plain-Split seg children) h

not_split_fails : (q : Question) (placed : List (List LineId)) (s : SegId) (children : List (LineId × Tree))
    → split_test q placed s (child_lines children) ≡ false → failing q placed (split s (plain_children children)) ≡ Some []
not_split_fails q placed s children h =
    ap (λ b. cond b (failing_case q placed s (plain_children children)) (Some [])) (ap (is_split q placed s) (lines_of_children children) ∙ h)

split_goes_on : (q : Question) (placed : List (List LineId)) (s : SegId) (children : List (LineId × Tree))
    → split_test q placed s (child_lines children) ≡ true → failing q placed (split s (plain_children children)) ≡ failing_case q placed s (plain_children children)
split_goes_on q placed s children h =
    ap (λ b. cond b (failing_case q placed s (plain_children children)) (Some [])) (ap (is_split q placed s) (lines_of_children children) ∙ h)

pub not_split_walked : (q : Question) (placed : List (List LineId)) (s : SegId) (children : List (LineId × Tree)) (way : List LineId)
    → split_test q placed s (child_lines children) ≡ false → IsWalked (failing q placed (split s (plain_children children))) way way false
not_split_walked q placed s children way h = ([], not_split_fails q placed s children h, sym (append-nil way))

-- The cases of a node.

-- what fails among the cases from i on is what fails among all
abbrev pub FailsFrom : Question → List (List LineId) → SegId → List (LineId × Tree) → ℕ → Type 0
FailsFrom q placed s children i = failing_case q placed s (plain_children (drop i children)) ≡ failing_case q placed s (plain_children children)

at_case : (q : Question) (placed : List (List LineId)) (s : SegId) (children : List (LineId × Tree)) (i : ℕ) (d : LineId × Tree) → i < length children
    → FailsFrom q placed s children i
    → first_of (after_line (get_or children i d).0 (failing q (placed_more q.segs placed s (get_or children i d).0) (plain (get_or children i d).1)))
    (failing_case q placed s (plain_children (drop (i + 1) children))) ≡ failing_case q placed s (plain_children children)
at_case q placed s children i d below h =
    sym (at_drop_more (λ cs. failing_case q placed s (plain_children cs)) children i d below) ∙ h

pub case_passed : (q : Question) (placed : List (List LineId)) (s : SegId) (children : List (LineId × Tree)) (i : ℕ) (d : LineId × Tree) → i < length children
    → FailsFrom q placed s children i
    → after_line (get_or children i d).0 (failing q (placed_more q.segs placed s (get_or children i d).0) (plain (get_or children i d).1)) ≡ None
    → FailsFrom q placed s children (i + 1)
case_passed q placed s children i d below h passed =
    sym (ap (λ f. first_of f (failing_case q placed s (plain_children (drop (i + 1) children)))) passed) ∙ at_case q placed s children i d below h

pub case_failed : (q : Question) (placed : List (List LineId)) (s : SegId) (children : List (LineId × Tree)) (i : ℕ) (d : LineId × Tree) (before after : List LineId) → i < length children
    → split_test q placed s (child_lines children) ≡ true → FailsFrom q placed s children i
    → IsWalked (after_line (get_or children i d).0 (failing q (placed_more q.segs placed s (get_or children i d).0) (plain (get_or children i d).1))) before after false
    → IsWalked (failing q placed (split s (plain_children children))) before after false
case_failed q placed s children i d before after below holds h walked = (
  walked.0,
  split_goes_on q placed s children holds ∙ sym (at_case q placed s children i d below h)
      ∙ ap (λ f. first_of f (failing_case q placed s (plain_children (drop (i + 1) children)))) walked.1,
  walked.2,
)

pub case_refused : (q : Question) (placed now : List (List LineId)) (s : SegId) (children : List (LineId × Tree)) (i : ℕ) (x : LineId × Tree) (before here after : List LineId) (b : Bool)
    → i < length children → split_test q placed s (child_lines children) ≡ true → FailsFrom q placed s children i
    → x ≡ get_or children i x → now ≡ placed → here ≡ before → b ≡ false
    → IsWalked (after_line x.0 (failing q (placed_more q.segs now s x.0) (plain x.1))) here after b
    → IsWalked (failing q placed (split s (plain_children children))) before after false
case_refused q placed now s children i x before here after b below holds h is same_placed same_way unmet w =
    let one = subst (λ p. IsWalked (after_line x.0 (failing q (placed_more q.segs p s x.0) (plain x.1))) here after b) same_placed w in
    let two = subst (λ l. IsWalked (after_line x.0 (failing q (placed_more q.segs placed s x.0) (plain x.1))) l after b) same_way one in
    let three = subst (λ c. IsWalked (after_line x.0 (failing q (placed_more q.segs placed s x.0) (plain x.1))) before after c) unmet two in
    case_failed q placed s children i x before after below holds h
    (subst (λ y. IsWalked (after_line y.0 (failing q (placed_more q.segs placed s y.0) (plain y.1))) before after false) is three)

pub case_accepted : (q : Question) (placed now : List (List LineId)) (s : SegId) (children : List (LineId × Tree)) (i : ℕ) (x : LineId × Tree) (before here after : List LineId) (b : Bool)
    → i < length children → FailsFrom q placed s children i
    → x ≡ get_or children i x → now ≡ placed → here ≡ before → b ≡ true
    → IsWalked (after_line x.0 (failing q (placed_more q.segs now s x.0) (plain x.1))) here after b
    → (after ≡ before) × FailsFrom q placed s children (i + 1)
case_accepted q placed now s children i x before here after b below h is same_placed same_way met w =
    let one = subst (λ p. IsWalked (after_line x.0 (failing q (placed_more q.segs p s x.0) (plain x.1))) here after b) same_placed w in
    let two = subst (λ l. IsWalked (after_line x.0 (failing q (placed_more q.segs placed s x.0) (plain x.1))) l after b) same_way one in
    let three = subst (λ c. IsWalked (after_line x.0 (failing q (placed_more q.segs placed s x.0) (plain x.1))) before after c) met two in
    (three.1, case_passed q placed s children i x below h (subst (λ y. after_line y.0 (failing q (placed_more q.segs placed s y.0) (plain y.1)) ≡ None) is three.0))

pub cases_passed : (q : Question) (placed : List (List LineId)) (s : SegId) (children : List (LineId × Tree)) (i : ℕ) (way : List LineId) → length children ≤ i
    → split_test q placed s (child_lines children) ≡ true → FailsFrom q placed s children i
    → IsWalked (failing q placed (split s (plain_children children))) way way true
cases_passed q placed s children i way over holds h =
    (split_goes_on q placed s children holds ∙ sym h ∙ ap (λ cs. failing_case q placed s (plain_children cs)) (drop_all i children over), refl)

-- The line of a case.

all_at : (p : LineId → Bool) (children : List (LineId × Tree)) (i : ℕ) (d : LineId × Tree) → list_all p (child_lines children) ≡ true → i < length children
    → p (get_or children i d).0 ≡ true
all_at p [] i d h below = absurd (omega (arith, below))
all_at p (c ∷ rest) zero d h below = (both_true (p c.0) (list_all p (child_lines rest)) h).0
all_at p (c ∷ rest) (suc i) d h below = all_at p rest i d (both_true (p c.0) (list_all p (child_lines rest)) h).1 (omega (arith, below))

contains_line : (lines : List LineId) (a : LineId) → is_among lines a ≡ true → Contains lines a
contains_line [] a h = absurd (true≢false (sym h))
contains_line (x ∷ lines) a h = elim (either_true (x.0 == a.0) (is_among lines a) h) [
  | inl here ↦ (0, omega arith, same_line x a here)
  | inr later ↦ (let rest = contains_line lines a later in (suc rest.0, omega (arith, rest.1), rest.2))
]

pub record IsNext (segs placed : List (List LineId)) (s : SegId) (a : LineId) : Type 0 where
  pub on : Contains (lines_on segs s) a
  pub fresh : is_placed (lines_on placed s) a ≡ false

pub case_next : (q : Question) (placed : List (List LineId)) (s : SegId) (children : List (LineId × Tree)) (i : ℕ) (d : LineId × Tree)
    → split_test q placed s (child_lines children) ≡ true → i < length children → IsNext q.segs placed s (get_or children i d).0
case_next q placed s children i d holds below =
    let these : List LineId = child_lines children in
    let of_part = both_true (is_in q.part s) (nat_lt 0 (length these) && are_those_left (lines_on q.segs s) (lines_on placed s) these) holds in
    let some = both_true (nat_lt 0 (length these)) (are_those_left (lines_on q.segs s) (lines_on placed s) these) of_part.1 in
    let sides = both_true (list_all (is_left (lines_on q.segs s) (lines_on placed s)) these) (list_all (λ b. is_placed (lines_on placed s) b || is_among these b) (lines_on q.segs s)) some.1 in
    let left : is_left (lines_on q.segs s) (lines_on placed s) (get_or children i d).0 ≡ true = all_at (is_left (lines_on q.segs s) (lines_on placed s)) children i d sides.0 below in
    let both = both_true (is_among (lines_on q.segs s) (get_or children i d).0) (is_unplaced (lines_on placed s) (get_or children i d).0) left in
    record { on = contains_line (lines_on q.segs s) (get_or children i d).0 both.0; fresh = not_true (is_placed (lines_on placed s) (get_or children i d).0) both.1 }

pub of_part : (q : Question) (placed : List (List LineId)) (s : SegId) (these : List LineId) → split_test q placed s these ≡ true → is_in q.part s ≡ true
of_part q placed s these h = (both_true (is_in q.part s) (nat_lt 0 (length these) && are_those_left (lines_on q.segs s) (lines_on placed s) these) h).0

-- Placing a line and taking it back.

with_some : (lines placed : List LineId) (a : LineId) → 0 < length (with_line lines placed a)
with_some lines placed a = by_test (length (placed ++ a ∷ []) + 1 == length lines)
  where
    pushed : 0 < length (placed ++ a ∷ [])
    pushed = omega (arith, length-append placed (a ∷ []))

    by_test : (b : Bool) → 0 < length (cond b ((placed ++ a ∷ []) ++ option_to_list (find (is_unplaced (placed ++ a ∷ [])) lines)) (placed ++ a ∷ []))
    by_test false = pushed
    by_test true = omega (arith, pushed, length-append (placed ++ a ∷ []) (option_to_list (find (is_unplaced (placed ++ a ∷ [])) lines)))

pub placed_some : (segs placed : List (List LineId)) (s : SegId) (a : LineId) → s.0 < length placed → 0 < length (lines_on (placed_more segs placed s a) s)
placed_some segs placed s a known = rw (get_or-set_same placed s.0 (with_line (lines_on segs s) (lines_on placed s) a) [] known) (with_some (lines_on segs s) (lines_on placed s) a)

set_twice : (xs : List (List LineId)) (i : ℕ) (x y : List LineId) → set (set xs i x) i y ≡ set xs i y
set_twice [] i x y = refl
set_twice (z ∷ xs) zero x y = refl
set_twice (z ∷ xs) (suc i) x y = ap (λ l. z ∷ l) (set_twice xs i x y)

pub taken_back : (segs placed : List (List LineId)) (s : SegId) (a : LineId) → s.0 < length placed → AreRising (lines_on segs s) → ArePlacedLines (lines_on segs s) (lines_on placed s)
    → set (placed_more segs placed s a) s.0 (without_last (lines_on segs s) (lines_on (placed_more segs placed s a) s)) ≡ placed
taken_back segs placed s a known rising ok =
    let more : List LineId = with_line (lines_on segs s) (lines_on placed s) a in
    let here : lines_on (placed_more segs placed s a) s ≡ more = get_or-set_same placed s.0 more [] known in
    set_twice placed s.0 more (without_last (lines_on segs s) (lines_on (placed_more segs placed s a) s))
    ∙ ap (λ l. set placed s.0 l) (ap (without_last (lines_on segs s)) here ∙ undone (lines_on segs s) (lines_on placed s) a rising ok)
    ∙ set-get_or placed s.0 []

pub case_restored : (segs : List (List LineId)) (before placed walked after : List (List LineId)) (s : SegId) (a : LineId) → s.0 < length before
    → AreRising (lines_on segs s) → ArePlacedLines (lines_on segs s) (lines_on before s)
    → placed ≡ placed_more segs before s a → walked ≡ placed → after ≡ set walked s.0 (without_last (lines_on segs s) (lines_on walked s)) → after ≡ before
case_restored segs before placed walked after s a known rising ok p w t =
    let is : walked ≡ placed_more segs before s a = w ∙ p in
    t ∙ ap (λ l. set l s.0 (without_last (lines_on segs s) (lines_on l s))) is ∙ taken_back segs before s a known rising ok

-- The way of a case.

pub case_walked : (f : Option (List LineId)) (a : LineId) (before after : List LineId)
    → IsWalked f (before ++ a ∷ []) after false → IsWalked (after_line a f) before after false
case_walked f a before after h = (a ∷ h.0, ap (after_line a) h.1, h.2 ∙ append_assoc before (a ∷ []) h.0)

pub case_done : (f : Option (List LineId)) (a : LineId) (before after shorter : List LineId)
    → IsWalked f (before ++ a ∷ []) after true → shorter ≡ take (length after - 1) after → IsWalked (after_line a f) before shorter true
case_done f a before after shorter h short = (
  ap (after_line a) h.0,
  short ∙ ap (λ l. take (length l - 1) l) h.1 ∙ ap (λ n. take n (before ++ a ∷ [])) (omega (arith, length-append before (a ∷ []))) ∙ take-append_seam before (a ∷ []),
)

-- After a line is placed there is a placing to take back.

longer : (lines now : List LineId) → length now ≤ length (with_last lines now)
longer lines now = by_test (length now + 1 == length lines)
  where
    by_test : (b : Bool) → length now ≤ length (let l : List LineId = cond b (now ++ option_to_list (find (is_unplaced now) lines)) now in l)
    by_test true = omega (arith, length-append now (option_to_list (find (is_unplaced now) lines)))
    by_test false = omega arith

chosen_after : (lines placed : List LineId) (line : LineId) → ArePlacedLines lines placed → Contains lines line → is_placed placed line ≡ false
    → length (first_placed lines) < length (with_line lines placed line)
chosen_after lines placed line ok on free =
    let room : length placed < length lines = room_left lines placed line ok on free in
    let alone = ok.none_alone in
    let none : first_placed lines ≡ [] = with_last_not lines [] (λ e. alone (omega (arith, e, room))) in
    omega (arith, ap length none, longer lines (placed ++ line ∷ []), length-append placed (line ∷ []))

pub chosen_walked : (segs before placed walked : List (List LineId)) (s : SegId) (line : LineId) → s.0 < length before → ArePlacedLines (lines_on segs s) (lines_on before s)
    → Contains (lines_on segs s) line → is_placed (lines_on before s) line ≡ false → placed ≡ set before s.0 (with_line (lines_on segs s) (lines_on before s) line) → walked ≡ placed
    → length (first_placed (lines_on segs s)) < length (lines_on walked s)
chosen_walked segs before placed walked s line known ok on free is same =
    let there : lines_on walked s ≡ with_line (lines_on segs s) (lines_on before s) line =
    ap (λ p. lines_on p s) (same ∙ is) ∙ get_or-set_same before s.0 (with_line (lines_on segs s) (lines_on before s) line) [] known in
    rw there (chosen_after (lines_on segs s) (lines_on before s) line ok on free)
