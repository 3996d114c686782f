-- A walk over a tree, node by node.
use Rattle.std.proofs.Common.{◌≡◌, ℕ, ℤ, ◌-◌, ◌<◌, ◌≤◌, ◌==◌, ◌&&◌, not, Bool, true, false, cond, List, [], ◌∷◌, ◌++◌, length, take, refl, sym, ◌∙◌, ap, subst, arith, true≢false, append_assoc, inl, inr, Some, None, Option}
use Rattle.std.specs.List.{All}
use Rattle.std.proofs.Math.Seq.{take-append_seam}
use Rattle.std.proofs.lemmas.Bool.{and_parts, not-true, eqb-false, ne_eqb}
use Rattle.std.proofs.lemmas.List.{append-nil, reverse-append, length-append}
use Rattle.std.proofs.lemmas.List.Elements.{All-head, All-tail}
use Rattle.map_base.specs.declared.ids.SegId.{SegId}
use Rattle.map_base.specs.declared.ids.LineId.{LineId}
use Rattle.order_model.specs.Problems.{lines_on}
use Rattle.order_model.specs.Places.{has_line}
use Rattle.order_model.specs.PartTerms.{is_in}
use Rattle.order_model.proofs.Lines.{either_true}
use Rattle.order_model.specs.Questions.{Question}
use Rattle.order_values.specs.DualTrees.{PlainDual, fork, stop, stops_of}
use Rattle.dual_bound.specs.declared.settled.SettledPair.{SettledPair}
use Rattle.dual_bound.specs.Settled.{with_pair}
use Rattle.dual_bound.proofs.Segments.{same_seg}
use Rattle.dual_bound.specs.Accepting.{is_stopped, is_fork, after_line, first_of, failing_below}
use Rattle.dual_check.specs.Settling.{pairs_of, IsWalked, IsPairOn}

-- A stop.

pub stopped_walked : (b : Bool) (way : List LineId) → IsWalked (cond {A = Option (List LineId)} b None (Some [])) way way b
stopped_walked true way = (refl, refl)
stopped_walked false way = ([], refl, sym (append-nil way))

pub stop_walked : (q : Question) (settled : List SettledPair) (prices : List (ℕ × ℤ)) (b : Bool) (way : List LineId) → b ≡ is_stopped q settled prices
    → IsWalked (failing_below q settled (stop prices)) way way b
stop_walked q settled prices b way e = subst (λ t. IsWalked (cond {A = Option (List LineId)} t None (Some [])) way way b) e (stopped_walked b way)

-- A fork.

abbrev fork_outcome : Question → List SettledPair → SegId → LineId → LineId → PlainDual → PlainDual → Option (List LineId)
fork_outcome q settled s a b first second =
    first_of (after_line a (failing_below q (with_pair s a b settled) first)) (after_line b (failing_below q (with_pair s b a settled) second))

fork_is : (q : Question) (settled : List SettledPair) (s : SegId) (a b : LineId) (first second : PlainDual) → is_fork q s a b ≡ true
    → failing_below q settled (fork s a b first second) ≡ fork_outcome q settled s a b first second
fork_is q settled s a b first second h = ap (λ t. cond t (fork_outcome q settled s a b first second) (Some [])) h

pub no_fork : (q : Question) (settled : List SettledPair) (s : SegId) (a b : LineId) (first second : PlainDual) (way : List LineId) → is_fork q s a b ≡ false
    → IsWalked (failing_below q settled (fork s a b first second)) way way false
no_fork q settled s a b first second way h = ([], ap (λ t. cond t (fork_outcome q settled s a b first second) (Some [])) h, sym (append-nil way))

-- its first tree fails
pub first_refused : (q : Question) (settled : List SettledPair) (s : SegId) (a b : LineId) (first second : PlainDual) (before after : List LineId) → is_fork q s a b ≡ true
    → IsWalked (after_line a (failing_below q (with_pair s a b settled) first)) before after false → IsWalked (failing_below q settled (fork s a b first second)) before after false
first_refused q settled s a b first second before after h walked =
    (walked.0, fork_is q settled s a b first second h ∙ ap (λ w. first_of w (after_line b (failing_below q (with_pair s b a settled) second))) walked.1, walked.2)

-- its first tree passes
pub second_walked : (q : Question) (settled : List SettledPair) (s : SegId) (a b : LineId) (first second : PlainDual) (before between after : List LineId) (passed : Bool)
    → is_fork q s a b ≡ true → IsWalked (after_line a (failing_below q (with_pair s a b settled) first)) before between true
    → IsWalked (after_line b (failing_below q (with_pair s b a settled) second)) between after passed → IsWalked (failing_below q settled (fork s a b first second)) before after passed
second_walked q settled s a b first second before between after passed h one two =
    subst (λ w. IsWalked w before after passed) (sym (fork_is q settled s a b first second h ∙ ap (λ w. first_of w (after_line b (failing_below q (with_pair s b a settled) second))) one.0))
    (subst (λ w. IsWalked (after_line b (failing_below q (with_pair s b a settled) second)) w after passed) one.1 two)

-- A case of a fork.

pub pushed_pairs : (stack : List SettledPair) (p : SettledPair) → pairs_of (stack ++ p ∷ []) ≡ p ∷ pairs_of stack
pushed_pairs stack p = reverse-append stack (p ∷ [])

pub case_refused : (a : LineId) (outcome : Option (List LineId)) (before after : List LineId) → IsWalked outcome (before ++ a ∷ []) after false → IsWalked (after_line a outcome) before after false
case_refused a outcome before after walked = (a ∷ walked.0, ap (after_line a) walked.1, walked.2 ∙ append_assoc before (a ∷ []) walked.0)

pub all_in : (P : SegId → Type 0) (part : List SegId) (s : SegId) → All P part → is_in part s ≡ true → P s
all_in P [] s all h = absurd (true≢false (sym h))
all_in P (t ∷ part) s all h = elim (either_true (t.0 == s.0) (is_in part s) h) [
  | inl here ↦ subst P (same_seg t s here) (All-head P t part all)
  | inr later ↦ all_in P part s (All-tail P t part all) later
]

-- what was pushed is taken off again
pub pushed_off : {A : Type 0} (xs ys zs : List A) (x : A) → ys ≡ xs ++ x ∷ [] → zs ≡ take (length ys - 1) ys → zs ≡ xs
pushed_off xs ys zs x more less =
    less
    ∙ (ap (λ l. take (length l - 1) l) more
    ∙ (ap (λ n. take n (xs ++ x ∷ [])) (omega (arith, length-append xs (x ∷ []))) ∙ take-append_seam xs (x ∷ [])))

pub case_done : (a : LineId) (outcome : Option (List LineId)) (before after shorter : List LineId) → IsWalked outcome (before ++ a ∷ []) after true → shorter ≡ take (length after - 1) after
    → IsWalked (after_line a outcome) before shorter true
case_done a outcome before after shorter walked less = (ap (after_line a) walked.0, pushed_off before after shorter a walked.1 less)

-- both lines of a fork that holds are on its segment
pub fork_pair : (q : Question) (s : SegId) (a b : LineId) → All (λ (u : SegId). u.0 < length q.segs) q.part → is_fork q s a b ≡ true
    → IsPairOn q.segs (record { seg = s; first = a; second = b }) × IsPairOn q.segs (record { seg = s; first = b; second = a })
fork_pair q s a b known h =
    let in_part = and_parts (is_in q.part s) (has_line (lines_on q.segs s) a && (has_line (lines_on q.segs s) b && not (a.0 == b.0))) h in
    let here = and_parts (has_line (lines_on q.segs s) a) (has_line (lines_on q.segs s) b && not (a.0 == b.0)) in_part.1 in
    let there = and_parts (has_line (lines_on q.segs s) b) (not (a.0 == b.0)) here.1 in
    let apart : (a.0 == b.0) ≡ false = not-true (a.0 == b.0) there.1 in
    let below : s.0 < length q.segs = all_in (λ (u : SegId). u.0 < length q.segs) q.part s known in_part.0 in (
      record { known = below; two = record { first_on = here.0; second_on = there.0; differ = apart } },
      record { known = below; two = record { first_on = there.0; second_on = here.0; differ = ne_eqb b.0 a.0 (λ e. eqb-false a.0 b.0 apart (sym e)) } },
    )

-- each tree has a stop
pub some_stops : (t : PlainDual) → 1 ≤ stops_of t
some_stops (fork s a b first second) = let one = some_stops first in omega (arith, one)
some_stops (stop prices) = omega arith
