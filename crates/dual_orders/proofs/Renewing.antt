-- Where no price on a segment changes, its answer stays.
use Rattle.std.proofs.Common.{◌≡◌, ℕ, ◌*◌, ◌==◌, false, cond, List, [], ◌∷◌, set, get_or, refl, sym, ◌∙◌, ap}
use Rattle.std.specs.Prelude.{ℤ, pos, ◌+ℤ◌, ◌-ℤ◌, unwrap_or}
use Rattle.std.specs.List.{All, AllByRecursion}
use Rattle.std.proofs.lemmas.List.{set-get_or}
use Rattle.std.proofs.lemmas.List.Elements.{recursion_from_All}
use Rattle.map_base.specs.declared.ids.SegId.{SegId}
use Rattle.map_base.specs.declared.ids.LineId.{LineId}
use Rattle.order_model.specs.declared.term.Term.{Term}
use Rattle.order_model.specs.declared.term.Term.TheVariants.{Side, Link, Apart}
use Rattle.order_model.specs.declared.problem.ProblemParts.{ProblemParts}
use Rattle.order_model.specs.Problems.{lines_on, IsTerm}
use Rattle.order_model.specs.Costs.{comes_before, are_neighbours}
use Rattle.order_model.specs.PartTerms.{no_term, terms_by_number}
use Rattle.order_model.proofs.Lines.{neither}
use Rattle.whole_sums.specs.Sums.{int_sum}
use Rattle.least_orders.specs.Arrangements.{kept_orders}
use Rattle.least_orders.proofs.LeastValues.{first_least_same}
use Rattle.dual_bound.specs.declared.settled.SettledPair.{SettledPair}
use Rattle.dual_bound.specs.Settled.{settled_on}
use Rattle.dual_bound.specs.Shares.{thousand, where_so, x_of, z_of, term_share}
use Rattle.dual_shares.specs.Groups.{is_on}
use Rattle.dual_shares.proofs.Adding.{sum_on}
use Rattle.dual_ascent.specs.OwnNumbers.{number_of}
use Rattle.dual_ascent.specs.DualSteps.{share_under, answer_on}
use Rattle.dual_ascent.proofs.OwnParts.{seg_number}
use Rattle.dual_orders.specs.OwnTerms as own
use Rattle.dual_orders.proofs.OwnTables.{all_by_number}

-- a term that is not on a segment adds nothing there
off_share : (p : ℤ) (s : SegId) (o : List LineId) (t : Term) → is_on s t ≡ false → term_share p s o t ≡ pos 0
off_share p s o (Side seg first second w) h =
    ap (λ b. cond b (where_so (comes_before o second first) (pos (thousand * w))) (pos 0)) (neither (seg.0 == s.0) (seg.0 == s.0) h).0
off_share p s o (Link seg other flip a b w) h =
    ap (λ c. cond c (where_so (z_of o flip a b) p) (pos 0) -ℤ cond (seg.0 == s.0) (where_so (x_of o a b) p) (pos 0)) (neither (seg.0 == s.0) (other.0 == s.0) h).1
    ∙ ap (λ c. pos 0 -ℤ cond c (where_so (x_of o a b) p) (pos 0)) (neither (seg.0 == s.0) (other.0 == s.0) h).0
off_share p s o (Apart seg other a b w) h =
    ap (λ c. cond c (where_so (are_neighbours o a b) p) (pos 0) -ℤ cond (seg.0 == s.0) (where_so (are_neighbours o a b) p) (pos 0)) (neither (seg.0 == s.0) (other.0 == s.0) h).1
    ∙ ap (λ c. pos 0 -ℤ cond c (where_so (are_neighbours o a b) p) (pos 0)) (neither (seg.0 == s.0) (other.0 == s.0) h).0

abbrev share_at : List ℤ → SegId → List LineId → ℕ × Term → ℤ
share_at prices s o q = term_share (number_of prices q.0) s o q.1

-- the share is that of the terms on the segment
own_share : (p : ProblemParts) (prices : List ℤ) (s : SegId) (o : List LineId) → All (IsTerm p.segs) p.terms → share_under p prices s o ≡ int_sum (share_at prices s o) (terms_by_number p.terms (own.own_numbers p s))
own_share p prices s o fit =
    ap (int_sum (share_at prices s o)) (sym (all_by_number p fit))
    ∙ sym (sum_on (share_at prices s o) p.terms s (own.all_numbers p) (λ q h. off_share (number_of prices q.0) s o q.1 h))

pub same_answer : (p : ProblemParts) (settled : List SettledPair) (f g : List ℤ) (s : SegId) → All (IsTerm p.segs) p.terms → All (λ n. number_of f n ≡ number_of g n) (own.own_numbers p s)
    → answer_on p settled f s ≡ answer_on p settled g s
same_answer p settled f g s fit same =
    ap (λ o. unwrap_or o (lines_on p.segs s))
    (first_least_same (share_under p f s) (share_under p g s) (kept_orders (settled_on settled s) (lines_on p.segs s)) (each (kept_orders (settled_on settled s) (lines_on p.segs s))))
  where
    sums : (o : List LineId) (numbers : List ℕ) → AllByRecursion (λ n. number_of f n ≡ number_of g n) numbers → int_sum (share_at f s o) (terms_by_number p.terms numbers) ≡ int_sum (share_at g s o) (terms_by_number p.terms numbers)
    sums o [] h = refl
    sums o (n ∷ numbers) h =
        ap (λ v. term_share v s o (get_or p.terms n no_term) +ℤ int_sum (share_at f s o) (terms_by_number p.terms numbers)) h.0
        ∙ ap (λ v. term_share (number_of g n) s o (get_or p.terms n no_term) +ℤ v) (sums o numbers h.1)

    each : (os : List (List LineId)) → AllByRecursion (λ o. share_under p f s o ≡ share_under p g s o) os
    each [] = tt
    each (o ∷ os) =
        (own_share p f s o fit ∙ (sums o (own.own_numbers p s) (recursion_from_All (λ n. number_of f n ≡ number_of g n) (own.own_numbers p s) same) ∙ sym (own_share p g s o fit)), each os)

-- an order that answers earlier prices is left in its place
pub kept_order : (p : ProblemParts) (settled : List SettledPair) (earlier prices : List ℤ) (i : ℕ) (orders : List (List LineId)) → All (IsTerm p.segs) p.terms
    → get_or orders i [] ≡ answer_on p settled earlier (seg_number i) → All (λ n. number_of earlier n ≡ number_of prices n) (own.own_numbers p (seg_number i)) → orders ≡ set orders i (answer_on p settled prices (seg_number i))
kept_order p settled earlier prices i orders fit is same =
    sym (set-get_or orders i []) ∙ ap (set orders i) (is ∙ same_answer p settled earlier prices (seg_number i) fit same)
