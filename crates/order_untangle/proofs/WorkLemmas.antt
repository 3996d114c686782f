-- A problem under way: the least rule that waits and applies is the next one, and after a rule all that applies waits.
use Rattle.std.proofs.Common.{◌≡◌, ◌≢◌, ℕ, zero, suc, ◌+◌, ◌<◌, ◌≤◌, ◌^◌, ◌==◌, nat_lt, Bool, true, false, not, ◌||◌, ◌&&◌, Option, Some, None, List, [], ◌∷◌, ◌++◌, length, map, set, drop, refl, sym, ap, subst, ◌∙◌, arith, inl, inr, ◌⊎◌, true≢false, eqb-true, eq-eqb, length-append}
use Rattle.std.specs.Prelude.{filter, if◌then◌else◌, slice_get}
use Rattle.std.specs.List.{AllByRecursion, list_any, list_all, range_with_len}
use Rattle.std.specs.Option.{is_some, option_map}
use Rattle.std.proofs.lemmas.Bool.{eqb-false, ltb-true, ltb-false}
use Rattle.std.proofs.lemmas.List.{get_or_past, length-set}
use Rattle.std.proofs.lemmas.List.Elements.{recursion_from_All}
use Rattle.map_base.specs.declared.ids.SegId.{SegId}
use Rattle.map_base.specs.declared.ids.LineId.{LineId}
use Rattle.order_values.specs.declared.rule.Rule.{Rule}
use Rattle.order_values.specs.declared.rule.Rule.TheVariants.{Merge, Divide}
use Rattle.order_model.specs.declared.term.Term.{Term}
use Rattle.order_model.specs.declared.term.Term.TheVariants.{Side, Link, Apart}
use Rattle.order_model.specs.declared.problem.ProblemParts.{ProblemParts}
use Rattle.order_model.specs.Problems.{lines_on, IsTerm, IsProblem}
use Rattle.order_model.specs.Parts.{is_between}
use Rattle.order_model.proofs.Lines.{both_true, either_true}
use Rattle.order_rules.specs.PairWeights.{all_pairs}
use Rattle.order_rules.specs.Merging.{same_lines, is_link_between, has_flip, have_flip, outweighs, merge_applies, moved, merged}
use Rattle.order_rules.specs.Dividing.{are_none, others, divide_applies, closure, is_across, sent, divided}
use Rattle.order_rules.specs.Untangling.{after_rule, or_else, first_some, all_segments, merge_of, first_merge, divide_of, first_divide}
use Rattle.order_rules.specs.Touching.{touches, IsLocal}
use Rattle.order_rules.proofs.MergeRule.{AreLinked, merges}
use Rattle.order_rules.proofs.DivideRule.{divides}
use Rattle.order_rules.proofs.RuleLaws.{keeps}
use Rattle.order_rules.proofs.DivideLocality.{rule_local}
use Rattle.order_untangle.specs.LeftTerms.{Listing, IsFit}
use Rattle.order_untangle.specs.Segments.{group_of, first_group}
use Rattle.order_untangle.specs.Waits.{is_merge, has_merge, has_divide, AllWait, IsLeastMerge, IsLeastDivide, StillWait, LinksWait, AreLooked}
use Rattle.order_untangle.specs.Works.{parts_of, IsWork}
use Rattle.order_untangle.proofs.WaitLemmas.{first_key}

abbrev seg_at : ℕ → SegId
seg_at i = record { 0 = i }

same_seg : (s e : SegId) → s.0 ≡ e.0 → s ≡ e
same_seg s e h = ap (λ (n : ℕ). seg_at n) h

none_if : (o : Option Rule) → (is_some o ≡ true → ⊥) → o ≡ None
none_if None h = refl
none_if (Some r) h = absurd (h refl)

not_some : (o : Option Rule) → o ≡ None → is_some o ≡ true → ⊥
not_some o h k = true≢false (sym k ∙ ap is_some h)

-- The first of all segments.

first_in : (f : SegId → Option Rule) (r : Rule) (e : SegId) → ((d : SegId) → d.0 < e.0 → f d ≡ None) → f e ≡ Some r
    → (n k : ℕ) → k ≤ e.0 → e.0 < k + n → first_some f (map seg_at (range_with_len k n)) ≡ Some r
first_in f r e before here zero k low high = absurd (omega (arith, low, high))
first_in f r e before here (suc n) k low high = by_test (k == e.0) refl (first_in f r e before here n (k + 1))
  where
    by_test : (c : Bool) → (k == e.0) ≡ c → (k + 1 ≤ e.0 → e.0 < (k + 1) + n → first_some f (map seg_at (range_with_len (k + 1) n)) ≡ Some r)
        → or_else (f (seg_at k)) (first_some f (map seg_at (range_with_len (k + 1) n))) ≡ Some r
    by_test true h rest =
        let same : f (seg_at k) ≡ Some r = ap f (same_seg (seg_at k) e (eqb-true k e.0 h)) ∙ here in
        ap (λ (o : Option Rule). or_else o (first_some f (map seg_at (range_with_len (k + 1) n)))) same
    by_test false h rest =
        let differ : k ≢ e.0 = eqb-false k e.0 h in
        let below : k < e.0 = omega (arith, low, differ) in
        ap (λ (o : Option Rule). or_else o (first_some f (map seg_at (range_with_len (k + 1) n)))) (before (seg_at k) below)
        ∙ rest (omega (arith, below)) (omega (arith, high))

none_in : {A : Type 0} (f : A → Option Rule) → ((d : A) → f d ≡ None) → (xs : List A) → first_some f xs ≡ None
none_in f h [] = refl
none_in f h (x ∷ xs) = ap (λ (o : Option Rule). or_else o (first_some f xs)) (h x) ∙ none_in f h xs

first_alike : {A : Type 0} (f g : A → Option Rule) (xs : List A) → ((x : A) → f x ≡ g x) → first_some f xs ≡ first_some g xs
first_alike f g [] h = refl
first_alike f g (x ∷ xs) h = ap (λ (o : Option Rule). or_else o (first_some f xs)) (h x) ∙ ap (or_else (g x)) (first_alike f g xs h)

-- Merges.

applies_linked : (p : ProblemParts) (e f : SegId) → is_some (merge_of p e f) ≡ true → (q : Bool → Type 0) → ((flip : Bool) → merge_applies p e f flip ≡ true → q flip) → (flip : Bool) × q flip
applies_linked p e f some q each = by_tests (merge_applies p e f false) (merge_applies p e f true) refl refl some
  where
    by_tests : (c d : Bool) → merge_applies p e f false ≡ c → merge_applies p e f true ≡ d
        → is_some (if c then Some (Merge e f false) else if d then Some (Merge e f true) else None) ≡ true → (flip : Bool) × q flip
    by_tests true d h k s = (false, each false h)
    by_tests false true h k s = (true, each true k)
    by_tests false false h k s = absurd (true≢false (sym s))

linked : (p : ProblemParts) (e f : SegId) → IsProblem p → is_some (merge_of p e f) ≡ true → AreLinked p.segs e f
linked p e f is some = (applies_linked p e f some (λ flip. AreLinked p.segs e f) (λ flip h. (merges p e f flip is h).known)).1

some_link : (p : ProblemParts) (e f : SegId) → is_some (merge_of p e f) ≡ true → list_any (is_link_between e f) p.terms ≡ true
some_link p e f some = (applies_linked p e f some (λ flip. list_any (is_link_between e f) p.terms ≡ true) by_flip).1
  where
    by_flip : (flip : Bool) → merge_applies p e f flip ≡ true → list_any (is_link_between e f) p.terms ≡ true
    by_flip flip h =
        let front = both_true (not (e.0 == f.0) && same_lines (lines_on p.segs e) (lines_on p.segs f) && have_flip e f flip p.terms) (all_pairs (outweighs e f p.terms) (lines_on p.segs f)) h in
        let flips = both_true (not (e.0 == f.0) && same_lines (lines_on p.segs e) (lines_on p.segs f)) (have_flip e f flip p.terms) front.0 in
        (both_true (list_any (is_link_between e f) p.terms) (list_all (λ t. not (is_link_between e f t) || has_flip flip t) p.terms) flips.1).0

module _ (p : ProblemParts) (ms : List (ℕ × ℕ)) (ds : List ℕ) (is : IsProblem p) (wait : AllWait p ms ds) where
  pub merge_found : (e f : SegId) (r : Rule) → IsLeastMerge ms e.0 f.0 → merge_of p e f ≡ Some r → first_merge p ≡ Some r
  merge_found e f r least here =
      first_in (λ d. first_some (merge_of p d) (all_segments p)) r e
      (λ d below. none_in (merge_of p d) (λ g. none_if (merge_of p d g) (λ some. earlier d g below (least d.0 g.0 (wait.merges_wait d g some)))) (all_segments p))
      (first_in (merge_of p e) r f
      (λ g below. none_if (merge_of p e g) (λ some. sooner g below (least e.0 g.0 (wait.merges_wait e g some)))) here (length p.segs) 0 (omega arith) (omega (arith, link.f_known)))
      (length p.segs) 0 (omega arith) (omega (arith, link.e_known))
    where
      link : AreLinked p.segs e f
      link = linked p e f is (ap is_some here)

      earlier : (d g : SegId) → d.0 < e.0 → (e.0 < d.0) ⊎ ((e.0 ≡ d.0) × (f.0 ≤ g.0)) → ⊥
      earlier d g below (inl h) = omega (arith, below, h)
      earlier d g below (inr h) = omega (arith, below, h.0)

      sooner : (g : SegId) → g.0 < f.0 → (e.0 < e.0) ⊎ ((e.0 ≡ e.0) × (f.0 ≤ g.0)) → ⊥
      sooner g below (inl h) = omega (arith, h)
      sooner g below (inr h) = omega (arith, below, h.1)

  pub merge_none : ms ≡ [] → first_merge p ≡ None
  merge_none empty =
      none_in (λ d. first_some (merge_of p d) (all_segments p))
      (λ d. none_in (merge_of p d) (λ g. none_if (merge_of p d g) (λ some. nothing d g (wait.merges_wait d g some))) (all_segments p)) (all_segments p)
    where
      nothing : (d g : SegId) → has_merge ms d.0 g.0 ≡ true → ⊥
      nothing d g h = true≢false (sym h ∙ ap (λ (xs : List (ℕ × ℕ)). has_merge xs d.0 g.0) empty)

  pub merge_dropped : (e f : SegId) (rest : List (ℕ × ℕ)) → ms ≡ (e.0, f.0) ∷ rest → merge_of p e f ≡ None → AllWait p rest ds
  merge_dropped e f rest front none = record {
    merges_wait = λ d g some. by_first d g some (either_true (is_merge d.0 g.0 (e.0, f.0)) (has_merge rest d.0 g.0) (sym (ap (λ (xs : List (ℕ × ℕ)). has_merge xs d.0 g.0) front) ∙ wait.merges_wait d g some));
    divides_wait = wait.divides_wait;
  }
    where
      by_first : (d g : SegId) → is_some (merge_of p d g) ≡ true → (is_merge d.0 g.0 (e.0, f.0) ≡ true) ⊎ (has_merge rest d.0 g.0 ≡ true) → has_merge rest d.0 g.0 ≡ true
      by_first d g some (inl h) =
          let parts = both_true (e.0 == d.0) (f.0 == g.0) h in
          let at_d : e ≡ d = same_seg e d (eqb-true e.0 d.0 parts.0) in
          let at_g : f ≡ g = same_seg f g (eqb-true f.0 g.0 parts.1) in
          absurd (not_some (merge_of p d g) (sym (ap (λ (s : SegId). merge_of p s f) at_d ∙ ap (merge_of p d) at_g) ∙ none) some)
      by_first d g some (inr h) = h

  -- Divisions.

  pub divide_found : (e : SegId) (r : Rule) → IsLeastDivide ds e.0 → first_some (divide_of p e) (lines_on p.segs e) ≡ Some r → first_divide p ≡ Some r
  divide_found e r least here =
      first_in (λ d. first_some (divide_of p d) (lines_on p.segs d)) r e
      (λ d below. none_if (first_some (divide_of p d) (lines_on p.segs d)) (λ some. earlier d below (least d.0 (wait.divides_wait d some))))
      here (length p.segs) 0 (omega arith) (omega (arith, by_place (nat_lt e.0 (length p.segs)) refl))
    where
      earlier : (d : SegId) → d.0 < e.0 → e.0 ≤ d.0 → ⊥
      earlier d below h = omega (arith, below, h)

      by_place : (c : Bool) → nat_lt e.0 (length p.segs) ≡ c → e.0 < length p.segs
      by_place true h = ltb-true e.0 (length p.segs) h
      by_place false h =
          let nothing : lines_on p.segs e ≡ [] = get_or_past p.segs e.0 [] (ltb-false e.0 (length p.segs) h) in
          absurd (true≢false (sym (ap is_some (sym (ap (first_some (divide_of p e)) nothing) ∙ here))))

  pub divide_none : ds ≡ [] → first_divide p ≡ None
  divide_none empty =
      none_in (λ d. first_some (divide_of p d) (lines_on p.segs d)) (λ d. none_if (first_some (divide_of p d) (lines_on p.segs d)) (λ some. nothing d (wait.divides_wait d some))) (all_segments p)
    where
      nothing : (d : SegId) → has_divide ds d.0 ≡ true → ⊥
      nothing d h = true≢false (sym h ∙ ap (λ (xs : List ℕ). has_divide xs d.0) empty)

  pub divide_dropped : (e : SegId) (rest : List ℕ) → ds ≡ e.0 ∷ rest → first_some (divide_of p e) (lines_on p.segs e) ≡ None → AllWait p ms rest
  divide_dropped e rest front none = record {
    merges_wait = wait.merges_wait;
    divides_wait = λ d some. by_first d some (either_true (e.0 == d.0) (has_divide rest d.0) (sym (ap (λ (xs : List ℕ). has_divide xs d.0) front) ∙ wait.divides_wait d some));
  }
    where
      by_first : (d : SegId) → is_some (first_some (divide_of p d) (lines_on p.segs d)) ≡ true → ((e.0 == d.0) ≡ true) ⊎ (has_divide rest d.0 ≡ true) → has_divide rest d.0 ≡ true
      by_first d some (inl h) =
          let at_d : e ≡ d = same_seg e d (eqb-true e.0 d.0 h) in
          absurd (not_some (first_some (divide_of p d) (lines_on p.segs d)) (sym (ap (λ (s : SegId). first_some (divide_of p s) (lines_on p.segs s)) at_d) ∙ none) some)
      by_first d some (inr h) = h

-- the division by the first group
pub group_rule : (p : ProblemParts) (e : SegId) (lines : List LineId) → first_some (divide_of p e) lines ≡ option_map (λ (g : List LineId). Divide e g) (first_group (group_of p e) lines)
group_rule p e [] = refl
group_rule p e (a ∷ lines) = by_test (are_none (others (lines_on p.segs e) (closure p e a))) (group_rule p e lines)
  where
    by_test : (c : Bool) → first_some (divide_of p e) lines ≡ option_map (λ (g : List LineId). Divide e g) (first_group (group_of p e) lines)
        → or_else (if c then None else Some (Divide e (closure p e a))) (first_some (divide_of p e) lines)
        ≡ option_map (λ (g : List LineId). Divide e g) (elim (if c then None else Some (closure p e a)) as (λ _. Option (List LineId)) [ None ↦ first_group (group_of p e) lines | Some group ↦ Some group ])
    by_test true rest = rest
    by_test false rest = refl

-- After a rule.

links_still : (terms : List Term) (s : SegId) (old new : List (ℕ × ℕ)) → StillWait old new → LinksWait terms s old → LinksWait terms s new
links_still terms s old new still links e f ends h = still e.0 f.0 (links e f ends h)

or_first : (a b c : Bool) → a ≡ (b || c) → b ≡ true → a ≡ true
or_first a b c h k = h ∙ ap (λ (x : Bool). x || c) k

or_second : (a b c : Bool) → a ≡ (b || c) → c ≡ true → a ≡ true
or_second a true c h k = h
or_second a false c h k = h ∙ k

turned_eq : (m n : ℕ) → (m == n) ≡ true → (n == m) ≡ true
turned_eq m n h = eq-eqb n m (sym (eqb-true m n h))

-- looks at two segments after a rule that touches them
pub record Looked (terms : List Term) (s t : SegId) (ms new_ms : List (ℕ × ℕ)) (ds new_ds : List ℕ) : Type 0 where
  pub middle_ms : List (ℕ × ℕ)
  pub middle_ds : List ℕ
  pub still : StillWait ms middle_ms
  pub links : LinksWait terms s middle_ms
  pub segments : (e : ℕ) → has_divide middle_ds e ≡ (s.0 == e || has_divide ds e)
  pub next_still : StillWait middle_ms new_ms
  pub next_links : LinksWait terms t new_ms
  pub next_segments : (e : ℕ) → has_divide new_ds e ≡ (t.0 == e || has_divide middle_ds e)

pub waits_after : (p q : ProblemParts) (r : Rule) (s t : SegId) (ms new_ms : List (ℕ × ℕ)) (ds new_ds : List ℕ) → IsLocal p r → q ≡ after_rule p r
    → ((e : ℕ) → touches p r e ≡ (e == s.0 || e == t.0)) → AllWait p ms ds → Looked q.terms s t ms new_ms ds new_ds → AllWait q new_ms new_ds
waits_after p q r s t ms new_ms ds new_ds local is_q touched wait looked = record {
  merges_wait = λ e f some. by_merge e f some (touches p r e.0) (touches p r f.0) refl refl;
  divides_wait = λ e some. by_divide e some (touches p r e.0) refl;
}
  where
    links_at : (e : SegId) → touches p r e.0 ≡ true → LinksWait q.terms e new_ms
    links_at e h = elim (either_true (e.0 == s.0) (e.0 == t.0) (sym (touched e.0) ∙ h)) [
      | inl k ↦ subst (λ (x : SegId). LinksWait q.terms x new_ms) (sym (same_seg e s (eqb-true e.0 s.0 k))) (links_still q.terms s looked.middle_ms new_ms looked.next_still looked.links)
      | inr k ↦ subst (λ (x : SegId). LinksWait q.terms x new_ms) (sym (same_seg e t (eqb-true e.0 t.0 k))) looked.next_links
    ]

    divide_at : (e : SegId) → touches p r e.0 ≡ true → has_divide new_ds e.0 ≡ true
    divide_at e h = elim (either_true (e.0 == s.0) (e.0 == t.0) (sym (touched e.0) ∙ h)) [
      | inl k ↦ or_second (has_divide new_ds e.0) (t.0 == e.0) (has_divide looked.middle_ds e.0) (looked.next_segments e.0)
          (or_first (has_divide looked.middle_ds e.0) (s.0 == e.0) (has_divide ds e.0) (looked.segments e.0) (turned_eq e.0 s.0 k))
      | inr k ↦ or_first (has_divide new_ds e.0) (t.0 == e.0) (has_divide looked.middle_ds e.0) (looked.next_segments e.0) (turned_eq e.0 t.0 k)
    ]

    divide_still : (e : ℕ) → has_divide ds e ≡ true → has_divide new_ds e ≡ true
    divide_still e h =
        or_second (has_divide new_ds e) (t.0 == e) (has_divide looked.middle_ds e) (looked.next_segments e)
        (or_second (has_divide looked.middle_ds e) (s.0 == e) (has_divide ds e) (looked.segments e) h)

    by_merge : (e f : SegId) → is_some (merge_of q e f) ≡ true → (c d : Bool) → touches p r e.0 ≡ c → touches p r f.0 ≡ d → has_merge new_ms e.0 f.0 ≡ true
    by_merge e f some true d h k = links_at e h e f (inl refl) (some_link q e f some)
    by_merge e f some false true h k = links_at f k e f (inr refl) (some_link q e f some)
    by_merge e f some false false h k =
        looked.next_still e.0 f.0 (looked.still e.0 f.0
        (wait.merges_wait e f (sym (ap is_some (ap (λ (x : ProblemParts). merge_of x e f) is_q ∙ local.merges e f h k)) ∙ some)))

    by_divide : (e : SegId) → is_some (first_some (divide_of q e) (lines_on q.segs e)) ≡ true → (c : Bool) → touches p r e.0 ≡ c → has_divide new_ds e.0 ≡ true
    by_divide e some true h = divide_at e h
    by_divide e some false h =
        let same : first_some (divide_of q e) (lines_on q.segs e) ≡ first_some (divide_of p e) (lines_on p.segs e) =
        ap (λ (x : ProblemParts). first_some (divide_of x e) (lines_on x.segs e)) is_q
        ∙ (first_alike (divide_of (after_rule p r) e) (divide_of p e) (lines_on (after_rule p r).segs e) (λ a. local.divides e a h)
        ∙ ap (first_some (divide_of p e)) (local.lines e h)) in
        divide_still e.0 (wait.divides_wait e (sym (ap is_some same) ∙ some))

-- a work after a merge
pub merge_work : (segs new_segs : List (List LineId)) (listing new_listing : Listing) (ms new_ms : List (ℕ × ℕ)) (ds new_ds : List ℕ) (into from : SegId) (flip : Bool)
    → IsWork segs listing ms ds → merge_applies (parts_of segs listing) into from flip ≡ true → new_segs ≡ set segs from.0 []
    → new_listing ≡ record { count = listing.count; terms = map (moved into from flip) (filter (λ t. not (is_between t into.0 from.0)) listing.terms) }
    → Looked new_listing.terms into from ms new_ms ds new_ds → IsWork new_segs new_listing new_ms new_ds × (parts_of new_segs new_listing ≡ merged (parts_of segs listing) into from flip)
merge_work segs new_segs listing new_listing ms new_ms ds new_ds into from flip work applies is_segs is_listing looked =
    let p : ProblemParts = parts_of segs listing in
    let parts : parts_of new_segs new_listing ≡ merged (parts_of segs listing) into from flip =
    ap (λ (l : Listing). parts_of new_segs l) is_listing
    ∙ ap (λ (ss : List (List LineId)). let q : ProblemParts = record { segs = ss; terms = map (moved into from flip) (filter (λ t. not (is_between t into.0 from.0)) listing.terms) } in q) is_segs in (
      record {
        count = ap (λ (l : Listing). l.count) is_listing ∙ (work.count ∙ sym (ap length is_segs ∙ length-set segs from.0 []));
        problem = subst IsProblem (sym parts) (keeps (parts_of segs listing) (Merge into from flip) work.problem applies).problem;
        wait = waits_after (parts_of segs listing) (parts_of new_segs new_listing) (Merge into from flip) into from ms new_ms ds new_ds
            (rule_local (parts_of segs listing) (Merge into from flip) work.problem applies) parts (λ e. refl) work.wait looked;
      },
      parts,
    )

-- the terms that are left after a division
abbrev pub divided_listing : Listing → SegId → List LineId → List LineId → Listing
divided_listing listing seg group rest = record {
  count = listing.count + 1;
  terms = map (sent seg (record { 0 = listing.count }) rest) (filter (λ t. not (is_across seg group rest t)) listing.terms);
}

pub divide_work : (segs new_segs : List (List LineId)) (listing new_listing : Listing) (ms new_ms : List (ℕ × ℕ)) (ds new_ds : List ℕ) (seg new : SegId) (group rest : List LineId)
    → IsWork segs listing ms ds → divide_applies (parts_of segs listing) seg group ≡ true → new.0 ≡ length segs → rest ≡ others (lines_on segs seg) group
    → new_segs ≡ set segs seg.0 group ++ rest ∷ []
    → new_listing ≡ record { count = listing.count + 1; terms = map (sent seg (record { 0 = listing.count }) rest) (filter (λ t. not (is_across seg group rest t)) listing.terms) }
    → Looked new_listing.terms seg new ms new_ms ds new_ds → IsWork new_segs new_listing new_ms new_ds × (parts_of new_segs new_listing ≡ divided (parts_of segs listing) seg group)
divide_work segs new_segs listing new_listing ms new_ms ds new_ds seg new group rest work applies is_new is_rest is_segs is_listing looked =
    let parts : parts_of new_segs new_listing ≡ divided (parts_of segs listing) seg group =
    ap (λ (l : Listing). parts_of new_segs l) is_listing
    ∙ (ap (λ (ss : List (List LineId)). let q : ProblemParts = record { segs = ss; terms = map (sent seg (record { 0 = listing.count }) rest) (filter (λ t. not (is_across seg group rest t)) listing.terms) } in q) is_segs
    ∙ (ap (λ (n : ℕ). let q : ProblemParts = record { segs = set segs seg.0 group ++ rest ∷ []; terms = map (sent seg (record { 0 = n }) rest) (filter (λ t. not (is_across seg group rest t)) listing.terms) } in q) work.count
    ∙ ap (λ (ls : List LineId). let q : ProblemParts = record { segs = set segs seg.0 group ++ ls ∷ []; terms = map (sent seg (record { 0 = length segs }) ls) (filter (λ t. not (is_across seg group ls t)) listing.terms) } in q) is_rest)) in (
      record {
        count = ap (λ (l : Listing). l.count) is_listing
            ∙ (ap (λ (n : ℕ). n + 1) work.count ∙ sym (ap length is_segs ∙ (length-append (set segs seg.0 group) (rest ∷ []) ∙ ap (λ (n : ℕ). n + 1) (length-set segs seg.0 group))));
        problem = subst IsProblem (sym parts) (keeps (parts_of segs listing) (Divide seg group) work.problem applies).problem;
        wait = waits_after (parts_of segs listing) (parts_of new_segs new_listing) (Divide seg group) seg new ms new_ms ds new_ds
            (rule_local (parts_of segs listing) (Divide seg group) work.problem applies) parts
            (λ e. ap (λ (n : ℕ). e == seg.0 || e == n) (sym is_new)) work.wait looked;
      },
      parts,
    )

-- Before any rule.

term_fit : (segs : List (List LineId)) (t : Term) → IsTerm segs t → IsFit (length segs) t
term_fit segs (Side seg first second w) fits = record { lesser_first = refl; seg_known = fits.seg_known; other_known = fits.seg_known }
term_fit segs (Link seg other flip a b w) fits = record {
  lesser_first = ap (λ (c : Bool). if c then Link other seg flip a b w else Link seg other flip a b w) (not_below other.0 seg.0 fits.seg_below);
  seg_known = omega (arith, fits.seg_below, fits.other_known);
  other_known = fits.other_known;
}
  where
    not_below : (m n : ℕ) → n < m → nat_lt m n ≡ false
    not_below m n h = by_test (nat_lt m n) refl
      where
        by_test : (c : Bool) → nat_lt m n ≡ c → c ≡ false
        by_test true k = absurd (omega (arith, h, ltb-true m n k))
        by_test false k = refl
term_fit segs (Apart seg other a b w) fits = record {
  lesser_first = ap (λ (c : Bool). if c then Apart other seg a b w else Apart seg other a b w) (not_below other.0 seg.0 fits.seg_below);
  seg_known = omega (arith, fits.seg_below, fits.other_known);
  other_known = fits.other_known;
}
  where
    not_below : (m n : ℕ) → n < m → nat_lt m n ≡ false
    not_below m n h = by_test (nat_lt m n) refl
      where
        by_test : (c : Bool) → nat_lt m n ≡ c → c ≡ false
        by_test true k = absurd (omega (arith, h, ltb-true m n k))
        by_test false k = refl

each_fit : (segs : List (List LineId)) (terms : List Term) → AllByRecursion (IsTerm segs) terms → AllByRecursion (IsFit (length segs)) terms
each_fit segs [] all = tt
each_fit segs (t ∷ terms) all = (term_fit segs t all.0, each_fit segs terms all.1)

pub terms_fit : (p : ProblemParts) → IsProblem p → AllByRecursion (IsFit (length p.segs)) p.terms
terms_fit p is = each_fit p.segs p.terms (recursion_from_All (IsTerm p.segs) p.terms is.terms)

pub none_looked : (terms : List Term) (ms : List (ℕ × ℕ)) (ds : List ℕ) → AreLooked terms 0 ms ds
none_looked terms ms ds = record { links = λ e below. absurd (omega (arith, below)); segments = λ e below. absurd (omega (arith, below)) }

pub one_more_looked : (terms : List Term) (s : SegId) (n : ℕ) (ms new_ms : List (ℕ × ℕ)) (ds new_ds : List ℕ) → s.0 ≡ n → AreLooked terms n ms ds → StillWait ms new_ms
    → LinksWait terms s new_ms → ((e : ℕ) → has_divide new_ds e ≡ (s.0 == e || has_divide ds e)) → AreLooked terms (n + 1) new_ms new_ds
one_more_looked terms s n ms new_ms ds new_ds is_s old still links added = record {
  links = λ e below. by_link e below (e.0 == s.0) refl;
  segments = λ e below. by_divide e below (s.0 == e) refl;
}
  where
    by_link : (e : SegId) → e.0 < n + 1 → (c : Bool) → (e.0 == s.0) ≡ c → LinksWait terms e new_ms
    by_link e below true h = subst (λ (x : SegId). LinksWait terms x new_ms) (sym (same_seg e s (eqb-true e.0 s.0 h))) links
    by_link e below false h =
        let differ : e.0 ≢ s.0 = eqb-false e.0 s.0 h in
        links_still terms e ms new_ms still (old.links e (omega (arith, below, differ, is_s)))

    by_divide : (e : ℕ) → e < n + 1 → (c : Bool) → (s.0 == e) ≡ c → has_divide new_ds e ≡ true
    by_divide e below true h = or_first (has_divide new_ds e) (s.0 == e) (has_divide ds e) (added e) h
    by_divide e below false h =
        let differ : s.0 ≢ e = eqb-false s.0 e h in
        or_second (has_divide new_ds e) (s.0 == e) (has_divide ds e) (added e) (old.segments e (omega (arith, below, differ, is_s)))

pub all_looked : (p : ProblemParts) (n : ℕ) (ms : List (ℕ × ℕ)) (ds : List ℕ) → IsProblem p → length p.segs ≤ n → AreLooked p.terms n ms ds → AllWait p ms ds
all_looked p n ms ds is done looked = record {
  merges_wait = λ e f some. looked.links e (omega (arith, done, (linked p e f is some).e_known)) e f (inl refl) (some_link p e f some);
  divides_wait = λ e some. looked.segments e.0 (omega (arith, done, known e some (nat_lt e.0 (length p.segs)) refl));
}
  where
    known : (e : SegId) → is_some (first_some (divide_of p e) (lines_on p.segs e)) ≡ true → (c : Bool) → nat_lt e.0 (length p.segs) ≡ c → e.0 < length p.segs
    known e some true h = ltb-true e.0 (length p.segs) h
    known e some false h =
        let nothing : lines_on p.segs e ≡ [] = get_or_past p.segs e.0 [] (ltb-false e.0 (length p.segs) h) in
        absurd (true≢false (sym some ∙ ap (λ (ls : List LineId). is_some (first_some (divide_of p e) ls)) nothing))

pub begun_fit : (p parts : ProblemParts) (n : ℕ) (terms : List Term) → parts ≡ p → IsProblem p → n ≡ length parts.segs → terms ≡ parts.terms → AllByRecursion (IsFit n) terms
begun_fit p parts n terms same is many these =
    let fits : AllByRecursion (IsFit (length parts.segs)) parts.terms = terms_fit parts (subst IsProblem (sym same) is) in
    subst (λ (ts : List Term). AllByRecursion (IsFit n) ts) (sym these) (subst (λ (m : ℕ). AllByRecursion (IsFit m) parts.terms) (sym many) fits)

pub begun_parts : (p parts : ProblemParts) (segs : List (List LineId)) (listing : Listing) (n : ℕ) (terms : List Term) → parts ≡ p → segs ≡ parts.segs → terms ≡ parts.terms
    → listing ≡ record { count = n; terms = terms } → parts_of segs listing ≡ p
begun_parts p parts segs listing n terms same is_segs is_terms is_listing =
    ap (λ (l : Listing). parts_of segs l) is_listing
    ∙ (ap (λ (ts : List Term). let q : ProblemParts = record { segs = segs; terms = ts } in q) is_terms
    ∙ (ap (λ (ss : List (List LineId)). let q : ProblemParts = record { segs = ss; terms = parts.terms } in q) is_segs ∙ same))

pub begun_work : (p : ProblemParts) (segs : List (List LineId)) (listing : Listing) (n : ℕ) (ms : List (ℕ × ℕ)) (ds : List ℕ) → parts_of segs listing ≡ p → IsProblem p
    → listing.count ≡ length segs → n ≡ length segs → AreLooked listing.terms n ms ds → IsWork segs listing ms ds
begun_work p segs listing n ms ds same is count many looked =
    let problem : IsProblem (parts_of segs listing) = subst IsProblem (sym same) is in
    record { count = count; problem = problem; wait = all_looked (parts_of segs listing) n ms ds problem (omega (arith, many)) looked }

-- The next rule, as it is found.

pub merge_next : (p : ProblemParts) (ms : List (ℕ × ℕ)) (ds : List ℕ) (e f : SegId) (flip : Option Bool) (q : Bool) → IsProblem p → AllWait p ms ds → IsLeastMerge ms e.0 f.0
    → option_map (λ (b : Bool). Merge e f b) flip ≡ merge_of p e f → flip ≡ Some q → Some (Merge e f q) ≡ first_merge p
merge_next p ms ds e f flip q is wait least found some =
    sym (merge_found p ms ds is wait e f (Merge e f q) least (sym found ∙ ap (option_map (λ (b : Bool). Merge e f b)) some))

pub merge_passed : (p : ProblemParts) (ms new_ms : List (ℕ × ℕ)) (ds new_ds : List ℕ) (e f : SegId) (flip : Option Bool) → IsProblem p → AllWait p ms ds
    → option_map (λ (b : Bool). Merge e f b) flip ≡ merge_of p e f → flip ≡ None → slice_get ms 0 ≡ Some (e.0, f.0) → new_ms ≡ drop 1 ms → new_ds ≡ ds → AllWait p new_ms new_ds
merge_passed p ms new_ms ds new_ds e f flip is wait found none first is_new same =
    let left : AllWait p (drop 1 ms) ds =
    merge_dropped p ms ds is wait e f (drop 1 ms) (first_key ms (e.0, f.0) first) (sym found ∙ ap (option_map (λ (b : Bool). Merge e f b)) none) in
    subst (λ (xs : List ℕ). AllWait p new_ms xs) (sym same) (subst (λ (xs : List (ℕ × ℕ)). AllWait p xs ds) (sym is_new) left)

pub no_merge_next : (p : ProblemParts) (ms : List (ℕ × ℕ)) (ds : List ℕ) → IsProblem p → AllWait p ms ds → ms ≡ [] → None ≡ first_merge p
no_merge_next p ms ds is wait empty = sym (merge_none p ms ds is wait empty)

pub divide_next : (p : ProblemParts) (ms : List (ℕ × ℕ)) (ds : List ℕ) (e : SegId) (group : Option (List LineId)) (g : List LineId) → IsProblem p → AllWait p ms ds → IsLeastDivide ds e.0
    → group ≡ first_group (group_of p e) (lines_on p.segs e) → group ≡ Some g → Some (Divide e g) ≡ first_divide p
divide_next p ms ds e group g is wait least found some =
    sym (divide_found p ms ds is wait e (Divide e g) least
    (group_rule p e (lines_on p.segs e) ∙ (ap (option_map (λ (xs : List LineId). Divide e xs)) (sym found) ∙ ap (option_map (λ (xs : List LineId). Divide e xs)) some)))

pub divide_passed : (p : ProblemParts) (ms new_ms : List (ℕ × ℕ)) (ds new_ds : List ℕ) (e : SegId) (group : Option (List LineId)) → IsProblem p → AllWait p ms ds
    → group ≡ first_group (group_of p e) (lines_on p.segs e) → group ≡ None → slice_get ds 0 ≡ Some e.0 → new_ds ≡ drop 1 ds → new_ms ≡ ms → AllWait p new_ms new_ds
divide_passed p ms new_ms ds new_ds e group is wait found none first is_new same =
    let left : AllWait p ms (drop 1 ds) =
    divide_dropped p ms ds is wait e (drop 1 ds) (first_key ds e.0 first)
    (group_rule p e (lines_on p.segs e) ∙ (ap (option_map (λ (xs : List LineId). Divide e xs)) (sym found) ∙ ap (option_map (λ (xs : List LineId). Divide e xs)) none)) in
    subst (λ (xs : List (ℕ × ℕ)). AllWait p xs new_ds) (sym same) (subst (λ (xs : List ℕ). AllWait p ms xs) (sym is_new) left)

pub no_divide_next : (p : ProblemParts) (ms : List (ℕ × ℕ)) (ds : List ℕ) → IsProblem p → AllWait p ms ds → ds ≡ [] → None ≡ first_divide p
no_divide_next p ms ds is wait empty = sym (divide_none p ms ds is wait empty)

-- What a merge knows.

pub record MergeKnown (segs : List (List LineId)) (listing : Listing) (e f : SegId) : Type 0 where
  pub into_known : e.0 < listing.count
  pub from_known : f.0 < listing.count
  pub from_seg : f.0 < length segs
  pub differ : e.0 ≢ f.0

pub merge_known : (segs : List (List LineId)) (listing : Listing) (ms : List (ℕ × ℕ)) (ds : List ℕ) (e f : SegId) (flip : Bool) → IsWork segs listing ms ds
    → merge_applies (parts_of segs listing) e f flip ≡ true → MergeKnown segs listing e f
merge_known segs listing ms ds e f flip work applies =
    let ok = merges (parts_of segs listing) e f flip work.problem applies in
    record {
      into_known = omega (arith, ok.known.e_known, work.count);
      from_known = omega (arith, ok.known.f_known, work.count);
      from_seg = ok.known.f_known;
      differ = ok.differ;
    }

-- what a division knows
pub record DivideKnown (segs : List (List LineId)) (listing : Listing) (e : SegId) : Type 0 where
  pub known : e.0 < listing.count
  pub seg : e.0 < length segs
  pub few : listing.count < 2 ^ 32

pub divide_known : (segs : List (List LineId)) (listing : Listing) (ms : List (ℕ × ℕ)) (ds : List ℕ) (e : SegId) (group : List LineId) → IsWork segs listing ms ds
    → divide_applies (parts_of segs listing) e group ≡ true → DivideKnown segs listing e
divide_known segs listing ms ds e group work applies =
    let ok = divides (parts_of segs listing) e group work.problem applies in
    record {
      known = omega (arith, ok.known, work.count);
      seg = ok.known;
      few = omega (arith, work.count, work.problem.few_choices);
    }
