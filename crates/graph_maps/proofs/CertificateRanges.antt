-- The certificate of a solved drawing is in range, so that it is read again from its text.
use Rattle.std.proofs.Common.{◌≡◌, ◌∙◌, ap, sym, subst, refl, ℕ, zero, suc, ◌+◌, ◌*◌, ◌<◌, ◌≤◌, ◌==◌, nat_lt, not, Bool, true, false, true≢false, cond, List, [], ◌∷◌, length, map, get_or, arith, ltb-true, ◌⊎◌, inl, inr, All, None, ◌^◌}
use Rattle.std.specs.List.{AllByRecursion, Contains, IsDistinct, filter, list_any, range_with_len}
use Rattle.std.specs.List.Sorted.{IsPermutation}
use Rattle.std.proofs.lemmas.Bool.{and_from, cases_lt}
use Rattle.std.proofs.lemmas.Bool.Decides.{nat_tests}
use Rattle.std.proofs.lemmas.List.{get_or_past, length-map}
use Rattle.std.proofs.lemmas.List.Sums.{count_by-le-length, length-filter, sum_by-le}
use Rattle.std.proofs.lemmas.List.Sorted.{length_permutation, All-permutation}
use Rattle.std.proofs.lemmas.List.Elements.{All-contains, All-filter, All-from_recursion, All-weaker, filter_passes, recursion_from_All}
use Rattle.std.proofs.lemmas.List.Folds.{Any-from_list_any}
use Rattle.map_base.specs.declared.ids.SegId.{SegId}
use Rattle.map_base.specs.declared.ids.LineId.{LineId}
use Rattle.map_base.specs.Settings.{Choices, IsImportance}
use Rattle.graph_core.specs.declared.parts.GraphParts.{GraphParts}
use Rattle.graph_core.specs.Consistent.{AreRising, IsConsistent}
use Rattle.octi_grid.specs.Walks.{IsWalk}
use Rattle.octi_grid.specs.Legal.{first_illegal}
use Rattle.order_model.specs.declared.term.Term.{Term}
use Rattle.order_model.specs.declared.term.Term.TheVariants.{Side}
use Rattle.kept_trees.specs.declared.plan.SearchPlan.{SearchPlan}
use Rattle.order_model.specs.declared.problem.ProblemParts.{ProblemParts}
use Rattle.order_model.specs.Problems.{lines_on, IsProblem, IsTerm}
use Rattle.order_model.specs.Costs.{cost_of, is_met, term_cost, weight_of, AreOrders}
use Rattle.order_model.specs.Places.{has_line}
use Rattle.order_model.specs.Parts.{AreParts, IsRisingPart}
use Rattle.order_model.specs.PartTerms.{is_of, numbered_from, part_terms, plain_terms}
use Rattle.order_model.proofs.KeptTerms.{plain_kept}
use Rattle.order_model.proofs.Lines.{order_distinct}
use Rattle.order_model.proofs.PrefixLemmas.{contains_placed}
use Rattle.order_model.proofs.OneParts.{problem_parts_are}
use Rattle.order_model.proofs.PartLists.{part_known, parts_few}
use Rattle.order_model.proofs.RisingLines.{few_rising}
use Rattle.order_model.proofs.Shares.{contains_in}
use Rattle.order_proof.specs.Trees.{IsPartTree}
use Rattle.order_proof.specs.Forms.{most_id}
use Rattle.order_proof.specs.Ranges.{AreRisingSegments, IsPartInRange}
use Rattle.order_model.specs.Questions.{question}
use Rattle.order_rules.proofs.DivideProblem.{rising_kept}
use Rattle.order_check.proofs.RuleTurns.{few_rules}
use Rattle.order_search.specs.Finding.{with_lists}
use Rattle.cert_file.specs.Forms.{are_distinct, is_among}
use Rattle.cert_file.specs.Ranges.{ArePairs, IsInRange, IsOrder}
use Rattle.cert_file.specs.Readers.{IsTextOf}
use Rattle.graph_maps.specs.Subjects.{Subject, AreListed}
use Rattle.graph_maps.specs.Problems.{Drawn, untangling_rules, untangled_problem}
use Rattle.graph_maps.specs.Solving.{parts_in, SolvedPart}
use Rattle.graph_maps.specs.Lifted.{lifted_by}
use Rattle.graph_maps.specs.Certificates.{certificate_of, drawn_lines, is_drawn, is_weighty, line_numbered, proof_part, weighed_line}
use Rattle.graph_maps.specs.Making.{map_of}
use Rattle.graph_maps.specs.Promises.{IsMadeOn}
use Rattle.graph_maps.specs.Checking.{check_on, proved_by}
use Rattle.graph_maps.specs.declared.best_orders.BestOrders.{BestOrders}
use Rattle.graph_maps.specs.Stages.{map_by, IsDrawing, IsShown, AreBestBy, HaveProofTrees}
use Rattle.graph_maps.specs.Wholes.{IsWhole}
use Rattle.graph_maps.proofs.Importance.{number_at}
use Rattle.graph_maps.proofs.MadeLemmas.{map_is}
use Rattle.graph_maps.proofs.PartOrders.{segs_of, segs_are}
use Rattle.graph_maps.proofs.Promised.{accepts_map, ordered, segs_same, shows_certified}
use Rattle.graph_maps.proofs.ReadAgain.{text_read}
use Rattle.graph_maps.proofs.TreeRanges.{starts_at_0, part_depth, part_tree_range, IsAsked, IsTermInRange, StartsAt}
use Rattle.graph_maps.proofs.RuleRanges.{lines_kept, rules_range, IsLineInRange}
use Rattle.graph_maps.proofs.UntangledLemmas.{last_is, rules_apply, untangled_fits}

-- what a limited graph, its walks, its lines and its trees are
pub record IsLimited (importance : List ℕ) (drawn : Drawn) (parts : List SolvedPart) : Type 0 where
  pub fits : IsConsistent drawn.graph
  pub walks : AllByRecursion IsWalk drawn.walks
  pub listed : AreListed importance drawn.graph
  pub few_lines : length importance < 2 ^ 32
  pub numbers : All IsImportance importance
  pub trees : HaveProofTrees parts

-- The lines that are drawn: they rise, and are no more than the lines on all segments.

numbers_rise : (start n : ℕ) → AreRising (map line_numbered (range_with_len start n))
numbers_rise start zero = tt
numbers_rise start (suc zero) = tt
numbers_rise start (suc (suc n)) = (omega arith, numbers_rise (start + 1) (suc n))

drawn_known : (known : List LineId) (segs : List (List LineId)) → All (All (Contains known)) segs → (a : LineId)
    → list_any (λ (ls : List LineId). has_line ls a) segs ≡ true → Contains known a
drawn_known known segs all a h =
    let found = Any-from_list_any (λ (ls : List LineId). has_line ls a) segs h in
    let there : All (Contains known) found.1 =
    All-contains (All (Contains known)) segs found.1 all (found.0, found.2, found.3) in
    All-contains (Contains known) found.1 a there (contains_placed found.1 a found.4)

few_drawn : (graph : GraphParts) → IsConsistent graph → (count : ℕ) → length (drawn_lines count graph) ≤ 1000
few_drawn graph fit count =
    let known : List LineId = fit.few_lines.0 in
    let all : List LineId = map line_numbered (range_with_len 0 count) in
    let there : All (Contains known) (drawn_lines count graph) =
    All-weaker (λ (a : LineId). is_drawn graph a ≡ true) (Contains known)
    (drawn_known known graph.lines fit.few_lines.2) (drawn_lines count graph) (filter_passes (is_drawn graph) all) in
    let rising = rising_kept (is_drawn graph) all (numbers_rise 0 count) in
    omega (arith, few_rising (drawn_lines count graph) known rising there, fit.few_lines.1)

-- The importance of lines.

pairs_range : (imp : List ℕ) → ((k : ℕ) → get_or imp k 1 ≤ 16) → (test : LineId → Bool) (start n least : ℕ) → start + n ≤ 2 ^ 32 → least ≤ start
    → ArePairs least (filter is_weighty (map (weighed_line imp) (filter test (map line_numbered (range_with_len start n)))))
pairs_range imp small test start zero least below from = tt
pairs_range imp small test start (suc n) least below from =
    by_test (test (line_numbered start)) (λ low up. pairs_range imp small test (start + 1) n low (omega (arith, below)) up)
  where
    by_weight : (b : Bool) → nat_lt 1 (get_or imp start 1) ≡ b → ((low : ℕ) → low ≤ start + 1 → ArePairs low (filter is_weighty (map (weighed_line imp) (filter test (map line_numbered (range_with_len (start + 1) n))))))
        → ArePairs least (cond b (weighed_line imp (line_numbered start) ∷ filter is_weighty (map (weighed_line imp) (filter test (map line_numbered (range_with_len (start + 1) n))))) (filter is_weighty (map (weighed_line imp) (filter test (map line_numbered (range_with_len (start + 1) n))))))
    by_weight true e rest =
        let weighty : 1 < get_or imp start 1 = ltb-true 1 (get_or imp start 1) e in
        (from, omega (arith, below), omega (arith, weighty), small start, rest (suc start) (omega arith))
    by_weight false e rest = rest least (omega (arith, from))

    by_test : (b : Bool) → ((low : ℕ) → low ≤ start + 1 → ArePairs low (filter is_weighty (map (weighed_line imp) (filter test (map line_numbered (range_with_len (start + 1) n))))))
        → ArePairs least (filter is_weighty (map (weighed_line imp) (cond b (line_numbered start ∷ (filter test (map line_numbered (range_with_len (start + 1) n)))) (filter test (map line_numbered (range_with_len (start + 1) n))))))
    by_test true rest = by_weight (nat_lt 1 (get_or imp start 1)) refl rest
    by_test false rest = rest least (omega (arith, from))

-- The orders of segments.

abbrev same : LineId → LineId → Bool
same a b = a.0 == b.0

turned : (a b : ℕ) → (a == b) ≡ false → (b == a) ≡ false
turned a b h = grind (arith, nat_tests)

none_among : (a : LineId) (xs : List LineId) → AllByRecursion (λ (x : LineId). same a x ≡ false) xs → is_among xs a ≡ false
none_among a [] h = refl
none_among a (x ∷ xs) h = rw (turned a.0 x.0 h.0) (none_among a xs h.1)

distinct_is : (xs : List LineId) → IsDistinct same xs → are_distinct xs ≡ true
unfolding IsDistinct
distinct_is [] h = refl
distinct_is (x ∷ xs) h = and_from (not (is_among xs x)) (are_distinct xs) (ap not (none_among x xs h.0)) (distinct_is xs h.1)

-- what is known of the lines of a segment of the graph
record AreLines (lines : List LineId) : Type 0 where
  some : 0 < length lines
  rising : AreRising lines
  range : All IsLineInRange lines

order_range : (lines order : List LineId) → AreLines lines → IsPermutation lines order → IsOrder order
order_range lines order are moved = record {
  some = omega (arith, are.some, length_permutation lines order moved);
  range = recursion_from_All (λ (a : LineId). a.0 ≤ most_id) order (All-permutation (λ (a : LineId). a.0 ≤ most_id) lines order moved are.range);
  distinct = distinct_is order (order_distinct lines order are.rising moved);
}

orders_range : (segs orders : List (List LineId)) → AllByRecursion AreLines segs → AreOrders segs orders → (length orders ≡ length segs) × AllByRecursion IsOrder orders
orders_range [] [] all are = (refl, tt)
orders_range (lines ∷ segs) (o ∷ orders) all are =
    let rest = orders_range segs orders all.1 are.1 in
    (ap suc rest.0, (order_range lines o all.0 are.0, rest.1))
orders_range segs orders all are = absurd are

graph_lines : (importance : List ℕ) (graph : GraphParts) → IsConsistent graph → AreListed importance graph → length importance < 2 ^ 32 → (k : ℕ) (d : List LineId) → k < length graph.lines
    → AreLines (get_or graph.lines k d)
graph_lines importance graph fit listed few k d h = record {
  some = (fit.lines k d h).0;
  rising = (fit.lines k d h).1;
  range = λ i e below. omega (arith, few, listed k d h i e below);
}

-- The costs.

light : (segs : List (List LineId)) (t : Term) → IsTerm segs t → weight_of t ≤ 256000
light segs (Side seg first second w) is = is.weight.1
light segs t is = is.weight.1

abbrev IsLight : Term → Type 0
IsLight t = weight_of t ≤ 256000

lights : (segs : List (List LineId)) (terms : List Term) → All (IsTerm segs) terms → All IsLight terms
lights segs terms all = All-weaker (IsTerm segs) IsLight (light segs) terms all

one_cost : (orders : List (List LineId)) (t : Term) → weight_of t ≤ 256000 → term_cost orders t ≤ 256000
one_cost orders t h = by_test (is_met orders t)
  where
    by_test : (b : Bool) → cond b (weight_of t) 0 ≤ 256000
    by_test true = h
    by_test false = omega arith

cost_small : (orders : List (List LineId)) (terms : List Term) → All IsLight terms
    → cost_of terms orders ≤ 256000 * length terms
cost_small orders terms all = omega (
  arith,
  sum_by-le (term_cost orders) 256000 terms
      (All-weaker IsLight (λ (t : Term). term_cost orders t ≤ 256000) (one_cost orders) terms all),
)

-- The proof.

numbered_range : (k : ℕ) (terms : List Term) → AllByRecursion IsLight terms → k + length terms ≤ 4000000 → AllByRecursion IsTermInRange (numbered_from k terms)
numbered_range k [] all few = tt
numbered_range k (t ∷ terms) all few = ((omega (arith, few), omega (arith, all.0)), numbered_range (k + 1) terms all.1 (omega (arith, few)))

-- what is known of a problem's segments: the lines of each are in range, and few
record AreSegments (segs : List (List LineId)) : Type 0 where
  range : All (All IsLineInRange) segs
  few : All (λ (lines : List LineId). length lines ≤ 1000) segs

asked_range : (p : ProblemParts) → IsProblem p → AreSegments p.segs → (part : List SegId) (target : ℕ) → All (λ (s : SegId). s.0 < length p.segs) part
    → IsAsked (question p.segs part (part_terms p.terms part) target)
asked_range p fits are part target known = record {
  segs = λ s h. omega (arith, All-contains (λ (t : SegId). t.0 < length p.segs) part s known (contains_in part s h), fits.few_choices);
  few = λ s. few_on s (cases_lt s.0 (length p.segs));
  lines = λ s a h. in_range s a h (cases_lt s.0 (length p.segs));
  terms = All-filter (λ (q : ℕ × Term). is_of part q.1) IsTermInRange (numbered_from 0 p.terms)
      (All-from_recursion IsTermInRange (numbered_from 0 p.terms) (numbered_range 0 p.terms
      (recursion_from_All IsLight p.terms (lights p.segs p.terms fits.terms)) (omega (arith, fits.few_terms))));
}
  where
    few_on : (s : SegId) → (s.0 < length p.segs) ⊎ (length p.segs ≤ s.0) → length (lines_on p.segs s) ≤ 1000
    few_on s (inl h) = are.few s.0 [] h
    few_on s (inr h) = omega (arith, ap length (get_or_past p.segs s.0 [] h))

    in_range : (s : SegId) (a : LineId) → has_line (lines_on p.segs s) a ≡ true → (s.0 < length p.segs) ⊎ (length p.segs ≤ s.0) → a.0 ≤ most_id
    in_range s a there (inl h) = All-contains IsLineInRange (lines_on p.segs s) a (are.range s.0 [] h) (contains_placed (lines_on p.segs s) a there)
    in_range s a there (inr h) = absurd (true≢false (sym there ∙ ap (λ (ls : List LineId). has_line ls a) (get_or_past p.segs s.0 [] h)))

segments_rise : (most least : ℕ) (part : List SegId) → most ≤ 20000000 → IsRisingPart part → AllByRecursion (λ (s : SegId). s.0 < most) part
    → StartsAt (λ (s : SegId). s.0) least part → AreRisingSegments least part
segments_rise most least [] few rising known from = tt
segments_rise most least (s ∷ []) few rising known from = (from, omega (arith, few, known.0), tt)
segments_rise most least (s ∷ t ∷ rest) few rising known from =
    (from, omega (arith, few, known.0), segments_rise most (suc s.0) (t ∷ rest) few rising.1 known.1 (omega (arith, rising.0)))

part_range : (plan : SearchPlan) (p : ProblemParts) → IsProblem p → AreSegments p.segs → (s : SolvedPart)
    → IsRisingPart s.segs → All (λ (seg : SegId). seg.0 < length p.segs) s.segs → IsShown plan p s → IsPartTree s.tree
    → IsPartInRange (proof_part s)
part_range plan p fits are s rising known shown tree =
    let orders : List (List LineId) = with_lists s.segs s.lists p.segs in
    let costs : cost_of (filter (is_of s.segs) p.terms) orders ≡ cost_of (plain_terms (part_terms p.terms s.segs)) orders =
    sym (ap (λ (ts : List Term). cost_of ts orders) (plain_kept s.segs p.terms)) in
    let small = cost_small orders (filter (is_of s.segs) p.terms)
    (All-filter (is_of s.segs) IsLight p.terms (lights p.segs p.terms fits.terms)) in
    record {
      target = omega (
        arith,
        shown.bound orders shown.attained.orders,
        costs,
        small,
        length-filter (is_of s.segs) p.terms,
        count_by-le-length (is_of s.segs) p.terms,
        fits.few_terms,
      );
      segs = segments_rise (length p.segs) 0 s.segs (omega (arith, fits.few_choices)) rising
          (recursion_from_All (λ (seg : SegId). seg.0 < length p.segs) s.segs known) (starts_at_0 (λ (seg : SegId). seg.0) s.segs);
      tree = part_tree_range (question p.segs s.segs (part_terms p.terms s.segs) s.target)
          (asked_range p fits are s.segs s.target known) s.tree tree shown.accepted;
      depth = part_depth s.tree tree;
    }

parts_range : (plan : SearchPlan) (p : ProblemParts) → IsProblem p → AreSegments p.segs → (parts : List SolvedPart)
    → AllByRecursion IsRisingPart (map segs_of parts)
    → AllByRecursion (λ (q : List SegId). All (λ (s : SegId). s.0 < length p.segs) q) (map segs_of parts)
    → AllByRecursion (IsShown plan p) parts → HaveProofTrees parts → AllByRecursion IsPartInRange (map proof_part parts)
parts_range plan p fits are [] rising known shown trees = tt
parts_range plan p fits are (s ∷ parts) rising known shown trees = (
  part_range plan p fits are s rising.0 known.0 shown.0 trees.0,
  parts_range plan p fits are parts rising.1 known.1 shown.1 trees.1,
)

-- The whole certificate.

module _ (plan : SearchPlan) (subject : Subject) (choices : Choices) (drawn : Drawn) (done : List SolvedPart)
    (whole : IsWhole plan subject.importance choices drawn done) (limited : IsLimited subject.importance drawn done) where
  abbrev p : ProblemParts
  p = drawn.problem

  abbrev u : ProblemParts
  u = untangled_problem p

  abbrev known : List LineId
  known = limited.fits.few_lines.0

  fits : IsProblem u
  fits = untangled_fits p whole.fits

  -- what all lines of the graph are, all of the untangled problem are
  still : (Q : LineId → Type 0) → All (All Q) drawn.graph.lines → All (All Q) u.segs
  still Q all = subst (λ (q : ProblemParts). All (All Q) q.segs) (sym (last_is p whole.fits))
      (lines_kept Q p (untangling_rules p) whole.fits (rules_apply p whole.fits) (subst (All (All Q)) (sym (segs_same plan subject.importance choices drawn done whole)) all))

  graph_range : All (All IsLineInRange) drawn.graph.lines
  graph_range = λ k d h. (graph_lines subject.importance drawn.graph limited.fits limited.listed limited.few_lines k d h).range

  segments_are : AreSegments u.segs
  segments_are = record {
    range = still IsLineInRange graph_range;
    few = λ k d h. omega (arith, few_rising (get_or u.segs k d) known (fits.rising k d h) (still (Contains known) limited.fits.few_lines.2 k d h), limited.fits.few_lines.1);
  }

  pub certificate_range : IsInRange (certificate_of subject.importance drawn done)
  certificate_range =
      let fit = limited.fits in
      let ok : AreParts u.segs u.terms (parts_in u) = problem_parts_are u.segs u.terms fits.terms in
      let orders = orders_range drawn.graph.lines (lifted_by p done)
      (recursion_from_All AreLines drawn.graph.lines (graph_lines subject.importance drawn.graph fit limited.listed limited.few_lines)) (ordered plan subject choices drawn done whole) in
      let each : map segs_of done ≡ parts_in u = segs_are plan u done whole.solved in
      let counted = ap length each in
      let counted_here = length-map done segs_of in
      let counted_again = length-map done proof_part in
      record {
        nodes = fit.few_nodes;
        segs = fit.few_segments;
        lines = few_drawn drawn.graph fit (length subject.importance);
        importance = pairs_range subject.importance (number_at subject.importance limited.numbers) (is_drawn drawn.graph) 0 (length subject.importance) 0 (omega (arith, limited.few_lines)) (omega arith);
        walks_each = whole.each;
        walks = limited.walks;
        orders_each = orders.0 ∙ fit.lines_each;
        orders = orders.1;
        cost = omega (arith, cost_small (lifted_by p done) p.terms (lights p.segs p.terms whole.fits.terms), whole.fits.few_terms);
        proof = record {
          few_rules = omega (arith, few_rules p (untangling_rules p) whole.fits (rules_apply p whole.fits), whole.fits.few_choices);
          rules = rules_range p (untangling_rules p) whole.fits (rules_apply p whole.fits)
              (subst (All (All IsLineInRange)) (sym (segs_same plan subject.importance choices drawn done whole)) graph_range);
          few_parts = omega (arith, counted, counted_here, counted_again, parts_few u.segs u.terms (parts_in u) ok, fits.few_choices);
          parts = parts_range plan u fits segments_are done
              (subst (AllByRecursion IsRisingPart) (sym each) (recursion_from_All IsRisingPart (parts_in u) ok.rising))
              (subst (AllByRecursion (λ (q : List SegId). All (λ (s : SegId). s.0 < length u.segs) q)) (sym each)
              (recursion_from_All (λ (q : List SegId). All (λ (s : SegId). s.0 < length u.segs) q) (parts_in u) (λ k d below. part_known u.segs u.terms (parts_in u) ok k d below)))
              whole.shown limited.trees;
        };
      }

  -- so the map keeps its promise
  pub made_is : first_illegal drawn.graph drawn.walks ≡ None → IsMadeOn subject choices plan.claim drawn.graph (map_of subject drawn done)
  made_is none_illegal =
      let c = certificate_of subject.importance drawn done in
      let bytes = (map_of subject drawn done).certificate in
      let svg = (map_of subject drawn done).svg in
      let written : IsTextOf c bytes = record { range = certificate_range; text = refl } in
      record {
        proved = proved_by c;
        certified = record { certificate = c; written = written; shows = shows_certified plan subject choices drawn done whole };
        accepted = ap (check_on subject choices plan.claim drawn.graph svg) (text_read c bytes written) ∙ accepts_map plan subject choices drawn done whole none_illegal;
      }

-- and so does what is written of a drawing with the line orders that were found
pub made_by : (plan : SearchPlan) (subject : Subject) (choices : Choices) (drawn : Drawn) (best : BestOrders) (parts : List SolvedPart)
    → IsWhole plan subject.importance choices drawn parts → IsDrawing drawn.graph drawn.walks → AreListed subject.importance drawn.graph
    → length subject.importance < 2 ^ 32 → All IsImportance subject.importance
    → AreBestBy plan drawn.problem parts best → IsMadeOn subject choices plan.claim drawn.graph (map_by subject drawn.graph drawn.walks best)
made_by plan subject choices drawn best parts whole drawing listed few numbers found =
    let limited : IsLimited subject.importance drawn parts = record {
      fits = drawing.fits;
      walks = recursion_from_All IsWalk drawn.walks drawing.are_walks;
      listed = listed;
      few_lines = few;
      numbers = numbers;
      trees = found.trees;
    } in
    subst (IsMadeOn subject choices plan.claim drawn.graph) (sym (map_is plan subject drawn best parts found))
    (made_is plan subject choices drawn parts whole limited drawing.first)
