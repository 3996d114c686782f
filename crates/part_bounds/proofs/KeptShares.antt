-- What is kept of pairs that no placing changed, and of a pair that is worked out anew.
use Rattle.std.proofs.Common.{◌≡◌, ◌≢◌, ℕ, ◌<◌, ◌==◌, Bool, true, false, List, length, set, get_or, refl, sym, ap, subst, ◌∙◌, arith, true≢false, eqb-true, eq-eqb, get_or-set_same, get_or-set_other}
use Rattle.std.specs.Prelude.{ℤ}
use Rattle.std.specs.List.{All}
use Rattle.std.proofs.lemmas.List.{length-map, length-set}
use Rattle.map_base.specs.declared.ids.SegId.{SegId}
use Rattle.map_base.specs.declared.ids.LineId.{LineId}
use Rattle.order_model.specs.declared.term.Term.{Term}
use Rattle.order_model.specs.declared.problem.ProblemParts.{ProblemParts}
use Rattle.order_bound.specs.CanonicalPrices.{pair_prices, price_among}
use Rattle.order_bound.proofs.Parts.{rising_apart}
use Rattle.pair_bounds.specs.PriceNotes.{price_noted, price_over}
use Rattle.part_bounds.specs.declared.changes.Change.{Change}
use Rattle.part_bounds.specs.declared.kept_pairs.KeptPairs.{KeptPairs}
use Rattle.part_bounds.specs.declared.pair_terms.PairTerms.{PairTerms}
use Rattle.part_bounds.specs.Changes.{is_changed}
use Rattle.part_bounds.specs.PairGroups.{Group, group_in, groups_in, no_group, share_of, IsGroup}
use Rattle.part_bounds.specs.Kept.{cleared, AreMarked, AreLeft, IsNoted, ArePairsOf, AreKept}
use Rattle.part_bounds.proofs.KeptUp.{group_here}
use Rattle.part_bounds.proofs.NotedPairs.{left_fresh, renewed}

-- the share at a place is worked out anew
shared_anew : (due : Group → ℕ) (groups : List Group) (shares fresh : List ℕ) (stale after : List Bool) (i v : ℕ) → i < length groups → length shares ≡ length groups
    → v ≡ due (get_or groups i no_group) → fresh ≡ set shares i v → after ≡ set stale i false
    → ((k : ℕ) → k < length groups → get_or stale k true ≡ false → get_or shares k 0 ≡ due (get_or groups k no_group))
    → (k : ℕ) → k < length groups → get_or after k true ≡ false → get_or fresh k 0 ≡ due (get_or groups k no_group)
shared_anew due groups shares fresh stale after i v below each is e1 e2 old k within fresh_there = by_test (k == i) refl
  where
    by_test : (b : Bool) → (k == i) ≡ b → get_or fresh k 0 ≡ due (get_or groups k no_group)
    by_test true e =
        ap (λ l. get_or l k 0) e1 ∙ (ap (λ j. get_or (set shares i v) j 0) (eqb-true k i e)
        ∙ (get_or-set_same shares i v 0 (omega (arith, below, each)) ∙ (is ∙ ap (λ j. due (get_or groups j no_group)) (sym (eqb-true k i e)))))
    by_test false e =
        let ne : k ≢ i = λ same. true≢false (sym (eq-eqb k i same) ∙ e) in
        ap (λ l. get_or l k 0) e1 ∙ (get_or-set_other shares i k v 0 ne
        ∙ old k within (sym (get_or-set_other stale i k false true ne) ∙ (ap (λ l. get_or l k true) (sym e2) ∙ fresh_there)))

pub kept_anew : (problem : ProblemParts) (part : List SegId) (placed : List (List LineId)) (pairs : List PairTerms) (i v : ℕ) (e : PairTerms) (kept kept2 : KeptPairs) → ArePairsOf problem part pairs → i < length pairs
    → e ≡ get_or pairs i e → v ≡ share_of problem.segs part placed (group_in e) → length kept2.noted.prices.items ≡ length kept.noted.prices.items
    → ((k : ℕ) → k < length kept.noted.prices.items → price_noted kept2.noted.prices.items k
    ≡ price_over (pair_prices problem.segs placed part e.terms.items e.pair) (cleared e.terms.items (price_noted kept.noted.prices.items) k) k)
    → kept2.shares.items ≡ set kept.shares.items i v → kept2.stale.items ≡ set kept.stale.items i false
    → AreKept problem part placed pairs kept → AreKept problem part placed pairs kept2
kept_anew problem part placed pairs i v e kept kept2 table below here is enough noted e1 e2 ok =
    let within : i < length (groups_in pairs) = omega (arith, below, length-map pairs group_in) in
    let at : get_or (groups_in pairs) i no_group ≡ group_in e = group_here pairs i e below here in
    record {
      each = ap length e2 ∙ (length-set kept.stale.items i false ∙ ok.each);
      shares_each = ap length e1 ∙ (length-set kept.shares.items i v ∙ ok.shares_each);
      enough = enough ∙ ok.enough;
      noted_are = renewed problem.segs placed part problem.terms (groups_in pairs) i (group_in e) (length kept.noted.prices.items)
          (price_noted kept.noted.prices.items) (cleared e.terms.items (price_noted kept.noted.prices.items)) (price_noted kept2.noted.prices.items)
          kept.stale.items kept2.stale.items table.grouped within at ok.enough (λ k b. refl) noted (omega (arith, ok.each, length-map pairs group_in)) e2 ok.noted_are;
      shares_are = shared_anew (share_of problem.segs part placed) (groups_in pairs) kept.shares.items kept2.shares.items kept.stale.items kept2.stale.items i v within
          (omega (arith, ok.shares_each, length-map pairs group_in)) (is ∙ ap (share_of problem.segs part placed) (sym at)) e1 e2 ok.shares_are;
    }

-- what is kept of the pairs that a placing leaves
pub left_kept : (problem : ProblemParts) (part : List SegId) (one two : List (List LineId)) (c : Change) (pairs : List PairTerms) (kept kept2 : KeptPairs) → ArePairsOf problem part pairs
    → kept2.shares.items ≡ kept.shares.items → kept2.noted.prices.items ≡ kept.noted.prices.items → AreMarked c pairs (length pairs) kept.stale.items kept2.stale.items
    → ((g : Group) → IsGroup problem.segs part g → is_changed c g ≡ false → share_of problem.segs part two g ≡ share_of problem.segs part one g)
    → ((g : Group) → IsGroup problem.segs part g → is_changed c g ≡ false → pair_prices problem.segs two part g.1 g.0 ≡ pair_prices problem.segs one part g.1 g.0)
    → AreKept problem part one pairs kept → AreKept problem part two pairs kept2
left_kept problem part one two c pairs kept kept2 table e1 e2 marked shares prices ok = record {
  each = marked.each ∙ ok.each;
  shares_each = ap length e1 ∙ ok.shares_each;
  enough = ap length e2 ∙ ok.enough;
  noted_are = left_fresh (λ k g. IsNoted problem.segs one part (price_noted kept.noted.prices.items) g) (λ k g. IsNoted problem.segs two part (price_noted kept2.noted.prices.items) g)
      problem.segs part c pairs (length pairs) kept.stale.items kept2.stale.items table.own table.groups refl marked
      (λ k g fit none h. subst (λ l. IsNoted problem.segs two part (price_noted l) g) (sym e2)
      (subst (λ l. All (λ (t : ℕ × Term). price_noted kept.noted.prices.items t.0 ≡ price_among l t.0) g.1) (sym (prices g fit none)) h)) ok.noted_are;
  shares_are = left_fresh (λ k g. get_or kept.shares.items k 0 ≡ share_of problem.segs part one g) (λ k g. get_or kept2.shares.items k 0 ≡ share_of problem.segs part two g)
      problem.segs part c pairs (length pairs) kept.stale.items kept2.stale.items table.own table.groups refl marked
      (λ k g fit none h. ap (λ l. get_or l k 0) e1 ∙ (h ∙ sym (shares g fit none))) ok.shares_are;
}

-- the shares of the pairs that a placing leaves, where none is stale
pub left_shares : (problem : ProblemParts) (part : List SegId) (one two : List (List LineId)) (c : Change) (pairs slice : List PairTerms) (kept : KeptPairs) (shares : List ℕ) → ArePairsOf problem part pairs
    → slice ≡ pairs → shares ≡ kept.shares.items
    → ((g : Group) → IsGroup problem.segs part g → is_changed c g ≡ false → share_of problem.segs part two g ≡ share_of problem.segs part one g)
    → ((k : ℕ) → k < length pairs → get_or kept.stale.items k true ≡ false) → AreKept problem part one pairs kept → AreLeft c problem.segs two part shares (groups_in slice)
left_shares problem part one two c pairs slice kept shares table e1 e2 same fresh ok =
    subst (λ l. AreLeft c problem.segs two part shares (groups_in l)) (sym e1) (λ k b none.
    (let within : k < length pairs = omega (arith, b, length-map pairs group_in) in
    ap (λ l. get_or l k 0) e2 ∙ (ok.shares_are k b (fresh k within) ∙ sym (same (get_or (groups_in pairs) k no_group) (table.groups k no_group b) none))))
