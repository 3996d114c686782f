-- Prefixes of a part whose segments and terms have other numbers: what is left, bounds and children are the same.
use Rattle.std.proofs.Common.{◌≡◌, ◌≢◌, ℕ, ℤ, zero, suc, ◌<◌, Bool, true, false, cond, List, [], ◌∷◌, ◌++◌, length, map, set, get_or, refl, sym, ◌∙◌, ap, arith, inl, inr, eqb-true, eq-eqb, Option, Some, None, pos, negsuc}
use Rattle.std.specs.List.{AllByRecursion, find}
use Rattle.std.proofs.lemmas.List.{get_or-set_same, get_or-set_other, length-set}
use Rattle.map_base.specs.declared.ids.SegId.{SegId}
use Rattle.map_base.specs.declared.ids.LineId.{LineId}
use Rattle.order_model.specs.declared.term.Term.{Term}
use Rattle.order_model.specs.Problems.{lines_on}
use Rattle.order_model.specs.Prefixes.{first_placed, none_placed, with_line}
use Rattle.order_model.specs.Completions.{placed_more}
use Rattle.order_bound.specs.Pairs.{pair_in}
use Rattle.order_bound.specs.CanonicalPrices.{price_among, pair_prices, listed, prices_on}
use Rattle.order_bound.proofs.Sound.{same_or_other}
use Rattle.order_bound.proofs.Sums.{sum_same, sum_map}
use Rattle.order_search.specs.declared.child.Child.{Child}
use Rattle.order_search.specs.Left.{is_open, first_open, lines_left, left_on, room_of}
use Rattle.order_search.specs.LiveTrees.{BoundedPart, Best, best_at, child_at}
use Rattle.order_search.specs.Bounded.{bounded_part}
use Rattle.order_search.specs.ByItself.{prices_by}
use Rattle.order_search.proofs.Renaming.{Renaming, map_then, seg_by, numbered_by, AreSame, cost_same, bound_same, prices_same}

map_same : {A B : Type 0} (f g : A → B) (xs : List A) → ((x : A) → f x ≡ g x) → map f xs ≡ map g xs
map_same f g [] same = refl
map_same f g (x ∷ xs) same = ap (λ y. y ∷ map f xs) (same x) ∙ ap (λ ys. g x ∷ ys) (map_same f g xs same)

at_mapped : (f : List LineId → List LineId) → f [] ≡ [] → (xs : List (List LineId)) (i : ℕ) → get_or (map f xs) i [] ≡ f (get_or xs i [])
at_mapped f none [] i = sym none
at_mapped f none (x ∷ xs) zero = refl
at_mapped f none (x ∷ xs) (suc i) = at_mapped f none xs i

length_mapped : (f : List LineId → List LineId) (xs : List (List LineId)) → length (map f xs) ≡ length xs
length_mapped f [] = refl
length_mapped f (x ∷ xs) = ap suc (length_mapped f xs)

-- a segment under the other numbers, where there is one
abbrev pub opened_by : Renaming → Option SegId → Option SegId
opened_by r None = None
opened_by r (Some s) = Some (seg_by r s)

find_mapped : (r : Renaming) (p q : SegId → Bool) (part : List SegId) → ((s : SegId) → p (seg_by r s) ≡ q s) → find p (map (seg_by r) part) ≡ opened_by r (find q part)
find_mapped r p q [] same = refl
find_mapped r p q (s ∷ part) same =
    ap (λ b. cond b (Some (seg_by r s)) (find p (map (seg_by r) part))) (same s) ∙ by_test (q s) (find_mapped r p q part same)
  where
    by_test : (b : Bool) → find p (map (seg_by r) part) ≡ opened_by r (find q part)
        → cond b (Some (seg_by r s)) (find p (map (seg_by r) part)) ≡ opened_by r (cond b (Some s) (find q part))
    by_test true e = refl
    by_test false e = e

module _ (r : Renaming) (segs others : List (List LineId)) (same_segs : AreSame r segs others) where
  -- the same prefix, here and there
  pub record IsPlacedSame (placed other_placed : List (List LineId)) : Type 0 where
    pub each : length placed ≡ length segs
    pub other_each : length other_placed ≡ length others
    pub same : AreSame r placed other_placed

  pub none_same : IsPlacedSame (none_placed segs) (none_placed others)
  none_same = record {
    each = length_mapped first_placed segs;
    other_each = length_mapped first_placed others;
    same = record {
      at = λ s. at_mapped first_placed refl others (r.seg s.0) ∙ ap first_placed (same_segs.at s) ∙ sym (at_mapped first_placed refl segs s.0);
    };
  }

  pub opens : (part : List SegId) (placed other_placed : List (List LineId)) → AreSame r placed other_placed
      → first_open others (map (seg_by r) part) other_placed ≡ opened_by r (first_open segs part placed)
  opens part placed other_placed same =
      find_mapped r (is_open others other_placed) (is_open segs placed) part (λ s. rw (same.at s, same_segs.at s) refl)

  pub rooms : (part : List SegId) (placed other_placed : List (List LineId)) → AreSame r placed other_placed
      → room_of others (map (seg_by r) part) other_placed ≡ room_of segs part placed
  rooms part placed other_placed same =
      sum_map (left_on others other_placed) (seg_by r) part
      ∙ sum_same (λ s. left_on others other_placed (seg_by r s)) (left_on segs placed) part (λ s. rw (same.at s, same_segs.at s) refl)

  pub lists_same : (part : List SegId) (placed other_placed : List (List LineId)) → AreSame r placed other_placed
      → map (λ s. lines_on other_placed s) (map (seg_by r) part) ≡ map (λ s. lines_on placed s) part
  lists_same part placed other_placed same = map_then (λ s. lines_on other_placed s) (seg_by r) (λ s. lines_on placed s) part same.at

  pub more_same : ((i : ℕ) → i < length segs → r.seg i < length others) → (placed other_placed : List (List LineId)) (s : SegId) (a : LineId) → s.0 < length segs
      → IsPlacedSame placed other_placed → IsPlacedSame (placed_more segs placed s a) (placed_more others other_placed (seg_by r s) a)
  more_same within placed other_placed s a s_known p =
      let line : List LineId = with_line (lines_on segs s) (lines_on placed s) a in
      let other_line : List LineId = with_line (lines_on others (seg_by r s)) (lines_on other_placed (seg_by r s)) a in
      let lines : other_line ≡ line =
      ap (λ l. with_line l (lines_on other_placed (seg_by r s)) a) (same_segs.at s) ∙ ap (λ l. with_line (lines_on segs s) l a) (p.same.at s) in
      record {
        each = length-set placed s.0 line ∙ p.each;
        other_each = length-set other_placed (r.seg s.0) other_line ∙ p.other_each;
        same = record {
          at = λ t. elim (same_or_other t.0 s.0) [
            | inl e ↦ ap (λ n. get_or (set other_placed (r.seg s.0) other_line) (r.seg n) []) e
                ∙ get_or-set_same other_placed (r.seg s.0) other_line [] (omega (arith, p.other_each, within s.0 s_known))
                ∙ lines
                ∙ sym (get_or-set_same placed s.0 line [] (omega (arith, p.each, s_known)))
                ∙ ap (λ n. get_or (set placed s.0 line) n []) (sym e)
            | inr n ↦ get_or-set_other other_placed (r.seg s.0) (r.seg t.0) other_line [] (apart t.0 s.0 n)
                ∙ p.same.at t
                ∙ sym (get_or-set_other placed s.0 t.0 line [] n)
          ];
        };
      }
    where
      apart : (i j : ℕ) → i ≢ j → r.seg i ≢ r.seg j
      apart i j n e = n (eqb-true i j (sym (r.segs_apart i j) ∙ eq-eqb (r.seg i) (r.seg j) e))

  module _ (part : List SegId) (terms : List (ℕ × Term)) where
    abbrev here : BoundedPart
    here = bounded_part segs part terms

    abbrev there : BoundedPart
    there = bounded_part others (map (seg_by r) part) (map (numbered_by r) terms)

    pub best_same : (placed other_placed : List (List LineId)) → AreSame r placed other_placed → best_at there other_placed ≡ best_at here placed
    best_same placed other_placed same =
        let made : ℕ → List (List LineId) → Best = λ n l. record { cost = n; lists = l } in
        ap (λ n. made n (map (λ s. lines_on other_placed s) (map (seg_by r) part))) (cost_same r placed other_placed same terms)
        ∙ ap (made (here.cost placed)) (lists_same part placed other_placed same)

    pub bounds : (placed other_placed : List (List LineId)) → AreSame r placed other_placed → there.bound other_placed ≡ here.bound placed
    bounds placed other_placed same = bound_same r segs others placed other_placed same_segs same part terms

    -- the children of a prefix, by line
    pub children_same : ((i : ℕ) → i < length segs → r.seg i < length others) → (placed other_placed : List (List LineId)) (s : SegId) → s.0 < length segs
        → IsPlacedSame placed other_placed
        → map (child_at there other_placed (seg_by r s)) (lines_left (lines_on others (seg_by r s)) (lines_on other_placed (seg_by r s)))
        ≡ map (child_at here placed s) (lines_left (lines_on segs s) (lines_on placed s))
    children_same within placed other_placed s s_known p =
        let one : (a : LineId) → child_at there other_placed (seg_by r s) a ≡ child_at here placed s a = λ a.
        let made : ℕ → Child = λ n. record { bound = n; line = a } in
        let more = more_same within placed other_placed s a s_known p in
        ap made (bounds (placed_more segs placed s a) (placed_more others other_placed (seg_by r s) a) more.same) in
        ap (λ l. map (child_at there other_placed (seg_by r s)) (lines_left l (lines_on other_placed (seg_by r s)))) (same_segs.at s)
        ∙ ap (λ l. map (child_at there other_placed (seg_by r s)) (lines_left (lines_on segs s) l)) (p.same.at s)
        ∙ map_same (child_at there other_placed (seg_by r s)) (child_at here placed s) (lines_left (lines_on segs s) (lines_on placed s)) one

    -- the prices of a prefix, behind numbers that agree: those that `number` gives here, and `other_number` there
    module _ (number other_number : ℕ → ℕ) where
      abbrev Told : List (ℕ × Term) → Type 0
      Told some = AllByRecursion (λ (t : ℕ × Term). other_number (r.number t.0) ≡ number t.0) some

      prices_told : (placed : List (List LineId)) (some : List (ℕ × Term)) → Told some
          → prices_by other_number (prices_by r.number (prices_on segs part terms placed some)) ≡ prices_by number (prices_on segs part terms placed some)
      prices_told placed [] told = refl
      prices_told placed (t ∷ some) told =
          let price : ℤ = price_among (pair_prices segs placed part terms (pair_in t.1)) t.0 in
          let rest : List (ℕ × ℤ) = prices_on segs part terms placed some in
          by_price price rest told.0 (prices_told placed some told.1)
        where
          by_price : (y : ℤ) (rest : List (ℕ × ℤ)) → other_number (r.number t.0) ≡ number t.0 → prices_by other_number (prices_by r.number rest) ≡ prices_by number rest
              → prices_by other_number (prices_by r.number (listed t.0 y ++ rest)) ≡ prices_by number (listed t.0 y ++ rest)
          by_price (pos zero) rest one later = later
          by_price (pos (suc n)) rest one later =
              let made : ℕ → List (ℕ × ℤ) → List (ℕ × ℤ) = λ k qs. (k, pos (suc n)) ∷ qs in
              ap (λ k. made k (prices_by other_number (prices_by r.number rest))) one ∙ ap (made (number t.0)) later
          by_price (negsuc n) rest one later =
              let made : ℕ → List (ℕ × ℤ) → List (ℕ × ℤ) = λ k qs. (k, negsuc n) ∷ qs in
              ap (λ k. made k (prices_by other_number (prices_by r.number rest))) one ∙ ap (made (number t.0)) later

      pub prices_alike : Told terms → (placed other_placed : List (List LineId)) → AreSame r placed other_placed
          → prices_by other_number (there.prices other_placed) ≡ prices_by number (here.prices placed)
      prices_alike told placed other_placed same =
          ap (prices_by other_number) (prices_same r segs others placed other_placed same_segs same part terms) ∙ prices_told placed terms told
