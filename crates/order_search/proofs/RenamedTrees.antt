-- Segments and terms with other numbers: the live tree is the same, but for the numbers.
use Rattle.std.proofs.Common.{◌≡◌, ℕ, ℤ, zero, suc, ◌<◌, nat_lt, Bool, true, false, cond, List, [], ◌∷◌, length, map, refl, sym, ◌∙◌, ap, Option, Some, None}
use Rattle.std.specs.List.{All, AllByRecursion}
use Rattle.map_base.specs.declared.ids.SegId.{SegId}
use Rattle.map_base.specs.declared.ids.LineId.{LineId}
use Rattle.order_model.specs.declared.term.Term.{Term}
use Rattle.order_model.specs.Prefixes.{none_placed}
use Rattle.order_model.specs.Completions.{placed_more}
use Rattle.order_proof.specs.Plain.{PlainTree, split, close, Cases, no_case, case_of, cases_of}
use Rattle.order_bound.proofs.Sound.{all_in}
use Rattle.order_search.specs.Left.{is_open, first_open, room_of}
use Rattle.order_search.specs.Children.{in_order, lines_in}
use Rattle.order_search.specs.LiveTrees.{BoundedPart, Best, best_at, better, number_order, next_lines, GrownTree, GrownCases, with_case, grow_cases, split_with, closed_with, live_node, live_within, live_tree}
use Rattle.order_search.specs.Bounded.{bounded_part}
use Rattle.order_search.specs.ByItself.{prices_by, tree_by, cases_by}
use Rattle.order_search.proofs.Rooms.{found_in}
use Rattle.order_search.proofs.Renaming.{Renaming, seg_by, numbered_by, AreSame, cost_same}
use Rattle.order_search.proofs.RenamedPrefixes.{opened_by, IsPlacedSame, none_same, opens, rooms, more_same, best_same, bounds, children_same, prices_alike}

-- Trees with other numbers.

abbrev pub moved : (SegId → SegId) → (ℕ → ℕ) → GrownTree → GrownTree
moved seg number g = record { tree = tree_by seg number g.tree; best = g.best }

abbrev moved_cases : (SegId → SegId) → (ℕ → ℕ) → GrownCases → GrownCases
moved_cases seg number g = record { cases = map (λ (c : LineId × PlainTree). (c.0, tree_by seg number c.1)) g.cases; best = g.best }

cases_moved : (seg : SegId → SegId) (number : ℕ → ℕ) (cs : List (LineId × PlainTree))
    → cases_by seg number (cases_of cs) ≡ cases_of (map (λ (c : LineId × PlainTree). (c.0, tree_by seg number c.1)) cs)
cases_moved seg number [] = refl
cases_moved seg number (c ∷ cs) = ap (case_of c.0 (tree_by seg number c.1)) (cases_moved seg number cs)

-- numbers of their own change no prices
pub prices_stay : (prices : List (ℕ × ℤ)) → prices_by (λ n. n) prices ≡ prices
prices_stay [] = refl
prices_stay (q ∷ prices) = ap (λ qs. q ∷ qs) (prices_stay prices)

mutual
  -- and no tree
  pub tree_stays : (t : PlainTree) → tree_by (λ s. s) (λ n. n) t ≡ t
  tree_stays (split s cases) = ap (split s) (cases_stay cases)
  tree_stays (close prices) = ap close (prices_stay prices)

  cases_stay : (cs : Cases) → cases_by (λ s. s) (λ n. n) cs ≡ cs
  cases_stay no_case = refl
  cases_stay (case_of a t rest) =
      ap (λ x. case_of a x (cases_by (λ s. s) (λ n. n) rest)) (tree_stays t) ∙ ap (case_of a t) (cases_stay rest)

pub stays : (g : GrownTree) → moved (λ s. s) (λ n. n) g ≡ g
stays g = let made : PlainTree → GrownTree = λ t. record { tree = t; best = g.best } in ap made (tree_stays g.tree)

-- A problem's part here, and the same there, where its segments and its terms have other numbers. Trees are compared by
-- numbers that agree: those that `seg` and `number` give here, and `other_seg` and `other_number` there.
module _ (r : Renaming) (segs others : List (List LineId)) (part : List SegId) (terms : List (ℕ × Term)) (same_segs : AreSame r segs others)
    (known : All (λ (s : SegId). s.0 < length segs) part) (within : (i : ℕ) → i < length segs → r.seg i < length others)
    (seg other_seg : SegId → SegId) (number other_number : ℕ → ℕ)
    (segs_told : All (λ (s : SegId). other_seg (seg_by r s) ≡ seg s) part)
    (numbers_told : AllByRecursion (λ (t : ℕ × Term). other_number (r.number t.0) ≡ number t.0) terms) where
  abbrev here : BoundedPart
  here = bounded_part segs part terms

  abbrev there : BoundedPart
  there = bounded_part others (map (seg_by r) part) (map (numbered_by r) terms)

  -- the same prefix, here and there
  abbrev IsSame : List (List LineId) → List (List LineId) → Type 0
  IsSame = IsPlacedSame r segs others same_segs

  better_same : (placed other_placed : List (List LineId)) (best : Best) → AreSame r placed other_placed
      → better there other_placed best ≡ better here placed best
  better_same placed other_placed best same =
      ap (λ n. cond (nat_lt n best.cost) (best_at there other_placed) best) (cost_same r placed other_placed same terms)
      ∙ ap (λ b. cond (nat_lt (here.cost placed) best.cost) b best) (best_same r segs others same_segs part terms placed other_placed same)

  next_same : (placed other_placed : List (List LineId)) (s : SegId) → s.0 < length segs → IsSame placed other_placed
      → next_lines there other_placed (seg_by r s) ≡ next_lines here placed s
  next_same placed other_placed s s_known p =
      ap (λ cs. lines_in (in_order cs)) (children_same r segs others same_segs part terms within placed other_placed s s_known p)

  closed_same : (placed other_placed : List (List LineId)) (best other_best : Best) → AreSame r placed other_placed → other_best ≡ best
      → moved other_seg other_number (closed_with there other_placed other_best) ≡ moved seg number (closed_with here placed best)
  closed_same placed other_placed best other_best same e =
      let made : List (ℕ × ℤ) → Best → GrownTree = λ qs b. record { tree = close qs; best = b } in
      ap (λ qs. made qs other_best) (prices_alike r segs others same_segs part terms number other_number numbers_told placed other_placed same)
      ∙ ap (made (prices_by number (here.prices placed))) e

  -- trees that grow alike
  abbrev Alike : (List (List LineId) → Best → GrownTree) → (List (List LineId) → Best → GrownTree) → Type 0
  Alike next other_next = (placed other_placed : List (List LineId)) (best : Best) → IsSame placed other_placed
      → moved other_seg other_number (other_next other_placed best) ≡ moved seg number (next placed best)

  cases_same : (next other_next : List (List LineId) → Best → GrownTree) → Alike next other_next → (placed other_placed : List (List LineId)) (s : SegId) → s.0 < length segs
      → IsSame placed other_placed → (lines : List LineId) (best : Best)
      → moved_cases other_seg other_number (grow_cases other_next there other_placed (seg_by r s) lines best)
      ≡ moved_cases seg number (grow_cases next here placed s lines best)
  cases_same next other_next alike placed other_placed s s_known p [] best = refl
  cases_same next other_next alike placed other_placed s s_known p (a ∷ lines) best =
      let first : GrownTree = next (placed_more segs placed s a) best in
      let other_first : GrownTree = other_next (placed_more others other_placed (seg_by r s) a) best in
      let one : moved other_seg other_number other_first ≡ moved seg number first =
      alike (placed_more segs placed s a) (placed_more others other_placed (seg_by r s) a) best (more_same r segs others same_segs within placed other_placed s a s_known p) in
      let rest : Best → GrownCases = λ b. moved_cases other_seg other_number (grow_cases other_next there other_placed (seg_by r s) lines b) in
      ap (λ (g : GrownTree). with_case a g (rest g.best)) one
      ∙ ap (with_case a (moved seg number first)) (cases_same next other_next alike placed other_placed s s_known p lines first.best)

  split_same : (s t : SegId) (g h : GrownCases) → other_seg t ≡ seg s → moved_cases other_seg other_number h ≡ moved_cases seg number g
      → moved other_seg other_number (split_with t h) ≡ moved seg number (split_with s g)
  split_same s t g h e cases =
      let made : SegId → Cases → Best → GrownTree = λ u cs b. record { tree = split u cs; best = b } in
      ap (λ cs. made (other_seg t) cs h.best) (cases_moved other_seg other_number h.cases)
      ∙ ap (λ u. made u (cases_of (moved_cases other_seg other_number h).cases) h.best) e
      ∙ ap (λ (x : GrownCases). made (seg s) (cases_of x.cases) x.best) cases
      ∙ ap (λ cs. made (seg s) cs g.best) (sym (cases_moved seg number g.cases))

  node_same : (next other_next : List (List LineId) → Best → GrownTree) → Alike next other_next → (placed other_placed : List (List LineId)) (best : Best)
      → IsSame placed other_placed → (f : Option SegId) → first_open segs part placed ≡ f
      → moved other_seg other_number (live_node other_next there other_placed (opened_by r f) best) ≡ moved seg number (live_node next here placed f best)
  node_same next other_next alike placed other_placed best p None e =
      closed_same placed other_placed (better here placed best) (better there other_placed best) p.same (better_same placed other_placed best p.same)
  node_same next other_next alike placed other_placed best p (Some s) e =
      let found = found_in (is_open segs placed) part s e in
      let s_known : s.0 < length segs = all_in (λ (t : SegId). t.0 < length segs) part s known found.1 in
      let told : other_seg (seg_by r s) ≡ seg s = all_in (λ (t : SegId). other_seg (seg_by r t) ≡ seg t) part s segs_told found.1 in
      let cases : GrownCases = grow_cases next here placed s (next_lines here placed s) best in
      let other_cases : GrownCases = grow_cases other_next there other_placed (seg_by r s) (next_lines there other_placed (seg_by r s)) best in
      let same : moved_cases other_seg other_number other_cases ≡ moved_cases seg number cases =
      ap (λ l. moved_cases other_seg other_number (grow_cases other_next there other_placed (seg_by r s) l best)) (next_same placed other_placed s s_known p)
      ∙ cases_same next other_next alike placed other_placed s s_known p (next_lines here placed s) best in
      ap (λ n. moved other_seg other_number (cond (nat_lt n best.cost) (split_with (seg_by r s) other_cases) (closed_with there other_placed best)))
      (bounds r segs others same_segs part terms placed other_placed p.same)
      ∙ by_test (nat_lt (here.bound placed) best.cost) (split_with (seg_by r s) other_cases) (split_with s cases) (closed_with there other_placed best) (closed_with here placed best)
      (split_same s (seg_by r s) cases other_cases told same) (closed_same placed other_placed best best p.same refl)
    where
      by_test : (b : Bool) (g h i j : GrownTree) → moved other_seg other_number g ≡ moved seg number h → moved other_seg other_number i ≡ moved seg number j
          → moved other_seg other_number (cond b g i) ≡ moved seg number (cond b h j)
      by_test true g h i j x y = x
      by_test false g h i j x y = y

  grown_same : (n : ℕ) → Alike (live_within n here) (live_within n there)
  grown_same zero placed other_placed best p =
      closed_same placed other_placed (better here placed best) (better there other_placed best) p.same (better_same placed other_placed best p.same)
  grown_same (suc n) placed other_placed best p =
      ap (λ f. moved other_seg other_number (live_node (live_within n there) there other_placed f best)) (opens r segs others same_segs part placed other_placed p.same)
      ∙ node_same (live_within n here) (live_within n there) (grown_same n) placed other_placed best p (first_open segs part placed) refl

  -- the live tree is the same, but for the numbers
  pub live_same : moved other_seg other_number (live_tree there) ≡ moved seg number (live_tree here)
  live_same =
      let p : IsSame (none_placed segs) (none_placed others) = none_same r segs others same_segs in
      ap (λ n. moved other_seg other_number (live_within n there (none_placed others) (number_order there))) (rooms r segs others same_segs part (none_placed segs) (none_placed others) p.same)
      ∙ ap (λ b. moved other_seg other_number (live_within (room_of segs part (none_placed segs)) there (none_placed others) b)) (best_same r segs others same_segs part terms segs others same_segs)
      ∙ grown_same (room_of segs part (none_placed segs)) (none_placed segs) (none_placed others) (number_order here) p
