-- Trees, and the cases of a split one after the other.
use Rattle.std.proofs.Common.{◌≡◌, ℕ, suc, ◌+◌, ◌-◌, ◌<◌, ℤ, List, [], ◌∷◌, ◌++◌, Option, Some, None, Result, Ok, Err, refl, ap, subst, sym, ◌∙◌, append_assoc, arith}
use Rattle.std.proofs.lemmas.List.{append-nil}
use Rattle.map_base.specs.declared.ids.SegId.{SegId}
use Rattle.map_base.specs.declared.ids.LineId.{LineId}
use Rattle.order_proof.specs.declared.node_line.NodeLine.{NodeLine}
use Rattle.order_proof.specs.declared.node_line.NodeLine.TheVariants as nodes
use Rattle.order_proof.specs.Plain.{PlainTree, split, close, Cases, no_case, case_of}
use Rattle.order_proof.specs.Trees.{count_of, lines_of, AreDistinct}
use Rattle.order_proof.specs.Lines.{line_text, split_line, take_line}
use Rattle.order_proof.specs.FrontLine.{front}
use Rattle.order_proof.specs.Forms.{node_in, take_in}
use Rattle.order_proof.specs.Text.{tree_text, cases_text}
use Rattle.order_proof.specs.Reading.{Due, ATree, ACase, cases_due, node_due, reading}
use Rattle.order_proof.specs.Readers.{IsTreeOf, AreCasesOf}
use Rattle.order_proof.specs.Begun.{cases_in, with_cases, with_case, begins_with, IsBegun, HasCasesOf}
use Rattle.order_proof.proofs.Fronts.{front_map, front_is}
use Rattle.decimal_text.proofs.Steps.{then_read}
use Rattle.order_proof.proofs.Steps.{goes_on, stops, reading_nothing, reading_after}
use Rattle.order_proof.proofs.FormLemmas.{node_is, node_line, IsNodeWithin, take_is, front_text}
use Rattle.order_proof.proofs.Children.{count_push, lines_push, text_push, range_push, depth_push, distinct_push}

-- ---- the line of a node

pub node_stops : (room : ℕ) (text : List ℕ) → front (node_in room) text ≡ None → reading (ATree room ∷ []) text ≡ Err text
node_stops room text none = stops (node_due room) (node_in room) (ATree room) [] text (front_map (node_due room) (node_in room) text) none

pub node_goes_on : (room : ℕ) (text : List ℕ) (node : NodeLine) (rest : List ℕ) → front (node_in room) text ≡ Some (node, rest) → reading (ATree room ∷ []) text ≡ reading (node_due room node) rest
node_goes_on room text node rest there =
    goes_on (node_due room) (node_in room) (ATree room) [] text node rest (front_map (node_due room) (node_in room) text) there
    ∙ ap (λ (due : List Due). reading due rest) (append-nil (node_due room node))

pub node_within : (room : ℕ) (text : List ℕ) (node : NodeLine) (rest : List ℕ) → front (node_in room) text ≡ Some (node, rest) → IsNodeWithin room node
node_within room text node rest there = let said = front_is (node_in room) text node rest there in (node_is room said.line node said.says).1

node_text : (room : ℕ) (text : List ℕ) (node : NodeLine) (rest : List ℕ) → front (node_in room) text ≡ Some (node, rest) → text ≡ line_text (node_line node) ++ rest
node_text room text node rest there = front_text (node_in room) text node rest (node_line node) (λ l e. (node_is room l node e).0) there

pub close_tree : (room : ℕ) (text : List ℕ) (prices : List (ℕ × ℤ)) (rest : List ℕ) → front (node_in room) text ≡ Some (nodes.Close prices, rest) → IsTreeOf room (close prices) text rest
close_tree room text prices rest there = record {
  range = node_within room text (nodes.Close prices) rest there;
  depth = omega arith;
  front = node_text room text (nodes.Close prices) rest there;
}

pub close_read : (room : ℕ) (text : List ℕ) (prices : List (ℕ × ℤ)) (rest : List ℕ) → front (node_in room) text ≡ Some (nodes.Close prices, rest) → reading (ATree room ∷ []) text ≡ Ok rest
close_read room text prices rest there = node_goes_on room text (nodes.Close prices) rest there ∙ reading_nothing rest

pub split_tree : (room : ℕ) (text : List ℕ) (e : SegId) (count : ℕ) (behind : List ℕ) (cases : Cases) (rest : List ℕ)
    → front (node_in room) text ≡ Some (nodes.Split e count, behind) → AreCasesOf (room - 1) count cases behind rest → IsTreeOf room (split e cases) text rest
split_tree room text e count behind cases rest there are =
    let within = node_within room text (nodes.Split e count) behind there in
    record {
      range = (within.1, omega (arith, within.2, are.counted), omega (arith, within.3, are.counted), are.distinct, are.range);
      depth = omega (arith, within.0, are.depth);
      front = node_text room text (nodes.Split e count) behind there
          ∙ ap (λ (n : ℕ). line_text (split_line e n) ++ behind) (sym are.counted)
          ∙ ap (λ (bytes : List ℕ). line_text (split_line e (count_of cases)) ++ bytes) are.front
          ∙ sym (append_assoc (line_text (split_line e (count_of cases))) (cases_text cases) rest);
    }

-- ---- cases

-- the cases so far, and what is due behind them
pub record AreCasesSoFar (room count done : ℕ) (cases : Cases) (text rest : List ℕ) : Type 0 where
  pub left : reading (cases_due (count - done) (lines_of cases) room) rest ≡ reading (cases_due count [] room) text
  pub so_far : AreCasesOf room done cases text rest

cases_begin : (room count : ℕ) (text : List ℕ) → AreCasesSoFar room count 0 no_case text text
cases_begin room count text = record {
  left = ap (λ (n : ℕ). reading (cases_due n [] room) text) (omega arith);
  so_far = record { counted = refl; distinct = tt; range = tt; depth = omega arith; front = refl };
}

due_next : (room count done : ℕ) (taken : List LineId) → done < count → cases_due (count - done) taken room ≡ ACase (count - (done + 1)) taken room ∷ []
due_next room count done taken below = let next : count - done ≡ suc (count - (done + 1)) = omega arith in ap (λ (n : ℕ). cases_due n taken room) next

take_stops : (room count done : ℕ) (cases : Cases) (text rest : List ℕ) → done < count → AreCasesSoFar room count done cases text rest
    → front (take_in (lines_of cases)) rest ≡ None → reading (cases_due count [] room) text ≡ Err rest
take_stops room count done cases text rest below before none =
    let more = count - (done + 1) in
    let taken = lines_of cases in
    sym before.left ∙ ap (λ (due : List Due). reading due rest) (due_next room count done taken below)
    ∙ stops (λ (a : LineId). ATree room ∷ cases_due more (taken ++ a ∷ []) room) (take_in taken) (ACase more taken room) [] rest (front_map (λ (a : LineId). ATree room ∷ cases_due more (taken ++ a ∷ []) room) (take_in taken) rest) none

-- a line is taken: its tree is due, and then so many more cases
pub take_step : (room more : ℕ) (taken : List LineId) (rest : List ℕ) (a : LineId) (behind : List ℕ) → front (take_in taken) rest ≡ Some (a, behind)
    → reading (cases_due (suc more) taken room) rest ≡ then_read (reading (ATree room ∷ []) behind) (reading (cases_due more (taken ++ a ∷ []) room))
take_step room more taken rest a behind there =
    let later = cases_due more (taken ++ a ∷ []) room in
    goes_on (λ (b : LineId). ATree room ∷ cases_due more (taken ++ b ∷ []) room) (take_in taken) (ACase more taken room) [] rest a behind (front_map (λ (b : LineId). ATree room ∷ cases_due more (taken ++ b ∷ []) room) (take_in taken) rest) there
    ∙ ap (λ (due : List Due). reading (ATree room ∷ due) behind) (append-nil later)
    ∙ reading_after (ATree room ∷ []) later behind

take_goes_on : (room count done : ℕ) (taken : List LineId) (rest : List ℕ) (a : LineId) (behind : List ℕ) → done < count → front (take_in taken) rest ≡ Some (a, behind)
    → reading (cases_due (count - done) taken room) rest ≡ then_read (reading (ATree room ∷ []) behind) (reading (cases_due (count - (done + 1)) (taken ++ a ∷ []) room))
take_goes_on room count done taken rest a behind below there =
    ap (λ (due : List Due). reading due rest) (due_next room count done taken below) ∙ take_step room (count - (done + 1)) taken rest a behind there

case_due : (room count done : ℕ) (cases : Cases) (text rest : List ℕ) (a : LineId) (behind : List ℕ) → done < count → AreCasesSoFar room count done cases text rest
    → front (take_in (lines_of cases)) rest ≡ Some (a, behind)
    → reading (cases_due count [] room) text ≡ then_read (reading (ATree room ∷ []) behind) (reading (cases_due (count - (done + 1)) (lines_of cases ++ a ∷ []) room))
case_due room count done cases text rest a behind below before there = sym before.left ∙ take_goes_on room count done (lines_of cases) rest a behind below there

case_taken : (room count done : ℕ) (cases : Cases) (text rest : List ℕ) (a : LineId) (tree : PlainTree) (behind left : List ℕ) → done < count
    → AreCasesSoFar room count done cases text rest → front (take_in (lines_of cases)) rest ≡ Some (a, behind) → reading (ATree room ∷ []) behind ≡ Ok left → IsTreeOf room tree behind left
    → AreCasesSoFar room count (done + 1) (with_case cases a tree) text left
case_taken room count done cases text rest a tree behind left below before there read is =
    let said = front_is (take_in (lines_of cases)) rest a behind there in
    let take = take_is (lines_of cases) said.line a said.says in
    let line = front_text (take_in (lines_of cases)) rest a behind (take_line a) (λ l e. (take_is (lines_of cases) l a e).0) there in
    let next : List LineId → List Due = λ ls. cases_due (count - (done + 1)) ls room in
    let step : reading (cases_due (count - done) (lines_of cases) room) rest ≡ reading (next (lines_of cases ++ a ∷ [])) left =
    take_goes_on room count done (lines_of cases) rest a behind below there ∙ ap (λ (r : Result (List ℕ) (List ℕ)). then_read r (reading (next (lines_of cases ++ a ∷ [])))) read in
    record {
      left = ap (λ (ls : List LineId). reading (next ls) left) (lines_push cases a tree) ∙ sym step ∙ before.left;
      so_far = record {
        counted = omega (arith, count_push cases a tree, before.so_far.counted);
        distinct = subst AreDistinct (sym (lines_push cases a tree)) (distinct_push (lines_of cases) a before.so_far.distinct take.2);
        range = range_push cases a tree before.so_far.range take.1 is.range;
        depth = depth_push room cases a tree before.so_far.depth is.depth;
        front = before.so_far.front
            ∙ ap (λ (bytes : List ℕ). cases_text cases ++ bytes) (line ∙ ap (λ (bytes : List ℕ). line_text (take_line a) ++ bytes) is.front ∙ sym (append_assoc (line_text (take_line a)) (tree_text tree) left))
            ∙ sym (append_assoc (cases_text cases) (line_text (take_line a) ++ tree_text tree) left)
            ∙ ap (λ (bytes : List ℕ). bytes ++ left) (sym (text_push cases a tree));
      };
    }

cases_end : (room count done : ℕ) (cases : Cases) (text rest : List ℕ) → count ≡ done → AreCasesSoFar room count done cases text rest
    → (reading (cases_due count [] room) text ≡ Ok rest) × AreCasesOf room count cases text rest
cases_end room count done cases text rest is before =
    let nothing : count - done ≡ 0 = omega arith in (
      sym before.left ∙ ap (λ (n : ℕ). reading (cases_due n (lines_of cases) room) rest) nothing ∙ reading_nothing rest,
      subst (λ (n : ℕ). AreCasesOf room n cases text rest) (sym is) before.so_far,
    )

-- ---- the cases of a tree of which the first line is read

-- the cases that a tree has so far in place of its own
abbrev pub HasCasesSoFar : ℕ → ℕ → ℕ → PlainTree → PlainTree → List ℕ → List ℕ → Type 0
HasCasesSoFar room count done old new text rest = (cases : Cases) × (new ≡ with_cases old cases) × AreCasesSoFar room count done cases text rest

-- a tree that is due a case has the cases that it was given
its_cases : (count done : ℕ) (old new : PlainTree) (cases : Cases) → done < count → IsBegun count old → new ≡ with_cases old cases → cases_in new ≡ cases
its_cases count done (split e none) new cases below begun is = ap cases_in is
its_cases count done (close prices) new cases below begun is = absurd (omega (arith, begun, below))

-- and another one's cases are put in their place
with_again : (old : PlainTree) (cases more : Cases) → with_cases (with_cases old cases) more ≡ with_cases old more
with_again (split e none) cases more = refl
with_again (close prices) cases more = refl

module _ (room count done : ℕ) (old tree : PlainTree) (text rest : List ℕ) (begun : IsBegun count old) (below : done < count) (has : HasCasesSoFar room count done old tree text rest) where
  -- the cases so far are those of the tree
  here : cases_in tree ≡ has.0
  here = its_cases count done old tree has.0 below begun has.1

  taken : (there : Option (LineId × List ℕ)) → front (take_in (lines_of (cases_in tree))) rest ≡ there → front (take_in (lines_of has.0)) rest ≡ there
  taken there is = ap (λ (cs : Cases). front (take_in (lines_of cs)) rest) (sym here) ∙ is

  pub tree_take_stops : front (take_in (lines_of (cases_in tree))) rest ≡ None → reading (cases_due count [] room) text ≡ Err rest
  tree_take_stops none = take_stops room count done has.0 text rest below has.2 (taken None none)

  pub tree_case_due : (a : LineId) (behind : List ℕ) → front (take_in (lines_of (cases_in tree))) rest ≡ Some (a, behind)
      → reading (cases_due count [] room) text ≡ then_read (reading (ATree room ∷ []) behind) (reading (cases_due (count - (done + 1)) (lines_of has.0 ++ a ∷ []) room))
  tree_case_due a behind there = case_due room count done has.0 text rest a behind below has.2 (taken (Some (a, behind)) there)

  pub tree_case_taken : (a : LineId) (child new : PlainTree) (behind left : List ℕ) → front (take_in (lines_of (cases_in tree))) rest ≡ Some (a, behind)
      → reading (ATree room ∷ []) behind ≡ Ok left → IsTreeOf room child behind left → new ≡ with_cases tree (with_case (cases_in tree) a child) → HasCasesSoFar room count (done + 1) old new text left
  tree_case_taken a child new behind left there read is pushed = (
    with_case has.0 a child,
    pushed ∙ ap (λ (cs : Cases). with_cases tree (with_case cs a child)) here ∙ ap (λ (t : PlainTree). with_cases t (with_case has.0 a child)) has.1 ∙ with_again old has.0 (with_case has.0 a child),
    case_taken room count done has.0 text rest a child behind left below has.2 (taken (Some (a, behind)) there) read is,
  )

pub tree_cases_begin : (room count : ℕ) (tree : PlainTree) (text : List ℕ) → IsBegun count tree → HasCasesSoFar room count 0 tree tree text text
tree_cases_begin room count (split e cases) text begun = (no_case, ap (split e) begun, cases_begin room count text)
tree_cases_begin room count (close prices) text begun = (no_case, refl, cases_begin room count text)

pub tree_cases_end : (room count done : ℕ) (old tree : PlainTree) (text rest : List ℕ) → count ≡ done → HasCasesSoFar room count done old tree text rest
    → (reading (cases_due count [] room) text ≡ Ok rest) × HasCasesOf room count old tree text rest
tree_cases_end room count done old tree text rest is has = let ends = cases_end room count done has.0 text rest is has.2 in (ends.0, (has.0, has.1, ends.1))

-- ---- a tree of which the first line is read

-- where it has cases, there is room for them
pub room_for_cases : (room count : ℕ) (tree : PlainTree) (text rest : List ℕ) → IsBegun count tree → front (node_in room) text ≡ Some (begins_with count tree, rest) → 0 < count → 0 < room
room_for_cases room count (split e cases) text rest begun there some = (node_within room text (nodes.Split e count) rest there).0
room_for_cases room count (close prices) text rest begun there some = absurd (omega (arith, begun, some))

-- what is due of it are its cases
pub tree_goes_on : (room count : ℕ) (tree : PlainTree) (text rest : List ℕ) → IsBegun count tree → front (node_in room) text ≡ Some (begins_with count tree, rest)
    → reading (ATree room ∷ []) text ≡ reading (cases_due count [] (room - 1)) rest
tree_goes_on room count (split e cases) text rest begun there = node_goes_on room text (nodes.Split e count) rest there
tree_goes_on room count (close prices) text rest begun there =
    node_goes_on room text (nodes.Close prices) rest there ∙ ap (λ (n : ℕ). reading (cases_due n [] (room - 1)) rest) (sym begun)

-- and with them it is whole
pub whole_tree : (room count : ℕ) (old new : PlainTree) (text behind rest : List ℕ) → IsBegun count old → front (node_in room) text ≡ Some (begins_with count old, behind)
    → HasCasesOf (room - 1) count old new behind rest → IsTreeOf room new text rest
whole_tree room count (split e none) new text behind rest begun there has =
    subst (λ (t : PlainTree). IsTreeOf room t text rest) (sym has.1) (split_tree room text e count behind has.0 rest there has.2)
whole_tree room count (close prices) new text behind rest begun there has =
    subst (λ (t : PlainTree). IsTreeOf room t text rest) (sym has.1)
    (subst (λ (bytes : List ℕ). IsTreeOf room (close prices) text bytes) (no_text has.0 (has.2.counted ∙ begun) has.2.front) (close_tree room text prices behind there))
  where
    no_text : (cases : Cases) → count_of cases ≡ 0 → behind ≡ cases_text cases ++ rest → behind ≡ rest
    no_text no_case none e = e
    no_text (case_of a t more) none e = absurd (omega (arith, none))
