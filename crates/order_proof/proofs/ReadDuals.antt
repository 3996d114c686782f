-- Dual trees, and a part's tree of either kind.
use Rattle.std.proofs.Common.{◌≡◌, ℕ, suc, ◌-◌, ℤ, Bool, true, false, cond, List, [], ◌∷◌, ◌++◌, Option, Some, None, option_map, Result, Ok, Err, refl, ap, sym, ◌∙◌, append_assoc, arith}
use Rattle.std.specs.Option.{option_and_then}
use Rattle.std.proofs.lemmas.List.{append-nil}
use Rattle.map_base.specs.declared.ids.SegId.{SegId}
use Rattle.map_base.specs.declared.ids.LineId.{LineId}
use Rattle.order_values.specs.DualTrees.{PlainDual, fork, stop, fork_depth}
use Rattle.order_proof.specs.declared.line_word.LineWord.{LineWord}
use Rattle.order_proof.specs.declared.dual_line.DualLine.{DualLine}
use Rattle.order_proof.specs.declared.dual_line.DualLine.TheVariants as duals
use Rattle.order_proof.specs.Trees.{most_depth}
use Rattle.order_proof.specs.Lines.{Line, is_dual_word, line_text, fork_line}
use Rattle.order_proof.specs.FrontLine.{front_line, front, begins_dual}
use Rattle.order_proof.specs.Forms.{dual_in}
use Rattle.order_proof.specs.Text.{dual_text}
use Rattle.order_proof.specs.Reading.{Due, APartTree, ATree, ADual, after, dual_due, go_on, reading}
use Rattle.order_proof.specs.Readers.{IsDualOf}
use Rattle.order_proof.specs.Begun.{first_line}
use Rattle.order_proof.proofs.Fronts.{said, front_map, front_is}
use Rattle.order_proof.proofs.LineLemmas.{begins_by_line}
use Rattle.decimal_text.proofs.Steps.{then_read}
use Rattle.order_proof.proofs.Steps.{goes_on, stops, reading_nothing, reading_line, reading_after}
use Rattle.order_proof.proofs.FormLemmas.{dual_is, dual_line, IsDualWithin, front_text}

pub dual_stops : (room : ℕ) (text : List ℕ) → front (dual_in room) text ≡ None → reading (ADual room ∷ []) text ≡ Err text
dual_stops room text none = stops (dual_due room) (dual_in room) (ADual room) [] text (front_map (dual_due room) (dual_in room) text) none

pub dual_goes_on : (room : ℕ) (text : List ℕ) (node : DualLine) (rest : List ℕ) → front (dual_in room) text ≡ Some (node, rest)
    → reading (ADual room ∷ []) text ≡ reading (dual_due room node) rest
dual_goes_on room text node rest there =
    goes_on (dual_due room) (dual_in room) (ADual room) [] text node rest (front_map (dual_due room) (dual_in room) text) there
    ∙ ap (λ (due : List Due). reading due rest) (append-nil (dual_due room node))

pub dual_within : (room : ℕ) (text : List ℕ) (node : DualLine) (rest : List ℕ) → front (dual_in room) text ≡ Some (node, rest) → IsDualWithin room node
dual_within room text node rest there = let said = front_is (dual_in room) text node rest there in (dual_is room said.line node said.says).1

dual_front : (room : ℕ) (text : List ℕ) (node : DualLine) (rest : List ℕ) → front (dual_in room) text ≡ Some (node, rest) → text ≡ line_text (dual_line node) ++ rest
dual_front room text node rest there = front_text (dual_in room) text node rest (dual_line node) (λ l e. (dual_is room l node e).0) there

pub stop_tree : (room : ℕ) (text : List ℕ) (prices : List (ℕ × ℤ)) (rest : List ℕ) → front (dual_in room) text ≡ Some (duals.Stop prices, rest)
    → IsDualOf room (stop prices) text rest
stop_tree room text prices rest there = record {
  range = dual_within room text (duals.Stop prices) rest there;
  depth = omega arith;
  front = dual_front room text (duals.Stop prices) rest there;
}

pub stop_read : (room : ℕ) (text : List ℕ) (prices : List (ℕ × ℤ)) (rest : List ℕ) → front (dual_in room) text ≡ Some (duals.Stop prices, rest)
    → reading (ADual room ∷ []) text ≡ Ok rest
stop_read room text prices rest there = dual_goes_on room text (duals.Stop prices) rest there ∙ reading_nothing rest

-- a fork: its first tree is due, and then its second
pub fork_then : (room : ℕ) (text : List ℕ) (e : SegId) (a b : LineId) (rest : List ℕ) → front (dual_in room) text ≡ Some (duals.Fork e a b, rest)
    → reading (ADual room ∷ []) text ≡ then_read (reading (ADual (room - 1) ∷ []) rest) (reading (ADual (room - 1) ∷ []))
fork_then room text e a b rest there = dual_goes_on room text (duals.Fork e a b) rest there ∙ reading_after (ADual (room - 1) ∷ []) (ADual (room - 1) ∷ []) rest

-- once its first tree is read
pub fork_goes_on : (room : ℕ) (text : List ℕ) (e : SegId) (a b : LineId) (rest left : List ℕ) → front (dual_in room) text ≡ Some (duals.Fork e a b, rest)
    → reading (ADual (room - 1) ∷ []) rest ≡ Ok left → reading (ADual room ∷ []) text ≡ reading (ADual (room - 1) ∷ []) left
fork_goes_on room text e a b rest left there read =
    fork_then room text e a b rest there ∙ ap (λ (r : Result (List ℕ) (List ℕ)). then_read r (reading (ADual (room - 1) ∷ []))) read

pub fork_tree : (room : ℕ) (text : List ℕ) (e : SegId) (a b : LineId) (behind : List ℕ) (first second : PlainDual) (middle rest : List ℕ)
    → front (dual_in room) text ≡ Some (duals.Fork e a b, behind) → IsDualOf (room - 1) first behind middle → IsDualOf (room - 1) second middle rest
    → IsDualOf room (fork e a b first second) text rest
fork_tree room text e a b behind first second middle rest there one two =
    let within = dual_within room text (duals.Fork e a b) behind there in
    let line = line_text (fork_line e a b) in
    record {
      range = (within.1, within.2, within.3, one.range, two.range);
      depth = omega (arith, within.0, one.depth, two.depth);
      front = dual_front room text (duals.Fork e a b) behind there
          ∙ ap (λ (bytes : List ℕ). line ++ bytes)
          (one.front ∙ ap (λ (bytes : List ℕ). dual_text first ++ bytes) two.front ∙ sym (append_assoc (dual_text first) (dual_text second) rest))
          ∙ sym (append_assoc line (dual_text first ++ dual_text second) rest);
    }

-- a tree that its first line makes whole
pub whole_dual : (room : ℕ) (tree : PlainDual) (text rest : List ℕ) → fork_depth tree ≡ 0 → front (dual_in room) text ≡ Some (first_line tree, rest)
    → (reading (ADual room ∷ []) text ≡ Ok rest) × IsDualOf room tree text rest
whole_dual room (stop prices) text rest none there = (stop_read room text prices rest there, stop_tree room text prices rest there)
whole_dual room (fork e a b first second) text rest none there = absurd (omega (arith, none))

-- ---- which kind of tree stands at the front

-- what the first line of a part's tree says by its kind
same_front : (kind : Bool) (d : Due) (text : List ℕ) → begins_dual text ≡ kind
    → ((w : LineWord) (zs : List ℤ) → is_dual_word w ≡ kind → after APartTree w zs ≡ after d w zs) → front (after APartTree) text ≡ front (after d) text
unfolding front
same_front kind d text begins same = by (front_line text) refl
  where
    by : (o : Option (Line × List ℕ)) → front_line text ≡ o → option_and_then (said (after APartTree)) o ≡ option_and_then (said (after d)) o
    by None there = refl
    by (Some x) there =
        ap (λ (due : Option (List Due)). option_map (λ (ds : List Due). (ds, x.1)) due)
        (same x.0.word x.0.numbers (sym (begins_by_line text x.0 x.1 there) ∙ begins))

same_reading : (d : Due) (text : List ℕ) → front (after APartTree) text ≡ front (after d) text → reading (APartTree ∷ []) text ≡ reading (d ∷ []) text
same_reading d text same =
    reading_line APartTree [] text
    ∙ ap (λ (o : Option (List Due × List ℕ)). go_on o text (λ more rest. reading (more ++ []) rest)) same
    ∙ sym (reading_line d [] text)

-- a dual tree is due where a text begins so
pub dual_due_here : (text : List ℕ) → begins_dual text ≡ true → reading (APartTree ∷ []) text ≡ reading (ADual most_depth ∷ []) text
dual_due_here text begins = same_reading (ADual most_depth) text (same_front true (ADual most_depth) text begins by)
  where
    by : (w : LineWord) (zs : List ℤ) → is_dual_word w ≡ true → after APartTree w zs ≡ after (ADual most_depth) w zs
    by w zs is = ap (λ (b : Bool). cond b (after (ADual most_depth) w zs) (after (ATree most_depth) w zs)) is

-- and else one of cases
pub tree_due_here : (text : List ℕ) → begins_dual text ≡ false → reading (APartTree ∷ []) text ≡ reading (ATree most_depth ∷ []) text
tree_due_here text begins = same_reading (ATree most_depth) text (same_front false (ATree most_depth) text begins by)
  where
    by : (w : LineWord) (zs : List ℤ) → is_dual_word w ≡ false → after APartTree w zs ≡ after (ATree most_depth) w zs
    by w zs is = ap (λ (b : Bool). cond b (after (ADual most_depth) w zs) (after (ATree most_depth) w zs)) is
