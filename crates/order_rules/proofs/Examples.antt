-- Small problems, with the rules that untangle them worked out by hand.
use Rattle.std.specs.Prelude.{◌≡◌, ℕ, List, [], ◌∷◌, refl, true, false, Some}
use Rattle.map_base.specs.declared.ids.SegId.{SegId}
use Rattle.map_base.specs.declared.ids.LineId.{LineId}
use Rattle.order_values.specs.declared.rule.Rule.TheVariants.{Merge, Divide}
use Rattle.order_model.specs.declared.term.Term.{Term}
use Rattle.order_model.specs.declared.term.Term.TheVariants.{Side, Link, Apart}
use Rattle.order_model.specs.declared.problem.ProblemParts.{ProblemParts}
use Rattle.order_model.specs.Costs.{cost_of}
use Rattle.order_rules.specs.Merging.{merge_applies, merged}
use Rattle.order_rules.specs.Dividing.{divide_applies, closure, most_apart}
use Rattle.order_rules.specs.Untangling.{untangling, first_refused}
use Rattle.order_rules.specs.Lifting.{lifted, lifted_all}

abbrev seg : ℕ → SegId
seg i = record { 0 = i }

abbrev line : ℕ → LineId
line i = record { 0 = i }

abbrev problem : List (List LineId) → List Term → ProblemParts
problem segs terms = record { segs = segs; terms = terms }

abbrev one : List LineId
one = line 0 ∷ line 1 ∷ []

-- Two lines share two segments and part at both ends so that they needn't cross.

abbrev agreeing : ProblemParts
agreeing = problem ((line 0 ∷ []) ∷ one ∷ (line 1 ∷ []) ∷ one ∷ (line 0 ∷ []) ∷ (line 1 ∷ []) ∷ [])
    (Side (seg 1) (line 0) (line 1) 3
    ∷ Link (seg 1) (seg 3) false (line 0) (line 1) 12 ∷ Apart (seg 1) (seg 3) (line 0) (line 1) 9
    ∷ Side (seg 3) (line 0) (line 1) 3 ∷ [])

agreeing_untangled : untangling agreeing ≡ (
  Merge (seg 1) (seg 3) false ∷ Divide (seg 1) (line 0 ∷ []) ∷ [],
  problem ((line 0 ∷ []) ∷ (line 0 ∷ []) ∷ (line 1 ∷ []) ∷ [] ∷ (line 0 ∷ []) ∷ (line 1 ∷ []) ∷ (line 1 ∷ []) ∷ []) [],
)
agreeing_untangled = refl

agreeing_lifted : lifted_all (Merge (seg 1) (seg 3) false ∷ Divide (seg 1) (line 0 ∷ []) ∷ [])
    ((line 0 ∷ []) ∷ (line 0 ∷ []) ∷ (line 1 ∷ []) ∷ [] ∷ (line 0 ∷ []) ∷ (line 1 ∷ []) ∷ (line 1 ∷ []) ∷ [])
    ≡ (line 0 ∷ []) ∷ one ∷ (line 1 ∷ []) ∷ one ∷ (line 0 ∷ []) ∷ (line 1 ∷ []) ∷ []
agreeing_lifted = refl

-- a rule that does not apply in its turn
agreeing_refused : first_refused 0 agreeing (Merge (seg 1) (seg 3) false ∷ Merge (seg 1) (seg 3) false ∷ []) ≡ Some 1
agreeing_refused = refl

agreeing_turned : merge_applies agreeing (seg 1) (seg 3) true ≡ false
agreeing_turned = refl

itself : merge_applies agreeing (seg 1) (seg 1) false ≡ false
itself = refl

unknown : merge_applies agreeing (seg 1) (seg 9) false ≡ false
unknown = refl

-- The same, but the lines must cross, and a Side weighs more than the Link.

abbrev crossing : ProblemParts
crossing = problem ((line 0 ∷ []) ∷ one ∷ (line 1 ∷ []) ∷ one ∷ (line 1 ∷ []) ∷ (line 0 ∷ []) ∷ [])
    (Side (seg 1) (line 0) (line 1) 5 ∷ Link (seg 1) (seg 3) false (line 0) (line 1) 1 ∷ Side (seg 3) (line 1) (line 0) 5 ∷ [])

crossing_untangled : untangling crossing ≡ ([], crossing)
crossing_untangled = refl

-- Three lines, of which the middle one leaves: its Sides weigh less than twice the Apart.

abbrev separated : ProblemParts
separated = problem ((line 0 ∷ line 1 ∷ line 2 ∷ []) ∷ (line 0 ∷ line 2 ∷ []) ∷ (line 1 ∷ []) ∷ [])
    (Side (seg 0) (line 0) (line 1) 3 ∷ Link (seg 0) (seg 1) false (line 0) (line 2) 12 ∷ Apart (seg 0) (seg 1) (line 0) (line 2) 9
    ∷ Side (seg 0) (line 2) (line 1) 3 ∷ [])

separated_untangled : untangling separated ≡ ([], separated)
separated_untangled = refl

separated_most : most_apart separated.segs separated.terms (seg 0) ≡ 9
separated_most = refl

-- without the Apart the two lines that go on stand before the third
abbrev together : ProblemParts
together = problem ((line 0 ∷ line 1 ∷ line 2 ∷ []) ∷ (line 0 ∷ line 2 ∷ []) ∷ (line 1 ∷ []) ∷ [])
    (Side (seg 0) (line 0) (line 1) 3 ∷ Link (seg 0) (seg 1) false (line 0) (line 2) 12 ∷ Side (seg 0) (line 2) (line 1) 3 ∷ [])

together_closure : closure together (seg 0) (line 0) ≡ line 0 ∷ line 2 ∷ []
together_closure = refl

together_untangled : untangling together ≡ (
  Divide (seg 0) (line 0 ∷ line 2 ∷ []) ∷ Merge (seg 0) (seg 1) false ∷ Divide (seg 0) (line 0 ∷ []) ∷ [],
  problem ((line 0 ∷ []) ∷ [] ∷ (line 1 ∷ []) ∷ (line 1 ∷ []) ∷ (line 2 ∷ []) ∷ []) [],
)
together_untangled = refl

together_lifted : lifted_all (Divide (seg 0) (line 0 ∷ line 2 ∷ []) ∷ Merge (seg 0) (seg 1) false ∷ Divide (seg 0) (line 0 ∷ []) ∷ [])
    ((line 0 ∷ []) ∷ [] ∷ (line 1 ∷ []) ∷ (line 1 ∷ []) ∷ (line 2 ∷ []) ∷ [])
    ≡ (line 0 ∷ line 2 ∷ line 1 ∷ []) ∷ (line 0 ∷ line 2 ∷ []) ∷ (line 1 ∷ []) ∷ []
together_lifted = refl

-- Both orders cost the same, and none can stand before the other.

abbrev tied : ProblemParts
tied = problem (one ∷ []) (Side (seg 0) (line 0) (line 1) 3 ∷ Side (seg 0) (line 1) (line 0) 3 ∷ [])

tied_untangled : untangling tied ≡ ([], tied)
tied_untangled = refl

-- The greater line stands first. Without a term any line can.

abbrev greater_first : ProblemParts
greater_first = problem (one ∷ (line 0 ∷ []) ∷ (line 1 ∷ []) ∷ []) (Side (seg 0) (line 1) (line 0) 1 ∷ [])

greater_untangled : untangling greater_first ≡ (
  Divide (seg 0) (line 1 ∷ []) ∷ [],
  problem ((line 1 ∷ []) ∷ (line 0 ∷ []) ∷ (line 1 ∷ []) ∷ (line 0 ∷ []) ∷ []) [],
)
greater_untangled = refl

free_untangled : untangling (problem (one ∷ []) []) ≡ (Divide (seg 0) (line 0 ∷ []) ∷ [], problem ((line 0 ∷ []) ∷ (line 1 ∷ []) ∷ []) [])
free_untangled = refl

-- Three connections at one node: what lies between two segments weighs less than the rest.

abbrev star : ProblemParts
star = problem (one ∷ one ∷ one ∷ [])
    (Side (seg 0) (line 0) (line 1) 3 ∷ Side (seg 0) (line 1) (line 0) 3
    ∷ Side (seg 1) (line 0) (line 1) 3 ∷ Side (seg 1) (line 1) (line 0) 3
    ∷ Side (seg 2) (line 0) (line 1) 3 ∷ Side (seg 2) (line 1) (line 0) 3
    ∷ Link (seg 0) (seg 1) true (line 0) (line 1) 12 ∷ Link (seg 0) (seg 2) true (line 0) (line 1) 12 ∷ Link (seg 1) (seg 2) true (line 0) (line 1) 12
    ∷ Apart (seg 0) (seg 1) (line 0) (line 1) 9 ∷ Apart (seg 0) (seg 2) (line 0) (line 1) 9 ∷ Apart (seg 1) (seg 2) (line 0) (line 1) 9 ∷ [])

star_untangled : untangling star ≡ ([], star)
star_untangled = refl

-- A division needs twice the greatest weight of Aparts.

abbrev twice : ProblemParts
twice = problem ((line 0 ∷ line 1 ∷ line 2 ∷ line 3 ∷ []) ∷ (line 0 ∷ line 1 ∷ line 4 ∷ []) ∷ (line 2 ∷ line 3 ∷ line 4 ∷ []) ∷ [])
    (Side (seg 0) (line 0) (line 2) 5 ∷ Side (seg 0) (line 0) (line 3) 5 ∷ Side (seg 0) (line 1) (line 2) 5 ∷ Side (seg 0) (line 1) (line 3) 5
    ∷ Side (seg 1) (line 0) (line 4) 100 ∷ Side (seg 1) (line 4) (line 1) 100
    ∷ Side (seg 2) (line 2) (line 4) 100 ∷ Side (seg 2) (line 4) (line 3) 100
    ∷ Link (seg 0) (seg 1) false (line 0) (line 1) 100 ∷ Apart (seg 0) (seg 1) (line 0) (line 1) 4
    ∷ Link (seg 0) (seg 2) false (line 2) (line 3) 100 ∷ Apart (seg 0) (seg 2) (line 2) (line 3) 4 ∷ [])

twice_untangled : untangling twice ≡ ([], twice)
twice_untangled = refl

twice_refused : divide_applies twice (seg 0) (line 0 ∷ line 1 ∷ []) ≡ false
twice_refused = refl

twice_best : cost_of twice.terms ((line 0 ∷ line 2 ∷ line 1 ∷ line 3 ∷ []) ∷ (line 0 ∷ line 4 ∷ line 1 ∷ []) ∷ (line 2 ∷ line 4 ∷ line 3 ∷ []) ∷ []) ≡ 5
twice_best = refl

twice_divided : cost_of twice.terms ((line 0 ∷ line 1 ∷ line 2 ∷ line 3 ∷ []) ∷ (line 0 ∷ line 4 ∷ line 1 ∷ []) ∷ (line 2 ∷ line 4 ∷ line 3 ∷ []) ∷ []) ≡ 8
twice_divided = refl

-- A merge with a flip: Sides of the second segment turn round, and so do its Links to a third. Aparts don't.

abbrev flipped : ProblemParts
flipped = problem (one ∷ one ∷ one ∷ [])
    (Link (seg 0) (seg 1) true (line 0) (line 1) 12 ∷ Side (seg 0) (line 0) (line 1) 30 ∷ Side (seg 1) (line 0) (line 1) 3
    ∷ Link (seg 1) (seg 2) false (line 0) (line 1) 4 ∷ Apart (seg 0) (seg 1) (line 0) (line 1) 9 ∷ Apart (seg 1) (seg 2) (line 0) (line 1) 3
    ∷ Side (seg 2) (line 0) (line 1) 5 ∷ [])

flipped_merged : merged flipped (seg 0) (seg 1) true ≡ problem (one ∷ [] ∷ one ∷ [])
    (Side (seg 0) (line 0) (line 1) 30 ∷ Side (seg 0) (line 1) (line 0) 3 ∷ Link (seg 0) (seg 2) true (line 0) (line 1) 4
    ∷ Apart (seg 0) (seg 2) (line 0) (line 1) 3 ∷ Side (seg 2) (line 0) (line 1) 5 ∷ [])
flipped_merged = refl

flipped_applies : merge_applies flipped (seg 0) (seg 1) true ≡ true
flipped_applies = refl

-- the test looks at `from` alone, whose other terms are the lighter ones
flipped_other_way : merge_applies flipped (seg 1) (seg 0) true ≡ false
flipped_other_way = refl

flipped_lifted : lifted (Merge (seg 0) (seg 1) true) (one ∷ [] ∷ (line 1 ∷ line 0 ∷ []) ∷ []) ≡ one ∷ (line 1 ∷ line 0 ∷ []) ∷ (line 1 ∷ line 0 ∷ []) ∷ []
flipped_lifted = refl

-- a merge into the greater segment turns terms so that the lesser segment stands first
turned_merged : merged (problem (one ∷ one ∷ one ∷ [])
    (Link (seg 0) (seg 2) false (line 0) (line 1) 12 ∷ Link (seg 0) (seg 1) false (line 0) (line 1) 4 ∷ [])) (seg 2) (seg 0) false
    ≡ problem ([] ∷ one ∷ one ∷ []) (Link (seg 1) (seg 2) false (line 0) (line 1) 4 ∷ [])
turned_merged = refl

-- Hostile groups: unknown lines, none, all, not rising, an unknown segment.

no_group : divide_applies agreeing (seg 1) [] ≡ false
no_group = refl

whole_group : divide_applies (problem (one ∷ []) []) (seg 0) one ≡ false
whole_group = refl

strange_group : divide_applies (problem (one ∷ []) []) (seg 0) (line 7 ∷ []) ≡ false
strange_group = refl

twice_in_group : divide_applies (problem (one ∷ []) []) (seg 0) (line 0 ∷ line 0 ∷ []) ≡ false
twice_in_group = refl

strange_segment : divide_applies (problem (one ∷ []) []) (seg 5) (line 0 ∷ []) ≡ false
strange_segment = refl
