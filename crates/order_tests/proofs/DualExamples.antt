-- What the search by dual prices finds in small parts.
use Rattle.std.specs.Prelude.{◌≡◌, ℕ, pos, negsuc, true, false, [], ◌∷◌}
use Rattle.std.proofs.Common.{refl}
use Rattle.map_base.specs.declared.ids.SegId.{SegId}
use Rattle.map_base.specs.declared.ids.LineId.{LineId}
use Rattle.order_model.specs.declared.term.Term.{Term}
use Rattle.order_model.specs.declared.term.Term.TheVariants.{Side, Link, Apart}
use Rattle.order_model.specs.declared.problem.ProblemParts.{ProblemParts}
use Rattle.order_values.specs.DualTrees.{fork, stop}
use Rattle.dual_ascent.specs.DualResults.{DualResult, dual_result}

abbrev seg : ℕ → SegId
seg s = record { 0 = s }

abbrev line : ℕ → LineId
line a = record { 0 = a }

-- 1 segments, 2 terms, 1 rounds
abbrev case0_part : ProblemParts
case0_part = record {
  segs = (line 0 ∷ line 1 ∷ []) ∷ [];
  terms = (Side (seg 0) (line 1) (line 0) 3) ∷ (Side (seg 0) (line 0) (line 1) 3) ∷ [];
}

case0 : dual_result case0_part 6 ≡ record {
  complete = true;
  target = 3;
  tree = stop ([]);
  orders = (line 0 ∷ line 1 ∷ []) ∷ [];
  branches = 1;
}
case0 = refl

-- 2 segments, 4 terms, 2 rounds
abbrev case1_part : ProblemParts
case1_part = record {
  segs = (line 0 ∷ line 1 ∷ line 2 ∷ []) ∷ (line 0 ∷ line 2 ∷ []) ∷ [];
  terms = (Side (seg 1) (line 2) (line 0) 1) ∷ (Side (seg 0) (line 1) (line 0) 1) ∷ (Side (seg 0) (line 2) (line 1) 2) ∷ (Apart (seg 0) (seg 1) (line 0) (line 2) 3) ∷ [];
}

case1 : dual_result case1_part 1000 ≡ record {
  complete = true;
  target = 1;
  tree = stop ((3, pos 1000) ∷ []);
  orders = (line 0 ∷ line 2 ∷ line 1 ∷ []) ∷ (line 2 ∷ line 0 ∷ []) ∷ [];
  branches = 2;
}
case1 = refl

-- 2 segments, 5 terms, 3 rounds
abbrev case2_part : ProblemParts
case2_part = record {
  segs = (line 1 ∷ line 2 ∷ []) ∷ (line 0 ∷ line 1 ∷ line 2 ∷ []) ∷ [];
  terms = (Link (seg 0) (seg 1) true (line 1) (line 2) 2) ∷ (Link (seg 0) (seg 1) true (line 1) (line 2) 1) ∷ (Link (seg 0) (seg 1) false (line 1) (line 2) 2) ∷ (Side (seg 1) (line 0) (line 2) 2) ∷ (Side (seg 0) (line 1) (line 2) 3) ∷ [];
}

case2 : dual_result case2_part 3 ≡ record {
  complete = false;
  target = 1;
  tree = stop ((0, pos 846) ∷ (1, pos 846) ∷ (2, pos 395) ∷ []);
  orders = (line 1 ∷ line 2 ∷ []) ∷ (line 0 ∷ line 2 ∷ line 1 ∷ []) ∷ [];
  branches = 3;
}
case2 = refl

-- 3 segments, 5 terms, 3 rounds
abbrev case3_part : ProblemParts
case3_part = record {
  segs = (line 0 ∷ line 1 ∷ []) ∷ (line 0 ∷ line 1 ∷ []) ∷ (line 0 ∷ line 1 ∷ []) ∷ [];
  terms = (Link (seg 0) (seg 1) false (line 0) (line 1) 2) ∷ (Side (seg 2) (line 0) (line 1) 1) ∷ (Apart (seg 0) (seg 1) (line 0) (line 1) 2) ∷ (Side (seg 0) (line 1) (line 0) 2) ∷ (Side (seg 0) (line 0) (line 1) 1) ∷ [];
}

case3 : dual_result case3_part 3 ≡ record {
  complete = false;
  target = 1;
  tree = stop ([]);
  orders = (line 0 ∷ line 1 ∷ []) ∷ (line 0 ∷ line 1 ∷ []) ∷ (line 0 ∷ line 1 ∷ []) ∷ [];
  branches = 3;
}
case3 = refl

-- 3 segments, 3 terms, 307 rounds
abbrev case4_part : ProblemParts
case4_part = record {
  segs = (line 0 ∷ line 1 ∷ []) ∷ (line 0 ∷ line 1 ∷ []) ∷ (line 0 ∷ line 1 ∷ []) ∷ [];
  terms = (Side (seg 2) (line 0) (line 1) 1) ∷ (Link (seg 0) (seg 1) false (line 0) (line 1) 1) ∷ (Link (seg 0) (seg 1) true (line 0) (line 1) 1) ∷ [];
}

case4 : dual_result case4_part 1000 ≡ record {
  complete = true;
  target = 1;
  tree = fork (seg 0) (line 1) (line 0) (stop ((1, negsuc 999) ∷ (2, negsuc 999) ∷ [])) (stop ((1, pos 1000) ∷ (2, pos 1000) ∷ []));
  orders = (line 0 ∷ line 1 ∷ []) ∷ (line 0 ∷ line 1 ∷ []) ∷ (line 0 ∷ line 1 ∷ []) ∷ [];
  branches = 307;
}
case4 = refl
