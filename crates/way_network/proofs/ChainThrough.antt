-- The chain through an edge: there is one, and but for its direction no other.
use Rattle.std.proofs.Common.{◌≡◌, ◌↔◌, refl, sym, ◌∙◌, ap, subst, ℕ, suc, ◌+◌, ◌-◌, ◌<◌, ◌≤◌, ◌⊎◌, inl, inr, Bool, true, false, cond, eqb, ltb, ◌&&◌, List, [], ◌∷◌, ◌++◌, append_assoc, length, get_or, All, arith}
use Rattle.std.specs.List.{Contains, list_any, range_with_len}
use Rattle.std.proofs.lemmas.Bool.{cases_lt}
use Rattle.std.proofs.lemmas.Bool.Decides.{nat_tests}
use Rattle.std.proofs.lemmas.List.{reverse-append, reverse-reverse, length-reverse, length-append, get_or-reverse, get_or_append_left, get_or-append-add}
use Rattle.std.proofs.lemmas.List.Elements.{All-contains}
use Rattle.std.proofs.lemmas.List.Folds.{Any-from_list_any, list_any-from_Any}
use Rattle.map_base.specs.declared.ids.LineId.{LineId}
use Rattle.map_base.specs.declared.point.Point.{Point}
use Rattle.way_network.specs.Edges.{runs_over, is_used, line_runs_over, lines_over}
use Rattle.way_network.specs.Chains.{Network, has_node, chain_on}
use Rattle.way_network.specs.Segments.{first_of, second_of, last_of, reversed, segment_chains, line_numbered}
use Rattle.way_network.specs.Uses.{has_number}
use Rattle.way_network.specs.Premises.{IsWay}
use Rattle.way_network.specs.Pieces.{StandsIn, IsChain}
use Rattle.way_network.specs.Laws.{chain_numbered, is_line_of, Shares, HasUsedEdges, HasEdgesOnce, HasLinesOfEdges, HasLinesOfWays}
use Rattle.way_network.proofs.Parts.{list_any-mapped, list_any-agree}
use Rattle.way_network.proofs.RisingLists.{has_filtered, has_below}
use Rattle.way_network.proofs.ChainEdges.{StepsOver, steps_from_runs, steps_turned, turned_at, runs_at, runs_turned}
use Rattle.way_network.proofs.ChainPaths.{path_of_chain, eqb_either}
use Rattle.way_network.proofs.ChainSteps.{up_to, up_to_begins, up_to_inner, up_to_last}
use Rattle.way_network.proofs.ChainPieces.{IsCourse, course_over, course_ends, course_turned, runs_in_course, first_turned, last_turned, last_appended, chain_turned, chain_apart, chain_lines, follows_chain, runs_first}
use Rattle.way_network.proofs.ChainSegments.{segment_once, segments_are, segment_listed}

first_appended : (xs ys : List ℕ) → 0 < length xs → first_of (xs ++ ys) ≡ first_of xs
first_appended [] ys some = absurd (omega arith)
first_appended (a ∷ rest) ys some = refl

-- The chain on a course through an edge: from the last node before it to the first node after it.
module _ (g : Network) (before : List ℕ) (a b : ℕ) (after : List ℕ) (ways : All (IsWay g) g.ways) (c : IsCourse g (before ++ a ∷ b ∷ after)) where
  abbrev back : List ℕ
  back = up_to (has_node g) (a ∷ reversed before)

  abbrev forth : List ℕ
  forth = up_to (has_node g) (b ∷ after)

  back_ends : has_node g (last_of back) ≡ true
  back_ends =
      let turned : IsCourse g (reversed after ++ b ∷ a ∷ reversed before) = subst (IsCourse g) (turned_at before a b after) (course_turned g (before ++ a ∷ b ∷ after) c) in
      up_to_last (has_node g) a (reversed before)
      (ap (has_node g) (sym (last_appended (reversed after) b (a ∷ reversed before))) ∙ (course_ends g (reversed after ++ b ∷ a ∷ reversed before) ways turned).1)

  forth_ends : has_node g (last_of forth) ≡ true
  forth_ends = up_to_last (has_node g) b after (ap (has_node g) (sym (last_appended before a (b ∷ after))) ∙ (course_ends g (before ++ a ∷ b ∷ after) ways c).1)

  back_length : 1 ≤ length (reversed back)
  back_length = omega (arith, length-reverse back)

  through_inner : (k : ℕ) → 0 < k → suc k < length (reversed back ++ forth) → has_node g (get_or (reversed back ++ forth) k 0) ≡ false
  through_inner k some l = of_cases (cases_lt k (length (reversed back)))
    where
      of_cases : (k < length (reversed back)) ⊎ (length (reversed back) ≤ k) → has_node g (get_or (reversed back ++ forth) k 0) ≡ false
      of_cases (inl under) =
          let below : k < length back = omega (arith, under, length-reverse back) in
          ap (has_node g) (get_or_append_left (reversed back) forth 0 k under ∙ get_or-reverse back k 0 below) ∙ up_to_inner (has_node g) (a ∷ reversed before) (length back - 1 - k) (omega arith)
      of_cases (inr over) =
          let m : ℕ = k - length (reversed back) in
          let at : k ≡ length (reversed back) + m = omega arith in
          ap (has_node g) (ap (λ (n : ℕ). get_or (reversed back ++ forth) n 0) at ∙ get_or-append-add (reversed back) forth m 0)
          ∙ up_to_inner (has_node g) (b ∷ after) m (omega (arith, l, length-append (reversed back) forth, at))

  through_stands : StandsIn (reversed back ++ forth) (before ++ a ∷ b ∷ after)
  through_stands =
      let left = up_to_begins (has_node g) (a ∷ reversed before) in
      let right = up_to_begins (has_node g) (b ∷ after) in
      let front : before ++ a ∷ [] ≡ reversed left.0 ++ reversed back =
      ap (λ (ys : List ℕ). ys ++ a ∷ []) (sym (reverse-reverse before)) ∙ sym (reverse-append (a ∷ []) (reversed before)) ∙ ap reversed left.1 ∙ reverse-append back left.0 in
      record {
        before = reversed left.0;
        after = right.0;
        is = sym (append_assoc before (a ∷ []) (b ∷ after))
            ∙ ap (λ (ys : List ℕ). ys ++ b ∷ after) front
            ∙ ap (λ (ys : List ℕ). (reversed left.0 ++ reversed back) ++ ys) right.1
            ∙ append_assoc (reversed left.0) (reversed back) (forth ++ right.0)
            ∙ ap (λ (ys : List ℕ). reversed left.0 ++ ys) (sym (append_assoc (reversed back) forth right.0));
      }

  pub through_is : IsChain g (reversed back ++ forth)
  through_is = record {
    long = omega (arith, length-append (reversed back) forth, back_length);
    begins = ap (has_node g) (first_appended (reversed back) forth back_length ∙ first_turned back) ∙ back_ends;
    ends = ap (has_node g) (last_of_back (reversed back)) ∙ forth_ends;
    between = through_inner;
    way = c.way;
    known = c.known;
    runs = runs_in_course g (reversed back ++ forth) (before ++ a ∷ b ∷ after) c through_stands;
  }
    where
      last_of_back : (xs : List ℕ) → last_of (xs ++ forth) ≡ last_of forth
      last_of_back xs = last_appended xs b (cond (has_node g b) [] (up_to (has_node g) after))

  pub through_runs : runs_over a b (reversed back ++ forth) ≡ true
  through_runs =
      let rest : List ℕ = cond (has_node g a) [] (up_to (has_node g) (reversed before)) in
      let later : List ℕ = cond (has_node g b) [] (up_to (has_node g) after) in
      let is : reversed back ++ forth ≡ reversed rest ++ a ∷ b ∷ later =
      ap (λ (ys : List ℕ). ys ++ forth) (reverse-append (a ∷ []) rest) ∙ append_assoc (reversed rest) (a ∷ []) forth in
      ap (runs_over a b) is ∙ runs_at (reversed rest) a b later

-- each used edge is on a chain
pub chain_over : (g : Network) → All (IsWay g) g.ways → (a b : ℕ) → is_used g.ways a b ≡ true → (chain : List ℕ) × IsChain g chain × (runs_over a b chain ≡ true)
chain_over g ways a b used = of_course (course_over g a b used)
  where
    of_course : (xs : List ℕ) × IsCourse g xs × StepsOver a b xs → (chain : List ℕ) × IsChain g chain × (runs_over a b chain ≡ true)
    of_course found =
        let s : StepsOver a b found.0 = found.2 in
        let c : IsCourse g (s.before ++ a ∷ b ∷ s.after) = subst (IsCourse g) s.is found.1 in
        (reversed (back g s.before a b s.after ways c) ++ forth g s.before a b s.after ways c, through_is g s.before a b s.after ways c, through_runs g s.before a b s.after ways c)

-- A chain is told by any of its edges.

rest_of : List ℕ → List ℕ
rest_of [] = []
rest_of (x ∷ xs) = xs

abbrev whole : Network → ℕ → ℕ → List ℕ
whole g a b = reversed (rest_of (chain_on g g.points b a)) ++ a ∷ chain_on g g.points a b

chain_told : (g : Network) (a b : ℕ) (chain : List ℕ) → All (IsWay g) g.ways → IsChain g chain → StepsOver a b chain → chain ≡ whole g a b
unfolding rest_of
chain_told g a b chain ways c s =
    let here : IsChain g (s.before ++ a ∷ b ∷ s.after) = subst (IsChain g) s.is c in
    let there : IsChain g (reversed s.after ++ b ∷ a ∷ reversed s.before) = subst (IsChain g) (ap reversed s.is ∙ turned_at s.before a b s.after) (chain_turned g chain c) in
    let on : chain_on g g.points a b ≡ b ∷ s.after = follows_chain g s.before a b s.after ways here in
    let off : chain_on g g.points b a ≡ a ∷ reversed s.before = follows_chain g (reversed s.after) b a (reversed s.before) ways there in
    s.is ∙ ap (λ (ys : List ℕ). ys ++ a ∷ b ∷ s.after) (sym (reverse-reverse s.before) ∙ ap (λ (ys : List ℕ). reversed (rest_of ys)) (sym off))
    ∙ ap (λ (ys : List ℕ). reversed (rest_of (chain_on g g.points b a)) ++ a ∷ ys) (sym on)

-- two chains over one edge are one, or the one is the other turned round
pub one_chain : (g : Network) (a b : ℕ) (x y : List ℕ) → All (IsWay g) g.ways → IsChain g x → IsChain g y → runs_over a b x ≡ true → runs_over a b y ≡ true → (x ≡ y) ⊎ (x ≡ reversed y)
one_chain g a b x y ways c d e f = of_steps (steps_from_runs a b x e) (steps_from_runs a b y f)
  where
    turned : IsChain g (reversed y)
    turned = chain_turned g y d

    of_steps : StepsOver a b x ⊎ StepsOver b a x → StepsOver a b y ⊎ StepsOver b a y → (x ≡ y) ⊎ (x ≡ reversed y)
    of_steps (inl s) (inl t) = inl (chain_told g a b x ways c s ∙ sym (chain_told g a b y ways d t))
    of_steps (inl s) (inr t) = inr (chain_told g a b x ways c s ∙ sym (chain_told g a b (reversed y) ways turned (steps_turned b a y t)))
    of_steps (inr s) (inl t) = inr (chain_told g b a x ways c s ∙ sym (chain_told g b a (reversed y) ways turned (steps_turned a b y t)))
    of_steps (inr s) (inr t) = inl (chain_told g b a x ways c s ∙ sym (chain_told g b a y ways d t))

-- The laws.

same_tests : (s t : Bool) → (s ≡ true → t ≡ true) → (t ≡ true → s ≡ true) → s ≡ t
same_tests true t on off = sym (on refl)
same_tests false true on off = off refl
same_tests false false on off = refl

module _ (points : List Point) (g : Network) (ways : All (IsWay g) g.ways) where
  is_chain : (k : ℕ) → k < length (segment_chains points g) → IsChain g (chain_numbered points g k) × (first_of (chain_numbered points g k) < last_of (chain_numbered points g k))
  is_chain k l = segments_are points g ways k [] l

  listed : (a b : ℕ) (chain : List ℕ) → IsChain g chain → runs_over a b chain ≡ true → (x : List ℕ) × Contains (segment_chains points g) x × (runs_over a b x ≡ true)
  listed a b chain c e = of_cases (cases_lt (first_of chain) (last_of chain)) (cases_lt (last_of chain) (first_of chain))
    where
      of_cases : (first_of chain < last_of chain) ⊎ (last_of chain ≤ first_of chain) → (last_of chain < first_of chain) ⊎ (first_of chain ≤ last_of chain)
          → (x : List ℕ) × Contains (segment_chains points g) x × (runs_over a b x ≡ true)
      of_cases (inl l) other = (chain, segment_listed points g ways chain c l, e)
      of_cases (inr l) (inl m) =
          let rises : first_of (reversed chain) < last_of (reversed chain) = omega (arith, m, first_turned chain, last_turned chain) in
          (reversed chain, segment_listed points g ways (reversed chain) (chain_turned g chain c) rises, runs_turned a b chain e)
      of_cases (inr l) (inr m) = absurd (chain_apart g chain ways c (omega arith))

  used_edges : (a b : ℕ) → list_any (runs_over a b) (segment_chains points g) ≡ is_used g.ways a b
  used_edges a b = same_tests (list_any (runs_over a b) (segment_chains points g)) (is_used g.ways a b) there back
    where
      there : list_any (runs_over a b) (segment_chains points g) ≡ true → is_used g.ways a b ≡ true
      there e =
          let found = Any-from_list_any (runs_over a b) (segment_chains points g) e in
          let chain : List ℕ = found.1 in
          let c = All-contains (λ (x : List ℕ). IsChain g x × (first_of x < last_of x)) (segment_chains points g) chain (segments_are points g ways) (found.0, found.2, found.3) in
          (path_of_chain g chain ways c.0).used a b found.4

      back : is_used g.ways a b ≡ true → list_any (runs_over a b) (segment_chains points g) ≡ true
      back used =
          let over = chain_over g ways a b used in
          let found = listed a b over.0 over.1 over.2 in
          list_any-from_Any (runs_over a b) (segment_chains points g) (found.1.0, found.0, found.1.1, found.1.2, found.2)

  edges_once : (i j a b : ℕ) → i < length (segment_chains points g) → j < length (segment_chains points g) → runs_over a b (chain_numbered points g i) ≡ true → runs_over a b (chain_numbered points g j) ≡ true → i ≡ j
  edges_once i j a b in_i in_j e f =
      of_chains (one_chain g a b (chain_numbered points g i) (chain_numbered points g j) ways (is_chain i in_i).0 (is_chain j in_j).0 e f)
    where
      turned_rises : (x y : List ℕ) → x ≡ reversed y → first_of x < last_of x → first_of y < last_of y → ⊥
      turned_rises x y same up_x up_y = omega (arith, up_x, up_y, ap first_of same ∙ first_turned y, ap last_of same ∙ last_turned y)

      of_chains : (chain_numbered points g i ≡ chain_numbered points g j) ⊎ (chain_numbered points g i ≡ reversed (chain_numbered points g j)) → i ≡ j
      of_chains (inl same) = segment_once points g i j in_i in_j same
      of_chains (inr same) = absurd (turned_rises (chain_numbered points g i) (chain_numbered points g j) same (is_chain i in_i).1 (is_chain j in_j).1)

  line_told : (chain : List ℕ) (line : ℕ) → line < g.lines → is_line_of g chain line ≡ line_runs_over g.ways (first_of chain) (second_of chain) line
  line_told chain line below =
      let xs : List ℕ = lines_over g.lines g.ways (first_of chain) (second_of chain) in
      list_any-mapped (λ (x : LineId). eqb x.0 line) line_numbered xs
      ∙ list_any-agree (λ n. eqb n line) (λ n. eqb line n) (λ n. eqb_either n line) xs
      ∙ has_filtered (line_runs_over g.ways (first_of chain) (second_of chain)) line (range_with_len 0 g.lines)
      ∙ ap (λ (t : Bool). t && line_runs_over g.ways (first_of chain) (second_of chain) line) (has_below line g.lines ∙ low line g.lines below)
    where
      low : (k n : ℕ) → k < n → ltb k n ≡ true
      low k n l = grind (arith, nat_tests)

  -- a line below the count of lines is among those over an edge where it runs over it
  line_over : (p q line : ℕ) → line < g.lines → has_number (lines_over g.lines g.ways p q) line ≡ line_runs_over g.ways p q line
  line_over p q line below =
      has_filtered (line_runs_over g.ways p q) line (range_with_len 0 g.lines)
      ∙ ap (λ (t : Bool). t && line_runs_over g.ways p q line) (has_below line g.lines ∙ low line g.lines below)
    where
      low : (k n : ℕ) → k < n → ltb k n ≡ true
      low k n l = grind (arith, nat_tests)

  lines_of_edges : (k a b line : ℕ) → k < length (segment_chains points g) → line < g.lines → runs_over a b (chain_numbered points g k) ≡ true
      → is_line_of g (chain_numbered points g k) line ≡ line_runs_over g.ways a b line
  lines_of_edges k a b line in_k below e =
      let chain : List ℕ = chain_numbered points g k in
      line_told chain line below ∙ sym (line_over (first_of chain) (second_of chain) line below)
      ∙ ap (λ (xs : List ℕ). has_number xs line) (chain_lines g chain ways (is_chain k in_k).0 a b e)
      ∙ line_over a b line below

  lines_of_ways : (k line : ℕ) → k < length (segment_chains points g) → line < g.lines → ((is_line_of g (chain_numbered points g k) line ≡ true) ↔ Shares g (chain_numbered points g k) line)
  lines_of_ways k line in_k below = (there, back)
    where
      there : is_line_of g (chain_numbered points g k) line ≡ true → Shares g (chain_numbered points g k) line
      there e =
          let chain : List ℕ = chain_numbered points g k in
          let long : 2 ≤ length chain = (is_chain k in_k).0.long in
          record { a = first_of chain; b = second_of chain; segment = runs_first chain long; way = sym (line_told chain line below) ∙ e }

      back : Shares g (chain_numbered points g k) line → is_line_of g (chain_numbered points g k) line ≡ true
      back s = lines_of_edges k s.a s.b line in_k below s.segment ∙ s.way

pub has_used_edges : (points : List Point) (g : Network) → HasUsedEdges points g
has_used_edges points g ways = used_edges points g ways

pub has_edges_once : (points : List Point) (g : Network) → HasEdgesOnce points g
has_edges_once points g ways = edges_once points g ways

pub has_lines_of_edges : (points : List Point) (g : Network) → HasLinesOfEdges points g
has_lines_of_edges points g ways = lines_of_edges points g ways

pub has_lines_of_ways : (points : List Point) (g : Network) → HasLinesOfWays points g
has_lines_of_ways points g ways = lines_of_ways points g ways
