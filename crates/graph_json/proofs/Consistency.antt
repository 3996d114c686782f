-- A graph within limits whose references hold is consistent.
use Rattle.std.proofs.Common.{◌≡◌, refl, ap, subst, ℕ, ◌<◌, ◌≤◌, Bool, true, false, ◌==◌, List, [], ◌∷◌, length, get_or, arith, inl, inr, nat_lt}
use Rattle.std.specs.Prelude.{All, Contains, if◌then◌else◌}
use Rattle.std.specs.List.{list_any, list_all}
use Rattle.std.proofs.lemmas.Bool.{and_parts, eqb-true, ltb-true}
use Rattle.std.proofs.lemmas.List.Elements.{All-from_get_or}
use Rattle.std.proofs.lemmas.List.Folds.{Any-from_list_any}
use Rattle.std.proofs.lemmas.List.Sums.{AllPass-from_list_all}
use Rattle.map_base.specs.declared.ids.NodeId.{NodeId}
use Rattle.map_base.specs.declared.ids.SegId.{SegId}
use Rattle.map_base.specs.declared.ids.LineId.{LineId}
use Rattle.graph_core.specs.declared.parts.GraphParts.{GraphParts}
use Rattle.graph_core.specs.declared.parts.Join.{Join}
use Rattle.graph_core.specs.Round.{segments_at}
use Rattle.graph_core.specs.Consistent.{IsConsistent, IsNear, AreEnds, AreRising, IsBefore, AreSorted, IsJoin, IsRound, AreFewLines, lines_at}
use Rattle.graph_json.specs.References.{has_seg, has_line, rises_from, rises, is_below, is_before, is_sound_round, is_sound_join, node_holds, segment_holds}
use Rattle.graph_json.proofs.Rounds.{round_permuted}

-- ---- tests and what they say

contains : {X : Type 0} (same : X → X → Bool) → ((a b : X) → same a b ≡ true → a ≡ b) → (xs : List X) (x : X) → list_any (λ y. same y x) xs ≡ true → Contains xs x
contains same means xs x t =
    let there = Any-from_list_any (λ y. same y x) xs t in
    subst (Contains xs) (means there.1 x there.4) (there.0, there.2, there.3)

contains_seg : (round : List SegId) (s : SegId) → has_seg round s ≡ true → Contains round s
contains_seg = contains (λ (a b : SegId). a.0 == b.0) (λ a b t. ap (λ (n : ℕ). record { 0 = n }) (eqb-true a.0 b.0 t))

contains_line : (lines : List LineId) (l : LineId) → has_line lines l ≡ true → Contains lines l
contains_line = contains (λ (a b : LineId). a.0 == b.0) (λ a b t. ap (λ (n : ℕ). record { 0 = n }) (eqb-true a.0 b.0 t))

rising_from : (a : LineId) (rest : List LineId) → rises_from is_below a rest ≡ true → AreRising (a ∷ rest)
rising_from a [] t = tt
rising_from a (b ∷ rest) t = let both = and_parts _ _ t in (ltb-true a.0 b.0 both.0, rising_from b rest both.1)

rising : (lines : List LineId) → rises is_below lines ≡ true → AreRising lines
rising [] t = tt
rising (a ∷ rest) t = rising_from a rest t

before : (a b : Join) → is_before a b ≡ true → IsBefore a b
before a b t = by (a.e.0 == b.e.0) (a.f.0 == b.f.0) refl refl t
  where
    by : (e f : Bool) → (a.e.0 == b.e.0) ≡ e → (a.f.0 == b.f.0) ≡ f → (if e then (if f then nat_lt a.line.0 b.line.0 else nat_lt a.f.0 b.f.0) else nat_lt a.e.0 b.e.0) ≡ true → IsBefore a b
    by true true e f t = inr (eqb-true a.e.0 b.e.0 e, inr (eqb-true a.f.0 b.f.0 f, ltb-true a.line.0 b.line.0 t))
    by true false e f t = inr (eqb-true a.e.0 b.e.0 e, inl (ltb-true a.f.0 b.f.0 t))
    by false f e _ t = inl (ltb-true a.e.0 b.e.0 t)

sorted_from : (a : Join) (rest : List Join) → rises_from is_before a rest ≡ true → AreSorted (a ∷ rest)
sorted_from a [] t = tt
sorted_from a (b ∷ rest) t = let both = and_parts _ _ t in (before a b both.0, sorted_from b rest both.1)

sorted : (joins : List Join) → rises is_before joins ≡ true → AreSorted joins
sorted [] t = tt
sorted (a ∷ rest) t = sorted_from a rest t

is_join : (lines : List (List LineId)) (round : List SegId) (j : Join) → is_sound_join lines round j ≡ true → IsJoin lines round j
is_join lines round j t =
    let order = and_parts _ _ t in
    let lesser = and_parts _ _ order.1 in
    let greater = and_parts _ _ lesser.1 in
    let lines_there = and_parts _ _ greater.1 in
    record {
      order = ltb-true j.e.0 j.f.0 order.0;
      lesser = contains_seg round j.e lesser.0;
      greater = contains_seg round j.f greater.0;
      on_lesser = contains_line (lines_at lines j.e) j.line lines_there.0;
      on_greater = contains_line (lines_at lines j.f) j.line lines_there.1;
    }

is_round : (ends : List (NodeId × NodeId)) (n : ℕ) (round : List SegId) → is_sound_round ends n round ≡ true → IsRound ends n round
is_round ends n round t =
    let first = and_parts _ _ t in
    let second = and_parts _ _ first.1 in
    (ltb-true 0 (length round) first.0, round_permuted n ends round (eqb-true (length round) (length (segments_at n ends)) second.0) second.1)

-- ---- the whole

-- the lists of a graph fit together in length, and are within limits
pub record IsShaped (g : GraphParts) : Type 0 where
  pub place_each : length g.places ≡ length g.kinds
  pub round_each : length g.rounds ≡ length g.kinds
  pub joins_each : length g.joins ≡ length g.kinds
  pub lines_each : length g.lines ≡ length g.ends
  pub few_nodes : length g.kinds ≤ 10000
  pub few_segments : length g.ends ≤ 20000
  pub few_lines : AreFewLines 1000 g.lines

module _ (g : GraphParts) (listed : ℕ) (shaped : IsShaped g) (nodes : (n : ℕ) → n < length g.kinds → node_holds g n ≡ true) (segments : (s : ℕ) → s < length g.ends → segment_holds g listed s ≡ true) where
  abbrev no_ends : NodeId × NodeId
  no_ends = (record { 0 = 0 }, record { 0 = 0 })

  pub ends_there : All (AreEnds (length g.kinds)) g.ends
  ends_there = All-from_get_or (AreEnds (length g.kinds)) g.ends no_ends (λ s h.
      let both = and_parts _ _ (and_parts _ _ (segments s h)).0 in
      (ltb-true _ _ both.0, ltb-true _ _ both.1))

  lines_of : (s : ℕ) → s < length g.lines → (nat_lt 0 (length (get_or g.lines s [])) ≡ true) × (rises is_below (get_or g.lines s []) ≡ true) × (list_all (λ (l : LineId). nat_lt l.0 listed) (get_or g.lines s []) ≡ true)
  lines_of s h =
      let within : s < length g.ends = omega (arith, shaped.lines_each) in
      let first = and_parts _ _ (and_parts _ _ (segments s within)).1 in
      let second = and_parts _ _ first.1 in
      (first.0, second.0, second.1)

  -- each line on a segment is listed
  pub lines_listed : All (All (λ (l : LineId). l.0 < listed)) g.lines
  lines_listed = All-from_get_or (All (λ (l : LineId). l.0 < listed)) g.lines [] (λ s h k d i. ltb-true _ listed (AllPass-from_list_all (λ (l : LineId). nat_lt l.0 listed) (get_or g.lines s []) (lines_of s h).2 k d i))

  round_of : (n : ℕ) → n < length g.kinds → is_sound_round g.ends n (get_or g.rounds n []) ≡ true
  round_of n h = (and_parts _ _ (nodes n h)).0

  joins_of : (n : ℕ) → n < length g.kinds → (rises is_before (get_or g.joins n []) ≡ true) × (list_all (is_sound_join g.lines (get_or g.rounds n [])) (get_or g.joins n []) ≡ true)
  joins_of n h = and_parts _ _ (and_parts _ _ (nodes n h)).1

  pub consistent : All IsNear g.places → IsConsistent g
  consistent near = record {
    place_each = shaped.place_each;
    round_each = shaped.round_each;
    joins_each = shaped.joins_each;
    lines_each = shaped.lines_each;
    few_nodes = shaped.few_nodes;
    few_segments = shaped.few_segments;
    few_lines = shaped.few_lines;
    places = near;
    ends = ends_there;
    lines = All-from_get_or (λ ls. (0 < length ls) × AreRising ls) g.lines [] (λ s h. (ltb-true 0 _ (lines_of s h).0, rising _ (lines_of s h).1));
    rounds = λ n h. is_round g.ends n _ (round_of n (omega (arith, shaped.round_each)));
    sorted = All-from_get_or AreSorted g.joins [] (λ n h. sorted _ (joins_of n (omega (arith, shaped.joins_each))).0);
    joins = λ n h. λ k d i. is_join g.lines _ _ (AllPass-from_list_all (is_sound_join g.lines (get_or g.rounds n [])) (get_or g.joins n []) (joins_of n (omega (arith, shaped.joins_each))).1 k d i);
  }
