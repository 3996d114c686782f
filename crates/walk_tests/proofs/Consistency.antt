-- Three stations in a row are a consistent graph.
use Rattle.std.proofs.Common.{ℕ, ◌<◌, ◌≤◌, ◌≡◌, ℤ, unsigned_abs, List, [], ◌∷◌, length, refl, sym, subst, arith, lit≤}
use Rattle.std.specs.Prelude.{IsPermutation}
use Rattle.std.specs.List.{All, Contains, slice_index_or}
use Rattle.std.proofs.lemmas.Int.{ints}
use Rattle.std.proofs.lemmas.List.Elements.{All-nil, All-replicate}
use Rattle.std.proofs.lemmas.List.Sorted.{IsPermutation-refl}
use Rattle.map_base.specs.declared.ids.NodeId.{NodeId}
use Rattle.map_base.specs.declared.ids.LineId.{LineId}
use Rattle.map_base.specs.declared.ids.SegId.{SegId}
use Rattle.graph_core.specs.declared.parts.Join.{Join}
use Rattle.graph_core.specs.Round.{segments_at}
use Rattle.graph_core.specs.Consistent.{IsConsistent, IsNear, AreEnds, AreRising, AreSorted, IsRound, IsJoin}
use Rattle.walk_tests.specs.Graphs.{only, only_line, place, row}
use Rattle.walk_tests.proofs.Each.{all_of, at_each}

is_known : Contains only_line (record { 0 = 0 })
is_known = (0, lit≤ tt, refl)

known : All (Contains only_line) only_line
known = all_of (Contains only_line) only_line (is_known, tt)

abbrev Rises : List LineId → Type 0
Rises ls = (0 < length ls) × AreRising ls

rises : Rises only_line
rises = (lit≤ tt, tt)

near : (x y : ℤ) → unsigned_abs x ≤ 299999999 → unsigned_abs y ≤ 299999999 → IsNear (place x y)
near x y across along = (omega (arith, ints), omega (arith, ints), omega (arith, ints), omega (arith, ints))

-- a round that has the segments of its node in their order
round : (ends : List (NodeId × NodeId)) (n : ℕ) (told : List SegId) → 0 < length told → segments_at n ends ≡ told → IsRound ends n told
round ends n told some same = (some, subst (λ (ss : List SegId). IsPermutation ss told) (sym same) (IsPermutation-refl told))

abbrev goes_on : Join
goes_on = record { e = record { 0 = 0 }; f = record { 0 = 1 }; line = record { 0 = 0 } }

abbrev both : List SegId
both = record { 0 = 0 } ∷ record { 0 = 1 } ∷ []

is_join : IsJoin row.lines both goes_on
is_join = record {
  order = lit≤ tt;
  lesser = (0, lit≤ tt, refl);
  greater = (1, lit≤ tt, refl);
  on_lesser = is_known;
  on_greater = is_known;
}

pub row_consistent : IsConsistent row
row_consistent = record {
  place_each = refl;
  round_each = refl;
  joins_each = refl;
  lines_each = refl;
  few_nodes = lit≤ tt;
  few_segments = lit≤ tt;
  few_lines = (only_line, lit≤ tt, All-replicate (All (Contains only_line)) 2 only_line known);
  places = all_of IsNear row.places (near _ _ (lit≤ tt) (lit≤ tt), (near _ _ (lit≤ tt) (lit≤ tt), (near _ _ (lit≤ tt) (lit≤ tt), tt)));
  ends = all_of (AreEnds 3) row.ends ((lit≤ tt, lit≤ tt), ((lit≤ tt, lit≤ tt), tt));
  lines = All-replicate Rises 2 only_line rises;
  rounds =
      at_each (λ n. IsRound row.ends n (slice_index_or row.rounds n [])) 3
      (round row.ends 0 (only 0) (lit≤ tt) refl, (round row.ends 1 both (lit≤ tt) refl, (round row.ends 2 (only 1) (lit≤ tt) refl, tt)));
  sorted = all_of AreSorted row.joins (tt, (tt, (tt, tt)));
  joins =
      at_each (λ n. All (IsJoin row.lines (slice_index_or row.rounds n [])) (slice_index_or row.joins n [])) 3
      (All-nil (IsJoin row.lines (only 0)), (all_of (IsJoin row.lines both) (goes_on ∷ []) (is_join, tt), (All-nil (IsJoin row.lines (only 1)), tt)));
}
