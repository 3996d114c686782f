-- Small cases of the definitions of the check.
use Rattle.std.proofs.Common.{◌≡◌, ℕ, pos, negsuc, true, false, [], ◌∷◌, codes, replicate, Some, None, Ok, Err, refl}
use Rattle.map_base.specs.declared.ids.LineId.{LineId}
use Rattle.map_base.specs.declared.ids.SegId.{SegId}
use Rattle.octi_grid.specs.declared.dir.Dir.TheVariants as dir
use Rattle.decimal_text.specs.Lines as texts
use Rattle.decimal_text.specs.Reading as lines
use Rattle.order_proof.specs.FrontLine as proof_lines
use Rattle.order_proof.specs.Reading as proofs
use Rattle.order_values.specs.DualTrees.{fork, stop}
use Rattle.order_proof.specs.Plain.{split, close, no_case, case_of, by_cases, by_pairs}
use Rattle.cert_file.specs.Forms.{spoken_front}
use Rattle.graph_maps.specs.FrontReadings.{tree_at, dual_at, part_at, proof_at}
use Rattle.graph_maps.specs.Readings.{certificate_at, certificate_in}
use Rattle.graph_maps.specs.Checking.{are_same_pairs, is_order, first_disorder, first_difference}

abbrev line : ℕ → LineId
line n = record { 0 = n }

abbrev seg : ℕ → SegId
seg n = record { 0 = n }

-- ---- what a text is read as

-- one segment of fifty steps, and one line
straight : certificate_in (codes "octimap 1\ngraph 2 1 1\nwalk 0 0 0 E50\norder 0 0\ncost 0\nrules 0\nparts 0\n") ≡ Ok (record {
  nodes = 2;
  segs = 1;
  lines = 1;
  importance = [];
  walks = record { start = record { x = pos 0; y = pos 0 }; steps = replicate 50 dir.E } ∷ [];
  orders = (line 0 ∷ []) ∷ [];
  cost = 0;
  proof = record { rules = []; parts = [] };
})
unfolding certificate_in certificate_at proof_at spoken_front lines.reading texts.front texts.first_line proofs.reading proof_lines.front proof_lines.front_line
straight = refl

-- two lines on two segments, where the first split decides the second
with_a_tree : certificate_in (codes "octimap 2\ngraph 0 0 0\nimportance 1 2\ncost 2\nrules 0\nparts 1\npart 2 1 3\nsplit 1 2\ntake 0\nsplit 3 1\ntake 1\nclose 0\ntake 1\nclose 0\n") ≡ Ok (record {
  nodes = 0;
  segs = 0;
  lines = 0;
  importance = (line 1, 2) ∷ [];
  walks = [];
  orders = [];
  cost = 2;
  proof = record {
    rules = [];
    parts = record {
      segs = seg 1 ∷ seg 3 ∷ [];
      target = 2;
      tree = by_cases (split (seg 1) (case_of (line 0) (split (seg 3) (case_of (line 1) (close []) no_case)) (case_of (line 1) (close []) no_case)));
    } ∷ [];
  };
})
unfolding certificate_in certificate_at proof_at part_at tree_at spoken_front lines.reading texts.front texts.first_line proofs.reading proof_lines.front proof_lines.front_line
with_a_tree = refl

-- a part with a tree of settled pairs
with_pairs : certificate_in (codes "octimap 1\ngraph 0 0 0\ncost 2\nrules 0\nparts 1\npart 1 1 3\nfork 1 0 1\nstop 1 4 -1001\nstop 0\n") ≡ Ok (record {
  nodes = 0;
  segs = 0;
  lines = 0;
  importance = [];
  walks = [];
  orders = [];
  cost = 2;
  proof = record {
    rules = [];
    parts = record {
      segs = seg 1 ∷ seg 3 ∷ [];
      target = 1;
      tree = by_pairs (fork (seg 1) (line 0) (line 1) (stop ((4, negsuc 1000) ∷ [])) (stop []));
    } ∷ [];
  };
})
unfolding certificate_in certificate_at proof_at part_at dual_at spoken_front lines.reading texts.front texts.first_line proofs.reading proof_lines.front proof_lines.front_line
with_pairs = refl

-- version 2 without a line of importance
no_importance : certificate_in (codes "octimap 2\ngraph 2 1 1\nwalk 0 0 0 E50\norder 0 0\ncost 0\nrules 0\nparts 0\n") ≡ Err 22
unfolding certificate_in lines.reading texts.front texts.first_line
no_importance = refl

-- ---- items

same_importance : are_same_pairs ((line 1, 2) ∷ []) ((line 1, 2) ∷ []) ≡ true
same_importance = refl

more_importance : are_same_pairs [] ((line 1, 2) ∷ []) ≡ false
more_importance = refl

turned_order : is_order (line 0 ∷ line 2 ∷ []) (line 2 ∷ line 0 ∷ []) ≡ true
turned_order = refl

another_line : is_order (line 0 ∷ line 2 ∷ []) (line 0 ∷ line 1 ∷ []) ≡ false
another_line = refl

second_disorder : first_disorder 0 ((line 0 ∷ []) ∷ (line 0 ∷ line 2 ∷ []) ∷ []) ((line 0 ∷ []) ∷ (line 2 ∷ []) ∷ []) ≡ Some (seg 1)
second_disorder = refl

second_byte : first_difference (codes "abc") (codes "axc") ≡ Some 1
second_byte = refl

longer_map : first_difference (codes "ab") (codes "abc") ≡ Some 2
longer_map = refl

one_map : first_difference (codes "ab") (codes "ab") ≡ None
one_map = refl
