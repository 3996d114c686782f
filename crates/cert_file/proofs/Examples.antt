-- Small cases of the definitions.
use Rattle.std.proofs.Common.{◌≡◌, ℕ, pos, negsuc, List, [], ◌∷◌, ◌++◌, codes, replicate, None, Ok, Err, refl}
use Rattle.std.specs.Fmt.{digits}
use Rattle.octi_grid.specs.declared.dir.Dir.TheVariants as dir
use Rattle.octi_grid.specs.Walks.{PlainWalk}
use Rattle.decimal_text.specs.Lines.{first_line, front}
use Rattle.decimal_text.specs.Reading as lines
use Rattle.order_proof.specs.FrontLine as proof_lines
use Rattle.order_proof.specs.Reading as proofs
use Rattle.cert_file.specs.Plain.{PlainCertificate}
use Rattle.cert_file.specs.Text.{certificate_text, walk_text}
use Rattle.cert_file.specs.Forms.{walk_in}
use Rattle.cert_file.specs.Reading.{certificate_end}

-- one segment of fifty steps, and one line
abbrev straight : PlainWalk
straight = record { start = record { x = pos 0; y = pos 0 }; steps = replicate 50 dir.E }

abbrev smallest : PlainCertificate
smallest = record {
  nodes = 2;
  segs = 1;
  lines = 1;
  importance = [];
  walks = straight ∷ [];
  orders = (record { 0 = 0 } ∷ []) ∷ [];
  cost = 0;
  proof = record { rules = []; parts = [] };
}

abbrev smallest_text : List ℕ
smallest_text = codes "octimap 1\ngraph 2 1 1\nwalk 0 0 0 E50\norder 0 0\ncost 0\nrules 0\nparts 0\n"

written : certificate_text smallest ≡ smallest_text
unfolding digits
written = refl

-- a map of nothing
empty : certificate_text (record { nodes = 0; segs = 0; lines = 0; importance = []; walks = []; orders = []; cost = 0; proof = record { rules = []; parts = [] } }) ≡
    codes "octimap 1\ngraph 0 0 0\ncost 0\nrules 0\nparts 0\n"
unfolding digits
empty = refl

-- a line of importance 2
weighed : certificate_text (record { nodes = 0; segs = 0; lines = 0; importance = (record { 0 = 1 }, 2) ∷ []; walks = []; orders = []; cost = 0; proof = record { rules = []; parts = [] } }) ≡
    codes "octimap 2\ngraph 0 0 0\nimportance 1 2\ncost 0\nrules 0\nparts 0\n"
unfolding digits
weighed = refl

-- a walk with turns, from below zero
turned : walk_text 3 (record { start = record { x = negsuc 3; y = pos 2 }; steps = dir.NE ∷ dir.NE ∷ dir.E ∷ dir.SW ∷ [] }) ≡ codes "walk 3 -4 2 NE2 E1 SW1\n"
unfolding digits
turned = refl

-- a run of no steps, and two runs of one direction
no_steps : walk_in 0 (codes "walk" ∷ codes "0" ∷ codes "0" ∷ codes "0" ∷ codes "E00" ∷ []) ≡ None
no_steps = refl

split : walk_in 0 (codes "walk" ∷ codes "0" ∷ codes "0" ∷ codes "0" ∷ codes "E25" ∷ codes "E25" ∷ []) ≡ None
split = refl

-- ---- where reading ends

read : certificate_end smallest_text ≡ Ok 70
unfolding lines.reading front first_line proofs.reading proof_lines.front proof_lines.front_line
read = refl

nothing : certificate_end [] ≡ Err 0
unfolding lines.reading front first_line
nothing = refl

return_before_the_end : certificate_end (codes "octimap 1\r\ngraph 0 0 0\ncost 0\nrules 0\nparts 0\n") ≡ Err 0
unfolding lines.reading front first_line
return_before_the_end = refl

too_great : certificate_end (codes "octimap 1\ngraph 2 1 99999999999999999999\n") ≡ Err 10
unfolding lines.reading front first_line
too_great = refl

two_runs_of_one_direction : certificate_end (codes "octimap 1\ngraph 2 1 1\nwalk 0 0 0 E25 E25\n") ≡ Err 22
unfolding lines.reading front first_line
two_runs_of_one_direction = refl

line_out_of_range : certificate_end (codes "octimap 1\ngraph 2 1 1\nwalk 0 0 0 E50\norder 0 4294967296\n") ≡ Err 37
unfolding lines.reading front first_line
line_out_of_range = refl

minus_zero : certificate_end (codes "octimap 1\ngraph 2 1 1\nwalk 0 0 0 E50\norder 0 0\ncost -0\n") ≡ Err 47
unfolding lines.reading front first_line
minus_zero = refl

a_line_more : certificate_end (smallest_text ++ 10 ∷ []) ≡ Err 70
unfolding lines.reading front first_line proofs.reading proof_lines.front proof_lines.front_line
a_line_more = refl

a_part_missing : certificate_end (codes "octimap 1\ngraph 0 0 0\ncost 0\nrules 0\nparts 1\n") ≡ Err 45
unfolding lines.reading front first_line proofs.reading proof_lines.front proof_lines.front_line
a_part_missing = refl

-- version 2 without a line of importance, and with importance 1
no_importance : certificate_end (codes "octimap 2\ngraph 2 1 1\nwalk 0 0 0 E50\n") ≡ Err 22
unfolding lines.reading front first_line
no_importance = refl

importance_of_one : certificate_end (codes "octimap 2\ngraph 2 1 1\nimportance 0 1\n") ≡ Err 22
unfolding lines.reading front first_line
importance_of_one = refl
