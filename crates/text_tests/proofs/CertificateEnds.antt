-- Where the first line of a certificate's text begins that has not the form due there.
use Rattle.std.proofs.Common.{◌≡◌, ℕ, [], ◌∷◌, codes, map, Result, Err, refl}
use Rattle.decimal_text.specs.Lines.{first_line, front}
use Rattle.decimal_text.specs.Reading as lines
use Rattle.order_proof.specs.FrontLine as proof_lines
use Rattle.order_proof.specs.Reading as proofs
use Rattle.cert_file.specs.Reading.{certificate_end}

abbrev stops : ℕ → Result ℕ ℕ
stops at = Err at

-- versions and counts
heads : map certificate_end (codes "octimap 1\r\ngraph 2 1 1\nwalk 0 0 0 E50\norder 0 0\ncost 0\nrules 0\nparts 0\n"
    ∷ codes "octimap 3\ngraph 0 0 0\ncost 0\nrules 0\nparts 0\n"
    ∷ codes "octimap 1\ngraph 2 1 99999999999999999999\nwalk 0 0 0 E50\norder 0 0\ncost 0\nrules 0\nparts 0\n"
    ∷ codes "octimap 1\ngraph 10001 1 1\n" ∷ []) ≡ map stops (0 ∷ 0 ∷ 10 ∷ 10 ∷ [])
unfolding lines.reading front first_line proofs.reading proof_lines.front proof_lines.front_line
heads = refl

-- walks
walks : map certificate_end (codes "octimap 1\ngraph 2 1 1\nwalk 0 0 0 E00\norder 0 0\ncost 0\nrules 0\nparts 0\n"
    ∷ codes "octimap 1\ngraph 2 1 1\nwalk 0 0 0 E25 E25\norder 0 0\ncost 0\nrules 0\nparts 0\n"
    ∷ codes "octimap 1\ngraph 2 1 1\nwalk 0 0 0\norder 0 0\ncost 0\nrules 0\nparts 0\n"
    ∷ codes "octimap 1\ngraph 2 1 1\nwalk 0 0 0 E050\norder 0 0\ncost 0\nrules 0\nparts 0\n"
    ∷ codes "octimap 1\ngraph 2 1 1\nwalk 0 0 0 E10001\norder 0 0\ncost 0\nrules 0\nparts 0\n"
    ∷ codes "octimap 1\ngraph 2 1 1\nwalk 1 0 0 E50\norder 0 0\ncost 0\nrules 0\nparts 0\n" ∷ [])
    ≡ map stops (22 ∷ 22 ∷ 22 ∷ 22 ∷ 22 ∷ 22 ∷ [])
unfolding lines.reading front first_line proofs.reading proof_lines.front proof_lines.front_line
walks = refl

-- orders, the cost and the proof
later_lines : map certificate_end (codes "octimap 1\ngraph 2 1 1\nwalk 0 0 0 E50\norder 0 4294967296\ncost 0\nrules 0\nparts 0\n"
    ∷ codes "octimap 1\ngraph 2 1 1\nwalk 0 0 0 E50\norder 0 3 1 3\ncost 0\nrules 0\nparts 0\n"
    ∷ codes "octimap 1\ngraph 2 1 1\nwalk 0 0 0 E50\norder 0 0\ncost -0\nrules 0\nparts 0\n"
    ∷ codes "octimap 1\ngraph 2 1 1\nwalk 0 0 0 E50\norder 0 0\ncost 0\nrules 20000001\nparts 0\n"
    ∷ codes "octimap 1\ngraph 2 1 1\nwalk 0 0 0 E50\norder 0 0\ncost 0\nrules 0\nparts 1\n"
    ∷ codes "octimap 1\ngraph 2 1 1\nwalk 0 0 0 E50\norder 0 0\ncost 0\nrules 0\nparts 0\n\n" ∷ [])
    ≡ map stops (37 ∷ 37 ∷ 47 ∷ 54 ∷ 70 ∷ 70 ∷ [])
unfolding lines.reading front first_line proofs.reading proof_lines.front proof_lines.front_line
later_lines = refl

-- importance
weights : map certificate_end (codes "octimap 2\ngraph 2 1 1\nwalk 0 0 0 E50\norder 0 0\ncost 0\nrules 0\nparts 0\n"
    ∷ codes "octimap 2\ngraph 2 1 1\nimportance 0 1\nwalk 0 0 0 E50\norder 0 0\ncost 0\nrules 0\nparts 0\n" ∷ [])
    ≡ map stops (22 ∷ 22 ∷ [])
unfolding lines.reading front first_line proofs.reading proof_lines.front proof_lines.front_line
weights = refl
