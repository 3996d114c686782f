-- Where the first line of a proof's text begins that has not the form due there.
use Rattle.std.proofs.Common.{◌≡◌, ℕ, [], ◌∷◌, codes, map, Result, Err, refl}
use Rattle.decimal_text.specs.Lines as texts
use Rattle.order_proof.specs.FrontLine.{front, front_line}
use Rattle.order_proof.specs.Reading.{proof_end, reading}

abbrev stops : ℕ → Result ℕ ℕ
stops at = Err at

-- the counts at the head
counts : map proof_end ([] ∷ codes "rules 0" ∷ codes "rules 0\n" ∷ codes "rules 0\nparts 0"
    ∷ codes "rules 01\nparts 0\n" ∷ codes "rules  0\nparts 0\n" ∷ codes "rules 0 \nparts 0\n"
    ∷ codes "rules -0\nparts 0\n" ∷ codes "rules 20000001\nparts 0\n" ∷ [])
    ≡ map stops (0 ∷ 0 ∷ 8 ∷ 8 ∷ 0 ∷ 0 ∷ 0 ∷ 0 ∷ 0 ∷ [])
unfolding reading front front_line texts.front texts.first_line
counts = refl

-- rules
rules : map proof_end (codes "rules 1\nparts 0\n" ∷ codes "rules 1\nmerge 1 3 2\nparts 0\n"
    ∷ codes "rules 1\nmerge 1 4294967296 0\nparts 0\n" ∷ codes "rules 1\ndivide 1 2 2\nparts 0\n"
    ∷ codes "rules 1\ndivide\nparts 0\n" ∷ []) ≡ map stops (8 ∷ 8 ∷ 8 ∷ 8 ∷ 8 ∷ [])
unfolding reading front front_line texts.front texts.first_line
rules = refl

-- parts, and cases
parts : map proof_end (codes "rules 0\nparts 1\n" ∷ codes "rules 0\nparts 1\npart 1000000000000001\nclose 0\n"
    ∷ codes "rules 0\nparts 1\npart 0 2 1\nclose 0\n" ∷ codes "rules 0\nparts 1\npart 0 0\nsplit 0 0\nclose 0\n"
    ∷ codes "rules 0\nparts 1\npart 0 0\nsplit 0 1001\n"
    ∷ codes "rules 0\nparts 1\npart 0 0\nsplit 0 2\ntake 0\nclose 0\ntake 0\nclose 0\n" ∷ [])
    ≡ map stops (16 ∷ 16 ∷ 16 ∷ 25 ∷ 25 ∷ 50 ∷ [])
unfolding reading front front_line texts.front texts.first_line
parts = refl

-- prices, and a stop without them
prices : map proof_end (codes "rules 0\nparts 1\npart 0 0\nclose 1 8 0\n"
    ∷ codes "rules 0\nparts 1\npart 0 0\nclose 1 8 1000000001\n" ∷ codes "rules 0\nparts 1\npart 0 0\nclose 2 8 1\n"
    ∷ codes "rules 0\nparts 1\npart 0 0\nclose 2 8 1 8 1\n" ∷ codes "rules 0\nparts 1\npart 0 0\nstop 1 8 0\n"
    ∷ codes "rules 0\nparts 1\npart 0 0\nstop 1 8 1000000000001\n"
    ∷ codes "rules 0\nparts 1\npart 0 0\nstop 2 8 1 8 1\n" ∷ codes "rules 0\nparts 1\npart 0 0\nstop\n" ∷ [])
    ≡ map stops (25 ∷ 25 ∷ 25 ∷ 25 ∷ 25 ∷ 25 ∷ 25 ∷ 25 ∷ [])
unfolding reading front front_line texts.front texts.first_line
prices = refl

-- settled pairs
forks : map proof_end (codes "rules 0\nparts 1\npart 0 0\nfork 0 1\nstop 0\nstop 0\n"
    ∷ codes "rules 0\nparts 1\npart 0 0\nfork 0 1 4294967296\nstop 0\nstop 0\n"
    ∷ codes "rules 0\nparts 1\npart 0 0\nfork 0 1 2\nstop 0\n"
    ∷ codes "rules 0\nparts 1\npart 0 0\nfork 0 1 2\nstop 0\nclose 0\n"
    ∷ codes "rules 0\nparts 1\npart 0 0\nfork 0 1 2\nsplit 0 1\ntake 0\nclose 0\nstop 0\n"
    ∷ codes "rules 0\nparts 1\npart 0 0\nsplit 0 1\ntake 0\nstop 0\n"
    ∷ codes "rules 0\nparts 1\npart 0 0\nforks 0 1 2\nstop 0\nstop 0\n" ∷ [])
    ≡ map stops (25 ∷ 25 ∷ 43 ∷ 43 ∷ 36 ∷ 42 ∷ 25 ∷ [])
unfolding reading front front_line texts.front texts.first_line
forks = refl
