-- The one text of each certificate.
use Rattle.std.specs.Prelude.{ℕ, suc, ℤ, pos, List, [], ◌∷◌, ◌++◌, codes}
use Rattle.std.specs.Fmt.{decimal, signed_decimal}
use Rattle.map_base.specs.declared.ids.LineId.{LineId}
use Rattle.octi_grid.specs.declared.point.GridPoint.{GridPoint}
use Rattle.octi_grid.specs.Walks.{PlainWalk}
use Rattle.order_proof.specs.Text.{proof_text}
use Rattle.decimal_text.specs.Lines.{words_text, numbers_text}
use Rattle.cert_file.specs.Plain.{PlainCertificate}
use Rattle.cert_file.specs.RunWords.{runs_of, run_words}

-- version 1 is read as importance 1 for all lines; version 2 has a line of importance
abbrev pub version_of : List (LineId × ℕ) → ℕ
version_of [] = 1
version_of (p ∷ rest) = 2

-- `octimap VERSION`
abbrev pub version_text : List (LineId × ℕ) → List ℕ
version_text importance = codes "octimap" ++ numbers_text (pos (version_of importance) ∷ [])

-- `graph NODES SEGMENTS LINES`
abbrev pub counts_text : ℕ → ℕ → ℕ → List ℕ
counts_text nodes segs lines = codes "graph" ++ numbers_text (pos nodes ∷ pos segs ∷ pos lines ∷ [])

-- lines, each with its importance
abbrev pub pair_numbers : List (LineId × ℕ) → List ℤ
pair_numbers [] = []
pair_numbers (p ∷ rest) = pos p.0.0 ∷ pos p.1 ∷ pair_numbers rest

-- `importance LINE IMPORTANCE ..`, where there is one
abbrev pub importance_text : List (LineId × ℕ) → List ℕ
importance_text [] = []
importance_text (p ∷ rest) = codes "importance" ++ numbers_text (pair_numbers (p ∷ rest))

-- the start of a walk, a space before each coordinate
abbrev pub start_text : GridPoint → List ℕ
start_text p = 32 ∷ (signed_decimal p.x ++ (32 ∷ signed_decimal p.y))

-- `walk S X Y RUN ..`
abbrev pub walk_words : ℕ → PlainWalk → List (List ℕ)
walk_words s w = decimal s ∷ signed_decimal w.start.x ∷ signed_decimal w.start.y ∷ run_words (runs_of w.steps)

abbrev pub walk_text : ℕ → PlainWalk → List ℕ
walk_text s w = codes "walk" ++ words_text (walk_words s w)

-- those of segments from s on
abbrev pub walks_text : ℕ → List PlainWalk → List ℕ
walks_text s [] = []
walks_text s (w ∷ rest) = walk_text s w ++ walks_text (suc s) rest

abbrev pub line_numbers : List LineId → List ℤ
line_numbers [] = []
line_numbers (l ∷ rest) = pos l.0 ∷ line_numbers rest

-- `order S LINE ..`
abbrev pub order_text : ℕ → List LineId → List ℕ
order_text s order = codes "order" ++ numbers_text (pos s ∷ line_numbers order)

-- those of segments from s on
abbrev pub orders_text : ℕ → List (List LineId) → List ℕ
orders_text s [] = []
orders_text s (order ∷ rest) = order_text s order ++ orders_text (suc s) rest

-- `cost C`
abbrev pub cost_text : ℕ → List ℕ
cost_text cost = codes "cost" ++ numbers_text (pos cost ∷ [])

-- what stands before the proof
abbrev pub head_text : PlainCertificate → List ℕ
head_text c =
    version_text c.importance ++ (counts_text c.nodes c.segs c.lines ++ (importance_text c.importance
    ++ (walks_text 0 c.walks ++ (orders_text 0 c.orders ++ cost_text c.cost))))

-- the text of a certificate: its head and its proof
abbrev pub certificate_text : PlainCertificate → List ℕ
certificate_text c = head_text c ++ proof_text c.proof
