-- The lines of a proof's text: a word, numbers behind it, and how they are written.
use Rattle.std.specs.Prelude.{ℕ, ℤ, pos, Bool, true, false, List, [], ◌∷◌, ◌++◌, length, codes, if◌then◌else◌}
use Rattle.decimal_text.specs.Lines.{numbers_text}
use Rattle.map_base.specs.declared.ids.SegId.{SegId}
use Rattle.map_base.specs.declared.ids.LineId.{LineId}
use Rattle.order_values.specs.declared.rule.Rule.{Rule}
use Rattle.order_values.specs.declared.rule.Rule.TheVariants.{Merge as merge_rule, Divide as divide_rule}
use Rattle.order_proof.specs.declared.line_word.LineWord.{LineWord}
use Rattle.order_proof.specs.declared.line_word.LineWord.TheVariants.{Rules, Merge, Divide, Parts, Part, Split, Take, Close, Fork, Stop}

-- a line: its first word, and the numbers behind it
pub record Line : Type 0 where
  pub word : LineWord
  pub numbers : List ℤ

-- how each word is written
abbrev pub word_text : LineWord → List ℕ
word_text Rules = codes "rules"
word_text Merge = codes "merge"
word_text Divide = codes "divide"
word_text Parts = codes "parts"
word_text Part = codes "part"
word_text Split = codes "split"
word_text Take = codes "take"
word_text Close = codes "close"
word_text Fork = codes "fork"
word_text Stop = codes "stop"

-- whether the line of a node of a dual tree begins with this word
abbrev pub is_dual_word : LineWord → Bool
is_dual_word Fork = true
is_dual_word Stop = true
is_dual_word word = false

-- a line as it is written
abbrev pub line_text : Line → List ℕ
line_text line = word_text line.word ++ numbers_text line.numbers

-- the numbers of segments, of lines, and of terms with their prices
abbrev pub segment_numbers : List SegId → List ℤ
segment_numbers [] = []
segment_numbers (s ∷ rest) = pos s.0 ∷ segment_numbers rest

abbrev pub line_numbers : List LineId → List ℤ
line_numbers [] = []
line_numbers (a ∷ rest) = pos a.0 ∷ line_numbers rest

abbrev pub price_numbers : List (ℕ × ℤ) → List ℤ
price_numbers [] = []
price_numbers (p ∷ rest) = pos p.0 ∷ p.1 ∷ price_numbers rest

abbrev pub bit : Bool → ℕ
bit b = if b then 1 else 0

-- `rules R`
abbrev pub rules_line : ℕ → Line
rules_line count = record { word = Rules; numbers = pos count ∷ [] }

-- `merge E F B` and `divide E LINE ..`
abbrev pub rule_line : Rule → Line
rule_line (merge_rule into from flip) = record { word = Merge; numbers = pos into.0 ∷ pos from.0 ∷ pos (bit flip) ∷ [] }
rule_line (divide_rule seg first) = record { word = Divide; numbers = pos seg.0 ∷ line_numbers first }

-- `parts P`
abbrev pub parts_line : ℕ → Line
parts_line count = record { word = Parts; numbers = pos count ∷ [] }

-- `part T SEG ..`
abbrev pub part_line : ℕ → List SegId → Line
part_line target segs = record { word = Part; numbers = pos target ∷ segment_numbers segs }

-- `split SEG COUNT`
abbrev pub split_line : SegId → ℕ → Line
split_line seg count = record { word = Split; numbers = pos seg.0 ∷ pos count ∷ [] }

-- `take LINE`
abbrev pub take_line : LineId → Line
take_line a = record { word = Take; numbers = pos a.0 ∷ [] }

-- prices behind their count
abbrev pub prices_line : LineWord → List (ℕ × ℤ) → Line
prices_line word prices = record { word = word; numbers = pos (length prices) ∷ price_numbers prices }

-- `close COUNT TERM PRICE ..`
abbrev pub close_line : List (ℕ × ℤ) → Line
close_line prices = prices_line Close prices

-- `fork SEG A B`
abbrev pub fork_line : SegId → LineId → LineId → Line
fork_line seg a b = record { word = Fork; numbers = pos seg.0 ∷ pos a.0 ∷ pos b.0 ∷ [] }

-- `stop COUNT TERM PRICE ..`
abbrev pub stop_line : List (ℕ × ℤ) → Line
stop_line prices = prices_line Stop prices
