-- Reading a proof from the front of a text, line by line: what is due next, and the first line that has not the form due.
use Rattle.std.specs.Prelude.{ℕ, zero, suc, ◌-◌, ℤ, List, [], ◌∷◌, ◌++◌, length, Option, Some, None, option_map, Result, Ok, Err, if◌then◌else◌}
use Rattle.map_base.specs.declared.ids.LineId.{LineId}
use Rattle.order_proof.specs.declared.line_word.LineWord.{LineWord}
use Rattle.order_proof.specs.declared.node_line.NodeLine.{NodeLine}
use Rattle.order_proof.specs.declared.dual_line.DualLine.{DualLine}
use Rattle.order_proof.specs.Trees.{most_depth}
use Rattle.order_proof.specs.Lines.{is_dual_word}
use Rattle.order_proof.specs.FrontLine.{front}
use Rattle.order_proof.specs.Forms.{rules_in, rule_in, parts_in, part_in, node_in, dual_in, take_in}

-- What may be due: the number of rules; a rule, and so many more; the number of parts; a part with its tree, and so
-- many more; a part's tree of either kind; a tree with so many splits at most on a way to a leaf; a case of a split with
-- the lines that are taken already, and so many more cases; a dual tree with so many forks at most on a way to a stop.
pub data Due : Type 0 where
  RuleCount : Due
  ARule : (more : ℕ) → Due
  PartCount : Due
  APart : (more : ℕ) → Due
  APartTree : Due
  ATree : (room : ℕ) → Due
  ACase : (more : ℕ) (taken : List LineId) (room : ℕ) → Due
  ADual : (room : ℕ) → Due

-- so many rules, parts and cases
abbrev pub rules_due : ℕ → List Due
rules_due zero = []
rules_due (suc more) = ARule more ∷ []

abbrev pub parts_due : ℕ → List Due
parts_due zero = []
parts_due (suc more) = APart more ∷ []

abbrev pub cases_due : ℕ → List LineId → ℕ → List Due
cases_due zero taken room = []
cases_due (suc more) taken room = ACase more taken room ∷ []

-- what is due after the line of a node
abbrev pub node_due : ℕ → NodeLine → List Due
node_due room (NodeLine.Split seg count) = cases_due count [] (room - 1)
node_due room (NodeLine.Close prices) = []

abbrev pub after_node : ℕ → LineWord → List ℤ → Option (List Due)
after_node room word numbers = option_map (node_due room) (node_in room word numbers)

-- what is due after the line of a node of a dual tree: both trees of a fork
abbrev pub dual_due : ℕ → DualLine → List Due
dual_due room (DualLine.Fork seg a b) = ADual (room - 1) ∷ ADual (room - 1) ∷ []
dual_due room (DualLine.Stop prices) = []

abbrev pub after_dual : ℕ → LineWord → List ℤ → Option (List Due)
after_dual room word numbers = option_map (dual_due room) (dual_in room word numbers)

-- What is due in place of something after a line, none where the line has not the form due. The first line of a part's
-- tree decides its kind.
abbrev pub after : Due → LineWord → List ℤ → Option (List Due)
after RuleCount word numbers = option_map (λ count. rules_due count ++ (PartCount ∷ [])) (rules_in word numbers)
after (ARule more) word numbers = option_map (λ rule. rules_due more) (rule_in word numbers)
after PartCount word numbers = option_map parts_due (parts_in word numbers)
after (APart more) word numbers = option_map (λ part. APartTree ∷ parts_due more) (part_in word numbers)
after APartTree word numbers = if is_dual_word word then after_dual most_depth word numbers else after_node most_depth word numbers
after (ATree room) word numbers = after_node room word numbers
after (ADual room) word numbers = after_dual room word numbers
after (ACase more taken room) word numbers = option_map (λ a. ATree room ∷ cases_due more (taken ++ a ∷ []) room) (take_in taken word numbers)

-- goes on behind a line of the form due, or stops before a line that has another
abbrev pub go_on : Option (List Due × List ℕ) → List ℕ → (List Due → List ℕ → Result (List ℕ) (List ℕ)) → Result (List ℕ) (List ℕ)
go_on None text next = Err text
go_on (Some x) text next = next x.0 x.1

-- at most so many lines
abbrev pub read_lines : ℕ → List Due → List ℕ → Result (List ℕ) (List ℕ)
read_lines most [] text = Ok text
read_lines zero (due ∷ later) text = Err text
read_lines (suc most) (due ∷ later) text = go_on (front (after due) text) text (λ more rest. read_lines most (more ++ later) rest)

-- What is left of a text once all that is due is read; or, with Err, what is left of it from the start of the first
-- line on that has not the form due there. A line has a byte at least, so there are no more lines than bytes.
unfoldable pub reading : List Due → List ℕ → Result (List ℕ) (List ℕ)
reading due text = read_lines (length text) due text

abbrev pub place_of : List ℕ → Result (List ℕ) (List ℕ) → Result ℕ ℕ
place_of text (Ok left) = Ok (length text - length left)
place_of text (Err left) = Err (length text - length left)

-- How many bytes at the front of a text are a proof's text; or, with Err, where the first line begins that has not
-- the form due there: the length of the text, where a line is missing at its end.
abbrev pub proof_end : List ℕ → Result ℕ ℕ
proof_end text = place_of text (reading (RuleCount ∷ []) text)
