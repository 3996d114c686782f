-- What stands at the front of a text, line by line: the proof of a certificate.
use Rattle.std.specs.Prelude.{ℕ, zero, suc, ℤ, List, [], ◌∷◌, codes, Option, Some, None, bytes_eq, if◌then◌else◌}
use Rattle.map_base.specs.declared.ids.SegId.{SegId}
use Rattle.decimal_text.specs.Numbers.{natural_within, from_to}
use Rattle.map_base.specs.declared.ids.LineId.{LineId}
use Rattle.order_values.specs.DualTrees.{PlainDual, fork, stop}
use Rattle.order_proof.specs.Plain.{PlainTree, split, close, Cases, no_case, case_of, PlainPartTree, by_cases, by_pairs, PlainPart, PlainProof}
use Rattle.order_proof.specs.Trees.{most_depth}
use Rattle.order_proof.specs.FrontLine.{front, begins_dual}
use Rattle.order_proof.specs.Lines.{word_text}
use Rattle.order_proof.specs.Forms.{most_id, most_cases, most_price, most_stop_price, seg, line_id, prices_from, rules_in, rule_in, parts_in, part_in, take_in}

-- what is read behind a value at the front, where it is there
abbrev pub and_then : {A B : Type 0} → Option (A × List ℕ) → (A → List ℕ → Option B) → Option B
and_then None next = None
and_then (Some x) next = next x.0 x.1

-- so many things, one behind the other, where `one` reads thing k
abbrev pub all_at : {A : Type 0} → (ℕ → List ℕ → Option (A × List ℕ)) → ℕ → ℕ → List ℕ → Option (List A × List ℕ)
all_at one k zero text = Some ([], text)
all_at one k (suc more) text =
    and_then (one k text) (λ a behind. and_then (all_at one (suc k) more behind)
    (λ others rest. Some (a ∷ others, rest)))

-- so many cases of a split: the line of each, and its tree
abbrev pub cases_at : (List ℕ → Option (PlainTree × List ℕ)) → ℕ → List ℕ → Option (Cases × List ℕ)
cases_at tree zero text = Some (no_case, text)
cases_at tree (suc more) text =
    and_then (front (take_in []) text)
    (λ line under. and_then (tree under)
    (λ child behind. and_then (cases_at tree more behind)
    (λ others rest. Some (case_of line child others, rest))))

-- the word and the numbers of a line
abbrev pub spoken_at : List ℕ → Option ((List ℕ × List ℤ) × List ℕ)
spoken_at text = front (λ word numbers. Some (word_text word, numbers)) text

-- the segment of a split, and how many cases it has
abbrev pub split_by : Option ℕ → Option ℕ → Option (SegId × ℕ)
split_by (Some e) (Some count) = Some (seg e, count)
split_by e count = None

abbrev pub split_in : List ℤ → Option (SegId × ℕ)
split_in (e ∷ count ∷ []) = split_by (natural_within most_id e) (from_to 1 most_cases count)
split_in numbers = None

-- prices of at most so much, with their number before them
abbrev pub prices_in : ℕ → List ℤ → Option (List (ℕ × ℤ))
prices_in most [] = None
prices_in most (count ∷ numbers) = prices_from most 0 numbers

-- a split with its cases
abbrev pub split_with : (ℕ → List ℕ → Option (Cases × List ℕ)) → List ℕ → Option (SegId × ℕ)
    → Option (PlainTree × List ℕ)
split_with cases text None = None
split_with cases text (Some s) = and_then (cases s.1 text) (λ children rest. Some (split s.0 children, rest))

-- a close with its prices
abbrev pub close_with : List ℕ → Option (List (ℕ × ℤ)) → Option (PlainTree × List ℕ)
close_with text None = None
close_with text (Some prices) = Some (close prices, text)

-- a tree, behind the line of its first node
abbrev pub tree_with : (ℕ → List ℕ → Option (Cases × List ℕ)) → List ℕ × List ℤ → List ℕ → Option (PlainTree × List ℕ)
tree_with cases line text =
    if bytes_eq line.0 (codes "split") then split_with cases text (split_in line.1) else close_with text
    (prices_in most_price line.1)

-- a tree with at most so many splits on a way to a leaf
unfoldable pub tree_at : ℕ → List ℕ → Option (PlainTree × List ℕ)
tree_at zero text = and_then (spoken_at text) (tree_with (λ count under. None))
tree_at (suc room) text = and_then (spoken_at text) (tree_with (cases_at (tree_at room)))

-- the segment of a fork, and its two lines
abbrev pub fork_by : Option ℕ → Option ℕ → Option ℕ → Option (SegId × LineId × LineId)
fork_by (Some e) (Some a) (Some b) = Some (seg e, line_id a, line_id b)
fork_by e a b = None

abbrev pub fork_in : List ℤ → Option (SegId × LineId × LineId)
fork_in (e ∷ a ∷ b ∷ []) = fork_by (natural_within most_id e) (natural_within most_id a) (natural_within most_id b)
fork_in numbers = None

-- a fork with its two trees
abbrev pub fork_with : (List ℕ → Option (PlainDual × List ℕ)) → List ℕ → Option (SegId × LineId × LineId)
    → Option (PlainDual × List ℕ)
fork_with below text None = None
fork_with below text (Some s) =
    and_then (below text) (λ first behind. and_then (below behind)
    (λ second rest. Some (fork s.0 s.1 s.2 first second, rest)))

-- a stop with its prices
abbrev pub stop_with : List ℕ → Option (List (ℕ × ℤ)) → Option (PlainDual × List ℕ)
stop_with text None = None
stop_with text (Some prices) = Some (stop prices, text)

-- a dual tree, behind the line of its first node
abbrev pub dual_with : (List ℕ → Option (PlainDual × List ℕ)) → List ℕ × List ℤ → List ℕ → Option (PlainDual × List ℕ)
dual_with below line text =
    if bytes_eq line.0 (codes "fork") then fork_with below text (fork_in line.1) else stop_with text
    (prices_in most_stop_price line.1)

-- a dual tree with at most so many forks on a way to a stop
unfoldable pub dual_at : ℕ → List ℕ → Option (PlainDual × List ℕ)
dual_at zero text = and_then (spoken_at text) (dual_with (λ under. None))
dual_at (suc room) text = and_then (spoken_at text) (dual_with (dual_at room))

-- a part's tree, of the kind that its first bytes tell
abbrev pub part_tree_at : List ℕ → Option (PlainPartTree × List ℕ)
part_tree_at text =
    if begins_dual text then and_then (dual_at most_depth text) (λ tree rest. Some (by_pairs tree, rest))
    else and_then (tree_at most_depth text) (λ tree rest. Some (by_cases tree, rest))

-- a part: its target and segments, and its tree
unfoldable pub part_at : List ℕ → Option (PlainPart × List ℕ)
part_at text =
    and_then (front part_in text)
    (λ head under. and_then (part_tree_at under)
    (λ tree rest. Some (record { segs = head.1; target = head.0; tree = tree }, rest)))

-- a proof: its rules and its parts, each kind counted before it
unfoldable pub proof_at : List ℕ → Option (PlainProof × List ℕ)
proof_at text =
    and_then (front rules_in text)
    (λ rule_count at_rules. and_then (all_at (λ k. front rule_in) 0 rule_count at_rules)
    (λ rules behind. and_then (front parts_in behind)
    (λ part_count at_parts. and_then (all_at (λ k. part_at) 0 part_count at_parts)
    (λ parts rest. Some (record { rules = rules; parts = parts }, rest)))))
