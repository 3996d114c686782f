-- The forms that lines may have, and what a line of each form says.
use Rattle.std.specs.Prelude.{ℕ, zero, suc, ◌^◌, ◌-◌, ◌==◌, ℤ, pos, negsuc, Bool, true, false, List, [], ◌∷◌, length, Option, Some, None, option_map, if◌then◌else◌, nat_lt}
use Rattle.std.specs.Option.{option_and_then}
use Rattle.map_base.specs.declared.ids.SegId.{SegId}
use Rattle.map_base.specs.declared.ids.LineId.{LineId}
use Rattle.order_values.specs.declared.rule.Rule.{Rule}
use Rattle.order_values.specs.declared.rule.Rule.TheVariants.{Merge as merge_rule, Divide as divide_rule}
use Rattle.order_proof.specs.declared.line_word.LineWord.{LineWord}
use Rattle.order_proof.specs.declared.line_word.LineWord.TheVariants.{Rules, Merge, Divide, Parts, Part, Split, Take, Close, Fork, Stop}
use Rattle.order_proof.specs.declared.node_line.NodeLine.{NodeLine}
use Rattle.order_proof.specs.declared.dual_line.DualLine.{DualLine}
use Rattle.decimal_text.specs.Numbers.{up_to, natural_within, from_to}
use Rattle.order_proof.specs.Trees.{is_among}

-- how many rules, and how many parts, a proof may have
abbrev pub most_items : ℕ
most_items = 20000000

-- the greatest number of a segment, a line or a term
abbrev pub most_id : ℕ
most_id = 2 ^ 32 - 1

-- how many cases a split may have
abbrev pub most_cases : ℕ
most_cases = 1000

-- the greatest target
abbrev pub most_target : ℕ
most_target = 10 ^ 15

-- the greatest price of a closed case, either way
abbrev pub most_price : ℕ
most_price = 10 ^ 9

-- the greatest price of a stop, either way
abbrev pub most_stop_price : ℕ
most_stop_price = 10 ^ 12

-- the segment, and the line, of a number
abbrev pub seg : ℕ → SegId
seg n = record { 0 = n }

abbrev pub line_id : ℕ → LineId
line_id n = record { 0 = n }

-- things by their numbers, which rise strictly, the first of them at least `least`
abbrev pub rising : {A : Type 0} → (ℕ → A) → ℕ → List ℤ → Option (List A)
rising make least [] = Some []
rising make least (z ∷ rest) = option_and_then (λ n. option_map (λ more. make n ∷ more) (rising make (suc n) rest)) (from_to least most_id z)

-- a price: not 0, and at most the greatest either way
abbrev pub price_of : ℕ → ℤ → Option ℤ
price_of most (pos zero) = None
price_of most (pos (suc n)) = option_map pos (up_to most (suc n))
price_of most (negsuc n) = if nat_lt n most then Some (negsuc n) else None

-- the number of a term, at least `least`, and its price
abbrev pub term_with : Option ℕ → Option ℤ → Option (ℕ × ℤ)
term_with None price = None
term_with (Some term) None = None
term_with (Some term) (Some price) = Some (term, price)

abbrev pub priced_term : ℕ → ℕ → ℤ → ℤ → Option (ℕ × ℤ)
priced_term most least term price = term_with (from_to least most_id term) (price_of most price)

-- prices of at most so much, each behind the number of its term, which rise strictly
abbrev pub prices_from : ℕ → ℕ → List ℤ → Option (List (ℕ × ℤ))
prices_from most least [] = Some []
prices_from most least (term ∷ []) = None
prices_from most least (term ∷ price ∷ rest) =
    option_and_then (λ p. option_map (λ more. p ∷ more) (prices_from most (suc p.0) rest)) (priced_term most least term price)

-- whether a number counts so many things
abbrev pub counts : ℕ → ℤ → Bool
counts n (pos m) = n == m
counts n (negsuc m) = false

-- prices of at most so much behind their count
abbrev pub counted_prices : ℕ → ℤ → List ℤ → Option (List (ℕ × ℤ))
counted_prices most count numbers =
    option_and_then (λ prices. if counts (length prices) count then Some prices else None) (prices_from most 0 numbers)

-- what `0` and `1` stand for
abbrev pub flag_of : ℤ → Option Bool
flag_of (pos zero) = Some false
flag_of (pos (suc zero)) = Some true
flag_of (pos (suc (suc n))) = None
flag_of (negsuc n) = None

-- `rules R`
abbrev pub rules_in : LineWord → List ℤ → Option ℕ
rules_in Rules (count ∷ []) = natural_within most_items count
rules_in word numbers = None

-- the rule that merges two segments, where both and the flag are there
abbrev pub merge_with : Option ℕ → Option ℕ → Option Bool → Option Rule
merge_with (Some into) (Some from) (Some flip) = Some (merge_rule (seg into) (seg from) flip)
merge_with into from flip = None

-- `merge E F B` or `divide E LINE ..`
abbrev pub rule_in : LineWord → List ℤ → Option Rule
rule_in Merge (into ∷ from ∷ flip ∷ []) = merge_with (natural_within most_id into) (natural_within most_id from) (flag_of flip)
rule_in Divide (e ∷ lines) = option_and_then (λ n. option_map (divide_rule (seg n)) (rising line_id 0 lines)) (natural_within most_id e)
rule_in word numbers = None

-- `parts P`
abbrev pub parts_in : LineWord → List ℤ → Option ℕ
parts_in Parts (count ∷ []) = natural_within most_items count
parts_in word numbers = None

-- `part T SEG ..`: the target and the segments
abbrev pub part_in : LineWord → List ℤ → Option (ℕ × List SegId)
part_in Part (target ∷ segs) = option_and_then (λ t. option_map (λ list. (t, list)) (rising seg 0 segs)) (natural_within most_target target)
part_in word numbers = None

-- a split, where one more is allowed
abbrev pub split_with : ℕ → Option ℕ → Option ℕ → Option NodeLine
split_with (suc room) (Some e) (Some count) = Some (NodeLine.Split (seg e) count)
split_with room e count = None

-- `split SEG COUNT`, where there is room for one more split, or `close COUNT TERM PRICE ..`
abbrev pub node_in : ℕ → LineWord → List ℤ → Option NodeLine
node_in room Split (e ∷ count ∷ []) = split_with room (natural_within most_id e) (from_to 1 most_cases count)
node_in room Close (count ∷ numbers) = option_map NodeLine.Close (counted_prices most_price count numbers)
node_in room word numbers = None

-- a fork, where one more is allowed
abbrev pub fork_with : ℕ → Option ℕ → Option ℕ → Option ℕ → Option DualLine
fork_with (suc room) (Some e) (Some a) (Some b) = Some (DualLine.Fork (seg e) (line_id a) (line_id b))
fork_with room e a b = None

-- `fork SEG A B`, where there is room for one more fork, or `stop COUNT TERM PRICE ..`
abbrev pub dual_in : ℕ → LineWord → List ℤ → Option DualLine
dual_in room Fork (e ∷ a ∷ b ∷ []) = fork_with room (natural_within most_id e) (natural_within most_id a) (natural_within most_id b)
dual_in room Stop (count ∷ numbers) = option_map DualLine.Stop (counted_prices most_stop_price count numbers)
dual_in room word numbers = None

-- `take LINE`, of a line that is not taken yet
abbrev pub take_in : List LineId → LineWord → List ℤ → Option LineId
take_in taken Take (a ∷ []) = option_and_then (λ n. if is_among taken (line_id n) then None else Some (line_id n)) (natural_within most_id a)
take_in taken word numbers = None
