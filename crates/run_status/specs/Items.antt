-- How an item that a check refuses is named.
use Rattle.std.specs.Prelude.{ℕ, true, false, List, ◌++◌, length, codes}
use Rattle.std.specs.List.{flat_map}
use Rattle.std.specs.Fmt.{decimal}
use Rattle.map_base.specs.declared.ids.LineId.{LineId}
use Rattle.order_check.specs.declared.refusal.ProofItem.{ProofItem}
use Rattle.order_check.specs.declared.refusal.ProofItem.TheVariants as proof
use Rattle.map_faults.specs.declared.fault.CheckItem.{CheckItem}
use Rattle.map_faults.specs.declared.fault.CheckItem.TheVariants as check
use Rattle.run_status.specs.declared.item.Item.{Item}
use Rattle.run_status.specs.declared.item.Item.TheVariants as item

-- a space and the number of a line
abbrev pub next_line : LineId → List ℕ
next_line line = codes " " ++ decimal line.0

-- a part of a proof, with the number of lines that are taken on the way to the node that fails, and these lines
abbrev pub part_text : ℕ → List LineId → List ℕ
part_text index after = codes "part " ++ (decimal index ++ (codes " after " ++ (decimal (length after) ++ flat_map next_line after)))

-- an item of a proof
abbrev pub proof_text : ProofItem → List ℕ
proof_text (proof.Rule index) = codes "rule " ++ decimal index
proof_text (proof.Part index after) = part_text index after
proof_text proof.Total = codes "total"

-- an item of the check
abbrev pub check_text : CheckItem → List ℕ
check_text (check.Text at) = codes "text " ++ decimal at
check_text check.Graph = codes "graph"
check_text check.Importance = codes "importance"
check_text (check.Walk seg why) = codes "walk " ++ decimal seg.0
check_text (check.Order seg) = codes "order " ++ decimal seg.0
check_text check.Cost = codes "cost"
check_text (check.Proof found) = proof_text found
check_text (check.Picture at) = codes "picture " ++ decimal at

-- what is refused of a map and its certificate
abbrev pub item_text : Item → List ℕ
item_text (item.Missing false) = codes "certificate missing"
item_text (item.Missing true) = codes "picture missing"
item_text (item.Found found) = check_text found
