use Rattle.std.proofs.Common.{◌≡◌, ◌++◌, take, length, codes, string_bytes}
use Rattle.std.specs.List.{flat_map}
use Rattle.std.specs.Fmt.{decimal}
use Rattle.run_status.specs.Items.{next_line}
use Rattle.run_status.proofs.item.part_text.Given as goal

abbrev pub invariant-loop-line : goal.invariant-loop-line
invariant-loop-line l =
    string_bytes l.text ≡ codes "part " ++ (decimal l.fn.index ++ (codes " after " ++ (decimal (length l.after) ++ flat_map next_line (take l.line-index l.after))))
