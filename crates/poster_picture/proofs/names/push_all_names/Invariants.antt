use Rattle.std.proofs.Common.{◌≡◌, ◌++◌, string_bytes}
use Rattle.std.specs.List.{flat_map, range_with_len}
use Rattle.poster_plan.specs.Placing.{mark_numbered}
use Rattle.poster_rules.specs.Elements.{texts}
use Rattle.poster_rules.specs.Posters.{name_where, printed_of}
use Rattle.poster_picture.specs.Sheets.{plain}
use Rattle.poster_picture.proofs.names.push_all_names.Given as goal

-- the names of the marks so far
abbrev pub invariant-loop-i : goal.invariant-loop-i
invariant-loop-i l =
    string_bytes l.text ≡ string_bytes l.fn.text ++ texts (flat_map (λ i. name_where (plain l.sheet) (mark_numbered l.plan.marks i) (printed_of l.printed i)) (range_with_len 0 l.i))
