use Rattle.std.proofs.Common.{◌≡◌, ℕ, ◌<◌, false, get_or, length, take}
use Rattle.std.specs.List.{list_any}
use Rattle.poster_rules.specs.Texts.{all_rests}
use Rattle.poster_graph.specs.Words.{is_second_by}
use Rattle.poster_graph.proofs.texts.second_platforms.Given as goal

-- those that the segments so far make second platforms are flagged
abbrev pub invariant-loop-s : goal.invariant-loop-s
invariant-loop-s l = record {
  each : length l.seconds.items ≡ length l.graph.kinds;
  of : (n : ℕ) → n < length l.graph.kinds → get_or l.seconds.items n false ≡ list_any (is_second_by (all_rests l.names l.graph) n) (take l.s l.graph.ends);
}
