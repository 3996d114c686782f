use Rattle.std.proofs.Common.{◌≡◌, ◌++◌, string_bytes}
use Rattle.std.specs.List.{flat_map, range_with_len}
use Rattle.svg_writer.specs.Elements.{texts}
use Rattle.svg_writer.specs.Picture.{placed_label, kind_at, spot_at}
use Rattle.svg_writer.proofs.stations.push_placed_labels.Given as goal

abbrev pub invariant-loop-n : goal.invariant-loop-n
invariant-loop-n g l = string_bytes l.text ≡ string_bytes l.fn.text ++ texts l.scene.style (flat_map (λ n. placed_label l.scene.names.now (kind_at l.scene.graph.now.kinds n) (spot_at l.spots n)) (range_with_len 0 l.n))
