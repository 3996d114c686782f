use Rattle.std.proofs.Common.{◌≡◌, ℕ, ◌<◌, get_or, false, ◌==◌}
use Rattle.svg_writer.specs.Picture.{no_line}
use Rattle.svg_writer.proofs.lines.place_in.Given as goal

-- none of the lines before is it
abbrev pub invariant-loop-place : goal.invariant-loop-place
invariant-loop-place l = (k : ℕ) → k < l.place → ((get_or l.order k no_line).0 == l.line.0) ≡ false
