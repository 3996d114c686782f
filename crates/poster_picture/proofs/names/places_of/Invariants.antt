use Rattle.std.proofs.Common.{◌≡◌, ℕ, ◌<◌, None, get_or, length, take}
use Rattle.poster_rules.specs.Posters.{printed_of}
use Rattle.poster_picture.proofs.names.places_of.Given as goal

-- the names so far are noted
abbrev pub invariant-loop-name : goal.invariant-loop-name
invariant-loop-name l = record {
  each : length l.places.items ≡ l.count;
  noted : (i : ℕ) → i < l.count → get_or l.places.items i None ≡ printed_of (take l.name-index l.printed) i;
}
