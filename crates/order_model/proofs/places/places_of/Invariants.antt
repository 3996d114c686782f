use Rattle.std.proofs.Common.{◌≡◌, ℕ, ◌<◌, length, get_or, []}
use Rattle.order_model.specs.Places.{places_in, tables_of}
use Rattle.order_model.proofs.places.places_of.Given as goal

abbrev pub invariant-loop-s : goal.invariant-loop-s
invariant-loop-s l =
    (length (tables_of l.places.items) ≡ l.s)
    × ((k : ℕ) → k < l.s → get_or (tables_of l.places.items) k [] ≡ places_in (get_or l.segs k []) (get_or l.lists k []))
