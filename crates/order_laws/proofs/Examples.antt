-- Prefixes of two lines, computed.
use Rattle.std.proofs.Common.{◌≡◌, refl, false, [], ◌∷◌}
use Rattle.map_base.specs.declared.ids.LineId.{LineId}
use Rattle.map_base.specs.declared.ids.SegId.{SegId}
use Rattle.order_search.specs.Finding.{incomplete_in}
use Rattle.order_laws.specs.Counts.{are_complete, are_lines_of}
use Rattle.order_laws.proofs.Prefixes.{prefixes}

abbrev first : LineId
first = record { 0 = 0 }

abbrev second : LineId
second = record { 0 = 1 }

abbrev segment : SegId
segment = record { 0 = 0 }

-- none is placed, or both are
of_two : prefixes 2 (first ∷ second ∷ []) ≡ [] ∷ (first ∷ second ∷ []) ∷ (second ∷ first ∷ []) ∷ []
of_two = refl

one_is_incomplete : incomplete_in ((first ∷ second ∷ []) ∷ []) (segment ∷ []) ≡ 1
one_is_incomplete = refl

nothing_placed : are_complete ((first ∷ second ∷ []) ∷ []) (segment ∷ []) ([] ∷ []) ≡ false
nothing_placed = refl

one_twice : are_lines_of (first ∷ second ∷ []) (first ∷ first ∷ []) ≡ false
one_twice = refl
