-- What is above the limit stays above it where more is added.
use Rattle.std.proofs.Common.{◌≡◌, ℕ, ◌+◌, ◌-◌, ◌<◌, ◌≤◌, List, ◌++◌, length, get_or, take, ap, arith, length-append, vec_len}
use Rattle.std.specs.declared.vec.Vec.{Vec}
use Rattle.std.specs.List.{flat_map}
use Rattle.std.proofs.lemmas.List.Folds.{length-flat_map-take}
use Rattle.map_base.specs.declared.limit_fault.LimitFault.{LimitFault}
use Rattle.map_base.specs.declared.limit_fault.LimitFault.TheVariants.{Limit, NoMemory}
use Rattle.order_terms.specs.Limits.{IsAbove}

pub above_more : (most m n : ℕ) (e : LimitFault) → m ≤ n → IsAbove most m e → IsAbove most n e
above_more most m n (Limit l) le h = (omega (arith, h.0), h.1)
above_more most m n NoMemory le h = tt

-- in a loop that adds what f gives of each element
pub above_in_loop : {X Y Z : Type 0} (f : X → List Y) (xs : List X) (i : ℕ) (d : X) (most : ℕ) (old new : Vec Y Z) (e : LimitFault)
    → i < length xs → new.items ≡ old.items ++ flat_map f (take i xs)
    → IsAbove most (vec_len new + length (f (get_or xs i d))) e
    → IsAbove most (vec_len old + length (flat_map f xs)) e
above_in_loop f xs i d most old new e below grown h =
    above_more most _ _ e
    (omega (arith, length-flat_map-take f xs i d below, ap length grown, old.ok.0, new.ok.0, length-append old.items (flat_map f (take i xs))))
    h

-- the same from an empty list
pub above_from_empty : {X Y Z : Type 0} (f : X → List Y) (xs : List X) (i : ℕ) (d : X) (most : ℕ) (new : Vec Y Z) (e : LimitFault)
    → i < length xs → new.items ≡ flat_map f (take i xs)
    → IsAbove most (vec_len new + length (f (get_or xs i d))) e
    → IsAbove most (length (flat_map f xs)) e
above_from_empty f xs i d most new e below grown h =
    above_more most _ _ e (omega (arith, length-flat_map-take f xs i d below, ap length grown, new.ok.0)) h

-- what is above the room that is left is above the whole
pub above_room : (most old n : ℕ) (e : LimitFault) → old ≤ most → IsAbove (most - old) n e → IsAbove most (old + n) e
above_room most old n (Limit l) le h = (omega (arith, h.0), h.1)
above_room most old n NoMemory le h = tt
