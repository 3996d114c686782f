-- Lists of numbers as they lie in memory.
use Rattle.std.proofs.Common.{◌≡◌, ℕ, ◌<◌, List, [], length, set, get_or, sym, ◌∙◌, ap}
use Rattle.std.specs.Prelude.{Vec}
use Rattle.std.specs.Global.{Global}
use Rattle.std.proofs.lemmas.List.{get_or-map, map-set}
use Rattle.order_model.specs.Places.{tables_of}

items : Vec ℕ Global → List ℕ
items v = v.items

pub table_changed : (on : List (Vec ℕ Global)) (k : ℕ) (old fresh : Vec ℕ Global) (f : List ℕ → List ℕ) → k < length on → old ≡ get_or on k old
    → fresh.items ≡ f old.items → tables_of (set on k fresh) ≡ set (tables_of on) k (f (get_or (tables_of on) k []))
unfolding items
table_changed on k old fresh f below here changed =
    let was : old.items ≡ get_or (tables_of on) k [] = ap items here ∙ sym (get_or-map items on k old [] below) in
    map-set items on k fresh ∙ ap (λ (l : List ℕ). set (tables_of on) k l) (changed ∙ ap f was)

pub table_emptied : (on : List (Vec ℕ Global)) (k : ℕ) (fresh : Vec ℕ Global) → fresh.items ≡ [] → tables_of (set on k fresh) ≡ set (tables_of on) k []
unfolding items
table_emptied on k fresh empty = map-set items on k fresh ∙ ap (set (tables_of on) k) empty
