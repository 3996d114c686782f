-- Worked examples of the definitions.
use Rattle.std.proofs.Common.{◌≡◌, ℕ, true, false, pos, negsuc, List, [], ◌∷◌, Some, refl}
use Rattle.map_base.specs.declared.limit.LimitKind.TheVariants as limit
use Rattle.map_base.specs.declared.point.Point.{Point}
use Rattle.grid_board.specs.declared.bounds.Bounds.{Bounds}
use Rattle.start_positions.specs.declared.placing.Offset.{Offset}
use Rattle.start_positions.specs.Cells.{cell_side, fine_cells, grid_of, is_too_fine, limit_of, offsets_of, root_up}
use Rattle.start_positions.specs.Homes.{homes_of}
use Rattle.start_positions.specs.Spreads.{even_place, spread_offsets}

abbrev places : List Point
places = record { x = pos 0; y = pos 0 } ∷ record { x = pos 11132; y = pos 0 } ∷ []

-- the automatic cell, and a cell that is too small by its count of cells on the finest grid
automatic : cell_side places 0 ≡ 223
automatic = refl

too_many_cells : fine_cells places 10 ≡ 4453
too_many_cells = refl

too_fine : is_too_fine places 10 ≡ true
too_fine = refl

as_many_as_allowed : is_too_fine (record { x = negsuc 499; y = pos 7 } ∷ record { x = pos 500; y = pos 0 } ∷ []) 10 ≡ false
as_many_as_allowed = refl

one_too_many : is_too_fine (record { x = negsuc 500; y = pos 7 } ∷ record { x = pos 500; y = pos 0 } ∷ []) 10 ≡ true
one_too_many = refl

never_too_fine : is_too_fine places 0 ≡ false
never_too_fine = refl

cells_found : limit_of places 10 ≡ Some (record { what = limit.Cells; found = 4453; most = 400 })
cells_found = refl

roots : root_up 2 ≡ 2
unfolding root_up
roots = refl

root_of_square : root_up 9 ≡ 3
unfolding root_up
root_of_square = refl

grid : grid_of places 223 1 ≡ record { left = negsuc 5; right = pos 56; bottom = negsuc 5; top = pos 6 }
unfolding root_up
grid = refl

homes : homes_of (grid_of places 223 1) 223 1 (offsets_of places) ≡ record { x = pos 0; y = pos 0 } ∷ record { x = pos 50; y = pos 0 } ∷ []
unfolding root_up
homes = refl

abbrev small : Bounds
small = record { left = negsuc 5; right = pos 6; bottom = negsuc 5; top = pos 6 }

abbrev at : ℕ → ℕ → Offset
at east north = record { east = east; north = north }

-- nodes of one place: the nearest that is unused, among equals the least y, then the least x
one_place : homes_of small 100 1 (at 0 0 ∷ at 0 0 ∷ at 0 0 ∷ at 0 0 ∷ at 0 0 ∷ at 0 0 ∷ [])
    ≡ record { x = pos 0; y = pos 0 } ∷ record { x = pos 0; y = negsuc 1 } ∷ record { x = negsuc 1; y = pos 0 } ∷ record { x = pos 2; y = pos 0 } ∷ record { x = pos 0; y = pos 2 }
    ∷ record { x = negsuc 1; y = negsuc 1 } ∷ []
one_place = refl

-- halfway between two columns
halfway : homes_of small 100 1 (at 100 0 ∷ []) ≡ record { x = pos 0; y = pos 0 } ∷ []
halfway = refl

-- the same place at twice the fineness
finer : homes_of small 100 2 (at 100 0 ∷ []) ≡ record { x = pos 2; y = pos 0 } ∷ []
finer = refl

-- spreading: four nodes, two of them with the middle of their ranks; each is at most put to its even place
abbrev crowded : List Point
crowded =
    record { x = pos 0; y = pos 0 } ∷ record { x = pos 100; y = pos 0 } ∷ record { x = pos 11132; y = pos 0 } ∷ record { x = pos 100; y = pos 0 } ∷ []

spread_whole : spread_offsets crowded 100 ≡ at 0 0 ∷ at 5566 0 ∷ at 11132 0 ∷ at 5566 0 ∷ []
spread_whole = refl

spread_half : spread_offsets crowded 50 ≡ at 0 0 ∷ at 2833 0 ∷ at 11132 0 ∷ at 2833 0 ∷ []
spread_half = refl

not_spread : spread_offsets crowded 0 ≡ offsets_of crowded
not_spread = refl

-- an even place is rounded down
rounded_down : even_place 7 (0 ∷ 1 ∷ 7 ∷ []) 1 ≡ 3
rounded_down = refl

-- a node that is alone, and nodes at one place, stay
alone : spread_offsets (record { x = pos 9; y = negsuc 4 } ∷ []) 100 ≡ at 0 0 ∷ []
alone = refl
