-- The definitions at small values.
use Rattle.std.proofs.Common.{◌≡◌, ◌-◌, ◌^◌, [], ◌∷◌, None, Some, Ok, Err, refl}
use Rattle.map_base.specs.declared.limit.LimitKind.TheVariants.{File}
use Rattle.files_door.specs.declared.target.Target.{Target}
use Rattle.files_door.specs.declared.target.Target.TheVariants.{Said, Path}
use Rattle.files_door.specs.declared.reading.DoorFault.TheVariants.{Absent, TooLong}
use Rattle.files_door.specs.Acts.{after, begun, put}
use Rattle.files_door.specs.Counts.{next_count}
use Rattle.files_door.specs.Files.{file_at}
use Rattle.files_door.specs.Reading.{whole_file}
use Rattle.files_door.specs.Targets.{held_by}

first_of_a_path : file_at ((7 ∷ [], 1 ∷ []) ∷ (8 ∷ [], 2 ∷ []) ∷ (8 ∷ [], 3 ∷ []) ∷ []) (8 ∷ []) ≡ Some (2 ∷ [])
first_of_a_path = refl

longer_path : file_at ((8 ∷ [], 2 ∷ []) ∷ []) (8 ∷ 8 ∷ []) ≡ None
longer_path = refl

as_long_as_allowed : whole_file (Some (1 ∷ 2 ∷ [])) 2 ≡ Ok (1 ∷ 2 ∷ [])
as_long_as_allowed = refl

one_byte_longer : whole_file (Some (1 ∷ 2 ∷ [])) 1 ≡ Err (TooLong (record { what = File; found = 2; most = 1 }))
one_byte_longer = refl

no_such_file : whole_file None 2 ≡ Err Absent
no_such_file = refl

abbrev map : Target
map = Path (9 ∷ [])

file_is_emptied : after (begun map ∷ put map 1 ∷ begun map ∷ put map 2 ∷ []) [] ≡ (map, 2 ∷ []) ∷ []
file_is_emptied = refl

said_is_kept : after (begun Said ∷ put Said 1 ∷ begun map ∷ begun Said ∷ put Said 2 ∷ []) [] ≡ (Said, 1 ∷ 2 ∷ []) ∷ (map, []) ∷ []
said_is_kept = refl

never_begun : after (put Said 1 ∷ []) [] ≡ []
never_begun = refl

empty_is_begun : held_by map (after (begun map ∷ []) []) ≡ Some []
empty_is_begun = refl

other_is_not : held_by Said (after (begun map ∷ []) []) ≡ None
other_is_not = refl

stays_at_the_greatest : next_count (2 ^ 64 - 1) ≡ 2 ^ 64 - 1
stays_at_the_greatest = refl
