-- How points and ids are printed.
use Rattle.std.specs.Prelude.{ℕ, List, [], ◌∷◌, ◌++◌, if◌then◌else◌, nat_lt}
use Rattle.std.specs.List.{flat_map}
use Rattle.std.specs.Fmt.{signed_decimal}
use Rattle.map_base.specs.declared.point.Point.{Point}

-- a byte of an id as it is printed: those of control characters become U+FFFD
abbrev pub printed_byte : ℕ → List ℕ
printed_byte byte = if nat_lt byte 32 then 239 ∷ 191 ∷ 189 ∷ [] else byte ∷ []

-- an id as it is printed, so that no id breaks a line
abbrev pub printed_id : List ℕ → List ℕ
printed_id id = flat_map printed_byte id

-- `X Y`
abbrev pub printed_point : Point → List ℕ
printed_point point = signed_decimal point.x ++ (32 ∷ signed_decimal point.y)

-- `X Y ID`, a line
abbrev pub point_line : Point → List ℕ → List ℕ
point_line point id = signed_decimal point.x ++ (32 ∷ (signed_decimal point.y ++ (32 ∷ (printed_id id ++ 10 ∷ []))))
