-- The room of names at a pitch, as tables hold it.
use Rattle.std.specs.Prelude.{ℕ, ◌≡◌, ◌≤◌, Bool, List, ◌++◌, map}
use Rattle.eight_sides.specs.declared.shape.Shape.{Shape}
use Rattle.poster_plan.specs.declared.things.Kin.TheVariants.{Nobody, Node}
use Rattle.poster_plan.specs.declared.things.Thing.{Thing}
use Rattle.poster_plan.specs.declared.plan.Mark.{Mark}
use Rattle.poster_plan.specs.declared.plan.Piece.{Piece}
use Rattle.poster_plan.specs.declared.plan.Plan.{Plan}
use Rattle.poster_plan.specs.declared.place.Place.{Place}
use Rattle.poster_plan.specs.declared.layout.Step.{Step}
use Rattle.poster_plan.specs.declared.layout.Printed.{Printed}
use Rattle.poster_plan.specs.Signs.{ground_at, piece_at, sign_of}
use Rattle.poster_plan.specs.Places.{place_shape}
use Rattle.poster_plan.specs.Placing.{is_clear, printed_shape, Placing}
use Rattle.poster_layout.specs.declared.room.Room.{Room}
use Rattle.poster_table.specs.Tables.{IsTable}

-- the ground of a station, which keeps the names of others away
abbrev pub ground_thing : ℕ → Mark → Thing
ground_thing u m = record { shape = ground_at u m; kin = Node m.node.0 }

-- a printed name, which keeps all away
abbrev pub name_thing : ℕ → Plan → Printed → Thing
name_thing u plan p = record { shape = printed_shape u plan p; kin = Nobody }

-- a straight piece, which keeps all names away
abbrev pub free_piece : ℕ → Piece → Thing
free_piece u p = record { shape = piece_at u p; kin = Nobody }

-- the name of a node at a shape
abbrev pub own : ℕ → Shape → Thing
own n shape = record { shape = shape; kin = Node n }

-- what names keep clear of beside lines, where these are printed
abbrev pub taken_things : ℕ → Plan → List Printed → List Thing
taken_things u plan printed = map (ground_thing u) plan.marks ++ map (name_thing u plan) printed

-- a place of the name of a mark is free in a step, where these are printed
abbrev pub is_free_at : ℕ → Plan → List Printed → Step → Mark → Place → Bool
is_free_at u plan printed z m p = is_clear u plan printed z m.node.0 (place_shape (sign_of u m) z p)

-- the tables of a room have what they should
pub record IsRoom (room : Room) : Type 0 where
  pub small : room.pitch ≤ 200
  pub taken : IsTable room.taken
  pub takes : room.taken.things.items ≡ taken_things room.pitch room.plan.now room.printed.items
  pub pieces : IsTable room.pieces
  pub lines : room.pieces.things.items ≡ map (free_piece room.pitch) room.plan.now.pieces

-- a room of the same plan at the same pitch, with these names
pub record IsRoomWith (old new : Room) (printed : List Printed) : Type 0 where
  pub room : IsRoom new
  pub pitch : new.pitch ≡ old.pitch
  pub plan : new.plan.now ≡ old.plan.now
  pub names : new.printed.items ≡ printed

-- names that are placed, by those of the room and those that are left
abbrev pub placing_of : Room → List ℕ → Placing
placing_of room left = record { printed = room.printed.items; left = left }
