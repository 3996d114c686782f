-- Names that are placed in a room, one after another.
use Rattle.std.proofs.Common.{◌≡◌, ℕ, ◌+◌, ◌<◌, ◌≤◌, List, [], ◌∷◌, ◌++◌, length, map, fold, get_or, take, Option, Some, None, refl, ap, sym, subst, ◌∙◌, append_assoc}
use Rattle.std.proofs.lemmas.List.{map-append, take_more}
use Rattle.std.proofs.lemmas.List.Sums.{fold-append}
use Rattle.poster_plan.specs.declared.things.Thing.{Thing}
use Rattle.poster_plan.specs.declared.plan.Plan.{Plan}
use Rattle.poster_plan.specs.declared.layout.Step.{Step}
use Rattle.poster_plan.specs.declared.layout.Printed.{Printed}
use Rattle.poster_plan.specs.declared.place.Place.{Place}
use Rattle.poster_plan.specs.Placing.{place_names, place_next, with_place, Placing}
use Rattle.poster_layout.specs.declared.room.Room.{Room}
use Rattle.poster_layout.specs.Rooms.{free_piece, ground_thing, name_thing, placing_of, taken_things, IsRoom, IsRoomWith}
use Rattle.poster_table.specs.declared.table.Table.{Table}
use Rattle.poster_table.specs.Tables.{IsTable}

-- a room that follows another
pub room_then : (a b c : Room) (first second : List Printed) → IsRoomWith a b first → IsRoomWith b c second → IsRoomWith a c second
room_then a b c first second h k = record { room = k.room; pitch = k.pitch ∙ h.pitch; plan = k.plan ∙ h.plan; names = k.names }

-- the same names
pub room_as : (a b : Room) (first second : List Printed) → first ≡ second → IsRoomWith a b first → IsRoomWith a b second
room_as a b first second e h = subst (IsRoomWith a b) e h

-- a name more
pub taken_more : (u : ℕ) (plan : Plan) (printed : List Printed) (p : Printed) → taken_things u plan (printed ++ p ∷ []) ≡ taken_things u plan printed ++ name_thing u plan p ∷ []
taken_more u plan printed p =
    ap (λ (ts : List Thing). map (ground_thing u) plan.marks ++ ts) (map-append (name_thing u plan) printed (p ∷ []))
    ∙ sym (append_assoc (map (ground_thing u) plan.marks) (map (name_thing u plan) printed) (name_thing u plan p ∷ []))

pub room_printed : (old new : Room) (p : Printed) → IsRoom old → new.pitch ≡ old.pitch → new.plan.now ≡ old.plan.now → new.pieces ≡ old.pieces → IsTable new.taken
    → new.taken.things.items ≡ old.taken.things.items ++ name_thing old.pitch old.plan.now p ∷ [] → new.printed.items ≡ old.printed.items ++ p ∷ [] → IsRoomWith old new (old.printed.items ++ p ∷ [])
room_printed old new p h pitch plan pieces table things printed = record {
  room = record {
    small = subst (λ (u : ℕ). u ≤ 200) (sym pitch) h.small;
    taken = table;
    takes =
        things
        ∙ ap (λ (ts : List Thing). ts ++ name_thing old.pitch old.plan.now p ∷ []) h.takes
        ∙ sym (taken_more old.pitch old.plan.now old.printed.items p)
        ∙ ap (λ (ps : List Printed). taken_things old.pitch old.plan.now ps) (sym printed)
        ∙ ap (λ (u : ℕ). taken_things u old.plan.now new.printed.items) (sym pitch)
        ∙ ap (λ (q : Plan). taken_things new.pitch q new.printed.items) (sym plan);
    pieces = subst IsTable (sym pieces) h.pieces;
    lines =
        ap (λ (t : Table). t.things.items) pieces ∙ h.lines
        ∙ ap (λ (u : ℕ). map (free_piece u) old.plan.now.pieces) (sym pitch) ∙ ap (λ (q : Plan). map (free_piece new.pitch) q.pieces) (sym plan);
  };
  pitch = pitch;
  plan = plan;
  names = printed;
}

-- the name of one mark more
pub next_placed : (old mid new : Room) (z : Step) (marks : List ℕ) (k d i : ℕ) (left more : List ℕ) → k < length marks → get_or marks k d ≡ i → IsRoomWith old mid mid.printed.items
    → placing_of mid left ≡ place_names old.pitch old.plan.now z (take k marks) old.printed.items
    → placing_of new more ≡ place_next mid.pitch mid.plan.now z (placing_of mid left) i
    → placing_of new more ≡ place_names old.pitch old.plan.now z (take (k + 1) marks) old.printed.items
next_placed old mid new z marks k d i left more low is h before next =
    let u = old.pitch in
    let plan = old.plan.now in
    let start : Placing = record { printed = old.printed.items; left = [] } in
    next
    ∙ ap (λ (v : ℕ). place_next v mid.plan.now z (placing_of mid left) i) h.pitch
    ∙ ap (λ (q : Plan). place_next u q z (placing_of mid left) i) h.plan
    ∙ ap (λ (p : Placing). place_next u plan z p i) before
    ∙ ap (place_next u plan z (place_names u plan z (take k marks) old.printed.items)) (sym is)
    ∙ sym (ap (fold (place_next u plan z) start) (take_more marks k d low) ∙ fold-append (place_next u plan z) start (take k marks) (get_or marks k d ∷ []))

-- the name of a mark at the place that is found, and where none is
pub placed_some : (old new : Room) (z : Step) (i : ℕ) (p : Place) (o : Option Place) (left : List ℕ) → o ≡ Some p → new.printed.items ≡ old.printed.items ++ record { mark = i; step = z; place = p } ∷ []
    → placing_of new left ≡ with_place z i o (placing_of old left)
placed_some old new z i p o left is names =
    ap (λ (ps : List Printed). let so_far : Placing = record { printed = ps; left = left } in so_far) names ∙ ap (λ (q : Option Place). with_place z i q (placing_of old left)) (sym is)

pub placed_none : (room : Room) (z : Step) (i : ℕ) (o : Option Place) (left more : List ℕ) → o ≡ None → more ≡ left ++ i ∷ [] → placing_of room more ≡ with_place z i o (placing_of room left)
placed_none room z i o left more is grew =
    ap (λ (ks : List ℕ). let so_far : Placing = record { printed = room.printed.items; left = ks } in so_far) grew ∙ ap (λ (q : Option Place). with_place z i q (placing_of room left)) (sym is)

-- nothing is placed
pub room_kept : (room : Room) → IsRoom room → IsRoomWith room room room.printed.items
room_kept room h = record { room = h; pitch = refl; plan = refl; names = refl }
