-- What stations, straight pieces and names take up, and whose they are.
use Rattle.std.specs.Prelude.{ℕ, ◌==◌, ◌&&◌, ◌||◌, not, Bool, false}
use Rattle.eight_sides.specs.Shapes.{meet}
use Rattle.poster_plan.specs.declared.things.Kin.{Kin}
use Rattle.poster_plan.specs.declared.things.Kin.TheVariants.{Nobody, Node, Ends}
use Rattle.poster_plan.specs.declared.things.Thing.{Thing}

-- a node is one of a thing's
abbrev pub has_node : ℕ → Kin → Bool
has_node n Nobody = false
has_node n (Node m) = m == n
has_node n (Ends a b) = (a == n) || (b == n)

-- two things have a node in common
abbrev pub are_kin : Kin → Kin → Bool
are_kin Nobody k = false
are_kin (Node n) k = has_node n k
are_kin (Ends n m) k = has_node n k || has_node m k

-- two things that have no node in common meet
abbrev pub clash : Thing → Thing → Bool
clash a b = not (are_kin a.kin b.kin) && meet a.shape b.shape
