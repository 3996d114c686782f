-- What holds of every net: its edges meet only at their ends, each edge of a point has a direction of its own, and
-- stations are joined where a run of samples leads from the one to the other.
use Rattle.std.specs.Prelude.{◌≡◌, ◌≢◌, ℕ, ◌*◌, ◌<◌, ◌≤◌, ◌⊎◌, ℤ, pos, ◌<ℤ◌, ◌≤ℤ◌, List, [], ◌∷◌, ◌++◌, length}
use Rattle.map_base.specs.declared.point.Point.{Point}
use Rattle.fixed_plane.specs.Measures.{dist2_of, side_of}
use Rattle.fixed_plane.specs.Directions.{LieInOneDirection}
use Rattle.track_net.specs.Nearness.{point_at}
use Rattle.track_net.specs.Nets.{NetParts, HasEdge, Joins}

-- two numbers have one sign, and are not 0
abbrev pub HaveOneSign : ℤ → ℤ → Type 0
HaveOneSign s t = ((pos 0 <ℤ s) × (pos 0 <ℤ t)) ⊎ ((s <ℤ pos 0) × (t <ℤ pos 0))

-- c and d lie on the line through a and b
abbrev pub LieOnOneLine : Point → Point → Point → Point → Type 0
LieOnOneLine a b c d = (side_of a b c ≡ pos 0) × (side_of a b d ≡ pos 0)

-- a coordinate lies from one to another, or from the other to the one
abbrev pub LiesFromTo : ℤ → ℤ → ℤ → Type 0
LiesFromTo x z y = ((x ≤ℤ y) × (y ≤ℤ z)) ⊎ ((z ≤ℤ y) × (y ≤ℤ x))

-- p, on the line through a and b, lies between them or is one of them
abbrev pub LiesBetween : Point → Point → Point → Type 0
LiesBetween a b p = LiesFromTo a.x b.x p.x × LiesFromTo a.y b.y p.y

-- the ways ab and cd do not meet. Where the four points are not on one line, the two ends of one of the ways lie on
-- one side of the other. Where they are, no end of the one way lies between the ends of the other.
pub record DoNotMeet (a b c d : Point) : Type 0 where
  pub aside : (LieOnOneLine a b c d → ⊥) → HaveOneSign (side_of a b c) (side_of a b d) ⊎ HaveOneSign (side_of c d a) (side_of c d b)
  pub a_outside : LieOnOneLine a b c d → LiesBetween c d a → ⊥
  pub b_outside : LieOnOneLine a b c d → LiesBetween c d b → ⊥
  pub c_outside : LieOnOneLine a b c d → LiesBetween a b c → ⊥
  pub d_outside : LieOnOneLine a b c d → LiesBetween a b d → ⊥

-- no two edges of four different points meet
abbrev pub IsPlanar : NetParts → Type 0
IsPlanar net =
    (a b c d : ℕ) → HasEdge net a b → HasEdge net c d → a ≢ c → a ≢ d → b ≢ c → b ≢ d →
    DoNotMeet (point_at net.points a) (point_at net.points b) (point_at net.points c) (point_at net.points d)

-- no two edges of one point have one direction
abbrev pub HasOwnDirections : NetParts → Type 0
HasOwnDirections net =
    (a b c : ℕ) → HasEdge net a b → HasEdge net a c → b ≢ c → LieInOneDirection (point_at net.points a) (point_at net.points b) (point_at net.points c) → ⊥

-- the points begin with one and end with another, and each is at most `near` from the next
abbrev pub RunsTo : ℕ → Point → List Point → Point → Type 0
RunsTo near a [] b = a ≡ b
RunsTo near a (p ∷ ps) b = (dist2_of a p ≤ near * near) × RunsTo near p ps b

abbrev pub IsRun : ℕ → Point → Point → List Point → Type 0
IsRun near a b [] = ⊥
IsRun near a b (p ∷ ps) = (p ≡ a) × RunsTo near p ps b

-- where a run of neighbouring samples leads from one station to another, the net joins the two
abbrev pub JoinsStations : ℕ → List Point → List Point → NetParts → Type 0
JoinsStations near stations samples net =
    (before run after : List Point) (i j : ℕ) → samples ≡ before ++ (run ++ after) → i < length stations → j < length stations →
    IsRun near (point_at stations i) (point_at stations j) run → Joins net i j
