-- What the areas that three ways span, and the corners of two edges ab and cd, have to do with one another.
use Rattle.std.proofs.Common.{◌≡◌, refl, ℤ, pos, ◌+ℤ◌, ◌-ℤ◌, ◌*ℤ◌, neg_ℤ, [], ◌∷◌}
use Rattle.whole_algebra.specs.Turns.{cross_of, turn_of, excess_of}
use Rattle.whole_algebra.proofs.Identities.{Term, var, num, minus, ◌⊕◌, ◌⊖◌, ◌⊛◌, identity}

-- the definitions as terms
abbrev pub cross_term : (ax ay bx by : Term) → Term
cross_term ax ay bx by = ax ⊛ by ⊖ ay ⊛ bx

abbrev pub turn_term : (ax ay bx by cx cy : Term) → Term
turn_term ax ay bx by cx cy = (bx ⊖ ax) ⊛ (cy ⊖ ay) ⊖ (by ⊖ ay) ⊛ (cx ⊖ ax)

abbrev pub square_term : (ax ay bx by : Term) → Term
square_term ax ay bx by = (bx ⊖ ax) ⊛ (bx ⊖ ax) ⊕ (by ⊖ ay) ⊛ (by ⊖ ay)

abbrev pub excess_term : (ax ay bx by px py : Term) → Term
excess_term ax ay bx by px py = square_term ax ay px py ⊕ square_term px py bx by ⊖ square_term ax ay bx by

-- of three ways, the areas that each two of them span, weighted by the coordinates of the third
pub cross_of-weighted_x : (px py qx qy rx ry : ℤ) → cross_of px py rx ry *ℤ qx ≡ cross_of px py qx qy *ℤ rx +ℤ cross_of qx qy rx ry *ℤ px
cross_of-weighted_x px py qx qy rx ry =
    identity (px ∷ py ∷ qx ∷ qy ∷ rx ∷ ry ∷ [])
    (cross_term (var 0) (var 1) (var 4) (var 5) ⊛ var 2)
    (cross_term (var 0) (var 1) (var 2) (var 3) ⊛ var 4 ⊕ cross_term (var 2) (var 3) (var 4) (var 5) ⊛ var 0)
    refl

pub cross_of-weighted_y : (px py qx qy rx ry : ℤ) → cross_of px py rx ry *ℤ qy ≡ cross_of px py qx qy *ℤ ry +ℤ cross_of qx qy rx ry *ℤ py
cross_of-weighted_y px py qx qy rx ry =
    identity (px ∷ py ∷ qx ∷ qy ∷ rx ∷ ry ∷ [])
    (cross_term (var 0) (var 1) (var 4) (var 5) ⊛ var 3)
    (cross_term (var 0) (var 1) (var 2) (var 3) ⊛ var 5 ⊕ cross_term (var 2) (var 3) (var 4) (var 5) ⊛ var 1)
    refl

-- two ways turned round span what they spanned
pub cross_of-opposite : (ax ay bx by : ℤ) → cross_of (neg_ℤ ax) (neg_ℤ ay) (neg_ℤ bx) (neg_ℤ by) ≡ cross_of ax ay bx by
cross_of-opposite ax ay bx by =
    identity (ax ∷ ay ∷ bx ∷ by ∷ [])
    (cross_term (minus (var 0)) (minus (var 1)) (minus (var 2)) (minus (var 3)))
    (cross_term (var 0) (var 1) (var 2) (var 3))
    refl

-- the second way before the first
pub cross_of-swapped : (ax ay bx by : ℤ) → cross_of bx by ax ay ≡ neg_ℤ (cross_of ax ay bx by)
cross_of-swapped ax ay bx by =
    identity (ax ∷ ay ∷ bx ∷ by ∷ [])
    (cross_term (var 2) (var 3) (var 0) (var 1))
    (minus (cross_term (var 0) (var 1) (var 2) (var 3)))
    refl

-- a way that is s times as long spans s times as much
pub cross_of-scaled : (s ax ay bx by : ℤ) → cross_of (s *ℤ ax) (s *ℤ ay) bx by ≡ cross_of ax ay bx by *ℤ s
cross_of-scaled s ax ay bx by =
    identity (s ∷ ax ∷ ay ∷ bx ∷ by ∷ [])
    (cross_term (var 0 ⊛ var 1) (var 0 ⊛ var 2) (var 3) (var 4))
    (cross_term (var 1) (var 2) (var 3) (var 4) ⊛ var 0)
    refl

-- the difference of the turns to c and d from ab is that of the turns to b and a from cd
pub turn_of-differences : (ax ay bx by cx cy dx dy : ℤ) →
    turn_of ax ay bx by cx cy -ℤ turn_of ax ay bx by dx dy ≡ turn_of cx cy dx dy bx by -ℤ turn_of cx cy dx dy ax ay
turn_of-differences ax ay bx by cx cy dx dy =
    identity (ax ∷ ay ∷ bx ∷ by ∷ cx ∷ cy ∷ dx ∷ dy ∷ [])
    (turn_term (var 0) (var 1) (var 2) (var 3) (var 4) (var 5) ⊖ turn_term (var 0) (var 1) (var 2) (var 3) (var 6) (var 7))
    (turn_term (var 4) (var 5) (var 6) (var 7) (var 2) (var 3) ⊖ turn_term (var 4) (var 5) (var 6) (var 7) (var 0) (var 1))
    refl

-- the excesses of c and d over ab and of a and b over cd, weighted by the turns, come to nothing
pub excess_of-weighted : (ax ay bx by cx cy dx dy : ℤ) →
    turn_of ax ay bx by cx cy *ℤ excess_of ax ay bx by dx dy -ℤ turn_of ax ay bx by dx dy *ℤ excess_of ax ay bx by cx cy
    +ℤ turn_of cx cy dx dy bx by *ℤ excess_of cx cy dx dy ax ay -ℤ turn_of cx cy dx dy ax ay *ℤ excess_of cx cy dx dy bx by ≡ pos 0
excess_of-weighted ax ay bx by cx cy dx dy =
    identity (ax ∷ ay ∷ bx ∷ by ∷ cx ∷ cy ∷ dx ∷ dy ∷ [])
    (turn_term (var 0) (var 1) (var 2) (var 3) (var 4) (var 5) ⊛ excess_term (var 0) (var 1) (var 2) (var 3) (var 6) (var 7)
    ⊖ turn_term (var 0) (var 1) (var 2) (var 3) (var 6) (var 7) ⊛ excess_term (var 0) (var 1) (var 2) (var 3) (var 4) (var 5)
    ⊕ turn_term (var 4) (var 5) (var 6) (var 7) (var 2) (var 3) ⊛ excess_term (var 4) (var 5) (var 6) (var 7) (var 0) (var 1)
    ⊖ turn_term (var 4) (var 5) (var 6) (var 7) (var 0) (var 1) ⊛ excess_term (var 4) (var 5) (var 6) (var 7) (var 2) (var 3))
    (num (pos 0))
    refl
