-- Points and orders as they are computed.
use Rattle.std.proofs.Common.{◌≡◌, ℕ, ◌≤◌, [], ◌∷◌, ℤ, ap, ◌∙◌, arith}
use Rattle.std.specs.Prelude.{int_le, unsigned_abs}
use Rattle.std.specs.Int.{int_min, int_max}
use Rattle.std.proofs.lemmas.Int.{ints, clamps}
use Rattle.line_offsets.specs.declared.corner.Corner.{Corner}
use Rattle.eight_sides.specs.declared.frame.Frame.{Frame}
use Rattle.eight_sides.specs.declared.shape.Shape.{Shape}
use Rattle.eight_sides.specs.Frames.{frame_at, widened}
use Rattle.eight_sides.specs.Shapes.{IsShortShape}
use Rattle.name_places.specs.Near.{IsNearShape}
use Rattle.poster_layout.specs.Extents.{IsDrawnFrame, IsNearCorner, IsNearFrame}

pub same_corner : (a b x y : ℤ) → a ≡ x → b ≡ y → (let p : Corner = record { x = a; y = b } in p) ≡ record { x = x; y = y }
same_corner a b x y e f = ap (λ (z : ℤ). let p : Corner = record { x = z; y = b } in p) e ∙ ap (λ (z : ℤ). let p : Corner = record { x = x; y = z } in p) f

pub four_corners : (a b c d p q r s : Corner) → a ≡ p → b ≡ q → c ≡ r → d ≡ s → a ∷ b ∷ c ∷ d ∷ [] ≡ p ∷ q ∷ r ∷ s ∷ []
four_corners a b c d p q r s e f g h =
    ap (λ (v : Corner). v ∷ b ∷ c ∷ d ∷ []) e ∙ ap (λ (v : Corner). p ∷ v ∷ c ∷ d ∷ []) f ∙ ap (λ (v : Corner). p ∷ q ∷ v ∷ d ∷ []) g ∙ ap (λ (v : Corner). p ∷ q ∷ r ∷ v ∷ []) h

pub le_ends : (a b c d : ℤ) → a ≡ c → b ≡ d → int_le a b ≡ int_le c d
le_ends a b c d e f = ap (λ (z : ℤ). int_le z b) e ∙ ap (int_le c) f

-- ---- what can be reckoned with

min_within : (most : ℕ) (a b : ℤ) → unsigned_abs a ≤ most → unsigned_abs b ≤ most → unsigned_abs (int_min a b) ≤ most
min_within most a b h k = omega (arith, ints, clamps)

max_within : (most : ℕ) (a b : ℤ) → unsigned_abs a ≤ most → unsigned_abs b ≤ most → unsigned_abs (int_max a b) ≤ most
max_within most a b h k = omega (arith, ints, clamps)

pub near_at : (c : Corner) → IsNearCorner c → IsNearFrame (frame_at c)
near_at c h = record { across = record { least = h.across; greatest = h.across }; down = record { least = h.down; greatest = h.down } }

pub near_widened : (f : Frame) (c : Corner) → IsNearFrame f → IsNearCorner c → IsNearFrame (widened f c)
near_widened f c h k = record {
  across = record { least = min_within 549755813888 f.across.least c.x h.across.least k.across; greatest = max_within 549755813888 f.across.greatest c.x h.across.greatest k.across };
  down = record { least = min_within 549755813888 f.down.least c.y h.down.least k.down; greatest = max_within 549755813888 f.down.greatest c.y h.down.greatest k.down };
}

pub drawn_near : (f : Frame) → IsNearFrame f → IsDrawnFrame f
drawn_near f h = record {
  left = omega (arith, h.across.least);
  right = omega (arith, h.across.greatest);
  top = omega (arith, h.down.least);
  bottom = omega (arith, h.down.greatest);
}

pub drawn_widened : (f : Frame) (c : Corner) → IsDrawnFrame f → unsigned_abs c.x ≤ 4398046511104 → unsigned_abs c.y ≤ 4398046511104 → IsDrawnFrame (widened f c)
drawn_widened f c h x y = record {
  left = min_within 4398046511104 f.across.least c.x h.left x;
  right = max_within 4398046511104 f.across.greatest c.x h.right x;
  top = min_within 4398046511104 f.down.least c.y h.top y;
  bottom = max_within 4398046511104 f.down.greatest c.y h.bottom y;
}

pub near_short : (s : Shape) → IsNearShape s → IsShortShape s
near_short s h = record {
  across = record { least = omega (arith, h.across.least); greatest = omega (arith, h.across.greatest) };
  down = record { least = omega (arith, h.down.least); greatest = omega (arith, h.down.greatest) };
}
