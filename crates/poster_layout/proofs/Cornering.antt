-- Where a legend may stand.
use Rattle.std.proofs.Common.{◌≡◌, ℕ, ◌+◌, ◌-◌, ◌/◌, ◌<◌, ◌≤◌, List, [], ◌∷◌, Option, Some, None, unwrap_or, ℤ, pos, ◌-ℤ◌, Bool, true, cond, ap, sym, ◌∙◌, arith}
use Rattle.std.specs.Prelude.{nat_le, All, IfSome, unsigned_abs}
use Rattle.std.proofs.lemmas.Int.{ints}
use Rattle.std.proofs.lemmas.Bool.Decides.{nat_tests}
use Rattle.std.proofs.lemmas.List.Elements.{All-cons, All-nil}
use Rattle.std.proofs.Math.Nat.{div-le_of_le-mul}
use Rattle.line_offsets.specs.declared.corner.Corner.{Corner}
use Rattle.eight_sides.specs.declared.frame.Frame.{Frame}
use Rattle.poster_plan.specs.declared.plan.Plan.{Plan}
use Rattle.poster_plan.specs.declared.layout.Legend.{Legend}
use Rattle.poster_plan.specs.declared.layout.Printed.{Printed}
use Rattle.poster_plan.specs.Legends.{column_for, corners_for, legend_height, legend_of, legend_start, legend_width, rows_for}
use Rattle.poster_layout.specs.Extents.{IsLegendPoint, IsNearFrame}

-- a number less so much
less : (z : ℤ) (by most : ℕ) → unsigned_abs z ≤ 549755813888 → by ≤ most → unsigned_abs (z -ℤ pos by) ≤ 549755813888 + most
less z by most near few = omega (arith, ints)

-- each corner of a frame
all_four : (P : Corner → Type 0) (a b c d : Corner) → P a → P b → P c → P d → All P (a ∷ b ∷ c ∷ d ∷ [])
all_four P a b c d h i j k = All-cons P a (b ∷ c ∷ d ∷ []) h (All-cons P b (c ∷ d ∷ []) i (All-cons P c (d ∷ []) j (All-cons P d [] k (All-nil P))))

pub corners_near : (f : Frame) (w h : ℕ) → IsNearFrame f → w ≤ 1500000000000 → h ≤ 45000 → All IsLegendPoint (corners_for f w h)
corners_near f w h near few low =
    all_four IsLegendPoint (record { x = f.across.greatest -ℤ pos w; y = f.down.least }) (record { x = f.across.least; y = f.down.least })
    (record { x = f.across.greatest -ℤ pos w; y = f.down.greatest -ℤ pos h }) (record { x = f.across.least; y = f.down.greatest -ℤ pos h })
    (record { across = less f.across.greatest w 1500000000000 near.across.greatest few; down = omega (arith, near.down.least) })
    (record { across = omega (arith, near.across.least); down = omega (arith, near.down.least) })
    (record { across = less f.across.greatest w 1500000000000 near.across.greatest few; down = less f.down.greatest h 45000 near.down.greatest low })
    (record { across = omega (arith, near.across.least); down = less f.down.greatest h 45000 near.down.greatest low })

-- a point that is found, or another
pub point_near : (o : Option Corner) (c : Corner) → IfSome o IsLegendPoint → IsLegendPoint c → IsLegendPoint (unwrap_or o c)
point_near None c h k = k
point_near (Some p) c h k = h

-- how many columns it has
pub columns_small : (lines last rows : ℕ) → lines ≤ 1000 → 12 ≤ rows → last ≡ rows → (lines + last - 1) / rows ≤ 85
columns_small lines last rows few some same = div-le_of_le-mul rows (omega arith)

-- ---- the whole legend

pub same_legend : (a b : Corner) (m n r s : ℕ) → a ≡ b → m ≡ n → r ≡ s → (let l : Legend = record { start = a; column = m; rows = r } in l) ≡ record { start = b; column = n; rows = s }
same_legend a b m n r s e f g =
    ap (λ (p : Corner). let l : Legend = record { start = p; column = m; rows = r } in l) e
    ∙ ap (λ (k : ℕ). let l : Legend = record { start = b; column = k; rows = r } in l) f
    ∙ ap (λ (k : ℕ). let l : Legend = record { start = b; column = n; rows = k } in l) g

le_true : (m n : ℕ) → m ≤ n → nat_le m n ≡ true
le_true m n h = grind (arith, nat_tests)

-- the legend of some lines
abbrev pub whole : ℕ → Plan → List Printed → ℕ → ℕ → Legend
whole u plan printed lines widest = record { start = legend_start u plan printed (legend_width lines widest) (legend_height lines); column = column_for widest; rows = rows_for lines }

pub no_legend : (u : ℕ) (plan : Plan) (printed : List Printed) (lines widest : ℕ) → lines ≡ 0 → None ≡ legend_of u plan printed lines widest
no_legend u plan printed lines widest none = sym (ap (λ (b : Bool). cond b (Some (whole u plan printed lines widest)) None) (ap (nat_le 1) none))

pub some_legend : (u : ℕ) (plan : Plan) (printed : List Printed) (lines widest : ℕ) (l : Legend) → 0 < lines → l ≡ whole u plan printed lines widest → Some l ≡ legend_of u plan printed lines widest
some_legend u plan printed lines widest l some is =
    ap (λ (k : Legend). Some k) is ∙ sym (ap (λ (b : Bool). cond b (Some (whole u plan printed lines widest)) None) (le_true 1 lines (omega (arith, some))))
