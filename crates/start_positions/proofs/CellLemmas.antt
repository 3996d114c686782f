-- Extents and grids, step by step.
use Rattle.std.proofs.Common.{◌≡◌, ℕ, zero, suc, ◌+◌, ◌-◌, ◌*◌, ◌<◌, ◌≤◌, Bool, true, false, cond, leb, ℤ, pos, ◌-ℤ◌, unsigned_abs, List, [], ◌∷◌, ◌++◌, length, get_or, map, drop, sym, refl, ap, ◌∙◌, arith, append_assoc}
use Rattle.std.proofs.lemmas.Bool.{le-leb, lt-leb}
use Rattle.std.proofs.lemmas.List.{drop_more}
use Rattle.map_base.specs.declared.point.Point.{Point}
use Rattle.grid_board.specs.declared.bounds.Bounds.{Bounds}
use Rattle.start_positions.specs.declared.cells.Extents.{Extents}
use Rattle.start_positions.specs.declared.placing.Offset.{Offset}
use Rattle.start_positions.specs.Cells.{coordinate, greater, greatest_beside, least_beside, lesser, offset_of, root_from, AreExtents}
use Rattle.start_positions.specs.Nodes.{coordinate_at}

-- one node more
pub least_more : (a : ℤ) (zs : List ℤ) (n : ℕ) → n < length zs → least_beside a (drop n zs) ≡ least_beside (lesser a (get_or zs n (pos 0))) (drop (n + 1) zs)
least_more a zs n h = ap (least_beside a) (drop_more zs n (pos 0) h)

pub greatest_more : (a : ℤ) (zs : List ℤ) (n : ℕ) → n < length zs → greatest_beside a (drop n zs) ≡ greatest_beside (greater a (get_or zs n (pos 0))) (drop (n + 1) zs)
greatest_more a zs n h = ap (greatest_beside a) (drop_more zs n (pos 0) h)

-- a look-up in a list of coordinates
pub coordinate_got : (ps : List Point) (n : ℕ) (east : Bool) (p : Point) → n < length ps → get_or ps n p ≡ p → coordinate_at ps n east ≡ coordinate east p
coordinate_got [] n east p h e = absurd (omega arith)
coordinate_got (q ∷ ps) zero east p h e = ap (coordinate east) e
coordinate_got (q ∷ ps) (suc n) east p h e = coordinate_got ps n east p (omega arith) e

-- one number more of those whose square may be enough
pub root_more : (n m : ℕ) → m < 100 → root_from n m (100 - m) ≡ cond (leb n (m * m)) m (root_from n (m + 1) (100 - (m + 1)))
root_more n m h =
    let left : 100 - m ≡ suc (100 - (m + 1)) = omega arith in
    ap (root_from n m) left

pub root_found : (n m : ℕ) → m < 100 → n ≤ m * m → root_from n m (100 - m) ≡ m
root_found n m h e = root_more n m h ∙ ap (λ b. cond b m (root_from n (m + 1) (100 - (m + 1)))) (le-leb n (m * m) e)

pub root_not_yet : (n m : ℕ) → m < 100 → m * m < n → root_from n m (100 - m) ≡ root_from n (m + 1) (100 - (m + 1))
root_not_yet n m h e = root_more n m h ∙ ap (λ b. cond b m (root_from n (m + 1) (100 - (m + 1)))) (lt-leb n (m * m) e)

-- bounds by their four lines
pub same_bounds : {a b c d e f g h : ℤ} → a ≡ e → b ≡ f → c ≡ g → d ≡ h → (let v : Bounds = record { left = a; right = b; bottom = c; top = d } in v) ≡ record { left = e; right = f; bottom = g; top = h }
same_bounds {a} {b} {c} {d} {e} {f} {g} {h} i j k l =
    ap (λ v. let w : Bounds = record { left = v; right = b; bottom = c; top = d } in w) i ∙ ap (λ v. let w : Bounds = record { left = e; right = v; bottom = c; top = d } in w) j
    ∙ ap (λ v. let w : Bounds = record { left = e; right = f; bottom = v; top = d } in w) k ∙ ap (λ v. let w : Bounds = record { left = e; right = f; bottom = g; top = v } in w) l

-- the offset of one node more
pub offset_more : (ps : List Point) (n : ℕ) (p : Point) (done : List Offset) → n < length ps → done ++ map (offset_of ps) (drop n ps) ≡ (done ++ offset_of ps (get_or ps n p) ∷ []) ++ map (offset_of ps) (drop (n + 1) ps)
offset_more ps n p done h =
    ap (λ v. done ++ map (offset_of ps) v) (drop_more ps n p h) ∙ sym (append_assoc done (offset_of ps (get_or ps n p) ∷ []) (map (offset_of ps) (drop (n + 1) ps)))

abbrev pub no_point : Point
no_point = record { x = pos 0; y = pos 0 }

coordinate_read : (ps : List Point) (n : ℕ) (east : Bool) (p : Point) → n < length ps → coordinate_at ps n east ≡ coordinate east (get_or ps n p)
coordinate_read [] n east p h = absurd (omega arith)
coordinate_read (q ∷ ps) zero east p h = refl
coordinate_read (q ∷ ps) (suc n) east p h = coordinate_read ps n east p (omega arith)

pub offset_read : (ps : List Point) (n : ℕ) (e : Extents) (east north : ℕ) → n < length ps → AreExtents ps e → east ≡ unsigned_abs (coordinate_at ps n true -ℤ e.least.x) → north ≡ unsigned_abs (coordinate_at ps n false -ℤ e.least.y)
    → (let o : Offset = record { east = east; north = north } in o) ≡ offset_of ps (get_or ps n no_point)
offset_read ps n e east north h extents f g =
    ap (λ v. let o : Offset = record { east = v; north = north } in o)
    (f ∙ ap (λ z. unsigned_abs (z -ℤ e.least.x)) (coordinate_read ps n true no_point h) ∙ ap (λ z. unsigned_abs (coordinate true (get_or ps n no_point) -ℤ z)) extents.least_east)
    ∙ ap (λ v. let o : Offset = record { east = (offset_of ps (get_or ps n no_point)).east; north = v } in o)
    (g ∙ ap (λ z. unsigned_abs (z -ℤ e.least.y)) (coordinate_read ps n false no_point h) ∙ ap (λ z. unsigned_abs (coordinate false (get_or ps n no_point) -ℤ z)) extents.least_north)
