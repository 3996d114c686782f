use mir.Syntax.{w32}
use Rattle.std.proofs.Common.{◌≡◌, sym, ◌∙◌, ap, ap₂, ℕ, ℤ, ◌-ℤ◌, cond, eqb, int_lt, unsigned_abs, rules}
use Rattle.drawing_search.proofs.Common.{diagonal, eq-eqb, ne_eqb, to_z-of_z}
use Rattle.drawing_search.proofs.least.straight_way.Goals as goal

-- none of the cases, or the last one
none_of : (x y a b d : ℕ) → (x ≡ 0 → ⊥) → (y ≡ 0 → ⊥) → (x ≡ y → ⊥) → cond (eqb x 0) a (cond (eqb y 0) b (cond (eqb x y) d 8)) ≡ 8
none_of x y a b d f g h = ap (λ t. cond t a (cond (eqb y 0) b (cond (eqb x y) d 8))) (ne_eqb x 0 f) ∙ ap (λ t. cond t b (cond (eqb x y) d 8)) (ne_eqb y 0 g) ∙ ap (λ t. cond t d 8) (ne_eqb x y h)

last_of : (x y a b d : ℕ) → (x ≡ 0 → ⊥) → (y ≡ 0 → ⊥) → x ≡ y → cond (eqb x 0) a (cond (eqb y 0) b (cond (eqb x y) d 8)) ≡ d
last_of x y a b d f g e = ap (λ t. cond t a (cond (eqb y 0) b (cond (eqb x y) d 8))) (ne_eqb x 0 f) ∙ ap (λ t. cond t b (cond (eqb x y) d 8)) (ne_eqb y 0 g) ∙ ap (λ t. cond t d 8) (eq-eqb x y e)

pub returns-then-across-along-clause-value : goal.returns-then-across-along-clause-value
returns-then-across-along-clause-value c =
    let a = c.args.from in
    let b = c.args.to in
    let across : c.abs_diff-across.result ≡ unsigned_abs (b.x -ℤ a.x) = c.abs_diff-across.ensures ∙ ap₂ (λ (y z : ℤ). unsigned_abs (y -ℤ z)) (to_z-of_z w32 b.x (search rules)) (to_z-of_z w32 a.x (search rules)) in
    let along : c.abs_diff-along.result ≡ unsigned_abs (b.y -ℤ a.y) = c.abs_diff-along.ensures ∙ ap₂ (λ (y z : ℤ). unsigned_abs (y -ℤ z)) (to_z-of_z w32 b.y (search rules)) (to_z-of_z w32 a.y (search rules)) in
    let east = ap₂ int_lt (to_z-of_z w32 a.x (search rules)) (to_z-of_z w32 b.x (search rules)) in
    let north = ap₂ int_lt (to_z-of_z w32 a.y (search rules)) (to_z-of_z w32 b.y (search rules)) in
    c.diagonal.ensures.value
    ∙ ap₂ diagonal east north
    ∙ sym (last_of (unsigned_abs (b.x -ℤ a.x)) (unsigned_abs (b.y -ℤ a.y)) (cond (int_lt a.y b.y) 0 4) (cond (int_lt a.x b.x) 2 6) (diagonal (int_lt a.x b.x) (int_lt a.y b.y))
    (λ e. c.if-across-eq0.false (across ∙ e)) (λ e. c.if-along-eq0.false (along ∙ e)) (sym across ∙ c.if-across-along.true ∙ along))

pub returns-clause-value : goal.returns-clause-value
returns-clause-value c =
    let a = c.args.from in
    let b = c.args.to in
    let across : c.abs_diff-across.result ≡ unsigned_abs (b.x -ℤ a.x) = c.abs_diff-across.ensures ∙ ap₂ (λ (y z : ℤ). unsigned_abs (y -ℤ z)) (to_z-of_z w32 b.x (search rules)) (to_z-of_z w32 a.x (search rules)) in
    let along : c.abs_diff-along.result ≡ unsigned_abs (b.y -ℤ a.y) = c.abs_diff-along.ensures ∙ ap₂ (λ (y z : ℤ). unsigned_abs (y -ℤ z)) (to_z-of_z w32 b.y (search rules)) (to_z-of_z w32 a.y (search rules)) in
    sym (none_of (unsigned_abs (b.x -ℤ a.x)) (unsigned_abs (b.y -ℤ a.y)) (cond (int_lt a.y b.y) 0 4) (cond (int_lt a.x b.x) 2 6) (diagonal (int_lt a.x b.x) (int_lt a.y b.y))
    (λ e. c.if-across-eq0.false (across ∙ e)) (λ e. c.if-along-eq0.false (along ∙ e)) (λ e. c.if-across-along.false (across ∙ e ∙ sym along)))
