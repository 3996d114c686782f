-- When two points are one.
use Rattle.std.proofs.Common.{◌≡◌, refl, sym, ◌∙◌, ap, subst, Bool, true, false, ℤ}
use Rattle.std.specs.Ordering.{int_eq}
use Rattle.std.specs.Cmp.{IsEquivalence}
use Rattle.std.proofs.lemmas.Bool.{and_parts, and_from, false_from_ne_true}
use Rattle.std.proofs.lemmas.Bool.Decides.{Decides-int_eq}
use Rattle.map_base.specs.declared.point.Point.{Point}
use Rattle.shape_track.specs.Samples.{is_point}

pub is_point-true : (p q : Point) → is_point p q ≡ true → p ≡ q
is_point-true p q e =
    let parts = and_parts (int_eq p.x q.x) (int_eq p.y q.y) e in
    ap (λ (x : ℤ). record { x = x; y = p.y }) ((Decides-int_eq p.x q.x).0 parts.0) ∙ ap (λ (y : ℤ). record { x = q.x; y = y }) ((Decides-int_eq p.y q.y).0 parts.1)

pub is_point-self : (p : Point) → is_point p p ≡ true
is_point-self p = and_from (int_eq p.x p.x) (int_eq p.y p.y) ((Decides-int_eq p.x p.x).1 refl) ((Decides-int_eq p.y p.y).1 refl)

pub is_point-same : (p q : Point) → p ≡ q → is_point p q ≡ true
is_point-same p q e = subst (λ (r : Point). is_point p r ≡ true) e (is_point-self p)

pub is_point-apart : (p q : Point) → (p ≡ q → ⊥) → is_point p q ≡ false
is_point-apart p q apart = false_from_ne_true (is_point p q) (λ t. apart (is_point-true p q t))

is_point-flip : (p q : Point) → is_point p q ≡ is_point q p
is_point-flip p q = of_test (is_point p q) (is_point q p) refl refl
  where
    of_test : (a b : Bool) → is_point p q ≡ a → is_point q p ≡ b → is_point p q ≡ is_point q p
    of_test true true d e = d ∙ sym e
    of_test true false d e = d ∙ sym (is_point-same q p (sym (is_point-true p q d)))
    of_test false true d e = is_point-same p q (sym (is_point-true q p e)) ∙ sym e
    of_test false false d e = d ∙ sym e

pub is_point-equivalence : IsEquivalence is_point
is_point-equivalence = record {
  refl = is_point-self;
  symm = is_point-flip;
  congr = λ x y z e. ap (λ w. is_point w z) (is_point-true x y e);
}
